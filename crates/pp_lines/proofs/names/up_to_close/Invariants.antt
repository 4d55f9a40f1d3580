use Rattle.std.proofs.Common.{◌≡◌, drop}
use Rattle.model_preprocessing.specs.Includes.{up_to_close, with_spelling}
use Rattle.pp_lines.proofs.names.up_to_close.Given as goal

abbrev pub invariant-loop-at : goal.invariant-loop-at
invariant-loop-at l = with_spelling l.text (up_to_close (drop l.at l.toks)) ≡ up_to_close (drop l.from l.toks)
