use Rattle.std.proofs.Common.{◌≡◌, ◌++◌, drop}
use Rattle.model_preprocessing.specs.ControlLines.{note_text, parted}
use Rattle.pp_directives.proofs.control.note_text.Given as goal

abbrev pub invariant-loop-at : goal.invariant-loop-at
invariant-loop-at l = l.text ++ parted (drop l.at l.toks) ≡ note_text l.toks
