use Rattle.std.proofs.Common.{◌≡◌, ◌++◌, drop}
use Rattle.std.specs.List.{flat_map}
use Rattle.model_macros.specs.Pasting.{literal_byte}
use Rattle.pp_macros.proofs.pasting.file_token.Given as goal

abbrev pub invariant-loop-b : goal.invariant-loop-b
invariant-loop-b l = l.text ++ flat_map literal_byte (drop l.b-index l.name) ≡ l.initial.text ++ flat_map literal_byte l.name
