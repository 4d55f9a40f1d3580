use Rattle.std.proofs.Common.{◌≡◌, ◌++◌, drop}
use Rattle.std.specs.List.{flat_map}
use Rattle.model_macros.specs.Pasting.{escaped}
use Rattle.pp_macros.proofs.pasting.push_escaped.Given as goal

abbrev pub invariant-loop-b : goal.invariant-loop-b
invariant-loop-b l = l.text ++ flat_map escaped (drop l.b-index l.bytes) ≡ l.initial.text ++ flat_map escaped l.bytes
