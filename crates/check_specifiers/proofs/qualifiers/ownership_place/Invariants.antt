use Rattle.std.proofs.Common.{◌≡◌, drop}
use Rattle.model_checking.specs.Qualified as m
use Rattle.check_specifiers.proofs.qualifiers.ownership_place.Given as goal

abbrev pub invariant-loop-qualifier : goal.invariant-loop-qualifier
invariant-loop-qualifier l = m.ownership_place (drop l.qualifier-index l.list) ≡ m.ownership_place l.list
