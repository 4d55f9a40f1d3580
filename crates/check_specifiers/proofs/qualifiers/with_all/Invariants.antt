use Rattle.std.proofs.Common.{◌≡◌, drop}
use Rattle.model_checking.specs.Qualified as m
use Rattle.check_specifiers.proofs.qualifiers.with_all.Given as goal

abbrev pub invariant-loop-qualifier : goal.invariant-loop-qualifier
invariant-loop-qualifier l = m.with_all (drop l.qualifier-index l.list) l.all ≡ m.with_all l.list l.initial.all
