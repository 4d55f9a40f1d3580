use Rattle.std.proofs.Common.{IsTrue}
use Rattle.model_core.specs.TypedStat.{are_typed_stats}
use Rattle.model_core.specs.Core as m
use Rattle.node_tests.proofs.core_statements.many.Given as goal

abbrev pub invariant-loop : goal.invariant-loop
invariant-loop l = IsTrue (are_typed_stats (m.stats l.made))
