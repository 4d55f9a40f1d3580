use Rattle.std.proofs.Common.{◌≡◌}
use Rattle.model_core.specs.CoreTypes.{int_type, type_of}
use Rattle.core_tree.specs.CoreTrees.{expr_tree}
use Rattle.node_tests.proofs.core_statements.deep.Given as goal

abbrev pub invariant-loop : goal.invariant-loop
invariant-loop l = type_of (expr_tree l.made) ≡ int_type
