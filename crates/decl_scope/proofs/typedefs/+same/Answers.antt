use Rattle.std.proofs.Common.{arith}
use Rattle.check_types.proofs.ParameterLaws.{type_in_list}
use Rattle.decl_scope.proofs.PassedLists.{lists_differ}
use Rattle.decl_scope.proofs.typedefs.+same.Goals as goal

pub same_lists-returns-then-a-b : goal.same_lists-returns-then-a-b
same_lists-returns-then-a-b t c = lists_differ c.args.a.now c.args.b.now (λ e. grind (arith, e, c.if-a-b.true))

pub same_lists-same_passed-requires : goal.same_lists-same_passed-requires
same_lists-same_passed-requires t c =
    (omega (arith, c.decreases, type_in_list c.args.a.now c.loop-at.at c.index-a-at.result c.loop-at-test.true c.index-a-at.is), tt)
