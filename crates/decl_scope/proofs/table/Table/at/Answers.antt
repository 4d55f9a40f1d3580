use Rattle.decl_scope.proofs.TableLaws.{same_at}
use Rattle.decl_scope.proofs.table.Table.at.Goals as goal

pub returns-in-Some-clause-same : goal.returns-in-Some-clause-same
returns-in-Some-clause-same c =
    same_at c.self.inside.entries.entries c.args.self.now c.args.rank c.in-Some.id.now c.in-Some.declared.now c.self.view_is
    c.in-Some.ensures.entry c.in-Some.ensures.value
