use Rattle.std.proofs.Common.{◌≡◌, ◌∙◌, ◌+◌, ◌-◌, ap, sym, arith, drop}
use Rattle.model_scopes.specs.NotedUses.{first_undefined, first_of, unmet_use}
use Rattle.decl_scope.proofs.TableLaws.{undefined_at}
use Rattle.decl_scope.proofs.table.Table.first_undefined.Goals as goal

pub loop-at-preserved : goal.loop-at-preserved
loop-at-preserved c = (
  omega (arith, c.loop-at.invariant.0),
  undefined_at c.self.inside.entries.entries c.loop-at.at c.index.result.now c.loop-at.first c.unmet_use.result c.first_of-first.result c.loop-at-test.true
      c.index.ensures c.unmet_use.ensures c.first_of-first.ensures c.loop-at.invariant.1,
)
