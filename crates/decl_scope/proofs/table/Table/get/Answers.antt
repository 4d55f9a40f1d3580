use Rattle.std.proofs.Common.{◌∙◌, ap}
use Rattle.model_scopes.specs.Scopes.{with_id}
use Rattle.decl_scope.proofs.TableLaws.{lookup_id}
use Rattle.decl_scope.proofs.table.Table.get.Goals as goal

pub returns : goal.returns
returns c = c.get.ensures.value ∙ lookup_id c.args.id c.self.inside.entries.entries ∙ ap (with_id c.args.id) c.self.view_is
