use Rattle.std.proofs.Common.{◌∙◌, ap, nat_eq, ◌++◌, ◌∷◌, []}
use Rattle.model_scopes.specs.Scopes.{with_id}
use Rattle.decl_scope.proofs.BoundLaws.{insert-new}
use Rattle.decl_scope.proofs.TableLaws.{lookup_id}
use Rattle.decl_scope.proofs.table.Table.add.Goals as goal

pub returns-clause-ok : goal.returns-clause-ok
returns-clause-ok c =
    c.in_ok-insert.ensures.entries
    ∙ insert-new nat_eq c.self.inside.entries.entries c.args.id c.args.declared
    (lookup_id c.args.id c.self.inside.entries.entries ∙ ap (with_id c.args.id) c.self.view_is ∙ c.requires)
    ∙ ap (λ es. es ++ (c.args.id, c.args.declared) ∷ []) c.self.view_is
