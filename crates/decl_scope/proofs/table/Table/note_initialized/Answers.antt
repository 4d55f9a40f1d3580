use Rattle.std.proofs.Common.{◌∙◌, ap, sym}
use Rattle.model_scopes.specs.Scopes.{changed}
use Rattle.model_scopes.specs.Declaring.{initialized_at}
use Rattle.decl_scope.proofs.TableLaws.{changed_at, changed_none, none_by}
use Rattle.decl_scope.proofs.table.Table.note_initialized.Goals as goal

pub returns-in-Some : goal.returns-in-Some
returns-in-Some c =
    changed_at (initialized_at c.args.place) c.args.id c.self.inside.entries.entries c.in-Some.at c.index_mut-declared.result.now c.note_initialized.new.self
    (sym c.in-Some.ensures.index) c.index_mut-declared.ensures.value c.note_initialized.ensures
    ∙ ap (changed (initialized_at c.args.place) c.args.id) c.self.view_is

pub returns-in_default : goal.returns-in_default
returns-in_default c =
    sym (ap (changed (initialized_at c.args.place) c.args.id) (sym c.self.view_is)
    ∙ changed_none (initialized_at c.args.place) c.args.id c.self.inside.entries.entries (none_by _ c.in_default.ensures.found)
    ∙ c.self.view_is)
