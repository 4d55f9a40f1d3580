use Rattle.std.proofs.Common.{◌∙◌, ap}
use Rattle.std.specs.Option.{is_some}
use Rattle.model_macros.specs.Macros.{defines, without}
use Rattle.pp_definitions.proofs.TableLaws.{defines-lookup, without-removed, seen, table-parts}
use Rattle.pp_definitions.proofs.table.MacroTable.undef.Goals as goal

pub returns-clause-held : goal.returns-clause-held
returns-clause-held c = c.is_some.ensures ∙ ap is_some c.shift_remove.ensures.value ∙ defines-lookup (λ k. k.items) c.args.name.now c.self.inside.macros.entries ∙ ap (λ t. defines c.args.name.now t.entries) c.self.view_is

pub returns-clause-table : goal.returns-clause-table
returns-clause-table c = table-parts _ _ _ _
    (ap (seen (λ k. k.items)) c.shift_remove.ensures.entries ∙ without-removed (λ k. k.items) c.args.name.now c.self.inside.macros.entries ∙ ap (λ t. without c.args.name.now t.entries) c.self.view_is)
    (ap (λ t. t.files) c.self.view_is)
