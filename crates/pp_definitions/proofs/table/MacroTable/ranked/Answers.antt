use Rattle.std.proofs.Common.{◌∙◌, ap, sym}
use Rattle.model_macros.specs.Macros.{ranked}
use Rattle.pp_definitions.proofs.TableLaws.{ranked-some, ranked-none}
use Rattle.pp_definitions.proofs.table.MacroTable.ranked.Goals as goal

pub returns-in-Some : goal.returns-in-Some
returns-in-Some c = sym (ap (λ t. ranked c.args.name.now t.entries) (sym c.self.view_is)
    ∙ ranked-some (λ k. k.items) c.args.name.now c.self.inside.macros.entries c.in-Some.rank c.in-Some.field-0-1.now c.in-Some.def.now (sym c.in-Some.ensures.index) c.in-Some.ensures.entry)

pub returns-in-None : goal.returns-in-None
returns-in-None c = sym (ap (λ t. ranked c.args.name.now t.entries) (sym c.self.view_is) ∙ ranked-none (λ k. k.items) c.args.name.now c.self.inside.macros.entries (sym c.in-None.ensures.value))
