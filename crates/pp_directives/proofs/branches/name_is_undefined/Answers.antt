use Rattle.std.proofs.Common.{ap, sym, ◌∙◌}
use Rattle.model_macros.specs.Macros.{found}
use Rattle.pp_directives.specs.Controls.{name_of}
use Rattle.pp_directives.proofs.ControlLaws.{is-undefined}
use Rattle.pp_directives.proofs.branches.name_is_undefined.Goals as goal

pub returns-in-Some : goal.returns-in-Some
returns-in-Some c =
    is-undefined c.args.part.now c.args.unit.now c.in-Some.name.now c.find.result _ c.is_none.result
    (ap (λ p. name_of p.tokens) (sym c.part.view_is) ∙ sym c.in-Some.ensures)
    (c.find.ensures ∙ ap (λ s. found c.in-Some.name.now s.table.entries) c.unit.view_is)
    c.is_none.ensures
