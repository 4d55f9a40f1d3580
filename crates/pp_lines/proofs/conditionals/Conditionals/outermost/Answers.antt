use Rattle.std.proofs.Common.{◌≡◌, ap, sym, ◌∙◌, Some, slice_get}
use Rattle.model_preprocessing.specs.Conditionals.{outermost}
use Rattle.pp_lines.proofs.ConditionalLaws.{first-outermost}
use Rattle.pp_lines.proofs.conditionals.Conditionals.outermost.Goals as goal

pub returns-in-Some : goal.returns-in-Some
returns-in-Some c =
    let here : slice_get c.self.inside.stack.items 0 ≡ Some c.in-Some.conditional =
    ap (λ xs. slice_get xs 0) (sym c.deref.ensures.value) ∙ sym c.first.ensures.value ∙ sym c.copied.ensures ∙ c.in-Some.is in
    sym (ap outermost (sym c.self.view_is) ∙ first-outermost c.self.inside.stack.items c.in-Some.conditional here)
