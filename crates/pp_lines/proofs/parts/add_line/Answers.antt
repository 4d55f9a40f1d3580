use Rattle.std.proofs.Common.{◌≡◌, [], ◌∷◌, true, false, sym, ◌∙◌, ap, take, drop, ◌-◌, ◌+◌}
use Rattle.cake_base.specs.declared.places.Place.{Place}
use Rattle.model_preprocessing.specs.declared.directives.LineKind.TheVariants as line
use Rattle.model_preprocessing.specs.Directives.{Part, directive}
use Rattle.pp_lines.specs.Parts.{added}
use Rattle.pp_lines.proofs.SplitLaws.{directive-added, text-added}
use Rattle.pp_lines.proofs.parts.add_line.Goals as goal
use Rattle.model_types.specs.Texts.{same_text}

pub returns-in_ok-push : goal.returns-in_ok-push
returns-in_ok-push c =
    let hash = ap (λ z. same_text z (35 ∷ [])) (sym c.spelling.ensures) ∙ ap (same_text c.spelling.result.now) (sym c.as_slice.ensures) ∙ sym c.eq.ensures ∙ c.if-eq.true in
    let place = ap (λ t. t.place) c.first.view_is in
    directive-added c.args.parts.now.items c.push.new.self.items c.args.toks.now c.args.from c.args.to c.in-Some.first.now c.in_ok-directive.field-0 (sym c.in-Some.ensures) c.requires.some hash
    (c.in_ok-directive.ensures ∙ ap (λ z. directive z (take (c.args.to - (c.args.from + 1)) (drop (c.args.from + 1) c.args.toks.now))) place)
    c.in_ok-push.ensures.items

pub returns-in_ok-add_text : goal.returns-in_ok-add_text
returns-in_ok-add_text c =
    let hash = ap (λ z. same_text z (35 ∷ [])) (sym c.spelling.ensures) ∙ ap (same_text c.spelling.result.now) (sym c.as_slice.ensures) ∙ sym c.eq.ensures ∙ c.if-eq.false in
    let place = ap (λ t. t.place) c.first.view_is in
    let text : Place → Part = λ z. record { kind = line.Text; at = z; tokens = take (c.args.to - c.args.from) (drop c.args.from c.args.toks.now) } in
    text-added c.args.parts.now.items c.add_text.new.parts.items c.args.toks.now c.args.from c.args.to c.in-Some.first.now (sym c.in-Some.ensures) c.requires.some hash
    (c.in_ok-add_text.ensures ∙ ap (λ z. added c.args.parts.now.items (text z)) place)
