use Rattle.std.proofs.Common.{◌≡◌, [], ◌∷◌, ◌++◌, List, sym, ◌∙◌, ap}
use Rattle.model_preprocessing.specs.declared.directives.LineKind.TheVariants as line
use Rattle.model_tokens.specs.PpTokens.{PpToken}
use Rattle.model_preprocessing.specs.Directives.{Part, is_text}
use Rattle.pp_lines.proofs.SplitLaws.{run-taken, run-begun}
use Rattle.pp_lines.proofs.parts.last_run.Goals as goal

pub returns-then-is_text : goal.returns-then-is_text
returns-then-is_text c = λ tokens.
    run-taken c.args.parts.now.items c.pop.new.self.items c.in-Some.last c.args.at tokens c.in-Some.ensures.items
    (ap (λ p. is_text p.kind) (sym c.last.view_is) ∙ sym c.is_text.ensures ∙ c.if-is_text.true)

pub returns-in_ok-push-in-Some : goal.returns-in_ok-push-in-Some
returns-in_ok-push-in-Some c = λ tokens.
    let empty : List PpToken → Part = λ z. record { kind = line.Text; at = c.args.at; tokens = z } in
    run-begun c.args.parts.now.items c.pop.new.self.items c.push.new.self.items c.in-Some.last (empty c.new.result) c.args.at tokens c.in-Some.ensures.items
    (ap (λ p. is_text p.kind) (sym c.last.view_is) ∙ sym c.is_text.ensures ∙ c.if-is_text.false)
    c.in_ok-push-in-Some.ensures.items (ap empty c.new.ensures)
