use Rattle.std.proofs.Common.{◌∙◌, ap, sym}
use Rattle.cake_cli.specs.RuleTexts.{rule_text, texts_of, numbered_text}
use Rattle.cake_cli.proofs.texts.rule_text.Goals as goal

pub returns-in-P : goal.returns-in-P
unfolding rule_text
returns-in-P c = c.numbered.ensures ∙ ap (λ f. numbered_text (texts_of f) c.args.rule.number) (sym c.in-P.is)

pub returns-in-L : goal.returns-in-L
unfolding rule_text
returns-in-L c = c.numbered-in-L.ensures ∙ ap (λ f. numbered_text (texts_of f) c.args.rule.number) (sym c.in-L.is)

pub returns-in-S : goal.returns-in-S
unfolding rule_text
returns-in-S c = c.numbered-in-S.ensures ∙ ap (λ f. numbered_text (texts_of f) c.args.rule.number) (sym c.in-S.is)

pub returns-in-C : goal.returns-in-C
unfolding rule_text
returns-in-C c = c.numbered-in-C.ensures ∙ ap (λ f. numbered_text (texts_of f) c.args.rule.number) (sym c.in-C.is)

pub returns-in-F : goal.returns-in-F
unfolding rule_text
returns-in-F c = c.numbered-in-F.ensures ∙ ap (λ f. numbered_text (texts_of f) c.args.rule.number) (sym c.in-F.is)

pub returns-in-G : goal.returns-in-G
unfolding rule_text
returns-in-G c = c.numbered-in-G.ensures ∙ ap (λ f. numbered_text (texts_of f) c.args.rule.number) (sym c.in-G.is)
