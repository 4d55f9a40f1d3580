use Rattle.cake_cli.proofs.TextLaws.{some_text}
use Rattle.cake_cli.proofs.texts.numbered.Goals as goal

pub returns-in-Some-get : goal.returns-in-Some-get
returns-in-Some-get c =
    some_text (λ t. t.now) c.args.texts.now c.args.number c.in-Some.at c.in-Some-get.text.now c.in-Some.ensures.0 c.in-Some.ensures.1 c.in-Some-get.ensures.lookup.0 c.in-Some-get.ensures.lookup.1
