use Rattle.cake_cli.specs.RuleTexts.{limit_text}
use Rattle.cake_cli.proofs.texts.limit_text.Goals as goal

pub returns : goal.returns
unfolding limit_text
returns c = c.numbered.ensures
