use Rattle.cake_cli.proofs.AnswerLaws.{every_answer as law}
use Rattle.cake_cli.proofs.laws.every_answer.Goals as goal

pub returns : goal.returns
returns c = law
