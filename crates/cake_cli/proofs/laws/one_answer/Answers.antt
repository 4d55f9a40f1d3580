use Rattle.cake_cli.proofs.AnswerLaws.{one_answer as law}
use Rattle.cake_cli.proofs.laws.one_answer.Goals as goal

pub returns : goal.returns
returns c = law
