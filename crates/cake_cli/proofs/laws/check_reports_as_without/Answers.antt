use Rattle.cake_cli.proofs.AnswerLaws.{check_reports as law}
use Rattle.cake_cli.proofs.laws.check_reports_as_without.Goals as goal

pub returns : goal.returns
returns c = law
