use Rattle.model_findings.proofs.FindingLaws.{error_before_pragmas as law}
use Rattle.model_findings.proofs.laws.error_before_pragmas.Goals as goal

pub returns : goal.returns
returns c = law
