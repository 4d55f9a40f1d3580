use Rattle.model_findings.proofs.FindingLaws.{pop_brings_back as law}
use Rattle.model_findings.proofs.laws.pop_brings_back.Goals as goal

pub returns : goal.returns
returns c = law
