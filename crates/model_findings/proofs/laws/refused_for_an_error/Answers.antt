use Rattle.std.proofs.Common.{refl}
use Rattle.model_findings.proofs.FindingLaws.{refused_for_an_error as law}
use Rattle.model_findings.proofs.laws.refused_for_an_error.Goals as goal

pub returns : goal.returns
returns c = record { looked = law; unlooked = λ marks. refl }
