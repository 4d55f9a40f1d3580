-- The judgement that the definition takes is one, and every other is the same.
use Rattle.model_conditions.specs.Conditions.{judged-is, judged-only}
use Rattle.model_conditions.proofs.condition_laws.one_judgement.Goals as goal

pub returns : goal.returns
returns c = record { judges = judged-is; only = judged-only }
