use Rattle.model_c89.proofs.UniquePrograms.{one_reading as law}
use Rattle.model_c89.proofs.laws.one_reading.Goals as goal

pub returns : goal.returns
returns c = law
