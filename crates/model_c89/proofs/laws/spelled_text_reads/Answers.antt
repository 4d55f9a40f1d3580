use Rattle.model_c89.proofs.Spelled.{program_reads as law}
use Rattle.model_c89.proofs.laws.spelled_text_reads.Goals as goal

pub returns : goal.returns
returns c = law
