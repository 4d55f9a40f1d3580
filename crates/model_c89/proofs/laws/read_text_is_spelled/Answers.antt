use Rattle.model_c89.proofs.Respelled.{program_spelled as law}
use Rattle.model_c89.proofs.laws.read_text_is_spelled.Goals as goal

pub returns : goal.returns
returns c = law
