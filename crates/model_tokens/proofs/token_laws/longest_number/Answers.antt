use Rattle.model_tokens.proofs.PpNumberLaws.{longest_number}
use Rattle.model_tokens.proofs.token_laws.longest_number.Goals as goal

pub returns : goal.returns
returns c = longest_number
