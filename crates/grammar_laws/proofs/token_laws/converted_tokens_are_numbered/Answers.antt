use Rattle.grammar_laws.proofs.kinds.ConvertedKinds.{converted_are_numbered as law}
use Rattle.grammar_laws.proofs.token_laws.converted_tokens_are_numbered.Goals as goal

pub returns : goal.returns
returns c = law
