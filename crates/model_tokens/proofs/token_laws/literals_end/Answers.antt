use Rattle.std.proofs.Common.{refl}
use Rattle.model_tokens.proofs.LiteralLaws.{ends_literal}
use Rattle.model_tokens.proofs.token_laws.literals_end.Goals as goal

pub returns : goal.returns
returns c = record {
  strings = λ text n. ends_literal 34 text n refl refl;
  characters = λ text n. ends_literal 39 text n refl refl;
}
