use Rattle.std.proofs.Common.{sym, ◌∙◌, ap}
use Rattle.std.specs.Int.{w128}
use Rattle.std.proofs.lemmas.Int.{to_z-of_z}
use Rattle.model_types.specs.declared.numbers.Basic.TheVariants.{Int}
use Rattle.model_tokens.specs.CTokens.{integer}
use Rattle.model_tokens.specs.IntegerConstants.{constant_in, fitting}
use Rattle.c_tokens.proofs.convert.byte_constant.Goals as goal

pub returns-in-Some : goal.returns-in-Some
returns-in-Some c = ap (λ found. integer (fitting found)) (sym c.in-Some.is ∙ c.constant_in.ensures ∙ ap (constant_in Int) (to_z-of_z w128 c.as_signed_char.result (record { sfits = c.as_signed_char.type_inv }) ∙ c.as_signed_char.ensures))
