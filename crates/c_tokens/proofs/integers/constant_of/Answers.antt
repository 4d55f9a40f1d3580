use Rattle.std.proofs.Common.{sym, ◌∙◌, ap, arith, ◌≡◌, ◌<◌, ◌^◌, true, min}
use Rattle.std.specs.Int.{w128}
use Rattle.std.proofs.lemmas.Int.{to_z_pos}
use Rattle.model_tokens.specs.Digits.{are_digits, value_from}
use Rattle.model_tokens.specs.IntegerConstants.{fitting}
use Rattle.c_tokens.proofs.FittingLaws.{constant_made}
use Rattle.c_tokens.proofs.integers.constant_of.Goals as goal

pub returns-in-Some : goal.returns-in-Some
returns-in-Some c =
    let small : c.value.result < 2 ^ 127 = omega (arith, c.value.ensures) in
    let digits : true ≡ c.are_digits.result = sym c.if-not-are_digits.false in
    sym (ap fitting c.in-Some.is)
    ∙ constant_made c.args.base c.args.digits.now c.args.suffix c.value.result _ c.types_of.result.now c.first_fitting.result
    (digits ∙ c.are_digits.ensures ∙ ap (λ r. are_digits r c.args.digits.now) c.radix-radix.ensures.value)
    c.types_of.ensures (c.value.ensures ∙ ap (λ r. min (value_from r 0 c.args.digits.now) (2 ^ 64)) c.radix-radix.ensures.value) (to_z_pos w128 c.value.result small) c.first_fitting.ensures
