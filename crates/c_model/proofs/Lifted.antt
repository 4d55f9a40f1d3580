-- The names of the first and the tenth function literal.
use Rattle.std.proofs.Common.{◌≡◌, [], ◌∷◌, ◌++◌, codes, ap, ◌∙◌, lit<, lit≤}
use Rattle.std.proofs.lemmas.Fmt.{decimal_digit, decimal_step}
use Rattle.model_core.specs.MadeNames.{lifted_name}

pub first_lifted : lifted_name 0 ≡ codes "cake_f1"
first_lifted = ap (λ d. codes "cake_f" ++ d) (decimal_digit 1 (lit< tt))

pub tenth_lifted : lifted_name 9 ≡ codes "cake_f10"
tenth_lifted = ap (λ d. codes "cake_f" ++ d) (decimal_step 10 (lit≤ tt) (lit< tt) ∙ ap (λ d. d ++ 48 ∷ []) (decimal_digit 1 (lit< tt)))
