-- The text of a number in a table.
use Rattle.std.proofs.Common.{◌≡◌, ℕ, zero, suc, ◌-◌, ◌<◌, ◌≤◌, List, [], ◌∷◌, length, map, true, nat_lt, ap, ◌∙◌, arith}
use Rattle.std.specs.Prelude.{slice_index_or}
use Rattle.std.proofs.lemmas.Bool.Decides.{nat_tests}
use Rattle.cake_cli.specs.RuleTexts.{numbered_text}

map_at : {A : Type 0} (f : A → List ℕ) (xs : List A) (i : ℕ) (x : A) → i < length xs → x ≡ slice_index_or xs i x → f x ≡ slice_index_or (map f xs) i []
map_at f [] i x h e = absurd (omega (arith, h))
map_at f (y ∷ ys) zero x h e = ap f e
map_at f (y ∷ ys) (suc i) x h e = map_at f ys i x (omega (arith, h)) e

inside : (m n : ℕ) → true ≡ nat_lt m n → m < n
inside m n e = grind (arith, nat_tests)

pub some_text : {A : Type 0} (f : A → List ℕ) (texts : List A) (number at : ℕ) (x : A) → 1 ≤ number → at ≡ number - 1 → true ≡ nat_lt at (length texts) → x ≡ slice_index_or texts at x → f x ≡ numbered_text (map f texts) number
some_text f texts number at x some is fits e =
    map_at f texts at x (inside at (length texts) fits) e ∙ ap (λ n. numbered_text (map f texts) n) (let n : suc at ≡ number = omega arith in n)
