-- The number of a name is what stands behind its last `_`, so names with other numbers are other names.
use Rattle.std.proofs.Common.{◌≡◌, ap, sym, subst, ℕ, ◌<◌, ◌^◌, true≢false, List, [], ◌∷◌, ◌++◌}
use Rattle.std.specs.Fmt.{decimal}
use Rattle.std.proofs.lemmas.Fmt.{decimal_injective}
use Rattle.model_types.specs.ByteClasses.{is_digit, AllBytes}
use Rattle.model_c89.proofs.UniqueWords.{decimal_is_number}
use Rattle.model_lowering.specs.TextNames.{numbered}

abbrev tail_of : List ℕ → List ℕ
tail_of [] = []
tail_of (first ∷ others) = others

no_mark : (front digits : List ℕ) → AllBytes is_digit (front ++ 95 ∷ digits) → ⊥
no_mark [] digits h = true≢false (sym h.0)
no_mark (c ∷ front) digits h = no_mark front digits h.1

last_part : (f g ds es : List ℕ) → AllBytes is_digit ds → AllBytes is_digit es → f ++ 95 ∷ ds ≡ g ++ 95 ∷ es → ds ≡ es
last_part [] [] ds es h k e = ap tail_of e
last_part [] (c ∷ g) ds es h k e = absurd (no_mark g es (subst (AllBytes is_digit) (ap tail_of e) h))
last_part (c ∷ f) [] ds es h k e = absurd (no_mark f ds (subst (AllBytes is_digit) (sym (ap tail_of e)) k))
last_part (c ∷ f) (d ∷ g) ds es h k e = last_part f g ds es h k (ap tail_of e)

pub numbers_differ : (front other : List ℕ) (m n : ℕ) → m < 2 ^ 64 → n < 2 ^ 64 → numbered front m ≡ numbered other n → m ≡ n
numbers_differ front other m n h k e =
    decimal_injective m n h k (last_part front other (decimal m) (decimal n) (decimal_is_number m h).all (decimal_is_number n k).all e)
