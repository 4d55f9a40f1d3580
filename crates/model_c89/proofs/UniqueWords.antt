-- Words, numbers and what stands at the front of a text.
use Rattle.std.proofs.Common.{◌≡◌, ℕ, ◌+◌, ◌-◌, ◌*◌, ◌%◌, ◌^◌, ◌<◌, ◌==◌, List, [], ◌∷◌, ◌++◌, Bool, true, false, Option, Some, None, if◌then◌else◌, refl, ap, ◌∙◌, arith}
use Rattle.std.specs.Fmt.{decimal}
use Rattle.std.proofs.lemmas.Bool.Decides.{nat_tests}
use Rattle.std.proofs.lemmas.Fmt.{decimal_by_steps}
use Rattle.model_types.specs.ByteClasses.{is_digit, begins_with, AllBytes}

-- what stands behind a front, where it is one
abbrev pub strip : List ℕ → List ℕ → Option (List ℕ)
strip [] text = Some text
strip (b ∷ bs) [] = None
strip (b ∷ bs) (c ∷ text) = if b == c then strip bs text else None

-- the longest front of bytes that pass
abbrev pub front : (ℕ → Bool) → List ℕ → List ℕ
front test [] = []
front test (b ∷ bs) = if test b then b ∷ front test bs else []

-- what stands behind it
abbrev pub behind : (ℕ → Bool) → List ℕ → List ℕ
behind test [] = []
behind test (b ∷ bs) = if test b then behind test bs else b ∷ bs

pub front_none : (test : ℕ → Bool) (x : List ℕ) → begins_with test x ≡ false → front test x ≡ []
front_none test [] n = refl
front_none test (b ∷ bs) n = rw n refl

pub behind_none : (test : ℕ → Bool) (x : List ℕ) → begins_with test x ≡ false → behind test x ≡ x
behind_none test [] n = refl
behind_none test (b ∷ bs) n = rw n refl

pub front_is : (test : ℕ → Bool) (w x : List ℕ) → AllBytes test w → begins_with test x ≡ false → front test (w ++ x) ≡ w
front_is test [] x p n = front_none test x n
front_is test (b ∷ w) x p n = rw p.0 (ap (λ r. b ∷ r) (front_is test w x p.1 n))

pub behind_is : (test : ℕ → Bool) (w x : List ℕ) → AllBytes test w → begins_with test x ≡ false → behind test (w ++ x) ≡ x
behind_is test [] x p n = behind_none test x n
behind_is test (b ∷ w) x p n = rw p.0 (behind_is test w x p.1 n)

-- decimal numbers

abbrev pub number : ℕ → List ℕ → ℕ
number n [] = n
number n (d ∷ ds) = number (10 * n + (d - 48)) ds

AllBytes-push : (test : ℕ → Bool) (ds : List ℕ) (d : ℕ) → AllBytes test ds → test d ≡ true → AllBytes test (ds ++ d ∷ [])
AllBytes-push test [] d all is = (is, tt)
AllBytes-push test (x ∷ ds) d all is = (all.0, AllBytes-push test ds d all.1 is)

number-push : (n : ℕ) (ds : List ℕ) (d : ℕ) → number n (ds ++ d ∷ []) ≡ 10 * number n ds + (d - 48)
number-push n [] d = refl
number-push n (x ∷ ds) d = number-push (10 * n + (x - 48)) ds d

number-one : (n : ℕ) → n < 10 → number 0 ((48 + n) ∷ []) ≡ n
number-one n h = omega arith

digit_of : (k : ℕ) → k < 10 → is_digit (48 + k) ≡ true
digit_of k h = grind (arith, nat_tests)

pub record IsNumber (n : ℕ) (ds : List ℕ) : Type 0 where
  pub all : AllBytes is_digit ds
  pub some : begins_with is_digit ds ≡ true
  pub value : number 0 ds ≡ n

pub begins-push : (test : ℕ → Bool) (xs ys : List ℕ) → begins_with test xs ≡ true → begins_with test (xs ++ ys) ≡ true
begins-push test [] ys h = absurd (let f : false ≡ true = h in cc)
begins-push test (x ∷ xs) ys h = h

pub decimal_is_number : (n : ℕ) → n < 2 ^ 64 → IsNumber n (decimal n)
decimal_is_number =
    decimal_by_steps IsNumber
    (λ n h. record { all = (digit_of n h, tt); some = digit_of n h; value = number-one n h })
    (λ n ds h w. record {
      all = AllBytes-push is_digit ds (48 + n % 10) w.all (digit_of (n % 10) (omega arith));
      some = begins-push is_digit ds ((48 + n % 10) ∷ []) w.some;
      value = number-push 0 ds (48 + n % 10) ∙ omega (arith, w.value);
    })

pub number_is : (n : ℕ) (x : List ℕ) → n < 2 ^ 64 → begins_with is_digit x ≡ false → number 0 (front is_digit (decimal n ++ x)) ≡ n
number_is n x h stop = ap (number 0) (front_is is_digit (decimal n) x (decimal_is_number n h).all stop) ∙ (decimal_is_number n h).value

pub behind_number : (n : ℕ) (x : List ℕ) → n < 2 ^ 64 → begins_with is_digit x ≡ false → behind is_digit (decimal n ++ x) ≡ x
behind_number n x h stop = behind_is is_digit (decimal n) x (decimal_is_number n h).all stop
