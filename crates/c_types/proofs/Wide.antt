-- Values of the integer types are far from the ends of 128 bits.
use Rattle.std.proofs.Common.{◌≡◌, ℕ, zero, suc, ◌-◌, ◌*◌, ◌/◌, ◌^◌, ◌≤◌, ℤ, pos, negsuc, neg_ℤ, ◌+ℤ◌, ◌-ℤ◌, ◌*ℤ◌, ◌≤ℤ◌, ◌<ℤ◌, true, false, IsTrue, Result, Ok, Err, ◌%◌, arith, refl, to_z, of_z, FitsSigned, unsigned_abs, int_div, int_rem, sym, ◌∙◌, ap, ap₂, subst, lit<}
use Rattle.std.proofs.lemmas.Int.{ints, to_z-of_z, fits_signed_mul, fits_signed_from_abs, quot_is, rem_is}
use Rattle.std.proofs.Math.Nat.{div-le_self, mod-le, pow-le-pow_right}
use Rattle.std.specs.Ordering.{int_eq}
use Rattle.std.specs.Int.{w128, int_rem_euclid}
use lib.Signed.{shr_z}
use Rattle.model_types.specs.declared.numbers.Basic.{Basic}
use Rattle.model_types.specs.declared.numbers.Basic.TheVariants.{Bool as bool, Char, SignedChar, UnsignedChar, Short, UnsignedShort, Int, Unsigned, Long, UnsignedLong, LongLong, UnsignedLongLong}
use Rattle.model_types.specs.declared.outcomes.Cause.{Cause}
use Rattle.model_types.specs.declared.outcomes.Cause.TheVariants.{Overflow}
use Rattle.model_types.specs.Operations as m

-- the bounds of all integer types together
pub record IsNarrow (v : ℤ) : Type 0 where
  pub low : neg_ℤ (pos (2 ^ 63)) ≤ℤ v
  pub high : v <ℤ pos (2 ^ 64)

pub narrow : (t : Basic) (v : ℤ) → IsTrue (m.fits t v) → IsNarrow v
narrow bool v h = record { low = grind (arith, ints); high = grind (arith, ints) }
narrow Char v h = record { low = grind (arith, ints); high = grind (arith, ints) }
narrow SignedChar v h = record { low = grind (arith, ints); high = grind (arith, ints) }
narrow UnsignedChar v h = record { low = grind (arith, ints); high = grind (arith, ints) }
narrow Short v h = record { low = grind (arith, ints); high = grind (arith, ints) }
narrow UnsignedShort v h = record { low = grind (arith, ints); high = grind (arith, ints) }
narrow Int v h = record { low = grind (arith, ints); high = grind (arith, ints) }
narrow Unsigned v h = record { low = grind (arith, ints); high = grind (arith, ints) }
narrow Long v h = record { low = grind (arith, ints); high = grind (arith, ints) }
narrow UnsignedLong v h = record { low = grind (arith, ints); high = grind (arith, ints) }
narrow LongLong v h = record { low = grind (arith, ints); high = grind (arith, ints) }
narrow UnsignedLongLong v h = record { low = grind (arith, ints); high = grind (arith, ints) }

pub wide : (v : ℤ) → IsNarrow v → FitsSigned w128 v
wide v h = omega (arith, ints, h.low, h.high)

pub sum_is : (a b : ℤ) → IsNarrow a → IsNarrow b → to_z w128 (of_z w128 (to_z w128 (of_z w128 a) +ℤ to_z w128 (of_z w128 b))) ≡ a +ℤ b
sum_is a b h k = omega (arith, ints, h.low, h.high, k.low, k.high)

pub difference_is : (a b : ℤ) → IsNarrow a → IsNarrow b → to_z w128 (of_z w128 (to_z w128 (of_z w128 a) -ℤ to_z w128 (of_z w128 b))) ≡ a -ℤ b
difference_is a b h k = omega (arith, ints, h.low, h.high, k.low, k.high)

abs_of : (v : ℤ) → IsNarrow v → unsigned_abs v ≤ 2 ^ 64 - 1
abs_of (pos n) h = omega (arith, ints, h.high)
abs_of (negsuc n) h = omega (arith, ints, h.low)

abs_neg : (n : ℕ) → unsigned_abs (neg_ℤ (pos n)) ≡ n
abs_neg zero = refl
abs_neg (suc n) = refl

-- a quotient is no farther from 0 than the dividend
quotient_abs : (a d : ℤ) → unsigned_abs (int_div a d) ≤ unsigned_abs a
quotient_abs (pos a) (pos b) = div-le_self a b
quotient_abs (pos a) (negsuc b) = omega (arith, abs_neg (a / suc b), div-le_self a (suc b))
quotient_abs (negsuc a) (pos b) = omega (arith, abs_neg (suc a / b), div-le_self (suc a) b)
quotient_abs (negsuc a) (negsuc b) = div-le_self (suc a) (suc b)

quotient_fits : (a d : ℤ) → IsNarrow a → FitsSigned w128 (int_div a d)
quotient_fits a d h = fits_signed_from_abs w128 (int_div a d) (omega (arith, quotient_abs a d, abs_of a h))

pub quotient_is : (a d : ℤ) → IsNarrow a → IsNarrow d → to_z w128 (of_z w128 (int_div (to_z w128 (of_z w128 a)) (to_z w128 (of_z w128 d)))) ≡ int_div a d
quotient_is a d h k = quot_is w128 a d (wide a h) (wide d k) (quotient_fits a d h)

pub remainder_is : (a d : ℤ) → IsNarrow a → IsNarrow d → to_z w128 (of_z w128 (int_rem (to_z w128 (of_z w128 a)) (to_z w128 (of_z w128 d)))) ≡ int_rem a d
remainder_is a d h k = rem_is w128 a d (wide a h) (wide d k)

-- values of a signed type
pub signed_abs : (t : Basic) (v : ℤ) → m.is_signed t ≡ true → IsTrue (m.fits t v) → unsigned_abs v ≤ 2 ^ 63
signed_abs bool v s h = cc
signed_abs Char (pos n) s h = grind (arith, ints)
signed_abs Char (negsuc n) s h = grind (arith, ints)
signed_abs SignedChar (pos n) s h = grind (arith, ints)
signed_abs SignedChar (negsuc n) s h = grind (arith, ints)
signed_abs UnsignedChar v s h = cc
signed_abs Short (pos n) s h = grind (arith, ints)
signed_abs Short (negsuc n) s h = grind (arith, ints)
signed_abs UnsignedShort v s h = cc
signed_abs Int (pos n) s h = grind (arith, ints)
signed_abs Int (negsuc n) s h = grind (arith, ints)
signed_abs Unsigned v s h = cc
signed_abs Long (pos n) s h = grind (arith, ints)
signed_abs Long (negsuc n) s h = grind (arith, ints)
signed_abs UnsignedLong v s h = cc
signed_abs LongLong (pos n) s h = grind (arith, ints)
signed_abs LongLong (negsuc n) s h = grind (arith, ints)
signed_abs UnsignedLongLong v s h = cc

pub signed_product_fits : (t : Basic) (a b : ℤ) → m.is_signed t ≡ true → IsTrue (m.fits t a) → IsTrue (m.fits t b) → FitsSigned w128 (a *ℤ b)
signed_product_fits t a b s h k = fits_signed_mul w128 a b (2 ^ 63) (2 ^ 63) (signed_abs t a s h) (signed_abs t b s k) (lit< tt)

-- what the code computes is the product, where that fits
pub product_is : (a b : ℤ) → IsNarrow a → IsNarrow b → FitsSigned w128 (a *ℤ b) → to_z w128 (of_z w128 (to_z w128 (of_z w128 a) *ℤ to_z w128 (of_z w128 b))) ≡ a *ℤ b
product_is a b h k f =
    rw (to_z-of_z w128 a (wide a h), to_z-of_z w128 b (wide b k), to_z-of_z w128 (a *ℤ b) f) refl

pub product_fits : (a b : ℤ) → IsNarrow a → IsNarrow b → FitsSigned w128 (a *ℤ b) → FitsSigned w128 (to_z w128 (of_z w128 a) *ℤ to_z w128 (of_z w128 b))
product_fits a b h k f = rw (to_z-of_z w128 a (wide a h), to_z-of_z w128 b (wide b k)) f

pub back : (t : Basic) (v : ℤ) → IsTrue (m.fits t v) → to_z w128 (of_z w128 v) ≡ v
back t v h = to_z-of_z w128 v (wide v (narrow t v h))

-- numbers between 0 and a value of a type
fits_below : (t : Basic) (a b : ℕ) → IsTrue (m.fits t (pos a)) → b ≤ a → IsTrue (m.fits t (pos b))
fits_below bool a b h k = grind (arith, ints)
fits_below Char a b h k = grind (arith, ints)
fits_below SignedChar a b h k = grind (arith, ints)
fits_below UnsignedChar a b h k = grind (arith, ints)
fits_below Short a b h k = grind (arith, ints)
fits_below UnsignedShort a b h k = grind (arith, ints)
fits_below Int a b h k = grind (arith, ints)
fits_below Unsigned a b h k = grind (arith, ints)
fits_below Long a b h k = grind (arith, ints)
fits_below UnsignedLong a b h k = grind (arith, ints)
fits_below LongLong a b h k = grind (arith, ints)
fits_below UnsignedLongLong a b h k = grind (arith, ints)

fits_above : (t : Basic) (a b : ℕ) → IsTrue (m.fits t (negsuc a)) → b ≤ suc a → IsTrue (m.fits t (neg_ℤ (pos b)))
fits_above bool a zero h k = grind (arith, ints)
fits_above bool a (suc b) h k = grind (arith, ints)
fits_above Char a zero h k = grind (arith, ints)
fits_above Char a (suc b) h k = grind (arith, ints)
fits_above SignedChar a zero h k = grind (arith, ints)
fits_above SignedChar a (suc b) h k = grind (arith, ints)
fits_above UnsignedChar a zero h k = grind (arith, ints)
fits_above UnsignedChar a (suc b) h k = grind (arith, ints)
fits_above Short a zero h k = grind (arith, ints)
fits_above Short a (suc b) h k = grind (arith, ints)
fits_above UnsignedShort a zero h k = grind (arith, ints)
fits_above UnsignedShort a (suc b) h k = grind (arith, ints)
fits_above Int a zero h k = grind (arith, ints)
fits_above Int a (suc b) h k = grind (arith, ints)
fits_above Unsigned a zero h k = grind (arith, ints)
fits_above Unsigned a (suc b) h k = grind (arith, ints)
fits_above Long a zero h k = grind (arith, ints)
fits_above Long a (suc b) h k = grind (arith, ints)
fits_above UnsignedLong a zero h k = grind (arith, ints)
fits_above UnsignedLong a (suc b) h k = grind (arith, ints)
fits_above LongLong a zero h k = grind (arith, ints)
fits_above LongLong a (suc b) h k = grind (arith, ints)
fits_above UnsignedLongLong a zero h k = grind (arith, ints)
fits_above UnsignedLongLong a (suc b) h k = grind (arith, ints)

pub fits_remainder : (t : Basic) (a d : ℤ) → IsTrue (m.fits t a) → IsTrue (m.fits t (int_rem a d))
fits_remainder t (pos a) d h = fits_below t a (a % unsigned_abs d) h (mod-le a (unsigned_abs d))
fits_remainder t (negsuc a) d h = fits_above t a (suc a % unsigned_abs d) h (mod-le (suc a) (unsigned_abs d))

pub fits_shifted : (t : Basic) (a : ℤ) (n : ℕ) → IsTrue (m.fits t a) → IsTrue (m.fits t (shr_z a n))
fits_shifted t (pos a) n h = fits_below t a (a / n) h (div-le_self a n)
fits_shifted t (negsuc a) n h = fits_above t a (suc (a / n)) h (omega (arith, div-le_self a n))

-- a number as code passes it on
abbrev pub passed : ℤ → ℤ
passed v = to_z w128 (of_z w128 v)

pub shift_is : (t : Basic) (a c : ℤ) → IsTrue (m.fits t a) → FitsSigned w128 c → passed (shr_z (passed a) (2 ^ unsigned_abs (passed c))) ≡ shr_z a (2 ^ unsigned_abs c)
shift_is t a c h k =
    rw (back t a h, to_z-of_z w128 c k) (back t (shr_z a (2 ^ unsigned_abs c)) (fits_shifted t a (2 ^ unsigned_abs c) h))

not_zero : (r : ℤ) → (of_z w128 r ≡ 0 → ⊥) → int_eq r (pos 0) ≡ false
not_zero (pos zero) h = absurd (h refl)
not_zero (pos (suc n)) h = grind arith
not_zero (negsuc n) h = refl

quotient_passed : (t : Basic) (a d q : ℤ) → IsTrue (m.fits t a) → IsTrue (m.fits t d) → q ≡ int_div (passed a) (passed d) → FitsSigned w128 q → passed q ≡ int_div a d
quotient_passed t a d q h k e f = to_z-of_z w128 q f ∙ e ∙ ap₂ int_div (back t a h) (back t d k)

pub quotient_case : (t : Basic) (a d q : ℤ) {answer : Result ℤ Cause} → IsTrue (m.fits t a) → IsTrue (m.fits t d) → (of_z w128 d ≡ 0 → ⊥)
    → q ≡ int_div (passed a) (passed d) → FitsSigned w128 q → answer ≡ m.within t (passed q) → answer ≡ m.divided t a d
quotient_case t a d q {answer} h k z e f w = rw (not_zero d z) (w ∙ ap (m.within t) (quotient_passed t a d q h k e f))

pub remainder_case : (t : Basic) (a d q r : ℤ) → IsTrue (m.fits t a) → IsTrue (m.fits t d) → (of_z w128 d ≡ 0 → ⊥)
    → q ≡ int_div (passed a) (passed d) → FitsSigned w128 q → m.fits t (passed q) ≡ true
    → r ≡ int_rem (passed a) (passed d) → IsTrue (m.fits t r) → Ok (passed r) ≡ m.remainder t a d
remainder_case t a d q r h k z e f w v g =
    let same = quotient_passed t a d q h k e f in
    let fit : m.fits t (int_div a d) ≡ true = subst (λ (x : ℤ). m.fits t x ≡ true) same w in
    rw (not_zero d z, fit) (ap Ok (back t r g ∙ v ∙ ap₂ int_rem (back t a h) (back t d k)))

pub overflow_case : (t : Basic) (a d q : ℤ) → IsTrue (m.fits t a) → IsTrue (m.fits t d) → (of_z w128 d ≡ 0 → ⊥)
    → q ≡ int_div (passed a) (passed d) → FitsSigned w128 q → m.fits t (passed q) ≡ false → Err Overflow ≡ m.remainder t a d
overflow_case t a d q h k z e f w =
    let same = quotient_passed t a d q h k e f in
    let fit : m.fits t (int_div a d) ≡ false = subst (λ (x : ℤ). m.fits t x ≡ false) same w in
    rw (not_zero d z, fit) refl

-- a value of an unsigned type is its absolute value
unsigned_is : (t : Basic) (v : ℤ) → m.is_signed t ≡ false → IsTrue (m.fits t v) → v ≡ pos (unsigned_abs v)
unsigned_is bool (pos n) s h = refl
unsigned_is bool (negsuc n) s h = grind (arith, ints)
unsigned_is Char v s h = cc
unsigned_is SignedChar v s h = cc
unsigned_is UnsignedChar (pos n) s h = refl
unsigned_is UnsignedChar (negsuc n) s h = grind (arith, ints)
unsigned_is Short v s h = cc
unsigned_is UnsignedShort (pos n) s h = refl
unsigned_is UnsignedShort (negsuc n) s h = grind (arith, ints)
unsigned_is Int v s h = cc
unsigned_is Unsigned (pos n) s h = refl
unsigned_is Unsigned (negsuc n) s h = grind (arith, ints)
unsigned_is Long v s h = cc
unsigned_is UnsignedLong (pos n) s h = refl
unsigned_is UnsignedLong (negsuc n) s h = grind (arith, ints)
unsigned_is LongLong v s h = cc
unsigned_is UnsignedLongLong (pos n) s h = refl
unsigned_is UnsignedLongLong (negsuc n) s h = grind (arith, ints)

residue : (a b n : ℕ) → (a * b) % n ≡ unsigned_abs (int_rem_euclid (pos a *ℤ pos b) (pos n))
residue a b n = refl

pub unsigned_case : (t : Basic) (a b n v : ℤ) → m.is_signed t ≡ false → IsTrue (m.fits t a) → IsTrue (m.fits t b)
    → n ≡ pos (2 ^ m.width t) → FitsSigned w128 n
    → v ≡ m.value_of t ((unsigned_abs (passed a) * unsigned_abs (passed b)) % unsigned_abs (passed n)) → IsTrue (m.fits t v)
    → passed v ≡ m.wrapped t (a *ℤ b)
unsigned_case t a b n v s h k e f w g =
    let modulus : unsigned_abs (passed n) ≡ 2 ^ m.width t = ap unsigned_abs (to_z-of_z w128 n f ∙ e) in
    let left : unsigned_abs (passed a) ≡ unsigned_abs a = ap unsigned_abs (back t a h) in
    let right : unsigned_abs (passed b) ≡ unsigned_abs b = ap unsigned_abs (back t b k) in
    let bits : (unsigned_abs (passed a) * unsigned_abs (passed b)) % unsigned_abs (passed n) ≡ (unsigned_abs a * unsigned_abs b) % (2 ^ m.width t) =
    ap₂ (λ (x y : ℕ). x % y) (ap₂ (λ (x y : ℕ). x * y) left right) modulus in
    let product : pos (unsigned_abs a) *ℤ pos (unsigned_abs b) ≡ a *ℤ b = ap₂ (λ (x y : ℤ). x *ℤ y) (sym (unsigned_is t a s h)) (sym (unsigned_is t b s k)) in
    back t v g ∙ w ∙ ap (m.value_of t) (bits ∙ residue (unsigned_abs a) (unsigned_abs b) (2 ^ m.width t) ∙ ap (m.bits_of t) product)

-- the count of a shift is small
count_below : (t : Basic) (c : ℤ) → IsTrue (m.is_shift_count t c) → unsigned_abs c ≤ 63
count_below bool (pos n) h = grind (arith, ints)
count_below bool (negsuc n) h = grind (arith, ints)
count_below Char (pos n) h = grind (arith, ints)
count_below Char (negsuc n) h = grind (arith, ints)
count_below SignedChar (pos n) h = grind (arith, ints)
count_below SignedChar (negsuc n) h = grind (arith, ints)
count_below UnsignedChar (pos n) h = grind (arith, ints)
count_below UnsignedChar (negsuc n) h = grind (arith, ints)
count_below Short (pos n) h = grind (arith, ints)
count_below Short (negsuc n) h = grind (arith, ints)
count_below UnsignedShort (pos n) h = grind (arith, ints)
count_below UnsignedShort (negsuc n) h = grind (arith, ints)
count_below Int (pos n) h = grind (arith, ints)
count_below Int (negsuc n) h = grind (arith, ints)
count_below Unsigned (pos n) h = grind (arith, ints)
count_below Unsigned (negsuc n) h = grind (arith, ints)
count_below Long (pos n) h = grind (arith, ints)
count_below Long (negsuc n) h = grind (arith, ints)
count_below UnsignedLong (pos n) h = grind (arith, ints)
count_below UnsignedLong (negsuc n) h = grind (arith, ints)
count_below LongLong (pos n) h = grind (arith, ints)
count_below LongLong (negsuc n) h = grind (arith, ints)
count_below UnsignedLongLong (pos n) h = grind (arith, ints)
count_below UnsignedLongLong (negsuc n) h = grind (arith, ints)

multiplied_fits : (t : Basic) (a c : ℤ) → IsTrue (m.fits t a) → IsTrue (m.is_shift_count t c) → FitsSigned w128 (a *ℤ m.power_of_two c)
multiplied_fits t a c h k =
    fits_signed_mul w128 a (m.power_of_two c) (2 ^ 64 - 1) (2 ^ 63) (abs_of a (narrow t a h)) (pow-le-pow_right (lit< tt) (count_below t c k)) (lit< tt)

multiplied_passed : (t : Basic) (a c p : ℤ) → IsTrue (m.fits t a) → FitsSigned w128 c → p ≡ m.power_of_two (passed c) → FitsSigned w128 p
    → passed a *ℤ passed p ≡ a *ℤ m.power_of_two c
multiplied_passed t a c p h k e f =
    ap₂ (λ (x y : ℤ). x *ℤ y) (back t a h) (to_z-of_z w128 p f ∙ e ∙ ap m.power_of_two (to_z-of_z w128 c k))

pub factors_fit : (t : Basic) (a c p : ℤ) → IsTrue (m.fits t a) → IsTrue (m.is_shift_count t c) → FitsSigned w128 c → p ≡ m.power_of_two (passed c) → FitsSigned w128 p
    → FitsSigned w128 (passed a *ℤ passed p)
factors_fit t a c p h i k e f =
    subst (λ (x : ℤ). FitsSigned w128 x) (sym (multiplied_passed t a c p h k e f)) (multiplied_fits t a c h i)

pub multiplied_case : (t : Basic) (a c p : ℤ) → IsTrue (m.fits t a) → IsTrue (m.is_shift_count t c) → FitsSigned w128 c → p ≡ m.power_of_two (passed c) → FitsSigned w128 p
    → passed (passed a *ℤ passed p) ≡ a *ℤ m.power_of_two c
multiplied_case t a c p h i k e f =
    to_z-of_z w128 (passed a *ℤ passed p) (factors_fit t a c p h i k e f) ∙ multiplied_passed t a c p h k e f
