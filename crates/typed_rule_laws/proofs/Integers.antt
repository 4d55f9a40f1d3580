-- Integer types: promotions, the usual conversions, and what operators take of them.
use Rattle.std.proofs.Common.{◌≡◌, ◌∙◌, ap, sym, refl, ℕ, nat_eq, Bool, true, false, ◌&&◌, if◌then◌else◌}
use Rattle.std.proofs.lemmas.Bool.{and_parts, eqb-true}
use Rattle.model_types.specs.declared.numbers.Basic.{Basic}
use Rattle.model_types.specs.declared.numbers.Basic.TheVariants as basic
use Rattle.model_types.specs.declared.numbers.BinOp.{BinOp}
use Rattle.model_types.specs.declared.numbers.BinOp.TheVariants as op
use Rattle.model_types.specs.Types.{Form, Void, Integer, Enum, Pointer, Array, Struct, Function}
use Rattle.model_types.specs.Conversions.{promoted, common, is_shift}
use Rattle.model_types.specs.Compatible.{ordinal, same_basic}
use Rattle.model_core.specs.SameTypes.{is_integer, same_form}
use Rattle.model_core.specs.TypedParts.{converts, is_promoted, is_scalar, takes}
use Rattle.typed_rule_laws.proofs.TypeForms.{form_self}

-- ---- a test of integer types holds of each where it holds of all

abbrev all_narrow : (Basic → Bool) → Bool
all_narrow f = f basic.Bool && f basic.Char && f basic.SignedChar && f basic.UnsignedChar && f basic.Short && f basic.UnsignedShort

abbrev all_wide : (Basic → Bool) → Bool
all_wide f = f basic.Int && f basic.Unsigned && f basic.Long && f basic.UnsignedLong && f basic.LongLong && f basic.UnsignedLongLong

abbrev all_basics : (Basic → Bool) → Bool
all_basics f = all_narrow f && all_wide f

at_basic : (f : Basic → Bool) (b : Basic) → all_basics f ≡ true → f b ≡ true
at_basic f basic.Bool h = (and_parts _ _ (and_parts _ _ (and_parts _ _ (and_parts _ _ (and_parts _ _ (and_parts (all_narrow f) (all_wide f) h).0).0).0).0).0).0
at_basic f basic.Char h = (and_parts _ _ (and_parts _ _ (and_parts _ _ (and_parts _ _ (and_parts _ _ (and_parts (all_narrow f) (all_wide f) h).0).0).0).0).0).1
at_basic f basic.SignedChar h = (and_parts _ _ (and_parts _ _ (and_parts _ _ (and_parts _ _ (and_parts (all_narrow f) (all_wide f) h).0).0).0).0).1
at_basic f basic.UnsignedChar h = (and_parts _ _ (and_parts _ _ (and_parts _ _ (and_parts (all_narrow f) (all_wide f) h).0).0).0).1
at_basic f basic.Short h = (and_parts _ _ (and_parts _ _ (and_parts (all_narrow f) (all_wide f) h).0).0).1
at_basic f basic.UnsignedShort h = (and_parts _ _ (and_parts (all_narrow f) (all_wide f) h).0).1
at_basic f basic.Int h = (and_parts _ _ (and_parts _ _ (and_parts _ _ (and_parts _ _ (and_parts _ _ (and_parts (all_narrow f) (all_wide f) h).1).0).0).0).0).0
at_basic f basic.Unsigned h = (and_parts _ _ (and_parts _ _ (and_parts _ _ (and_parts _ _ (and_parts _ _ (and_parts (all_narrow f) (all_wide f) h).1).0).0).0).0).1
at_basic f basic.Long h = (and_parts _ _ (and_parts _ _ (and_parts _ _ (and_parts _ _ (and_parts (all_narrow f) (all_wide f) h).1).0).0).0).1
at_basic f basic.UnsignedLong h = (and_parts _ _ (and_parts _ _ (and_parts _ _ (and_parts (all_narrow f) (all_wide f) h).1).0).0).1
at_basic f basic.LongLong h = (and_parts _ _ (and_parts _ _ (and_parts (all_narrow f) (all_wide f) h).1).0).1
at_basic f basic.UnsignedLongLong h = (and_parts _ _ (and_parts (all_narrow f) (all_wide f) h).1).1

at_basics : (f : Basic → Basic → Bool) (a b : Basic) → all_basics (λ a. all_basics (f a)) ≡ true → f a b ≡ true
at_basics f a b h = at_basic (f a) b (at_basic (λ a. all_basics (f a)) a h)

-- ---- integer types that are the same are equal

abbrev of_ordinal : ℕ → Basic
of_ordinal n =
    if nat_eq n 0 then basic.Bool else if nat_eq n 1 then basic.Char else if nat_eq n 2 then basic.SignedChar else
    if nat_eq n 3 then basic.UnsignedChar else if nat_eq n 4 then basic.Short else if nat_eq n 5 then basic.UnsignedShort else
    if nat_eq n 6 then basic.Int else if nat_eq n 7 then basic.Unsigned else if nat_eq n 8 then basic.Long else
    if nat_eq n 9 then basic.UnsignedLong else if nat_eq n 10 then basic.LongLong else basic.UnsignedLongLong

of_own_ordinal : (b : Basic) → of_ordinal (ordinal b) ≡ b
of_own_ordinal basic.Bool = refl
of_own_ordinal basic.Char = refl
of_own_ordinal basic.SignedChar = refl
of_own_ordinal basic.UnsignedChar = refl
of_own_ordinal basic.Short = refl
of_own_ordinal basic.UnsignedShort = refl
of_own_ordinal basic.Int = refl
of_own_ordinal basic.Unsigned = refl
of_own_ordinal basic.Long = refl
of_own_ordinal basic.UnsignedLong = refl
of_own_ordinal basic.LongLong = refl
of_own_ordinal basic.UnsignedLongLong = refl

pub same_basic_is : (a b : Basic) → same_basic a b ≡ true → a ≡ b
same_basic_is a b h = sym (of_own_ordinal a) ∙ (ap of_ordinal (eqb-true (ordinal a) (ordinal b) h) ∙ of_own_ordinal b)

pub same_integer_is : (b : Basic) (f : Form) → same_form (Integer b) f ≡ true → f ≡ Integer b
same_integer_is b Void h = cc
same_integer_is b (Integer c) h = ap Integer (sym (same_basic_is b c h))
same_integer_is b (Enum c d) h = cc
same_integer_is b (Pointer t) h = cc
same_integer_is b (Array t n) h = cc
same_integer_is b (Struct s) h = cc
same_integer_is b (Function t ps v) h = cc

-- ---- promoted types

promoted_twice : (b : Basic) → same_basic (promoted (promoted b)) (promoted b) ≡ true
promoted_twice b = at_basic (λ b. same_basic (promoted (promoted b)) (promoted b)) b refl

pub promoted_is_promoted : (b : Basic) → is_promoted (Integer (promoted b)) ≡ true
promoted_is_promoted b = promoted_twice b

pub common_is_promoted : (a b : Basic) → is_promoted (Integer (common a b)) ≡ true
common_is_promoted a b = at_basics (λ a b. same_basic (promoted (common a b)) (common a b)) a b refl

-- an operation in the common type of two types is done in the common type of the first and that
pub common_again : (a b : Basic) → same_basic (common a (common a b)) (common a b) ≡ true
common_again a b = at_basics (λ a b. same_basic (common a (common a b)) (common a b)) a b refl

-- ---- what operators take

pub takes_same : (o : BinOp) (f : Form) → is_shift o ≡ false → is_promoted f ≡ true → takes o f f ≡ true
takes_same op.Mul f h p = rw (p, form_self f) refl
takes_same op.Div f h p = rw (p, form_self f) refl
takes_same op.Rem f h p = rw (p, form_self f) refl
takes_same op.Add f h p = rw (p, form_self f) refl
takes_same op.Sub f h p = rw (p, form_self f) refl
takes_same op.ShiftLeft f h p = cc
takes_same op.ShiftRight f h p = cc
takes_same op.Less f h p = rw (p, form_self f) refl
takes_same op.Greater f h p = rw (p, form_self f) refl
takes_same op.LessEqual f h p = rw (p, form_self f) refl
takes_same op.GreaterEqual f h p = rw (p, form_self f) refl
takes_same op.Equal f h p = rw (p, form_self f) refl
takes_same op.NotEqual f h p = rw (p, form_self f) refl
takes_same op.BitAnd f h p = rw (p, form_self f) refl
takes_same op.BitXor f h p = rw (p, form_self f) refl
takes_same op.BitOr f h p = rw (p, form_self f) refl

pub integer_is_scalar : (f : Form) → is_integer f ≡ true → is_scalar f ≡ true
integer_is_scalar f h = rw h refl

pub integer_converts : (null : Bool) (f : Form) (b : Basic) → is_integer f ≡ true → converts null f (Integer b) ≡ true
integer_converts null f basic.Bool h = integer_is_scalar f h
integer_converts null f basic.Char h = h
integer_converts null f basic.SignedChar h = h
integer_converts null f basic.UnsignedChar h = h
integer_converts null f basic.Short h = h
integer_converts null f basic.UnsignedShort h = h
integer_converts null f basic.Int h = h
integer_converts null f basic.Unsigned h = h
integer_converts null f basic.Long h = h
integer_converts null f basic.UnsignedLong h = h
integer_converts null f basic.LongLong h = h
integer_converts null f basic.UnsignedLongLong h = h
