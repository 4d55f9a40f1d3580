-- Types that are told to be the same are the same.
use Rattle.std.proofs.Common.{◌≡◌, ◌∙◌, ap, ap₂, refl, sym, ℕ, nat_eq, Bool, true, false, ◌&&◌, List, Option, Some, None, true≢false}
use Rattle.std.proofs.lemmas.Bool.{eqb-true}
use Rattle.std.proofs.lemmas.Slice.Eq.{bytes_eq-Decides}
use Rattle.std.specs.Str.{bytes_eq}
use Rattle.model_types.specs.Compatible.{same_bool}
use Rattle.model_core.specs.Types89 as w
use Rattle.model_core.specs.Types89.{Base, Type89, Types89}
use Rattle.model_c89.specs.Compatible89.{same_base, base_ordinal}
use Rattle.model_lowering.specs.TextValues.{same_count, same_type, same_types}

both : (a b : Bool) → a && b ≡ true → (a ≡ true) × (b ≡ true)
both true b e = (refl, e)
both false b e = absurd (true≢false (sym e))

bool_is : (a b : Bool) → same_bool a b ≡ true → a ≡ b
bool_is true true h = refl
bool_is true false h = cc
bool_is false true h = cc
bool_is false false h = refl

count_is : (a b : Option ℕ) → same_count a b ≡ true → a ≡ b
count_is None None h = refl
count_is None (Some n) h = cc
count_is (Some m) None h = cc
count_is (Some m) (Some n) h = ap (λ x. Some x) (eqb-true m n h)

base_is : (a b : Base) → same_base a b ≡ true → a ≡ b
base_is w.Void w.Void h = refl
base_is w.Void w.Char h = cc
base_is w.Void w.SignedChar h = cc
base_is w.Void w.UnsignedChar h = cc
base_is w.Void w.Short h = cc
base_is w.Void w.UnsignedShort h = cc
base_is w.Void w.Int h = cc
base_is w.Void w.UnsignedInt h = cc
base_is w.Void w.Long h = cc
base_is w.Void w.UnsignedLong h = cc
base_is w.Void (w.Struct name) h = cc
base_is w.Char w.Void h = cc
base_is w.Char w.Char h = refl
base_is w.Char w.SignedChar h = cc
base_is w.Char w.UnsignedChar h = cc
base_is w.Char w.Short h = cc
base_is w.Char w.UnsignedShort h = cc
base_is w.Char w.Int h = cc
base_is w.Char w.UnsignedInt h = cc
base_is w.Char w.Long h = cc
base_is w.Char w.UnsignedLong h = cc
base_is w.Char (w.Struct name) h = cc
base_is w.SignedChar w.Void h = cc
base_is w.SignedChar w.Char h = cc
base_is w.SignedChar w.SignedChar h = refl
base_is w.SignedChar w.UnsignedChar h = cc
base_is w.SignedChar w.Short h = cc
base_is w.SignedChar w.UnsignedShort h = cc
base_is w.SignedChar w.Int h = cc
base_is w.SignedChar w.UnsignedInt h = cc
base_is w.SignedChar w.Long h = cc
base_is w.SignedChar w.UnsignedLong h = cc
base_is w.SignedChar (w.Struct name) h = cc
base_is w.UnsignedChar w.Void h = cc
base_is w.UnsignedChar w.Char h = cc
base_is w.UnsignedChar w.SignedChar h = cc
base_is w.UnsignedChar w.UnsignedChar h = refl
base_is w.UnsignedChar w.Short h = cc
base_is w.UnsignedChar w.UnsignedShort h = cc
base_is w.UnsignedChar w.Int h = cc
base_is w.UnsignedChar w.UnsignedInt h = cc
base_is w.UnsignedChar w.Long h = cc
base_is w.UnsignedChar w.UnsignedLong h = cc
base_is w.UnsignedChar (w.Struct name) h = cc
base_is w.Short w.Void h = cc
base_is w.Short w.Char h = cc
base_is w.Short w.SignedChar h = cc
base_is w.Short w.UnsignedChar h = cc
base_is w.Short w.Short h = refl
base_is w.Short w.UnsignedShort h = cc
base_is w.Short w.Int h = cc
base_is w.Short w.UnsignedInt h = cc
base_is w.Short w.Long h = cc
base_is w.Short w.UnsignedLong h = cc
base_is w.Short (w.Struct name) h = cc
base_is w.UnsignedShort w.Void h = cc
base_is w.UnsignedShort w.Char h = cc
base_is w.UnsignedShort w.SignedChar h = cc
base_is w.UnsignedShort w.UnsignedChar h = cc
base_is w.UnsignedShort w.Short h = cc
base_is w.UnsignedShort w.UnsignedShort h = refl
base_is w.UnsignedShort w.Int h = cc
base_is w.UnsignedShort w.UnsignedInt h = cc
base_is w.UnsignedShort w.Long h = cc
base_is w.UnsignedShort w.UnsignedLong h = cc
base_is w.UnsignedShort (w.Struct name) h = cc
base_is w.Int w.Void h = cc
base_is w.Int w.Char h = cc
base_is w.Int w.SignedChar h = cc
base_is w.Int w.UnsignedChar h = cc
base_is w.Int w.Short h = cc
base_is w.Int w.UnsignedShort h = cc
base_is w.Int w.Int h = refl
base_is w.Int w.UnsignedInt h = cc
base_is w.Int w.Long h = cc
base_is w.Int w.UnsignedLong h = cc
base_is w.Int (w.Struct name) h = cc
base_is w.UnsignedInt w.Void h = cc
base_is w.UnsignedInt w.Char h = cc
base_is w.UnsignedInt w.SignedChar h = cc
base_is w.UnsignedInt w.UnsignedChar h = cc
base_is w.UnsignedInt w.Short h = cc
base_is w.UnsignedInt w.UnsignedShort h = cc
base_is w.UnsignedInt w.Int h = cc
base_is w.UnsignedInt w.UnsignedInt h = refl
base_is w.UnsignedInt w.Long h = cc
base_is w.UnsignedInt w.UnsignedLong h = cc
base_is w.UnsignedInt (w.Struct name) h = cc
base_is w.Long w.Void h = cc
base_is w.Long w.Char h = cc
base_is w.Long w.SignedChar h = cc
base_is w.Long w.UnsignedChar h = cc
base_is w.Long w.Short h = cc
base_is w.Long w.UnsignedShort h = cc
base_is w.Long w.Int h = cc
base_is w.Long w.UnsignedInt h = cc
base_is w.Long w.Long h = refl
base_is w.Long w.UnsignedLong h = cc
base_is w.Long (w.Struct name) h = cc
base_is w.UnsignedLong w.Void h = cc
base_is w.UnsignedLong w.Char h = cc
base_is w.UnsignedLong w.SignedChar h = cc
base_is w.UnsignedLong w.UnsignedChar h = cc
base_is w.UnsignedLong w.Short h = cc
base_is w.UnsignedLong w.UnsignedShort h = cc
base_is w.UnsignedLong w.Int h = cc
base_is w.UnsignedLong w.UnsignedInt h = cc
base_is w.UnsignedLong w.Long h = cc
base_is w.UnsignedLong w.UnsignedLong h = refl
base_is w.UnsignedLong (w.Struct name) h = cc
base_is (w.Struct name) w.Void h = cc
base_is (w.Struct name) w.Char h = cc
base_is (w.Struct name) w.SignedChar h = cc
base_is (w.Struct name) w.UnsignedChar h = cc
base_is (w.Struct name) w.Short h = cc
base_is (w.Struct name) w.UnsignedShort h = cc
base_is (w.Struct name) w.Int h = cc
base_is (w.Struct name) w.UnsignedInt h = cc
base_is (w.Struct name) w.Long h = cc
base_is (w.Struct name) w.UnsignedLong h = cc
base_is (w.Struct x) (w.Struct y) h = ap (λ n. w.Struct n) ((bytes_eq-Decides x y).0 h)

mutual
  pub same_is : (a b : Type89) → same_type a b ≡ true → a ≡ b
  same_is (w.Based c a) (w.Based d b) h =
      let p = both (same_bool c d) (same_base a b) h in ap₂ (λ x y. w.Based x y) (bool_is c d p.0) (base_is a b p.1)
  same_is (w.Based c a) (w.Pointer d u) h = cc
  same_is (w.Based c a) (w.Array n u) h = cc
  same_is (w.Based c a) (w.Function u qs v) h = cc
  same_is (w.Pointer c t) (w.Based d b) h = cc
  same_is (w.Pointer c t) (w.Pointer d u) h =
      let p = both (same_bool c d) (same_type t u) h in ap₂ (λ x y. w.Pointer x y) (bool_is c d p.0) (same_is t u p.1)
  same_is (w.Pointer c t) (w.Array n u) h = cc
  same_is (w.Pointer c t) (w.Function u qs v) h = cc
  same_is (w.Array m t) (w.Based d b) h = cc
  same_is (w.Array m t) (w.Pointer d u) h = cc
  same_is (w.Array m t) (w.Array n u) h =
      let p = both (same_count m n) (same_type t u) h in ap₂ (λ x y. w.Array x y) (count_is m n p.0) (same_is t u p.1)
  same_is (w.Array m t) (w.Function u qs v) h = cc
  same_is (w.Function t ps v) (w.Based d b) h = cc
  same_is (w.Function t ps v) (w.Pointer d u) h = cc
  same_is (w.Function t ps v) (w.Array n u) h = cc
  same_is (w.Function t ps v) (w.Function u qs x) h =
      let p = both (same_type t u && same_types ps qs) (same_bool v x) h in
      let q = both (same_type t u) (same_types ps qs) p.0 in
      ap₂ (λ y z. w.Function y z v) (same_is t u q.0) (same_are ps qs q.1) ∙ ap (λ z. w.Function u qs z) (bool_is v x p.1)

  pub same_are : (a b : Types89) → same_types a b ≡ true → a ≡ b
  same_are w.no_types w.no_types h = refl
  same_are w.no_types (w.more_types u us) h = cc
  same_are (w.more_types t ts) w.no_types h = cc
  same_are (w.more_types t ts) (w.more_types u us) h =
      let p = both (same_type t u) (same_types ts us) h in ap₂ (λ x y. w.more_types x y) (same_is t u p.0) (same_are ts us p.1)
