-- Sizes that are kept up to the limit, and alignments.
use Rattle.std.proofs.Common.{◌≡◌, ℕ, zero, suc, ◌+◌, ◌*◌, ◌≤◌, ◌<◌, max, List, [], ◌∷◌, Option, Some, None, IfSome, arith, refl, sym, ◌∙◌, ap, subst, ⊎_elim, lit≤}
use Rattle.std.proofs.Math.Nat.{suc-mul}
use Rattle.std.proofs.lemmas.Bool.{cases_lt}
use Rattle.std.specs.Option.{option_map}
use Rattle.std.specs.Int.{next_multiple_of}
use Rattle.std.specs.List.{fold}
use Rattle.model_types.specs.declared.numbers.Basic.{Basic}
use Rattle.model_types.specs.declared.numbers.Basic.TheVariants.{Bool as bool, Char, SignedChar, UnsignedChar, Short, UnsignedShort, Int, Unsigned, Long, UnsignedLong, LongLong, UnsignedLongLong}
use Rattle.model_types.specs.declared.types.StructId.{StructId}
use Rattle.model_types.specs.Types.{CType, typed, Void, Integer, Enum, Pointer, Array, Struct, Function}
use Rattle.model_types.specs.Structures.{Member, Structure, members_of}
use Rattle.model_types.specs.Layout as m
use Rattle.c_types.specs.Extents as s
use Rattle.c_types.specs.declared.extents.Extent.{Extent}

limited_small : (k : ℕ) → k < s.past_limit → s.limited k ≡ k
limited_small k h = omega (arith, h)

limited_large : (k : ℕ) → s.past_limit ≤ k → s.limited k ≡ s.past_limit
limited_large k h = omega (arith, h)

limited_product : (n k : ℕ) → s.limited (n * s.limited k) ≡ s.limited (n * k)
limited_product zero k = grind arith
limited_product (suc n) k =
    ⊎_elim (λ h. ap (λ (x : ℕ). s.limited (suc n * x)) (limited_small k h))
    (λ h. omega (arith, limited_large k h, suc-mul n k, suc-mul n (s.limited k), h)) (cases_lt k s.past_limit)

limited_sum : (a b c : ℕ) → s.limited (next_multiple_of (s.limited a) c + s.limited b) ≡ s.limited (next_multiple_of a c + b)
limited_sum a b c = ⊎_elim small large (cases_lt a s.past_limit)
  where
    small : a < s.past_limit → s.limited (next_multiple_of (s.limited a) c + s.limited b) ≡ s.limited (next_multiple_of a c + b)
    small h = rw (limited_small a h) (omega arith)

    large : s.past_limit ≤ a → s.limited (next_multiple_of (s.limited a) c + s.limited b) ≡ s.limited (next_multiple_of a c + b)
    large h = omega (arith, limited_large a h, h)

limited_padded : (a c : ℕ) → s.limited (next_multiple_of (s.limited a) c) ≡ s.limited (next_multiple_of a c)
limited_padded a c = ⊎_elim small large (cases_lt a s.past_limit)
  where
    small : a < s.past_limit → s.limited (next_multiple_of (s.limited a) c) ≡ s.limited (next_multiple_of a c)
    small h = rw (limited_small a h) refl

    large : s.past_limit ≤ a → s.limited (next_multiple_of (s.limited a) c) ≡ s.limited (next_multiple_of a c)
    large h = omega (arith, limited_large a h, h)

pub kept_repeated : (n : ℕ) (l : m.Layout) → s.repeated n (s.kept l) ≡ s.kept (m.repeated n l)
kept_repeated n l = λ i. record { size = limited_product n l.size i; align = l.align }

kept_followed : (b l : m.Layout) → s.followed_by (s.kept b) (s.kept l) ≡ s.kept (m.followed_by b l)
kept_followed b l = λ i. record { size = limited_sum b.size l.size l.align i; align = max b.align l.align }

pub kept_padded : (l : m.Layout) → s.padded (s.kept l) ≡ s.kept (m.padded l)
kept_padded l = λ i. record { size = limited_padded l.size l.align i; align = l.align }

pub kept_behind : (b : m.Layout) (ls : List m.Layout) → s.more_behind (s.kept b) ls ≡ s.kept (fold m.followed_by b ls)
kept_behind b [] = refl
kept_behind b (l ∷ ls) = ap (λ (e : Extent). s.more_behind e ls) (kept_followed b l) ∙ kept_behind (m.followed_by b l) ls

-- ---- alignments

pub record IsAligned (l : m.Layout) : Type 0 where
  pub positive : 1 ≤ l.align
  pub small : l.align ≤ 8

basic_aligned : (b : Basic) → IsAligned (m.scalar (m.basic_size b))
basic_aligned bool = record { positive = lit≤ tt; small = lit≤ tt }
basic_aligned Char = record { positive = lit≤ tt; small = lit≤ tt }
basic_aligned SignedChar = record { positive = lit≤ tt; small = lit≤ tt }
basic_aligned UnsignedChar = record { positive = lit≤ tt; small = lit≤ tt }
basic_aligned Short = record { positive = lit≤ tt; small = lit≤ tt }
basic_aligned UnsignedShort = record { positive = lit≤ tt; small = lit≤ tt }
basic_aligned Int = record { positive = lit≤ tt; small = lit≤ tt }
basic_aligned Unsigned = record { positive = lit≤ tt; small = lit≤ tt }
basic_aligned Long = record { positive = lit≤ tt; small = lit≤ tt }
basic_aligned UnsignedLong = record { positive = lit≤ tt; small = lit≤ tt }
basic_aligned LongLong = record { positive = lit≤ tt; small = lit≤ tt }
basic_aligned UnsignedLongLong = record { positive = lit≤ tt; small = lit≤ tt }

repeated_aligned : (n : ℕ) (o : Option m.Layout) → IfSome o IsAligned → IfSome (option_map (m.repeated n) o) IsAligned
repeated_aligned n None h = h
repeated_aligned n (Some l) h = record { positive = h.positive; small = h.small }

type_aligned : (f : StructId → Option m.Layout) → ((s : StructId) → IfSome (f s) IsAligned) → (t : CType) → IfSome (m.type_layout f t) IsAligned
type_aligned f h (typed Void q) = tt
type_aligned f h (typed (Integer b) q) = basic_aligned b
type_aligned f h (typed (Enum b d) q) = basic_aligned b
type_aligned f h (typed (Pointer t) q) = record { positive = lit≤ tt; small = lit≤ tt }
type_aligned f h (typed (Array t None) q) = tt
type_aligned f h (typed (Array t (Some n)) q) = repeated_aligned n (m.type_layout f t) (type_aligned f h t)
type_aligned f h (typed (Struct s) q) = h s
type_aligned f h (typed (Function r ps v) q) = tt

abbrev AllAligned : List m.Layout → Type 0
AllAligned [] = Unit {0}
AllAligned (l ∷ ls) = IsAligned l × AllAligned ls

before_aligned : (o : Option m.Layout) (os : Option (List m.Layout)) → IfSome o IsAligned → IfSome os AllAligned → IfSome (m.before_others o os) AllAligned
before_aligned None os h k = tt
before_aligned (Some l) None h k = tt
before_aligned (Some l) (Some ls) h k = (h, k)

members_aligned : (f : CType → Option m.Layout) → ((t : CType) → IfSome (f t) IsAligned) → (ms : List Member) → IfSome (m.member_layouts f ms) AllAligned
members_aligned f h [] = tt
members_aligned f h (x ∷ xs) = before_aligned (f x.ty) (m.member_layouts f xs) (h x.ty) (members_aligned f h xs)

row_aligned : (b : m.Layout) (ls : List m.Layout) → IsAligned b → AllAligned ls → IsAligned (fold m.followed_by b ls)
row_aligned b [] h k = h
row_aligned b (l ∷ ls) h k =
    row_aligned (m.followed_by b l) ls (record { positive = omega (arith, h.positive, k.0.positive); small = omega (arith, h.small, k.0.small) }) k.1

padded_aligned : (os : Option (List m.Layout)) → IfSome os AllAligned → IfSome (option_map (λ ls. m.padded (m.in_a_row ls)) os) IsAligned
padded_aligned None h = tt
padded_aligned (Some ls) h =
    let r = row_aligned m.no_member ls (record { positive = lit≤ tt; small = lit≤ tt }) h in
    record { positive = r.positive; small = r.small }

whole_aligned : (f : CType → Option m.Layout) → ((t : CType) → IfSome (f t) IsAligned) → (o : Option (List Member)) → IfSome (m.layout_of_members f o) IsAligned
whole_aligned f h None = tt
whole_aligned f h (Some ms) = padded_aligned (m.member_layouts f ms) (members_aligned f h ms)

struct_aligned : (d : ℕ) (f : StructId → Option (List Member)) (id : StructId) → IfSome (m.struct_layout d f id) IsAligned
struct_aligned zero f id = tt
struct_aligned (suc d) f id =
    whole_aligned (m.type_layout (m.struct_layout d f)) (type_aligned (m.struct_layout d f) (struct_aligned d f)) (f id)

kept_bounded : (o : Option m.Layout) → IfSome o IsAligned → IfSome (option_map s.kept o) s.IsBounded
kept_bounded None h = h
kept_bounded (Some l) h = record { size = omega arith; positive = h.positive; small = h.small }

pub extent_bounded : (structs : List Structure) (id : StructId) (r : Option Extent) → r ≡ option_map s.kept (m.layout_in structs id) → IfSome r s.IsBounded
extent_bounded structs id r e =
    subst (λ (x : Option Extent). IfSome x s.IsBounded) (sym e)
    (kept_bounded (m.layout_in structs id) (struct_aligned (m.complete_count structs) (members_of structs) id))
