-- Constants, strings and what `sizeof` and `alignof` make are typed.
use Rattle.std.proofs.Common.{◌≡◌, refl, ℕ, zero, suc, ◌≤◌, ◌<◌, ◌+◌, ◌*◌, nat_le, nat_lt, ℤ, pos, int_le}
use Rattle.std.proofs.Common.{Bool, true, false, if◌then◌else◌, List, [], ◌∷◌, length, Option, Some, None, is_some, Ok, arith}
use Rattle.std.specs.Option.{option_map, option_and_then, unwrap_or}
use Rattle.std.specs.List.{fold}
use Rattle.std.specs.Result.{IfOk}
use Rattle.std.proofs.lemmas.Bool.{and_from, leb-true, le-leb, lt-ltb}
use Rattle.cake_base.specs.declared.places.Place.{Place}
use Rattle.cake_base.specs.declared.rules.Fault.{Fault}
use Rattle.model_types.specs.declared.numbers.Basic.{Basic}
use Rattle.model_types.specs.declared.numbers.Basic.TheVariants as basic
use Rattle.model_types.specs.declared.marks.Mark.{Mark}
use Rattle.model_types.specs.declared.types.StructId.{StructId}
use Rattle.model_types.specs.Operations.{fits, lowest, highest}
use Rattle.model_types.specs.Types.{CType, typed, Void, Integer, Enum, Pointer, Array, Struct, Function}
use Rattle.model_types.specs.Structures.{Member, Structure, members_of}
use Rattle.model_types.specs.Layout.{Layout, scalar, basic_size, repeated, no_member, followed_by, in_a_row, padded, type_layout, before_others}
use Rattle.model_types.specs.Layout.{member_layouts, layout_of_members, struct_layout, complete_count, layout_in, layout_of, size_limit, within_limit, is_complete, align_of}
use Rattle.model_core.specs.CoreTypes.{size_in, plain}
use Rattle.model_core.specs.PossibleTypes.{is_possible}
use Rattle.model_core.specs.Core as unit
use Rattle.model_checking.specs.State.{Use, State}
use Rattle.model_checking.specs.Meanings.{a_value}
use Rattle.model_checking.specs.MadeCore.{integer_type}
use Rattle.model_checking.specs.Literals.{number, truth_value, null_pointer, text}
use Rattle.model_checking.specs.SizeRules.{measured, size_of_name, alignment_of_name}
use Rattle.typed_rule_laws.specs.TypedMeanings.{is_typed_meaning, GivesTyped}
use Rattle.typed_rule_laws.proofs.Outcomes.{where_wanted}
use Rattle.typed_rule_laws.proofs.UnaryForms.{IsTyped}

-- ---- constants

pub number_is_typed : (structs : List Structure) (value : ℤ) (b : Basic) (mark : Mark) → fits b value ≡ true → is_typed_meaning structs (number value b mark) ≡ true
number_is_typed structs value b mark h = and_from (fits b value) true h refl

pub truth_is_typed : (structs : List Structure) (value : Bool) (mark : Mark) → is_typed_meaning structs (truth_value value mark) ≡ true
truth_is_typed structs true mark = refl
truth_is_typed structs false mark = refl

pub null_is_typed : (structs : List Structure) (mark : Mark) → is_typed_meaning structs (null_pointer mark) ≡ true
null_is_typed structs mark = refl

-- ---- strings

text_size : (n : ℕ) (b : Bool) → b ≡ true → is_some (if b then Some (n * 1) else None) ≡ true
text_size n true h = refl
text_size n false h = cc

pub text_possible : (structs : List Structure) (n : ℕ) → n < size_limit → is_possible structs (plain (Array (integer_type basic.Char) (Some (n + 1)))) ≡ true
text_possible structs n h =
    and_from (nat_lt 0 (n + 1)) (is_some (within_limit ((n + 1) * 1))) (lt-ltb 0 (n + 1) (omega arith))
    (text_size (n + 1) (nat_le ((n + 1) * 1) size_limit) (le-leb ((n + 1) * 1) size_limit (omega (arith, h))))

pub text_is_typed : (structs : List Structure) (usage : Use) (bytes : List ℕ) (mark : Mark) (s : State) → length bytes < size_limit →
    IfOk {E = Fault} (text usage bytes mark s) (λ both. is_typed_meaning structs both.made ≡ true)
text_is_typed structs usage bytes mark s h = rw (text_possible structs (length bytes) h) refl

-- ---- measures are below the greatest value of their type

measure_fits : (n : ℕ) → n ≤ size_limit → fits basic.UnsignedLong (pos n) ≡ true
measure_fits n h = and_from (int_le (lowest basic.UnsignedLong) (pos n)) (int_le (pos n) (highest basic.UnsignedLong)) (grind arith) (grind (arith, h))

pub measured_is_typed : (structs : List Structure) (mark : Mark) (first : Place) (type : CType) (measure : ℕ) → measure ≤ size_limit →
    GivesTyped structs (measured structs mark first type measure)
measured_is_typed structs mark first type measure h =
    where_wanted (IsTyped structs) (is_complete structs type) first 22 (Ok (a_value (unit.Constant (pos measure) (integer_type basic.UnsignedLong) mark)))
    (λ w. and_from (fits basic.UnsignedLong (pos measure)) true (measure_fits measure h) refl)

within_bound : (n : ℕ) (b : Bool) → nat_le n size_limit ≡ b → unwrap_or (if b then Some n else None) 0 ≤ size_limit
within_bound n true e = leb-true n size_limit e
within_bound n false e = omega arith

size_bound : (o : Option Layout) → unwrap_or (option_and_then (λ l. within_limit l.size) o) 0 ≤ size_limit
size_bound None = omega arith
size_bound (Some l) = within_bound l.size (nat_le l.size size_limit) refl

pub size_is_typed : (structs : List Structure) (mark : Mark) (first : Place) (type : CType) → GivesTyped structs (size_of_name structs mark first type)
size_is_typed structs mark first type = measured_is_typed structs mark first type (size_in structs type) (size_bound (layout_of structs type))

-- ---- alignments are 8 at most

abbrev Aligned : Option Layout → Type 0
Aligned None = 0 ≤ 8
Aligned (Some l) = l.align ≤ 8

abbrev AllAligned : List Layout → Type 0
AllAligned [] = 0 ≤ 8
AllAligned (l ∷ ls) = (l.align ≤ 8) × AllAligned ls

abbrev RowAligned : Option (List Layout) → Type 0
RowAligned None = 0 ≤ 8
RowAligned (Some ls) = AllAligned ls

basic_aligned : (b : Basic) → Aligned (Some (scalar (basic_size b)))
basic_aligned basic.Bool = omega arith
basic_aligned basic.Char = omega arith
basic_aligned basic.SignedChar = omega arith
basic_aligned basic.UnsignedChar = omega arith
basic_aligned basic.Short = omega arith
basic_aligned basic.UnsignedShort = omega arith
basic_aligned basic.Int = omega arith
basic_aligned basic.Unsigned = omega arith
basic_aligned basic.Long = omega arith
basic_aligned basic.UnsignedLong = omega arith
basic_aligned basic.LongLong = omega arith
basic_aligned basic.UnsignedLongLong = omega arith

repeated_aligned : (n : ℕ) (o : Option Layout) → Aligned o → Aligned (option_map (repeated n) o)
repeated_aligned n None h = h
repeated_aligned n (Some l) h = h

type_aligned : (layouts : StructId → Option Layout) → ((id : StructId) → Aligned (layouts id)) → (t : CType) → Aligned (type_layout layouts t)
type_aligned layouts h (typed Void q) = omega arith
type_aligned layouts h (typed (Integer b) q) = basic_aligned b
type_aligned layouts h (typed (Enum b d) q) = basic_aligned b
type_aligned layouts h (typed (Pointer t) q) = omega arith
type_aligned layouts h (typed (Array t None) q) = omega arith
type_aligned layouts h (typed (Array t (Some n)) q) = repeated_aligned n (type_layout layouts t) (type_aligned layouts h t)
type_aligned layouts h (typed (Struct s) q) = h s
type_aligned layouts h (typed (Function t ps v) q) = omega arith

row_aligned : (o : Option Layout) (p : Option (List Layout)) → Aligned o → RowAligned p → RowAligned (before_others o p)
row_aligned None p h k = omega arith
row_aligned (Some l) None h k = omega arith
row_aligned (Some l) (Some ls) h k = (h, k)

members_aligned : (of : CType → Option Layout) → ((t : CType) → Aligned (of t)) → (ms : List Member) → RowAligned (member_layouts of ms)
members_aligned of h [] = omega arith
members_aligned of h (m ∷ ms) = row_aligned (of m.ty) (member_layouts of ms) (h m.ty) (members_aligned of h ms)

fold_aligned : (before : Layout) (ls : List Layout) → before.align ≤ 8 → AllAligned ls → (fold followed_by before ls).align ≤ 8
fold_aligned before [] h k = h
fold_aligned before (l ∷ ls) h k = fold_aligned (followed_by before l) ls (omega (arith, h, k.0)) k.1

structure_row : (o : Option (List Layout)) → RowAligned o → Aligned (option_map (λ ls. padded (in_a_row ls)) o)
structure_row None h = h
structure_row (Some ls) h = fold_aligned no_member ls (omega arith) h

structure_members : (of : CType → Option Layout) → ((t : CType) → Aligned (of t)) → (o : Option (List Member)) → Aligned (layout_of_members of o)
structure_members of h None = omega arith
structure_members of h (Some ms) = structure_row (member_layouts of ms) (members_aligned of h ms)

structure_aligned : (depth : ℕ) (members : StructId → Option (List Member)) (id : StructId) → Aligned (struct_layout depth members id)
structure_aligned zero members id = omega arith
structure_aligned (suc depth) members id =
    structure_members (type_layout (struct_layout depth members)) (type_aligned (struct_layout depth members) (structure_aligned depth members)) (members id)

align_bound : (o : Option Layout) → Aligned o → unwrap_or (option_map (λ l. l.align) o) 1 ≤ size_limit
align_bound None h = omega arith
align_bound (Some l) h = omega (arith, h)

pub alignment_is_typed : (structs : List Structure) (mark : Mark) (first : Place) (type : CType) → GivesTyped structs (alignment_of_name structs mark first type)
alignment_is_typed structs mark first type =
    measured_is_typed structs mark first type (unwrap_or (align_of structs type) 1)
    (align_bound (layout_of structs type) (type_aligned (layout_in structs) (structure_aligned (complete_count structs) (members_of structs)) type))
