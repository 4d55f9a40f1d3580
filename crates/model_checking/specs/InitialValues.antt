-- The values that the scalars and structures of an object begin with (ISO/IEC 9899:2024, 6.7.11, paragraphs 10, 20 and
-- 22): of what is placed for a subobject, or for one that holds it, the last in the source decides. Each subobject is
-- looked at by itself.
use Rattle.std.specs.Prelude.{ℕ, nat_eq, pos, if◌then◌else◌, List, [], ◌∷◌, slice_get, Option, Some, None, option_map}
use Rattle.std.specs.Option.{option_or}
use Rattle.cake_base.specs.declared.places.Place.{Place}
use Rattle.model_types.specs.declared.numbers.Basic.{Basic}
use Rattle.model_types.specs.declared.marks.Mark.{Mark}
use Rattle.model_types.specs.Types.{CType, Integer, form_of_type}
use Rattle.model_types.specs.Structures.{Structure}
use Rattle.model_types.specs.Operations.{convert}
use Rattle.model_core.specs.CoreTypes.{plain, unqualified, basic_of}
use Rattle.model_core.specs.TypedParts.{is_scalar}
use Rattle.model_core.specs.Core as unit
use Rattle.model_checking.specs.Subobjects.{Subobject, subobjects_of}
use Rattle.model_checking.specs.Placing.{Content, Value, Text, Zeros, Placed}

-- ---- what decides

-- what the first ranks of a path leave of it; none where it begins otherwise
abbrev pub inside : (front path : List ℕ) → Option (List ℕ)
inside [] path = Some path
inside (r ∷ rs) [] = None
inside (r ∷ rs) (q ∷ qs) = if nat_eq r q then inside rs qs else None

-- what is placed, and the ranks that lead on from there
pub record Deciding : Type 0 where
  pub placed : Placed
  pub onward : List ℕ

-- the last that is placed for the subobject of a path, or for one that holds it
abbrev pub deciding : (path : List ℕ) → List Placed → Option Deciding
deciding path [] = None
deciding path (p ∷ ps) = option_or (deciding path ps) (option_map (λ onward. record { placed = p; onward = onward }) (inside p.path path))

-- ---- the value that it gives

abbrev pub mark_at : Place → Mark
mark_at place = record { at = place; first = place; outer = place }

-- a byte of a string, as a character of the array's type
abbrev pub character : Basic → (byte : ℕ) → Place → unit.Expr
character basic byte place = unit.Constant (convert basic (pos byte)) (plain (Integer basic)) (mark_at place)

abbrev pub given_by : Content → (first : Place) → CType → (zeros : Option unit.Expr) → (onward : List ℕ) → Option unit.Expr
given_by (Value value later) first type zeros [] = Some value
given_by (Value value later) first type zeros (rank ∷ ranks) = None
given_by (Text id bytes value) first type zeros [] = None
given_by (Text id bytes value) first type zeros (rank ∷ ranks) =
    option_or (option_map (λ byte. character (basic_of (form_of_type type)) byte first) (slice_get bytes rank)) zeros
given_by Zeros first type zeros onward = zeros

abbrev pub decided : CType → (zeros : Option unit.Expr) → Option Deciding → Option unit.Expr
decided type zeros None = zeros
decided type zeros (Some d) = given_by d.placed.content d.placed.first type zeros d.onward

-- ---- the zeros of what gets no value

-- the scalars of an automatic object are zeroed one by one; they stand at a place
abbrev pub written_zero : Place → CType → Option unit.Expr
written_zero place type = if is_scalar (form_of_type type) then Some (unit.Constant (pos 0) (unqualified type) (mark_at place)) else None

-- in an object of static storage what gets no value is zero
abbrev pub no_zero : CType → Option unit.Expr
no_zero type = None

-- ---- all of them, in order of offset

abbrev pub with_value : Subobject → Option unit.Expr → unit.Initials → unit.Initials
with_value s None others = others
with_value s (Some value) others = unit.more_initials s.spot.path s.spot.offset s.type value others

abbrev pub values_of : (zero_of : CType → Option unit.Expr) → List Placed → List Subobject → unit.Initials
values_of zero_of placed [] = unit.no_initials
values_of zero_of placed (s ∷ ss) = with_value s (decided s.type (zero_of s.type) (deciding s.spot.path placed)) (values_of zero_of placed ss)

-- the values of an object of a type
abbrev pub initial_values : List Structure → (zero_of : CType → Option unit.Expr) → List Placed → CType → unit.Initials
initial_values structs zero_of placed object = values_of zero_of placed (subobjects_of structs object)
