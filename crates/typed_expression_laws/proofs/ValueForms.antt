-- The values that subobjects begin with are typed, and of their types.
use Rattle.std.proofs.Common.{◌≡◌, ◌∙◌, ap, sym, subst, refl, ℕ, zero, suc, ◌+◌, ◌*◌, ◌%◌, ◌<◌, nat_eq, nat_le, pos, neg_ℤ, ◌-ℤ◌, int_le, Bool, true, false, ◌&&◌, if◌then◌else◌, List, [], ◌∷◌, ◌++◌, Option, Some, None, option_map, slice_get, arith, lit<}
use Rattle.std.specs.Option.{option_or}
use Rattle.std.proofs.lemmas.Bool.{eqb-true}
use Rattle.std.proofs.lemmas.Nat.{mod_below}
use Rattle.cake_base.specs.declared.places.Place.{Place}
use Rattle.model_types.specs.declared.numbers.Basic.{Basic}
use Rattle.model_types.specs.declared.numbers.Basic.TheVariants as basic
use Rattle.model_types.specs.declared.types.StructId.{StructId}
use Rattle.model_types.specs.declared.types.Quals.{Quals}
use Rattle.model_types.specs.Types.{CType, typed, Form, Void, Integer, Enum, Pointer, Array, Struct, Function, form_of_type}
use Rattle.model_types.specs.Structures.{Member, Structure, members_of}
use Rattle.model_types.specs.Layout.{complete_count}
use Rattle.model_types.specs.Operations.{fits, convert, value_of}
use Rattle.model_core.specs.CoreTypes.{size_in, basic_of}
use Rattle.model_core.specs.MemberTypes.{member_type, member_in}
use Rattle.model_core.specs.TypedParts.{is_storable}
use Rattle.model_core.specs.TypedExpr.{are_typed_values}
use Rattle.model_core.specs.Core as unit
use Rattle.model_checking.specs.Subobjects.{Spot, Subobject, inner, of_elements, of_members, of_members_if_any, subobjects, form_subobjects, member_subobjects, subobjects_of}
use Rattle.model_checking.specs.Ways.{is_character_array, is_character}
use Rattle.model_checking.specs.Placing.{Content, Value, Text, Zeros, Placed}
use Rattle.model_checking.specs.InitialValues.{inside, Deciding, deciding, given_by, decided, character, written_zero, no_zero, with_value, values_of, initial_values}
use Rattle.typed_rule_laws.proofs.TypeForms.{basic_self, form_self}
use Rattle.typed_expression_laws.proofs.PlacedForms.{type_along, along_both, along_more}
use Rattle.typed_expression_laws.proofs.FittedForms.{OfType, FittedContent, FittedPlaced, AreFitted}

-- ---- subobjects

pub record SubobjectAt (structs : List Structure) (root : CType) (s : Subobject) : Type 0 where
  pub along : type_along structs root s.spot.path ≡ Some s.type
  pub storable : is_storable (form_of_type s.type) ≡ true

abbrev pub AreSubobjects : List Structure → CType → List Subobject → Type 0
AreSubobjects structs root [] = true ≡ true
AreSubobjects structs root (s ∷ ss) = SubobjectAt structs root s × AreSubobjects structs root ss

both_are : (structs : List Structure) (root : CType) (ss ts : List Subobject) → AreSubobjects structs root ss → AreSubobjects structs root ts → AreSubobjects structs root (ss ++ ts)
both_are structs root [] ts h k = k
both_are structs root (s ∷ ss) ts h k = (h.0, both_are structs root ss ts h.1 k)

elements_are : (structs : List Structure) (root : CType) (of : ℕ → List Subobject) (rank count : ℕ) → ((rank : ℕ) → AreSubobjects structs root (of rank)) →
    AreSubobjects structs root (of_elements of rank count)
elements_are structs root of rank zero h = refl
elements_are structs root of rank (suc count) h =
    both_are structs root (of rank) (of_elements of (rank + 1) count) (h rank) (elements_are structs root of (rank + 1) count h)

abbrev GivenSound : List Structure → CType → (CType → StructId → Spot → List Subobject) → Type 0
GivenSound structs root given =
    (quals : Quals) → (id : StructId) → (spot : Spot) → type_along structs root spot.path ≡ Some (typed (Struct id) quals) →
    AreSubobjects structs root (given (typed (Struct id) quals) id spot)

mutual
  subobjects_are : (structs : List Structure) (root : CType) (given : CType → StructId → Spot → List Subobject) → GivenSound structs root given → (type : CType) (spot : Spot) →
      type_along structs root spot.path ≡ Some type → AreSubobjects structs root (subobjects structs given type spot)
  subobjects_are structs root given g (typed form quals) spot a = form_subobjects_are structs root given g form quals spot a

  form_subobjects_are : (structs : List Structure) (root : CType) (given : CType → StructId → Spot → List Subobject) → GivenSound structs root given → (form : Form)
      (quals : Quals) (spot : Spot) → type_along structs root spot.path ≡ Some (typed form quals) →
      AreSubobjects structs root (form_subobjects structs given (typed form quals) form spot)
  form_subobjects_are structs root given g (Array type None) quals spot a = refl
  form_subobjects_are structs root given g (Array type (Some count)) quals spot a =
      elements_are structs root (λ rank. subobjects structs given type (inner spot rank (rank * size_in structs type))) 0 count (λ rank.
      subobjects_are structs root given g type (inner spot rank (rank * size_in structs type))
      (along_more structs root spot.path (typed (Array type (Some count)) quals) rank type a refl))
  form_subobjects_are structs root given g (Struct id) quals spot a = (record { along = a; storable = refl }, g quals id spot a)
  form_subobjects_are structs root given g Void quals spot a = refl
  form_subobjects_are structs root given g (Integer b) quals spot a = (record { along = a; storable = refl }, refl)
  form_subobjects_are structs root given g (Enum b d) quals spot a = (record { along = a; storable = refl }, refl)
  form_subobjects_are structs root given g (Pointer t) quals spot a = (record { along = a; storable = refl }, refl)
  form_subobjects_are structs root given g (Function t ps v) quals spot a = refl

members_are : (structs : List Structure) (root : CType) (of : ℕ → CType → List Subobject) (all : List Member) (rank : ℕ) (ms : List Member) →
    ((k : ℕ) → slice_get ms k ≡ slice_get all (rank + k)) → ((rank : ℕ) (m : Member) → slice_get all rank ≡ Some m → AreSubobjects structs root (of rank m.ty)) →
    AreSubobjects structs root (of_members of rank ms)
members_are structs root of all rank [] h k = refl
members_are structs root of all rank (m ∷ ms) h k =
    let here : rank + 0 ≡ rank = grind arith in
    let next : (j : ℕ) → rank + suc j ≡ rank + 1 + j = λ j. grind arith in
    both_are structs root (of rank m.ty) (of_members of (rank + 1) ms) (k rank m (sym (h 0 ∙ ap (slice_get all) here)))
    (members_are structs root of all (rank + 1) ms (λ j. h (suc j) ∙ ap (slice_get all) (next j)) k)

members_if_any_are : (structs : List Structure) (root : CType) (of : ℕ → CType → List Subobject) (members : Option (List Member)) →
    ((rank : ℕ) (m : Member) → member_in rank members ≡ Some m → AreSubobjects structs root (of rank m.ty)) → AreSubobjects structs root (of_members_if_any of members)
members_if_any_are structs root of None k = refl
members_if_any_are structs root of (Some ms) k =
    let same : (j : ℕ) → j ≡ 0 + j = λ j. grind arith in
    members_are structs root of ms 0 ms (λ j. ap (slice_get ms) (same j)) k

member_subobjects_are : (depth : ℕ) (structs : List Structure) (root : CType) → GivenSound structs root (member_subobjects depth structs)
member_subobjects_are zero structs root quals id spot a = refl
member_subobjects_are (suc depth) structs root quals id spot a =
    members_if_any_are structs root _ (members_of structs id) (λ rank m e.
    subobjects_are structs root (member_subobjects depth structs) (member_subobjects_are depth structs root) (member_type quals m.ty) (inner spot rank _)
    (along_more structs root spot.path (typed (Struct id) quals) rank (member_type quals m.ty) a (ap (option_map (λ (m : Member). member_type quals m.ty)) e)))

pub all_subobjects_are : (structs : List Structure) (object : CType) → AreSubobjects structs object (subobjects_of structs object)
all_subobjects_are structs object =
    subobjects_are structs object (member_subobjects (complete_count structs) structs) (member_subobjects_are (complete_count structs) structs object) object
    (record { path = []; offset = 0 }) refl

-- ---- what decides

abbrev RestIs : (front path : List ℕ) → Option (List ℕ) → Type 0
RestIs front path None = true ≡ true
RestIs front path (Some rest) = front ++ rest ≡ path

rest_more : (r q : ℕ) (rs qs : List ℕ) (b : Bool) (o : Option (List ℕ)) → nat_eq r q ≡ b → RestIs rs qs o → RestIs (r ∷ rs) (q ∷ qs) (if b then o else None)
rest_more r q rs qs true None e h = refl
rest_more r q rs qs true (Some rest) e h =
    let same = eqb-true r q e in
    λ i. same i ∷ h i
rest_more r q rs qs false o e h = refl

inside_is : (front path : List ℕ) → RestIs front path (inside front path)
inside_is [] path = refl
inside_is (r ∷ rs) [] = refl
inside_is (r ∷ rs) (q ∷ qs) = rest_more r q rs qs (nat_eq r q) (inside rs qs) refl (inside_is rs qs)

record Decides (structs : List Structure) (root : CType) (path : List ℕ) (d : Deciding) : Type 0 where
  placed : FittedPlaced structs root d.placed
  whole : d.placed.path ++ d.onward ≡ path

abbrev IfDecides : List Structure → CType → List ℕ → Option Deciding → Type 0
IfDecides structs root path None = true ≡ true
IfDecides structs root path (Some d) = Decides structs root path d

one_decides : (structs : List Structure) (root : CType) (path : List ℕ) (p : Placed) (o : Option (List ℕ)) → FittedPlaced structs root p → RestIs p.path path o →
    IfDecides structs root path (option_map (λ onward. record { placed = p; onward = onward }) o)
one_decides structs root path p None h k = refl
one_decides structs root path p (Some onward) h k = record { placed = h; whole = k }

either_decides : (structs : List Structure) (root : CType) (path : List ℕ) (o p : Option Deciding) → IfDecides structs root path o → IfDecides structs root path p →
    IfDecides structs root path (option_or o p)
either_decides structs root path None p h k = k
either_decides structs root path (Some d) p h k = h

deciding_is : (structs : List Structure) (root : CType) (path : List ℕ) (ps : List Placed) → AreFitted structs root ps → IfDecides structs root path (deciding path ps)
deciding_is structs root path [] h = refl
deciding_is structs root path (p ∷ ps) h =
    either_decides structs root path (deciding path ps) (option_map (λ onward. record { placed = p; onward = onward }) (inside p.path path))
    (deciding_is structs root path ps h.1) (one_decides structs root path p (inside p.path path) h.0 (inside_is p.path path))

-- ---- the value that it gives

abbrev pub IfOfType : CType → Option unit.Expr → Type 0
IfOfType type None = true ≡ true
IfOfType type (Some e) = OfType type e

either_of_type : (type : CType) (o p : Option unit.Expr) → IfOfType type o → IfOfType type p → IfOfType type (option_or o p)
either_of_type type None p h k = k
either_of_type type (Some e) p h k = h

signed_by : (bits : ℕ) (b : Bool) → bits < 256 → nat_le bits 127 ≡ b →
    (int_le (neg_ℤ (pos 128)) (if b then pos bits else pos bits -ℤ pos 256) && int_le (if b then pos bits else pos bits -ℤ pos 256) (pos 127)) ≡ true
signed_by bits true h e = grind arith
signed_by bits false h e = grind arith

signed_fits : (bits : ℕ) → bits < 256 → fits basic.Char (value_of basic.Char bits) ≡ true
signed_fits bits h = signed_by bits (nat_le bits 127) h refl

unsigned_fits : (bits : ℕ) → bits < 256 → fits basic.UnsignedChar (value_of basic.UnsignedChar bits) ≡ true
unsigned_fits bits h = grind arith

-- the bits of a byte, as those of a type of characters
byte_fits : (b : Basic) (byte : ℕ) → is_character (Integer b) ≡ true → fits b (convert b (pos byte)) ≡ true
byte_fits basic.Char byte h = signed_fits (byte % 256) (mod_below byte 256 (lit< tt))
byte_fits basic.SignedChar byte h = signed_fits (byte % 256) (mod_below byte 256 (lit< tt))
byte_fits basic.UnsignedChar byte h = unsigned_fits (byte % 256) (mod_below byte 256 (lit< tt))
byte_fits b byte h = cc

character_of_type : (type : CType) (byte : ℕ) (first : Place) → is_character (form_of_type type) ≡ true → OfType type (character (basic_of (form_of_type type)) byte first)
character_of_type (typed (Integer b) q) byte first h = record { typed_by = byte_fits b byte h; same = basic_self b }
character_of_type (typed Void q) byte first h = cc
character_of_type (typed (Enum b d) q) byte first h = cc
character_of_type (typed (Pointer t) q) byte first h = cc
character_of_type (typed (Array t n) q) byte first h = cc
character_of_type (typed (Struct s) q) byte first h = cc
character_of_type (typed (Function t ps v) q) byte first h = cc

element_is_character : (structs : List Structure) (t : CType) (ranks : List ℕ) (type : CType) → is_character (form_of_type t) ≡ true →
    type_along structs t ranks ≡ Some type → is_character (form_of_type type) ≡ true
element_is_character structs t [] type h e =
    let same : t ≡ type = cc in
    ap (λ t. is_character (form_of_type t)) (sym same) ∙ h
element_is_character structs (typed (Integer b) q) (r ∷ rs) type h e = cc
element_is_character structs (typed Void q) (r ∷ rs) type h e = cc
element_is_character structs (typed (Enum b d) q) (r ∷ rs) type h e = cc
element_is_character structs (typed (Pointer t) q) (r ∷ rs) type h e = cc
element_is_character structs (typed (Array t n) q) (r ∷ rs) type h e = cc
element_is_character structs (typed (Struct s) q) (r ∷ rs) type h e = cc
element_is_character structs (typed (Function t ps v) q) (r ∷ rs) type h e = cc

array_element : (structs : List Structure) (whole : CType) (rank : ℕ) (ranks : List ℕ) (type : CType) → is_character_array (form_of_type whole) ≡ true →
    type_along structs whole (rank ∷ ranks) ≡ Some type → is_character (form_of_type type) ≡ true
array_element structs (typed (Array t n) q) rank ranks type h e = element_is_character structs t ranks type h e
array_element structs (typed (Integer b) q) rank ranks type h e = cc
array_element structs (typed Void q) rank ranks type h e = cc
array_element structs (typed (Enum b d) q) rank ranks type h e = cc
array_element structs (typed (Pointer t) q) rank ranks type h e = cc
array_element structs (typed (Struct s) q) rank ranks type h e = cc
array_element structs (typed (Function t ps v) q) rank ranks type h e = cc

byte_of_type : (type : CType) (first : Place) (o : Option ℕ) → is_character (form_of_type type) ≡ true →
    IfOfType type (option_map (λ byte. character (basic_of (form_of_type type)) byte first) o)
byte_of_type type first None h = refl
byte_of_type type first (Some byte) h = character_of_type type byte first h

given_of_type : (structs : List Structure) (part : CType) (content : Content) (first : Place) (type : CType) (zeros : Option unit.Expr) (onward : List ℕ) →
    FittedContent part content → type_along structs part onward ≡ Some type → IfOfType type zeros → IfOfType type (given_by content first type zeros onward)
given_of_type structs part (Value value later) first type zeros [] h e z =
    let same : part ≡ type = cc in
    subst (λ t. OfType t value) same h
given_of_type structs part (Value value later) first type zeros (rank ∷ ranks) h e z = refl
given_of_type structs part (Text id bytes value) first type zeros [] h e z = refl
given_of_type structs part (Text id bytes value) first type zeros (rank ∷ ranks) h e z =
    either_of_type type (option_map (λ byte. character (basic_of (form_of_type type)) byte first) (slice_get bytes rank)) zeros
    (byte_of_type type first (slice_get bytes rank) (array_element structs part rank ranks type h e)) z
given_of_type structs part Zeros first type zeros onward h e z = z

decided_of_type : (structs : List Structure) (root : CType) (path : List ℕ) (type : CType) (zeros : Option unit.Expr) (o : Option Deciding) →
    IfDecides structs root path o → type_along structs root path ≡ Some type → IfOfType type zeros → IfOfType type (decided type zeros o)
decided_of_type structs root path type zeros None h e z = z
decided_of_type structs root path type zeros (Some d) h e z =
    given_of_type structs d.placed.type d.placed.content d.placed.first type zeros d.onward h.placed.content
    (sym (along_both structs root d.placed.path d.onward d.placed.type h.placed.along) ∙ (ap (type_along structs root) h.whole ∙ e)) z

-- ---- the zeros of what gets no value

abbrev pub ZerosTyped : (CType → Option unit.Expr) → Type 0
ZerosTyped zero_of = (type : CType) → IfOfType type (zero_of type)

zero_fits : (b : Basic) → fits b (pos 0) ≡ true
zero_fits basic.Bool = refl
zero_fits basic.Char = refl
zero_fits basic.SignedChar = refl
zero_fits basic.UnsignedChar = refl
zero_fits basic.Short = refl
zero_fits basic.UnsignedShort = refl
zero_fits basic.Int = refl
zero_fits basic.Unsigned = refl
zero_fits basic.Long = refl
zero_fits basic.UnsignedLong = refl
zero_fits basic.LongLong = refl
zero_fits basic.UnsignedLongLong = refl

pub no_zero_typed : ZerosTyped no_zero
no_zero_typed type = refl

pub written_zero_typed : (place : Place) → ZerosTyped (written_zero place)
written_zero_typed place (typed (Integer b) q) = record { typed_by = zero_fits b; same = form_self (Integer b) }
written_zero_typed place (typed (Enum b d) q) = record { typed_by = zero_fits b; same = form_self (Enum b d) }
written_zero_typed place (typed (Pointer t) q) = record { typed_by = refl; same = form_self (Pointer t) }
written_zero_typed place (typed Void q) = refl
written_zero_typed place (typed (Array t n) q) = refl
written_zero_typed place (typed (Struct s) q) = refl
written_zero_typed place (typed (Function t ps v) q) = refl

-- ---- all of them

-- what the object's type with its length has at a path, the type without it has there
abbrev pub Reaches : List Structure → (full object : CType) → Type 0
Reaches structs full object =
    (path : List ℕ) → (type : CType) → type_along structs full path ≡ Some type → is_storable (form_of_type type) ≡ true → type_along structs object path ≡ Some type

with_value_typed : (s : Subobject) (o : Option unit.Expr) (others : unit.Initials) → is_storable (form_of_type s.type) ≡ true → IfOfType s.type o →
    are_typed_values others ≡ true → are_typed_values (with_value s o others) ≡ true
with_value_typed s None others st h k = k
with_value_typed s (Some e) others st h k = rw (h.typed_by, st, h.same, k) refl

values_typed : (structs : List Structure) (full object : CType) (zero_of : CType → Option unit.Expr) (ps : List Placed) (ss : List Subobject) → Reaches structs full object →
    ZerosTyped zero_of → AreFitted structs object ps → AreSubobjects structs full ss → are_typed_values (values_of zero_of ps ss) ≡ true
values_typed structs full object zero_of ps [] r z f h = refl
values_typed structs full object zero_of ps (s ∷ ss) r z f h =
    with_value_typed s (decided s.type (zero_of s.type) (deciding s.spot.path ps)) (values_of zero_of ps ss) h.0.storable
    (decided_of_type structs object s.spot.path s.type (zero_of s.type) (deciding s.spot.path ps) (deciding_is structs object s.spot.path ps f)
    (r s.spot.path s.type h.0.along h.0.storable) (z s.type)) (values_typed structs full object zero_of ps ss r z f h.1)

pub initial_values_typed : (structs : List Structure) (full object : CType) (zero_of : CType → Option unit.Expr) (ps : List Placed) → Reaches structs full object →
    ZerosTyped zero_of → AreFitted structs object ps → are_typed_values (initial_values structs zero_of ps full) ≡ true
initial_values_typed structs full object zero_of ps r z f =
    values_typed structs full object zero_of ps (subobjects_of structs full) r z f (all_subobjects_are structs full)
