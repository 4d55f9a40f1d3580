-- What the rules of members make is typed.
use Rattle.std.proofs.Common.{◌≡◌, ◌∙◌, ap, sym, refl, ℕ, zero, suc, ◌+◌, Bool, true, false, ◌&&◌, if◌then◌else◌, List, [], ◌∷◌, Option, Some, None, Ok, slice_get}
use Rattle.std.specs.List.{list_all}
use Rattle.std.specs.Result.{IfOk}
use Rattle.std.proofs.lemmas.Bool.{and_parts, and_from, or_right}
use Rattle.cake_base.specs.declared.rules.Fault.{Fault}
use Rattle.model_types.specs.declared.marks.Mark.{Mark}
use Rattle.model_types.specs.declared.types.Quals.{Quals}
use Rattle.model_types.specs.Types.{CType, typed, Form, Void, Integer, Enum, Pointer, Array, Struct, Function, form_of_type, quals_of_type}
use Rattle.model_types.specs.Structures.{Member, Structure, members_of, members_in}
use Rattle.model_types.specs.Layout.{is_complete, complete_count}
use Rattle.model_types.specs.Texts.{same_text}
use Rattle.model_grammar.specs.declared.syntax.Name.{Name}
use Rattle.model_core.specs.CoreTypes.{object_type, unqualified, plain, pointee, is_pointer}
use Rattle.model_core.specs.TypedParts.{is_array, is_function, is_struct, is_scalar, is_object_pointer}
use Rattle.model_core.specs.TypedExpr.{form_of, object_form, is_typed_lvalue}
use Rattle.model_core.specs.TypedScope.{can_move}
use Rattle.model_core.specs.PossibleTypes.{is_possible, is_sized, has_order, member_fits, members_fit, structures_fit, are_structures}
use Rattle.model_core.specs.MemberTypes.{member_type}
use Rattle.model_core.specs.Core as unit
use Rattle.model_checking.specs.State.{Use, State, Both}
use Rattle.model_checking.specs.Meanings.{Meaning, a_place, a_value, a_function, a_target, Operand}
use Rattle.model_checking.specs.MadeCore.{meaning_type}
use Rattle.model_checking.specs.HeldValues.{held, with_held}
use Rattle.model_checking.specs.PointerRules.{points_to_object}
use Rattle.model_checking.specs.MemberRules.{Ranked, ranked_from, ranked_in, member_of, field, member_as, member, arrow_place, arrow}
use Rattle.typed_rule_laws.specs.TypedMeanings.{is_typed_value, is_typed_meaning, is_typed_operand, GivesTyped}
use Rattle.typed_rule_laws.proofs.TypeForms.{form_self, unqualified_possible}
use Rattle.typed_rule_laws.proofs.Values.{value_parts, value_from, object_parts, unqualified_value_type, value_form_from}
use Rattle.typed_rule_laws.proofs.Outcomes.{where_wanted, pointer_operand}
use Rattle.typed_rule_laws.proofs.UnaryForms.{IsTyped, place_from, place_object, object_pointer_pointer, complete_storable}

-- ---- the members of structures that fit are of possible, complete types

pub record MemberParts (structs : List Structure) (t : CType) : Type 0 where
  pub possible : is_possible structs t ≡ true
  pub complete : is_complete structs t ≡ true

pub none_ranked : (r : Ranked) → None ≡ Some r → ⊥
none_ranked r e = cc

members_fitting : (structs : List Structure) (rank : ℕ) (members : Option (List Member)) (ms : List Member) → members_fit structs rank members ≡ true →
    members ≡ Some ms → list_all (member_fits structs) ms ≡ true
members_fitting structs rank None ms h e = cc
members_fitting structs rank (Some []) ms h e = cc
members_fitting structs rank (Some (m ∷ others)) ms h e =
    let size = is_sized structs (plain (Struct (record { 0 = rank }))) in
    let order = has_order (complete_count structs) structs (record { 0 = rank }) in
    let all = (and_parts (list_all (member_fits structs) (m ∷ others)) size (and_parts (list_all (member_fits structs) (m ∷ others) && size) order h).0).0 in
    let same : (m ∷ others) ≡ ms = cc in
    ap (list_all (member_fits structs)) (sym same) ∙ all

fitting_members : (structs : List Structure) (rank k : ℕ) (ss : List Structure) (ms : List Member) → structures_fit structs rank ss ≡ true →
    members_in (slice_get ss k) ≡ Some ms → list_all (member_fits structs) ms ≡ true
fitting_members structs rank k [] ms h e = cc
fitting_members structs rank zero (s ∷ ss) ms h e =
    members_fitting structs rank s.members ms (and_parts (members_fit structs rank s.members) (structures_fit structs (suc rank) ss) h).0 e
fitting_members structs rank (suc k) (s ∷ ss) ms h e =
    fitting_members structs (suc rank) k ss ms (and_parts (members_fit structs rank s.members) (structures_fit structs (suc rank) ss) h).1 e

member_parts : (structs : List Structure) (m : Member) → member_fits structs m ≡ true → MemberParts structs m.ty
member_parts structs m h =
    let parts = and_parts (is_possible structs m.ty) (is_complete structs m.ty) h in
    record { possible = parts.0; complete = parts.1 }

ranked_by : (structs : List Structure) (rank : ℕ) (name : List ℕ) (m : Member) (ms : List Member) (r : Ranked) (b : Bool) → MemberParts structs m.ty →
    (ranked_from (rank + 1) name ms ≡ Some r → MemberParts structs r.type) →
    (if b then Some (record { rank = rank; type = m.ty }) else ranked_from (rank + 1) name ms) ≡ Some r → MemberParts structs r.type
ranked_by structs rank name m ms r true known others e =
    let same : m.ty ≡ r.type = cc in
    record { possible = ap (is_possible structs) (sym same) ∙ known.possible; complete = ap (is_complete structs) (sym same) ∙ known.complete }
ranked_by structs rank name m ms r false known others e = others e

ranked_parts : (structs : List Structure) (rank : ℕ) (name : List ℕ) (ms : List Member) (r : Ranked) → list_all (member_fits structs) ms ≡ true →
    ranked_from rank name ms ≡ Some r → MemberParts structs r.type
ranked_parts structs rank name [] r h e = absurd (none_ranked r e)
ranked_parts structs rank name (m ∷ ms) r h e =
    let parts = and_parts (member_fits structs m) (list_all (member_fits structs) ms) h in
    ranked_by structs rank name m ms r (same_text m.name name) (member_parts structs m parts.0) (λ e. ranked_parts structs (rank + 1) name ms r parts.1 e) e

ranked_among : (structs : List Structure) (name : List ℕ) (members : Option (List Member)) (r : Ranked) →
    ((ms : List Member) → members ≡ Some ms → list_all (member_fits structs) ms ≡ true) → ranked_in name members ≡ Some r → MemberParts structs r.type
ranked_among structs name None r fits e = absurd (none_ranked r e)
ranked_among structs name (Some ms) r fits e = ranked_parts structs 0 name ms r (fits ms refl) e

record Found (structs : List Structure) (f : Form) (r : Ranked) : Type 0 where
  of_structure : is_struct f ≡ true
  parts : MemberParts structs r.type

found : (structs : List Structure) (f : Form) (name : List ℕ) (r : Ranked) → are_structures structs ≡ true → member_of structs f name ≡ Some r → Found structs f r
found structs (Struct id) name r h e =
    record { of_structure = refl; parts = ranked_among structs name (members_of structs id) r (λ ms is. fitting_members structs 0 id.0 structs ms h is) e }
found structs Void name r h e = absurd (none_ranked r e)
found structs (Integer b) name r h e = absurd (none_ranked r e)
found structs (Enum b d) name r h e = absurd (none_ranked r e)
found structs (Pointer t) name r h e = absurd (none_ranked r e)
found structs (Array t n) name r h e = absurd (none_ranked r e)
found structs (Function t ps v) name r h e = absurd (none_ranked r e)

-- ---- the type of a member of an object differs from the member's in qualifiers alone

unqualified_member : (q : Quals) (t : CType) → unqualified (member_type q t) ≡ unqualified t
unqualified_member q (typed Void p) = refl
unqualified_member q (typed (Integer b) p) = refl
unqualified_member q (typed (Enum b d) p) = refl
unqualified_member q (typed (Pointer t) p) = refl
unqualified_member q (typed (Array t n) p) = ap (λ t. plain (Array t n)) (unqualified_member q t)
unqualified_member q (typed (Struct s) p) = refl
unqualified_member q (typed (Function t ps v) p) = refl

member_possible : (structs : List Structure) (q : Quals) (t : CType) → is_possible structs (member_type q t) ≡ is_possible structs t
member_possible structs q t =
    sym (unqualified_possible structs (member_type q t)) ∙ (ap (is_possible structs) (unqualified_member q t) ∙ unqualified_possible structs t)

complete_not_function : (structs : List Structure) (q : Quals) (t : CType) → is_complete structs t ≡ true → is_function (form_of_type (member_type q t)) ≡ false
complete_not_function structs q (typed Void p) c = refl
complete_not_function structs q (typed (Integer b) p) c = refl
complete_not_function structs q (typed (Enum b d) p) c = refl
complete_not_function structs q (typed (Pointer t) p) c = refl
complete_not_function structs q (typed (Array t n) p) c = refl
complete_not_function structs q (typed (Struct s) p) c = refl
complete_not_function structs q (typed (Function t ps v) p) c = cc

plain_complete : (structs : List Structure) (t : CType) → is_complete structs t ≡ true → is_function (form_of_type t) ≡ false
plain_complete structs (typed Void p) c = refl
plain_complete structs (typed (Integer b) p) c = refl
plain_complete structs (typed (Enum b d) p) c = refl
plain_complete structs (typed (Pointer t) p) c = refl
plain_complete structs (typed (Array t n) p) c = refl
plain_complete structs (typed (Struct s) p) c = refl
plain_complete structs (typed (Function t ps v) p) c = cc

-- ---- `.`

field_is_typed : (structs : List Structure) (object : unit.Lvalue) (name : Name) (mark : Mark) (m : Ranked) → is_typed_lvalue object ≡ true →
    is_struct (object_form object) ≡ true → MemberParts structs m.type → is_typed_meaning structs (field object name mark m) ≡ true
field_is_typed structs object name mark m h s parts =
    place_from structs (unit.Field object m.rank (member_type (quals_of_type (object_type object)) m.type) name.place mark)
    (and_from (is_typed_lvalue object) (is_struct (object_form object)) h s)
    (member_possible structs (quals_of_type (object_type object)) m.type ∙ parts.possible)
    (complete_not_function structs (quals_of_type (object_type object)) m.type parts.complete)

held_is_typed : (structs : List Structure) (id : ℕ) (e : unit.Expr) → is_typed_value structs e ≡ true → is_struct (form_of e) ≡ true → is_typed_lvalue (held id e) ≡ true
held_is_typed structs id e h s =
    rw ((value_parts structs e h).typed_by, s, or_right (is_scalar (form_of e)) true refl, form_self (form_of e)) refl

abbrev IsMade : List Structure → Both Meaning → Type 0
IsMade structs both = is_typed_meaning structs both.made ≡ true

value_member_by : (structs : List Structure) (usage : Use) (e : unit.Expr) (name : Name) (mark : Mark) (m : Ranked) (s : State) (b : Bool) → is_array (form_of_type m.type) ≡ b →
    is_typed_value structs e ≡ true → is_struct (form_of e) ≡ true → MemberParts structs m.type →
    IfOk {E = Fault} (if b then Ok (record { made = field (held s.scopes.ids e) name mark m; state = with_held usage e s })
    else Ok (record { made = a_value (unit.MemberValue e m.rank m.type name.place mark); state = s })) (IsMade structs)
value_member_by structs usage e name mark m s true is h st parts =
    field_is_typed structs (held s.scopes.ids e) name mark m (held_is_typed structs s.scopes.ids e h st) st parts
value_member_by structs usage e name mark m s false is h st parts =
    value_from structs (unit.MemberValue e m.rank m.type name.place mark)
    (rw ((value_parts structs e h).typed_by, st, complete_storable structs m.type parts.complete is) refl)
    (unqualified_value_type structs m.type parts.possible (value_form_from (form_of_type m.type) is (plain_complete structs m.type parts.complete)))

member_as_typed : (structs : List Structure) (usage : Use) (structure : Meaning) (name : Name) (mark : Mark) (o : Option Ranked) (s : State) →
    is_typed_meaning structs structure ≡ true → ((m : Ranked) → o ≡ Some m → Found structs (form_of_type (meaning_type structure)) m) →
    IfOk {E = Fault} (member_as usage structure name mark o s) (IsMade structs)
member_as_typed structs usage (a_place object known) name mark (Some m) s h find =
    let known_member = find m refl in
    field_is_typed structs object name mark m (object_parts structs object (place_object structs object known h)).typed_by known_member.of_structure known_member.parts
member_as_typed structs usage (a_value e) name mark (Some m) s h find =
    let known_member = find m refl in
    value_member_by structs usage e name mark m s (is_array (form_of_type m.type)) refl h known_member.of_structure known_member.parts
member_as_typed structs usage (a_function id type by_name at) name mark (Some m) s h find = tt
member_as_typed structs usage (a_target pointer) name mark (Some m) s h find = tt
member_as_typed structs usage (a_place object known) name mark None s h find = tt
member_as_typed structs usage (a_value e) name mark None s h find = tt
member_as_typed structs usage (a_function id type by_name at) name mark None s h find = tt
member_as_typed structs usage (a_target pointer) name mark None s h find = tt

pub member_is_typed : (usage : Use) (structure : Meaning) (name : Name) (mark : Mark) (s : State) → are_structures s.scopes.structs ≡ true →
    is_typed_meaning s.scopes.structs structure ≡ true →
    IfOk (member usage structure name mark s) (λ both. is_typed_meaning s.scopes.structs both.made ≡ true)
member_is_typed usage structure name mark s known h =
    let f = form_of_type (meaning_type structure) in
    where_wanted (IsMade s.scopes.structs) (is_struct f) mark.at 9 (member_as usage structure name mark (member_of s.scopes.structs f name.text) s)
    (λ w. member_as_typed s.scopes.structs usage structure name mark (member_of s.scopes.structs f name.text) s h (λ m e. found s.scopes.structs f name.text m known e))

-- ---- `->`

arrow_place_typed : (structs : List Structure) (o : Operand) (name : Name) (mark : Mark) (r : Option Ranked) → is_typed_value structs o.value ≡ true →
    is_pointer (form_of o.value) ≡ true → ((m : Ranked) → r ≡ Some m → Found structs (form_of_type (pointee (form_of o.value))) m) →
    GivesTyped structs (arrow_place o name mark r)
arrow_place_typed structs o name mark None h p find = tt
arrow_place_typed structs o name mark (Some m) h p find =
    let known = find m refl in
    let quals = quals_of_type (pointee (form_of o.value)) in
    place_from structs (unit.Arrow o.value m.rank (member_type quals m.type) name.place mark)
    (rw ((value_parts structs o.value h).typed_by, p, known.of_structure) refl)
    (member_possible structs quals m.type ∙ known.parts.possible) (complete_not_function structs quals m.type known.parts.complete)

pub arrow_is_typed : (structs : List Structure) (o : Operand) (name : Name) (mark : Mark) → are_structures structs ≡ true → is_typed_operand structs o.value ≡ true →
    GivesTyped structs (arrow structs o name mark)
arrow_is_typed structs o name mark known h =
    let f = form_of_type (pointee (form_of o.value)) in
    where_wanted (IsTyped structs) (points_to_object structs (form_of o.value)) o.first 12 (arrow_place o name mark (member_of structs f name.text)) (λ w.
    let pointer = object_pointer_pointer (form_of o.value) (and_parts (is_object_pointer (form_of o.value)) (can_move structs (form_of o.value)) w).0 in
    arrow_place_typed structs o name mark (member_of structs f name.text) (pointer_operand structs o.value h pointer) pointer
    (λ m e. found structs f name.text m known e))
