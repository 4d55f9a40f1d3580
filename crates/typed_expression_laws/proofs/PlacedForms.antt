-- What is placed for the subobjects of an object is typed, and of the type that its path leads to.
use Rattle.std.proofs.Common.{◌≡◌, ◌∙◌, ap, sym, subst, refl, ℕ, zero, suc, ◌+◌, nat_lt, Bool, true, false, ◌&&◌, if◌then◌else◌, List, [], ◌∷◌, ◌++◌, map, reverse, Option, Some, None, option_map, slice_get, Result, Ok, Err}
use Rattle.std.specs.List.{list_all, find}
use Rattle.std.specs.Option.{option_or, option_and_then, unwrap_or}
use Rattle.std.specs.Result.{IfOk}
use Rattle.std.proofs.lemmas.Bool.{and_parts}
use Rattle.std.proofs.lemmas.List.{map-append}
use Rattle.std.proofs.lemmas.Grind.{reverse_onto}
use Rattle.cake_base.specs.declared.places.Place.{Place}
use Rattle.cake_base.specs.declared.rules.Fault.{Fault}
use Rattle.model_types.specs.declared.types.StructId.{StructId}
use Rattle.model_types.specs.declared.types.Quals.{Quals}
use Rattle.model_types.specs.Types.{CType, typed, Form, Void, Integer, Enum, Pointer, Array, Struct, Function, form_of_type}
use Rattle.model_types.specs.Structures.{Member, Structure, members_of, members_in}
use Rattle.model_types.specs.Layout.{is_complete, complete_count}
use Rattle.model_core.specs.CoreTypes.{plain, type_of, unqualified}
use Rattle.model_core.specs.TypedParts.{is_array}
use Rattle.model_core.specs.MemberTypes.{member_type, member_in}
use Rattle.model_core.specs.PossibleTypes.{is_possible, is_sized, has_order, member_fits, members_fit, structures_fit, are_structures}
use Rattle.model_core.specs.Core as unit
use Rattle.model_checking.specs.Parts.{Given, a_value, a_text, in_braces, faulty, GivenStep, to_element, to_no_element, to_member, faulty_index, GivenItems, no_given, more_given}
use Rattle.model_scopes.specs.DeclarationRules.{constraint_at}
use Rattle.model_checking.specs.State.{breaks}
use Rattle.model_checking.specs.Ways.{Step, Bare, a_string, a_value_of, reached, ranks, part_type, step_to, start, behind, is_aggregate, member_rank, is_character_array, takes, inward, inward_form, inward_step, inward_struct, taker}
use Rattle.model_checking.specs.Placing as placing
use Rattle.model_checking.specs.Placing.{Content, Value, Text, Zeros, Placed, Placement, nothing, stopped, before, unless_stopped, and_behind, on_way, or_breaks, designated_one, designated, begin, given_first, with_own, aimed_from, aimed, alone, is_long_enough, string_at, are_no_more, lone, whole_string, place_at, place_list, fits_whole, placement}
use Rattle.typed_rule_laws.specs.TypedMeanings.{is_typed_operand}
use Rattle.typed_rule_laws.proofs.TypeForms.{unqualified_possible}
use Rattle.typed_expression_laws.proofs.GivenForms.{is_typed_given, are_typed_items, TypedGiven, TypedItems}

-- ---- the elements and members of a type, those of an array whatever its length is

abbrev pub part_of : List Structure → (whole : CType) → (rank : ℕ) → Option CType
part_of structs (typed (Array type length) quals) rank = Some type
part_of structs (typed (Struct id) quals) rank = option_map (λ m. member_type quals m.ty) (member_in rank (members_of structs id))
part_of structs (typed Void quals) rank = None
part_of structs (typed (Integer b) quals) rank = None
part_of structs (typed (Enum b d) quals) rank = None
part_of structs (typed (Pointer t) quals) rank = None
part_of structs (typed (Function t ps v) quals) rank = None

if_some : (b : Bool) (t u : CType) → (if b then Some t else None) ≡ Some u → Some t ≡ Some u
if_some true t u h = h
if_some false t u h = cc

pub part_as : (structs : List Structure) (whole : CType) (rank : ℕ) (t : CType) → part_type structs whole rank ≡ Some t → part_of structs whole rank ≡ Some t
part_as structs (typed (Array type None) q) rank t h = h
part_as structs (typed (Array type (Some n)) q) rank t h = if_some (nat_lt rank n) type t h
part_as structs (typed (Struct id) q) rank t h = h
part_as structs (typed Void q) rank t h = h
part_as structs (typed (Integer b) q) rank t h = h
part_as structs (typed (Enum b d) q) rank t h = h
part_as structs (typed (Pointer u) q) rank t h = h
part_as structs (typed (Function u ps v) q) rank t h = h

unqualified_member : (q : Quals) (t : CType) → unqualified (member_type q t) ≡ unqualified t
unqualified_member q (typed Void p) = refl
unqualified_member q (typed (Integer b) p) = refl
unqualified_member q (typed (Enum b d) p) = refl
unqualified_member q (typed (Pointer t) p) = refl
unqualified_member q (typed (Array t n) p) = ap (λ t. plain (Array t n)) (unqualified_member q t)
unqualified_member q (typed (Struct s) p) = refl
unqualified_member q (typed (Function t ps v) p) = refl

member_possible : (structs : List Structure) (q : Quals) (t : CType) → is_possible structs (member_type q t) ≡ is_possible structs t
member_possible structs q t =
    sym (unqualified_possible structs (member_type q t)) ∙ (ap (is_possible structs) (unqualified_member q t) ∙ unqualified_possible structs t)

members_fitting : (structs : List Structure) (rank : ℕ) (members : Option (List Member)) (ms : List Member) → members_fit structs rank members ≡ true →
    members ≡ Some ms → list_all (member_fits structs) ms ≡ true
members_fitting structs rank None ms h e = cc
members_fitting structs rank (Some []) ms h e = cc
members_fitting structs rank (Some (m ∷ others)) ms h e =
    let size = is_sized structs (plain (Struct (record { 0 = rank }))) in
    let order = has_order (complete_count structs) structs (record { 0 = rank }) in
    let all = (and_parts (list_all (member_fits structs) (m ∷ others)) size (and_parts (list_all (member_fits structs) (m ∷ others) && size) order h).0).0 in
    let same : (m ∷ others) ≡ ms = cc in
    ap (list_all (member_fits structs)) (sym same) ∙ all

fitting_members : (structs : List Structure) (rank k : ℕ) (ss : List Structure) (ms : List Member) → structures_fit structs rank ss ≡ true →
    members_in (slice_get ss k) ≡ Some ms → list_all (member_fits structs) ms ≡ true
fitting_members structs rank k [] ms h e = cc
fitting_members structs rank zero (s ∷ ss) ms h e =
    members_fitting structs rank s.members ms (and_parts (members_fit structs rank s.members) (structures_fit structs (suc rank) ss) h).0 e
fitting_members structs rank (suc k) (s ∷ ss) ms h e =
    fitting_members structs (suc rank) k ss ms (and_parts (members_fit structs rank s.members) (structures_fit structs (suc rank) ss) h).1 e

fits_at : (structs : List Structure) (ms : List Member) (rank : ℕ) (m : Member) → list_all (member_fits structs) ms ≡ true → slice_get ms rank ≡ Some m → is_possible structs m.ty ≡ true
fits_at structs [] rank m h e = cc
fits_at structs (x ∷ xs) zero m h e =
    let same : x ≡ m = cc in
    subst (λ (m : Member). is_possible structs m.ty ≡ true) same
    (and_parts (is_possible structs x.ty) (is_complete structs x.ty) (and_parts (member_fits structs x) (list_all (member_fits structs) xs) h).0).0
fits_at structs (x ∷ xs) (suc rank) m h e = fits_at structs xs rank m (and_parts (member_fits structs x) (list_all (member_fits structs) xs) h).1 e

member_at_fits : (structs : List Structure) (members : Option (List Member)) (rank : ℕ) (m : Member) →
    ((ms : List Member) → members ≡ Some ms → list_all (member_fits structs) ms ≡ true) → member_in rank members ≡ Some m → is_possible structs m.ty ≡ true
member_at_fits structs None rank m h e = cc
member_at_fits structs (Some ms) rank m h e = fits_at structs ms rank m (h ms refl) e

member_part_possible : (structs : List Structure) (q : Quals) (o : Option Member) (t : CType) → ((m : Member) → o ≡ Some m → is_possible structs m.ty ≡ true) →
    option_map (λ (m : Member). member_type q m.ty) o ≡ Some t → is_possible structs t ≡ true
member_part_possible structs q None t h e = cc
member_part_possible structs q (Some m) t h e =
    let same : member_type q m.ty ≡ t = cc in
    ap (is_possible structs) (sym same) ∙ (member_possible structs q m.ty ∙ h m refl)

pub part_possible : (structs : List Structure) (whole : CType) (rank : ℕ) (t : CType) → are_structures structs ≡ true → is_possible structs whole ≡ true →
    part_of structs whole rank ≡ Some t → is_possible structs t ≡ true
part_possible structs (typed (Array type n) q) rank t k h e =
    let same : type ≡ t = cc in
    ap (is_possible structs) (sym same) ∙ (and_parts _ _ (and_parts _ _ h).0).0
part_possible structs (typed (Struct id) q) rank t k h e =
    member_part_possible structs q (member_in rank (members_of structs id)) t
    (λ m is. member_at_fits structs (members_of structs id) rank m (λ ms known. fitting_members structs 0 id.0 structs ms k known) is) e
part_possible structs (typed Void q) rank t k h e = cc
part_possible structs (typed (Integer b) q) rank t k h e = cc
part_possible structs (typed (Enum b d) q) rank t k h e = cc
part_possible structs (typed (Pointer u) q) rank t k h e = cc
part_possible structs (typed (Function u ps v) q) rank t k h e = cc

-- the type to which a path leads
abbrev pub type_along : List Structure → CType → (path : List ℕ) → Option CType
type_along structs whole [] = Some whole
type_along structs whole (rank ∷ path) = option_and_then (λ part. type_along structs part path) (part_of structs whole rank)

along_part : (structs : List Structure) (o : Option CType) (path path' : List ℕ) (t : CType) →
    ((part : CType) → type_along structs part path ≡ Some t → type_along structs part (path ++ path') ≡ type_along structs t path') →
    option_and_then (λ part. type_along structs part path) o ≡ Some t → option_and_then (λ part. type_along structs part (path ++ path')) o ≡ type_along structs t path'
along_part structs None path path' t h e = cc
along_part structs (Some part) path path' t h e = h part e

pub along_both : (structs : List Structure) (whole : CType) (path path' : List ℕ) (t : CType) → type_along structs whole path ≡ Some t →
    type_along structs whole (path ++ path') ≡ type_along structs t path'
along_both structs whole [] path' t e =
    let same : whole ≡ t = cc in
    ap (λ t. type_along structs t path') same
along_both structs whole (rank ∷ path) path' t e =
    along_part structs (part_of structs whole rank) path path' t (λ part k. along_both structs part path path' t k) e

and_then_part : (structs : List Structure) (o : Option CType) (t : CType) → o ≡ Some t → option_and_then (λ part. type_along structs part []) o ≡ Some t
and_then_part structs o t e = ap (option_and_then (λ part. type_along structs part [])) e

pub along_more : (structs : List Structure) (root : CType) (path : List ℕ) (whole : CType) (rank : ℕ) (t : CType) → type_along structs root path ≡ Some whole →
    part_of structs whole rank ≡ Some t → type_along structs root (path ++ rank ∷ []) ≡ Some t
along_more structs root path whole rank t h e = along_both structs root path (rank ∷ []) whole h ∙ and_then_part structs (part_of structs whole rank) t e

-- ---- ways

abbrev pub IsWay : List Structure → CType → List Step → Type 0
IsWay structs object [] = true ≡ true
IsWay structs object (last ∷ outer) = (last.whole ≡ reached object outer) × ((part_of structs last.whole last.rank ≡ Some last.part) × IsWay structs object outer)

abbrev pub WaysAre : List Structure → CType → Option (List Step) → Type 0
WaysAre structs object None = true ≡ true
WaysAre structs object (Some way) = IsWay structs object way

pub way_possible : (structs : List Structure) (object : CType) (way : List Step) → are_structures structs ≡ true → is_possible structs object ≡ true →
    IsWay structs object way → is_possible structs (reached object way) ≡ true
way_possible structs object [] k h w = h
way_possible structs object (last ∷ outer) k h w =
    part_possible structs last.whole last.rank last.part k (ap (is_possible structs) w.0 ∙ way_possible structs object outer k h w.1.1) w.1.0

ranks_more : (last : Step) (outer : List Step) → ranks (last ∷ outer) ≡ ranks outer ++ last.rank ∷ []
ranks_more last outer =
    ap (map (λ (s : Step). s.rank)) (reverse_onto outer last []) ∙ map-append (λ (s : Step). s.rank) (reverse outer) (last ∷ [])

pub way_along : (structs : List Structure) (object : CType) (way : List Step) → IsWay structs object way → type_along structs object (ranks way) ≡ Some (reached object way)
way_along structs object [] w = refl
way_along structs object (last ∷ outer) w =
    ap (type_along structs object) (ranks_more last outer) ∙
    along_more structs object (ranks outer) last.whole last.rank last.part (way_along structs object outer w.1.1 ∙ ap Some (sym w.0)) w.1.0

step_by : (structs : List Structure) (object whole : CType) (rank : ℕ) (way : List Step) (o : Option CType) → part_type structs whole rank ≡ o → whole ≡ reached object way →
    IsWay structs object way →
    WaysAre structs object (option_map (λ last. last ∷ way) (option_map (λ part. record { whole = whole; rank = rank; part = part }) o))
step_by structs object whole rank way None e same w = refl
step_by structs object whole rank way (Some part) e same w = (same, (part_as structs whole rank part e, w))

pub step_way : (structs : List Structure) (object whole : CType) (rank : ℕ) (way : List Step) → whole ≡ reached object way → IsWay structs object way →
    WaysAre structs object (step_to structs whole rank way)
step_way structs object whole rank way same w = step_by structs object whole rank way (part_type structs whole rank) refl same w

either_way : (structs : List Structure) (object : CType) (o p : Option (List Step)) → WaysAre structs object o → WaysAre structs object p → WaysAre structs object (option_or o p)
either_way structs object None p h k = k
either_way structs object (Some way) p h k = h

pub behind_way : (structs : List Structure) (object : CType) (way : List Step) → IsWay structs object way → WaysAre structs object (behind structs way)
behind_way structs object [] w = refl
behind_way structs object (last ∷ outer) w =
    either_way structs object (step_to structs last.whole (last.rank + 1) outer) (behind structs outer) (step_way structs object last.whole (last.rank + 1) outer w.0 w.1.1)
    (behind_way structs object outer w.1.1)

start_by : (structs : List Structure) (object : CType) (b : Bool) → WaysAre structs object (if b then step_to structs object 0 [] else Some [])
start_by structs object true = step_way structs object object 0 [] refl refl
start_by structs object false = refl

pub start_way : (structs : List Structure) (object : CType) → WaysAre structs object (start structs object)
start_way structs object = start_by structs object (is_aggregate (form_of_type object))

-- ---- the ways inward

abbrev pub AreWays : List Structure → CType → List (List Step) → Type 0
AreWays structs object [] = true ≡ true
AreWays structs object (way ∷ ways) = IsWay structs object way × AreWays structs object ways

abbrev InwardSound : List Structure → CType → (CType → StructId → List Step → List (List Step)) → Type 0
InwardSound structs object given =
    (whole : CType) → (id : StructId) → (way : List Step) → whole ≡ reached object way → IsWay structs object way → AreWays structs object (given whole id way)

mutual
  inward_ways : (structs : List Structure) (object : CType) (given : CType → StructId → List Step → List (List Step)) → InwardSound structs object given →
      (type : CType) (way : List Step) → type ≡ reached object way → IsWay structs object way → AreWays structs object (inward given type way)
  inward_ways structs object given g (typed form quals) way same w = (w, inward_form_ways structs object given g form quals way same w)

  inward_form_ways : (structs : List Structure) (object : CType) (given : CType → StructId → List Step → List (List Step)) → InwardSound structs object given →
      (form : Form) (quals : Quals) (way : List Step) → typed form quals ≡ reached object way → IsWay structs object way →
      AreWays structs object (inward_form given (typed form quals) form way)
  inward_form_ways structs object given g (Array type length) quals way same w =
      inward_ways structs object given g type (record { whole = typed (Array type length) quals; rank = 0; part = type } ∷ way) refl (same, (refl, w))
  inward_form_ways structs object given g (Struct id) quals way same w = g (typed (Struct id) quals) id way same w
  inward_form_ways structs object given g Void quals way same w = refl
  inward_form_ways structs object given g (Integer b) quals way same w = refl
  inward_form_ways structs object given g (Enum b d) quals way same w = refl
  inward_form_ways structs object given g (Pointer t) quals way same w = refl
  inward_form_ways structs object given g (Function t ps v) quals way same w = refl

inward_step_ways : (structs : List Structure) (object whole : CType) (given : CType → StructId → List Step → List (List Step)) → InwardSound structs object given →
    (o : Option CType) (way : List Step) → part_type structs whole 0 ≡ o → whole ≡ reached object way → IsWay structs object way →
    AreWays structs object (inward_step given (option_map (λ part. record { whole = whole; rank = 0; part = part }) o) way)
inward_step_ways structs object whole given g None way e same w = refl
inward_step_ways structs object whole given g (Some part) way e same w =
    inward_ways structs object given g part (record { whole = whole; rank = 0; part = part } ∷ way) refl (same, (part_as structs whole 0 part e, w))

inward_struct_ways : (depth : ℕ) (structs : List Structure) (object : CType) → InwardSound structs object (inward_struct depth structs)
inward_struct_ways zero structs object whole id way same w = refl
inward_struct_ways (suc depth) structs object whole id way same w =
    inward_step_ways structs object whole (inward_struct depth structs) (inward_struct_ways depth structs object) (part_type structs whole 0) way refl same w

-- ---- which one takes it

abbrev TakesIt : List Structure → CType → (List Step → Bool) → Option (List Step) → Type 0
TakesIt structs object test None = true ≡ true
TakesIt structs object test (Some way) = IsWay structs object way × (test way ≡ true)

found_by : (structs : List Structure) (object : CType) (test : List Step → Bool) (b : Bool) (way : List Step) (other : Option (List Step)) → test way ≡ b →
    IsWay structs object way → TakesIt structs object test other → TakesIt structs object test (if b then Some way else other)
found_by structs object test true way other e w h = (w, e)
found_by structs object test false way other e w h = h

found : (structs : List Structure) (object : CType) (test : List Step → Bool) (ways : List (List Step)) → AreWays structs object ways →
    TakesIt structs object test (find test ways)
found structs object test [] w = refl
found structs object test (way ∷ ways) w = found_by structs object test (test way) way (find test ways) refl w.0 (found structs object test ways w.1)

taker_way : (structs : List Structure) (bare : Bare) (object : CType) (way : List Step) → IsWay structs object way →
    TakesIt structs object (λ further. takes bare (form_of_type (reached object further))) (taker structs bare object way)
taker_way structs bare object way w =
    found structs object (λ further. takes bare (form_of_type (reached object further))) (inward (inward_struct (complete_count structs) structs) (reached object way) way)
    (inward_ways structs object (inward_struct (complete_count structs) structs) (inward_struct_ways (complete_count structs) structs object) (reached object way) way refl w)

-- a string is for a scalar or an array of characters
abbrev pub FitsGiven : Form → Given → Type 0
FitsGiven form (a_value value first later) = true ≡ true
FitsGiven form (a_text id bytes value first) = takes a_string form ≡ true
FitsGiven form (in_braces items place) = true ≡ true
FitsGiven form (faulty fault first) = true ≡ true

abbrev Aims : List Structure → CType → Given → List Step → Type 0
Aims structs object given way = IsWay structs object way × FitsGiven (form_of_type (reached object way)) given

value_aims : (structs : List Structure) (object : CType) (value : unit.Expr) (first : Place) (later : Option Fault) (test : List Step → Bool) (o : Option (List Step)) →
    TakesIt structs object test o → IfOk (or_breaks o first 35) (Aims structs object (a_value value first later))
value_aims structs object value first later test None h = tt
value_aims structs object value first later test (Some way) h = (h.0, refl)

text_aims : (structs : List Structure) (object : CType) (id : ℕ) (bytes : List ℕ) (value : unit.Expr) (first : Place) (o : Option (List Step)) →
    TakesIt structs object (λ further. takes a_string (form_of_type (reached object further))) o → IfOk (or_breaks o first 35) (Aims structs object (a_text id bytes value first))
text_aims structs object id bytes value first None h = tt
text_aims structs object id bytes value first (Some way) h = h

aimed_from_way : (structs : List Structure) (object : CType) (given : Given) (way : List Step) → IsWay structs object way →
    IfOk (aimed_from structs object given way) (Aims structs object given)
aimed_from_way structs object (a_value value first later) way w =
    value_aims structs object value first later (λ further. takes (a_value_of (type_of value)) (form_of_type (reached object further)))
    (taker structs (a_value_of (type_of value)) object way) (taker_way structs (a_value_of (type_of value)) object way w)
aimed_from_way structs object (a_text id bytes value first) way w =
    text_aims structs object id bytes value first (taker structs a_string object way) (taker_way structs a_string object way w)
aimed_from_way structs object (in_braces items place) way w = (w, refl)
aimed_from_way structs object (faulty fault first) way w = tt

aimed_way : (structs : List Structure) (object : CType) (given : Given) (r : Result (List Step) Fault) → IfOk r (IsWay structs object) →
    IfOk (aimed structs object given r) (Aims structs object given)
aimed_way structs object given (Ok way) h = aimed_from_way structs object given way h
aimed_way structs object given (Err fault) h = tt

-- ---- where designators lead

or_breaks_way : (structs : List Structure) (object : CType) (o : Option (List Step)) (place : Place) (rule : ℕ) → WaysAre structs object o →
    IfOk (or_breaks o place rule) (IsWay structs object)
or_breaks_way structs object None place rule h = tt
or_breaks_way structs object (Some way) place rule h = h

element_way : (structs : List Structure) (object : CType) (b : Bool) (o : Option (List Step)) (place : Place) → WaysAre structs object o →
    IfOk (if b then or_breaks o place 34 else breaks place 34) (IsWay structs object)
element_way structs object true o place h = or_breaks_way structs object o place 34 h
element_way structs object false o place h = tt

faulty_way : (structs : List Structure) (object : CType) (b : Bool) (fault : Fault) (place : Place) →
    IfOk (if b then Err fault else breaks place 34) (IsWay structs object)
faulty_way structs object true fault place = tt
faulty_way structs object false fault place = tt

member_way : (structs : List Structure) (object : CType) (whole : CType) (o : Option ℕ) (way : List Step) → whole ≡ reached object way → IsWay structs object way →
    WaysAre structs object (option_and_then (λ rank. step_to structs whole rank way) o)
member_way structs object whole None way same w = refl
member_way structs object whole (Some rank) way same w = step_way structs object whole rank way same w

designated_one_way : (structs : List Structure) (object whole : CType) (d : GivenStep) (way : List Step) → whole ≡ reached object way → IsWay structs object way →
    IfOk (designated_one structs whole d way) (IsWay structs object)
designated_one_way structs object whole (to_element index place) way same w =
    element_way structs object (is_array (form_of_type whole)) (step_to structs whole index way) place (step_way structs object whole index way same w)
designated_one_way structs object whole (to_no_element place) way same w = tt
designated_one_way structs object whole (faulty_index fault place) way same w = faulty_way structs object (is_array (form_of_type whole)) fault place
designated_one_way structs object whole (to_member name place) way same w =
    or_breaks_way structs object (option_and_then (λ rank. step_to structs whole rank way) (member_rank structs (form_of_type whole) name)) place 34
    (member_way structs object whole (member_rank structs (form_of_type whole) name) way same w)

designated_after : (structs : List Structure) (object : CType) (ds : List GivenStep) (r : Result (List Step) Fault) → IfOk r (IsWay structs object) →
    ((way : List Step) → IsWay structs object way → IfOk (designated structs object ds way) (IsWay structs object)) →
    IfOk (placing.after r (designated structs object ds)) (IsWay structs object)
designated_after structs object ds (Ok way) h k = k way h
designated_after structs object ds (Err fault) h k = tt

designated_way : (structs : List Structure) (object : CType) (ds : List GivenStep) (way : List Step) → IsWay structs object way →
    IfOk (designated structs object ds way) (IsWay structs object)
designated_way structs object [] way w = w
designated_way structs object (d ∷ ds) way w =
    designated_after structs object ds (designated_one structs (reached object way) d way) (designated_one_way structs object (reached object way) d way refl w)
    (λ next n. designated_way structs object ds next n)

begin_way : (structs : List Structure) (object : CType) (next : Option (List Step)) (ds : List GivenStep) (first : Place) → WaysAre structs object next →
    IfOk (begin structs object next ds first) (IsWay structs object)
begin_way structs object next [] first h = or_breaks_way structs object next first 33 h
begin_way structs object next (d ∷ ds) first h = designated_way structs object (d ∷ ds) [] refl

-- ---- what is placed

abbrev pub TypedContent : List Structure → CType → Content → Type 0
TypedContent structs type (Value value later) = is_typed_operand structs value ≡ true
TypedContent structs type (Text id bytes value) = (is_typed_operand structs value ≡ true) × (takes a_string (form_of_type type) ≡ true)
TypedContent structs type Zeros = true ≡ true

pub record TypedPlaced (structs : List Structure) (root : CType) (p : Placed) : Type 0 where
  pub possible : is_possible structs p.type ≡ true
  pub along : type_along structs root p.path ≡ Some p.type
  pub content : TypedContent structs p.type p.content

abbrev pub ArePlaced : List Structure → CType → List Placed → Type 0
ArePlaced structs root [] = true ≡ true
ArePlaced structs root (p ∷ ps) = TypedPlaced structs root p × ArePlaced structs root ps

abbrev pub GoodPlacement : List Structure → CType → Placement → Type 0
GoodPlacement structs root x = ArePlaced structs root x.placed

both_placed : (structs : List Structure) (root : CType) (ps qs : List Placed) → ArePlaced structs root ps → ArePlaced structs root qs → ArePlaced structs root (ps ++ qs)
both_placed structs root [] qs h k = k
both_placed structs root (p ∷ ps) qs h k = (h.0, both_placed structs root ps qs h.1 k)

behind_placed : (structs : List Structure) (root : CType) (ps : List Placed) (fault : Option Fault) (others : Placement) → ArePlaced structs root ps →
    GoodPlacement structs root others → GoodPlacement structs root (unless_stopped ps fault others)
behind_placed structs root ps None others h k = both_placed structs root ps others.placed h k
behind_placed structs root ps (Some fault) others h k = h

-- the object at a path
pub record PartAt (structs : List Structure) (root part : CType) (path : List ℕ) : Type 0 where
  pub possible : is_possible structs part ≡ true
  pub along : type_along structs root path ≡ Some part

string_by : (structs : List Structure) (root part : CType) (path : List ℕ) (id : ℕ) (bytes : List ℕ) (value : unit.Expr) (first : Place) (fault : Fault) (b : Bool) →
    PartAt structs root part path → is_typed_operand structs value ≡ true → takes a_string (form_of_type part) ≡ true →
    GoodPlacement structs root (if b then alone (record { path = path; type = part; content = Text id bytes value; first = first }) else stopped fault)
string_by structs root part path id bytes value first fault true at h k = (record { possible = at.possible; along = at.along; content = (h, k) }, refl)
string_by structs root part path id bytes value first fault false at h k = refl

string_placed : (structs : List Structure) (root part : CType) (path : List ℕ) (id : ℕ) (bytes : List ℕ) (value : unit.Expr) (first : Place) →
    PartAt structs root part path → is_typed_operand structs value ≡ true → takes a_string (form_of_type part) ≡ true →
    GoodPlacement structs root (string_at part path id bytes value first)
string_placed structs root part path id bytes value first at h k =
    string_by structs root part path id bytes value first (constraint_at first 33) (is_long_enough (form_of_type part) bytes) at h k

abbrev TypedIfAny : List Structure → Option Given → Type 0
TypedIfAny structs None = true ≡ true
TypedIfAny structs (Some given) = TypedGiven structs given

lone_by : (structs : List Structure) (first : Given) (b : Bool) → TypedGiven structs first → TypedIfAny structs (if b then Some first else None)
lone_by structs first true h = h
lone_by structs first false h = refl

lone_typed : (structs : List Structure) (items : GivenItems) → TypedItems structs items → TypedIfAny structs (lone items)
lone_typed structs no_given h = refl
lone_typed structs (more_given [] first others) h =
    lone_by structs first (are_no_more others) (and_parts (is_typed_given structs first) (are_typed_items structs others) h).0
lone_typed structs (more_given (d ∷ ds) first others) h = refl

takes_string : (form : Form) → is_character_array form ≡ true → takes a_string form ≡ true
takes_string (Array type n) h = h
takes_string Void h = cc
takes_string (Integer b) h = cc
takes_string (Enum b d) h = cc
takes_string (Pointer t) h = cc
takes_string (Struct s) h = cc
takes_string (Function t ps v) h = cc

whole_by : (structs : List Structure) (root part : CType) (path : List ℕ) (id : ℕ) (bytes : List ℕ) (value : unit.Expr) (first : Place) (b : Bool) (other : Placement) →
    is_character_array (form_of_type part) ≡ b → PartAt structs root part path → is_typed_operand structs value ≡ true → GoodPlacement structs root other →
    GoodPlacement structs root (unwrap_or (if b then Some (string_at part path id bytes value first) else None) other)
whole_by structs root part path id bytes value first true other e at h k =
    string_placed structs root part path id bytes value first at h (takes_string (form_of_type part) e)
whole_by structs root part path id bytes value first false other e at h k = k

whole_placed : (structs : List Structure) (root part : CType) (path : List ℕ) (o : Option Given) (other : Placement) → PartAt structs root part path →
    TypedIfAny structs o → GoodPlacement structs root other → GoodPlacement structs root (unwrap_or (whole_string part path o) other)
whole_placed structs root part path None other at h k = k
whole_placed structs root part path (Some (a_text id bytes value first)) other at h k =
    whole_by structs root part path id bytes value first (is_character_array (form_of_type part)) other refl at h k
whole_placed structs root part path (Some (a_value value first later)) other at h k = k
whole_placed structs root part path (Some (in_braces items place)) other at h k = k
whole_placed structs root part path (Some (faulty fault first)) other at h k = k

on_way_placed : (structs : List Structure) (root object : CType) (given : Given) (r : Result (List Step) Fault) (place : List Step → Placement) →
    IfOk r (Aims structs object given) → ((way : List Step) → Aims structs object given way → GoodPlacement structs root (place way)) →
    GoodPlacement structs root (on_way r place)
on_way_placed structs root object given (Ok way) place h k = k way h
on_way_placed structs root object given (Err fault) place h k = refl

part_at_way : (structs : List Structure) (root object : CType) (path : List ℕ) (way : List Step) → are_structures structs ≡ true → PartAt structs root object path →
    IsWay structs object way → PartAt structs root (reached object way) (path ++ ranks way)
part_at_way structs root object path way s at w = record {
  possible = way_possible structs object way s at.possible w;
  along = along_both structs root path (ranks way) object at.along ∙ way_along structs object way w;
}

mutual
  pub part_placed : (given : Given) (structs : List Structure) (root part : CType) (path : List ℕ) → are_structures structs ≡ true → PartAt structs root part path →
      TypedGiven structs given → FitsGiven (form_of_type part) given → GoodPlacement structs root (place_at structs part path given)
  part_placed (a_value value first later) structs root part path s at h f = (record { possible = at.possible; along = at.along; content = h }, refl)
  part_placed (a_text id bytes value first) structs root part path s at h f = string_placed structs root part path id bytes value first at h f
  part_placed (in_braces items place) structs root part path s at h f = (
    record { possible = at.possible; along = at.along; content = refl },
    whole_placed structs root part path (lone items) (place_list structs part path (start structs part) items) at (lone_typed structs items h)
        (list_placed items structs root part path (start structs part) s at (start_way structs part) h),
  )
  part_placed (faulty fault first) structs root part path s at h f = refl

  list_placed : (items : GivenItems) (structs : List Structure) (root object : CType) (path : List ℕ) (next : Option (List Step)) → are_structures structs ≡ true →
      PartAt structs root object path → WaysAre structs object next → TypedItems structs items → GoodPlacement structs root (place_list structs object path next items)
  list_placed no_given structs root object path next s at w h = refl
  list_placed (more_given ds first others) structs root object path next s at w h =
      let parts = and_parts (is_typed_given structs first) (are_typed_items structs others) h in
      on_way_placed structs root object first (aimed structs object first (begin structs object next ds (given_first first)))
      (λ way. and_behind (place_at structs (reached object way) (path ++ ranks way) first) (place_list structs object path (behind structs way) others))
      (aimed_way structs object first (begin structs object next ds (given_first first)) (begin_way structs object next ds (given_first first) w))
      (λ way a.
      behind_placed structs root (place_at structs (reached object way) (path ++ ranks way) first).placed (place_at structs (reached object way) (path ++ ranks way) first).fault
      (place_list structs object path (behind structs way) others)
      (part_placed first structs root (reached object way) (path ++ ranks way) s (part_at_way structs root object path way s at a.0) parts.0 a.1)
      (list_placed others structs root object path (behind structs way) s at (behind_way structs object way a.0) parts.1))

-- ---- the initializer of an object

fits_given : (form : Form) (given : Given) → fits_whole form given ≡ true → FitsGiven form given
fits_given form (a_value value first later) h = refl
fits_given form (a_text id bytes value first) h = h
fits_given form (in_braces items place) h = refl
fits_given form (faulty fault first) h = refl

placement_by : (structs : List Structure) (object : CType) (given : Given) (b : Bool) (fault : Fault) → are_structures structs ≡ true → is_possible structs object ≡ true →
    TypedGiven structs given → fits_whole (form_of_type object) given ≡ b → GoodPlacement structs object (if b then place_at structs object [] given else stopped fault)
placement_by structs object given true fault s p h e =
    part_placed given structs object object [] s (record { possible = p; along = refl }) h (fits_given (form_of_type object) given e)
placement_by structs object given false fault s p h e = refl

pub placement_typed : (structs : List Structure) (object : CType) (given : Given) → are_structures structs ≡ true → is_possible structs object ≡ true →
    TypedGiven structs given → GoodPlacement structs object (placement structs object given)
placement_typed structs object given s p h =
    placement_by structs object given (fits_whole (form_of_type object) given) (with_own structs given (constraint_at (given_first given) 35)) s p h refl
