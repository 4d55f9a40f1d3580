-- The subobjects that an object's initializer is for (ISO/IEC 9899:2024, 6.7.11): what is placed where, in the order of
-- the source, up to the first of C33, C34 and C35, or of the faults of values and indices.
use Rattle.std.specs.Prelude.{ℕ, nat_le, Bool, true, false, not, if◌then◌else◌, List, [], ◌∷◌, ◌++◌, length, Option, Some, None, option_and_then, option_map, unwrap_or, Result, Ok, Err}
use Rattle.cake_base.specs.declared.places.Place.{Place}
use Rattle.cake_base.specs.declared.rules.Fault.{Fault}
use Rattle.model_types.specs.Types.{CType, Form, Array, form_of_type}
use Rattle.model_types.specs.Structures.{Structure}
use Rattle.model_scopes.specs.DeclarationRules.{constraint_at}
use Rattle.model_core.specs.CoreTypes.{type_of}
use Rattle.model_core.specs.TypedParts.{is_array}
use Rattle.model_core.specs.Core as unit
use Rattle.model_checking.specs.State.{breaks}
use Rattle.model_checking.specs.Parts.{GivenStep, to_element, to_no_element, to_member, faulty_index, Given, a_value, a_text, in_braces, faulty, GivenItems, no_given, more_given}
use Rattle.model_checking.specs.FaultOrder.{first_fault}
use Rattle.model_checking.specs.MadeCore.{used_fault}
use Rattle.model_checking.specs.Ways.{Step, a_string, a_value_of, reached, ranks, step_to, start, behind, member_rank, is_character_array, takes, taker}

-- what is placed: a value, with the first fault of its function literals; a string, with its object; or the zeros with
-- which braces begin
pub data Content : Type 0 where
  Value : (value : unit.Expr) (later : Option Fault) → Content
  Text : (id : ℕ) (bytes : List ℕ) (value : unit.Expr) → Content
  Zeros : Content

-- what is placed for a subobject of a type, to which a path of ranks leads; its first token
pub record Placed : Type 0 where
  pub path : List ℕ
  pub type : CType
  pub content : Content
  pub first : Place

-- all that is placed, or what is before a fault
pub record Placement : Type 0 where
  pub placed : List Placed
  pub fault : Option Fault

abbrev pub nothing : Placement
nothing = record { placed = []; fault = None }

abbrev pub stopped : Fault → Placement
stopped fault = record { placed = []; fault = Some fault }

abbrev pub before : Placed → Placement → Placement
before p others = record others { placed = p ∷ others.placed }

abbrev pub unless_stopped : List Placed → Option Fault → Placement → Placement
unless_stopped placed None others = record others { placed = placed ++ others.placed }
unless_stopped placed (Some fault) others = record { placed = placed; fault = Some fault }

-- one part of a list and the parts behind it
abbrev pub and_behind : Placement → Placement → Placement
and_behind first others = unless_stopped first.placed first.fault others

-- what is placed where a way was found
abbrev pub on_way : Result (List Step) Fault → (List Step → Placement) → Placement
on_way (Ok way) place = place way
on_way (Err fault) place = stopped fault

-- ---- where a part of a list begins: where its designators lead, else behind the part before it

-- what there is; where there is nothing, a rule is broken
abbrev pub or_breaks : {A : Type 0} → Option A → (place : Place) → (rule : ℕ) → Result A Fault
or_breaks (Some x) place rule = Ok x
or_breaks None place rule = breaks place rule

-- a designator is an index of an array, or names a member of a structure; its index may be faulty by itself
abbrev pub designated_one : List Structure → (whole : CType) → GivenStep → List Step → Result (List Step) Fault
designated_one structs whole (to_element index place) way =
    if is_array (form_of_type whole) then or_breaks (step_to structs whole index way) place 34 else breaks place 34
designated_one structs whole (to_no_element place) way = breaks place 34
designated_one structs whole (faulty_index fault place) way = if is_array (form_of_type whole) then Err fault else breaks place 34
designated_one structs whole (to_member name place) way = or_breaks (option_and_then (λ rank. step_to structs whole rank way) (member_rank structs (form_of_type whole) name)) place 34

abbrev pub after : {A B : Type 0} → Result A Fault → (A → Result B Fault) → Result B Fault
after (Ok x) go = go x
after (Err fault) go = Err fault

abbrev pub designated : List Structure → (object : CType) → List GivenStep → List Step → Result (List Step) Fault
designated structs object [] way = Ok way
designated structs object (d ∷ ds) way = after (designated_one structs (reached object way) d way) (designated structs object ds)

abbrev pub begin : List Structure → (object : CType) → (next : Option (List Step)) → List GivenStep → (first : Place) → Result (List Step) Fault
begin structs object next [] first = or_breaks next first 33
begin structs object next (d ∷ ds) first = designated structs object (d ∷ ds) []

-- ---- which subobject takes it

abbrev pub given_first : Given → Place
given_first (a_value value first later) = first
given_first (a_text id bytes value first) = first
given_first (in_braces items place) = place
given_first (faulty fault first) = first

-- of a fault at what is given and those that it has by itself, the first
abbrev pub with_own : List Structure → Given → Fault → Fault
with_own structs (a_value value first later) fault = unwrap_or (option_map (first_fault fault) (used_fault structs (record { value = value; first = first }))) fault
with_own structs (a_text id bytes value first) fault = fault
with_own structs (in_braces items place) fault = fault
with_own structs (faulty own first) fault = first_fault fault own

-- the way to what takes it, from where it begins; braces are for what they stand at
abbrev pub aimed_from : List Structure → (object : CType) → Given → List Step → Result (List Step) Fault
aimed_from structs object (a_value value first later) way = or_breaks (taker structs (a_value_of (type_of value)) object way) first 35
aimed_from structs object (a_text id bytes value first) way = or_breaks (taker structs a_string object way) first 35
aimed_from structs object (in_braces items place) way = Ok way
aimed_from structs object (faulty fault first) way = Err fault

abbrev pub aimed : List Structure → (object : CType) → Given → Result (List Step) Fault → Result (List Step) Fault
aimed structs object given (Ok way) = aimed_from structs object given way
aimed structs object given (Err fault) = Err (with_own structs given fault)

-- ---- what is placed there

abbrev pub alone : Placed → Placement
alone p = before p nothing

-- a string may leave out its final zero
abbrev pub is_long_enough : Form → (bytes : List ℕ) → Bool
is_long_enough (Array type (Some count)) bytes = nat_le (length bytes) count
is_long_enough form bytes = true

abbrev pub string_at : (part : CType) → (path : List ℕ) → (id : ℕ) → (bytes : List ℕ) → unit.Expr → (first : Place) → Placement
string_at part path id bytes value first =
    if is_long_enough (form_of_type part) bytes then alone (record { path = path; type = part; content = Text id bytes value; first = first })
    else stopped (constraint_at first 33)

abbrev pub are_no_more : GivenItems → Bool
are_no_more no_given = true
are_no_more (more_given designators first others) = false

-- what stands alone in braces, without designators
abbrev pub lone : GivenItems → Option Given
lone no_given = None
lone (more_given [] first others) = if are_no_more others then Some first else None
lone (more_given (d ∷ ds) first others) = None

-- a string that stands alone in the braces of an array of characters is for the whole array
abbrev pub whole_string : (part : CType) → (path : List ℕ) → Option Given → Option Placement
whole_string part path None = None
whole_string part path (Some (a_text id bytes value first)) =
    if is_character_array (form_of_type part) then Some (string_at part path id bytes value first) else None
whole_string part path (Some (a_value value first later)) = None
whole_string part path (Some (in_braces items place)) = None
whole_string part path (Some (faulty fault first)) = None

abbrev mutual
  pub place_at : List Structure → (part : CType) → (path : List ℕ) → Given → Placement
  place_at structs part path (a_value value first later) = alone (record { path = path; type = part; content = Value value later; first = first })
  place_at structs part path (a_text id bytes value first) = string_at part path id bytes value first
  place_at structs part path (in_braces items place) =
      before (record { path = path; type = part; content = Zeros; first = place })
      (unwrap_or (whole_string part path (lone items)) (place_list structs part path (start structs part) items))
  place_at structs part path (faulty fault first) = stopped fault

  -- the parts of a list in braces, of which the first begins where none leads elsewhere
  pub place_list : List Structure → (object : CType) → (path : List ℕ) → (next : Option (List Step)) → GivenItems → Placement
  place_list structs object path next no_given = nothing
  place_list structs object path next (more_given designators first others) =
      on_way (aimed structs object first (begin structs object next designators (given_first first)))
      (λ way. and_behind (place_at structs (reached object way) (path ++ ranks way) first) (place_list structs object path (behind structs way) others))

-- ---- the initializer of an object

-- what stands without braces: an array takes a string where it is one of characters, a structure a value of its own
-- type, and a scalar each
abbrev pub fits_whole : Form → Given → Bool
fits_whole form (in_braces items place) = true
fits_whole form (a_text id bytes value first) = takes a_string form
fits_whole form (a_value value first later) = takes (a_value_of (type_of value)) form
fits_whole form (faulty fault first) = not (is_array form)

abbrev pub placement : List Structure → (object : CType) → Given → Placement
placement structs object given =
    if fits_whole (form_of_type object) given then place_at structs object [] given
    else stopped (with_own structs given (constraint_at (given_first given) 35))
