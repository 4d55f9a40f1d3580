-- One initializer of an object (ISO/IEC 9899:2024, 6.7.11): the object's type with its length, and its values.
use Rattle.std.specs.Prelude.{ℕ, nat_eq, nat_lt, Bool, true, false, not, ◌&&◌, ◌||◌, if◌then◌else◌, List, Option, Some, None, Result, Ok}
use Rattle.std.specs.List.{list_any, filter}
use Rattle.cake_base.specs.declared.places.Place.{Place}
use Rattle.cake_base.specs.declared.rules.Fault.{Fault}
use Rattle.model_types.specs.Types.{CType, Form, Array, form_of_type}
use Rattle.model_types.specs.Structures.{Structure}
use Rattle.model_core.specs.Core as unit
use Rattle.model_checking.specs.State.{Made, State, Answer, gives, then_do, with_state, unless}
use Rattle.model_checking.specs.Parts.{Given, a_value, a_text, in_braces, faulty, GivenItems, no_given, more_given}
use Rattle.model_checking.specs.Faults.{wants}
use Rattle.model_checking.specs.Conversion.{passed}
use Rattle.model_checking.specs.ConstantValues.{static_fault, is_automatic_in}
use Rattle.model_checking.specs.Placing.{Placed, after, given_first, fits_whole, placement}
use Rattle.model_checking.specs.Fitting.{Fit, fitted, filling}
use Rattle.model_checking.specs.ArrayLengths.{elements_in, with_elements}
use Rattle.model_checking.specs.InitialValues.{written_zero, no_zero, initial_values}
use Rattle.model_checking.specs.ScalarCounts.{has_too_many}

-- ---- what is placed, and the type with its length

abbrev pub is_without_length : Form → Bool
is_without_length (Array type None) = true
is_without_length form = false

-- C22: what is neither in braces nor a string for it gives an array no length, whatever it is
abbrev pub lengthless_fault : (first : Place) → Form → Given → Option Fault
lengthless_fault first form given = wants (not (is_without_length form) || fits_whole form given) first 22

pub record Fitted : Type 0 where
  pub type : CType
  pub placed : List Placed

abbrev pub with_its_length : List Structure → (first : Place) → CType → List Placed → Result Fitted Fault
with_its_length structs first type placed =
    after (with_elements structs first type (elements_in placed)) (λ full. Ok (record { type = full; placed = placed }))

-- the first token is that of the declarator or type name
abbrev pub fitted_object : List Structure → Fit → (first : Place) → CType → Given → Result Fitted Fault
fitted_object structs fit first type given =
    unless (lengthless_fault first (form_of_type type) given)
    (after (fitted fit (placement structs type given)) (with_its_length structs first type))

-- ---- how values are fitted

-- C23 and C24: an object of static storage begins with constants
abbrev pub constant_only : State → (first : Place) → unit.Expr → Result unit.Expr Fault
constant_only s first value = unless (static_fault (is_automatic_in s.scopes) first value) (Ok value)

abbrev pub fit_in : (is_static : Bool) → State → Fit
fit_in false s first type value = passed s.scopes.structs first type value
fit_in true s first type value = after (passed s.scopes.structs first type value) (constant_only s first)

-- ---- the values; an automatic object with too many scalars is noted, and gets none

abbrev pub automatic_values : (has_too_many : Bool) → List Structure → (zeros : Place) → Fitted → unit.Initials
automatic_values true structs zeros o = unit.no_initials
automatic_values false structs zeros o = initial_values structs (written_zero zeros) o.placed o.type

abbrev pub values_in : (is_static : Bool) → List Structure → (zeros : Place) → Fitted → unit.Initials
values_in true structs zeros o = initial_values structs no_zero o.placed o.type
values_in false structs zeros o = automatic_values (has_too_many structs o.type) structs zeros o

abbrev pub former_place : Place → Option Place → Place
former_place place None = place
former_place place (Some other) = if nat_lt place.order other.order then place else other

-- the first of them in the source
abbrev pub noted_limit : Bool → Place → Option Place → Option Place
noted_limit true place limit = Some (former_place place limit)
noted_limit false place limit = limit

abbrev pub without : (ids : List ℕ) → List Made → List Made
without ids made = filter (λ (m : Made). not (list_any (nat_eq m.id) ids)) made

-- the state with no objects of the strings that fill arrays; and with the first object that is too large
abbrev pub state_after : (is_static : Bool) → (name : Place) → Fitted → State → State
state_after is_static name o s = record s {
  made = without (filling o.placed) s.made;
  limit = noted_limit (not is_static && has_too_many s.scopes.structs o.type) name s.limit;
}

-- ---- an initializer

pub record Initialized : Type 0 where
  pub type : CType
  pub values : unit.Initials

-- of an object of a type: the first token of its declarator or type name, and the place of its name
abbrev pub initialized : (is_static : Bool) → (first : Place) → (name : Place) → CType → Given → State → Answer Initialized
initialized is_static first name type given s =
    then_do (with_state (fitted_object s.scopes.structs (fit_in is_static s) first type given) s)
    (λ o s. gives (record { type = o.type; values = values_in is_static s.scopes.structs (given_first given) o }) (state_after is_static name o s))

-- ---- for an object whose value is known (6.7.2)

abbrev mutual
  -- the value that a scalar is given, before its conversion; none where it is zeroed by `{}`
  pub given_value : Given → Option unit.Expr
  given_value (a_value value first later) = Some value
  given_value (a_text id bytes value first) = Some value
  given_value (in_braces items place) = value_in_braces items
  given_value (faulty fault first) = None

  pub value_in_braces : GivenItems → Option unit.Expr
  value_in_braces no_given = None
  value_in_braces (more_given designators first others) = given_value first
