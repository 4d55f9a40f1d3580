-- What a declared object has behind its initializer (ISO/IEC 9899:2024, 6.7.2, 6.7.11): its type with the length of an
-- array, its value where it is a `constexpr` object, and its initial values.
use Rattle.std.specs.Prelude.{ℤ, pos, Bool, true, false, ◌&&◌, ◌||◌, not, List, [], ◌∷◌, ◌++◌, Option, Some, None, Err, if◌then◌else◌}
use Rattle.cake_base.specs.declared.places.Place.{Place}
use Rattle.cake_base.specs.declared.rules.Fault.{Fault}
use Rattle.model_types.specs.declared.numbers.Basic.TheVariants.{Int}
use Rattle.model_types.specs.declared.marks.Mark.{Mark}
use Rattle.model_types.specs.Operations.{fits}
use Rattle.model_types.specs.Types.{CType, Form, form_of_type}
use Rattle.model_core.specs.CoreTypes.{basic_of}
use Rattle.model_core.specs.SameTypes.{is_integer, is_null_constant, integer_constant}
use Rattle.model_core.specs.StaticValues.{is_null_pointer}
use Rattle.model_core.specs.TypedParts.{is_scalar}
use Rattle.model_core.specs.Core as unit
use Rattle.model_scopes.specs.declared.declarations.Kind.{Kind}
use Rattle.model_scopes.specs.declared.declarations.Kind.TheVariants.{Object, Function, TypeName, Enumerator, Tag}
use Rattle.model_scopes.specs.Declarations.{Value}
use Rattle.model_scopes.specs.Declaring.{settle}
use Rattle.model_checking.specs.State.{State, Answer, gives, then_do, in_scopes}
use Rattle.model_checking.specs.Parts.{Given, a_value, a_text, in_braces, faulty, GivenStep, to_element, to_no_element, to_member, faulty_index, GivenItems, no_given, more_given}
use Rattle.model_checking.specs.Faults.{or_fault}
use Rattle.model_checking.specs.FaultsBeside.{fault_if, with_fault}
use Rattle.model_checking.specs.Placing.{given_first}
use Rattle.model_checking.specs.Initializing.{Initialized, initialized, given_value}
use Rattle.model_checking.specs.Declaring.{Bound}

-- ---- C32: a `constexpr` object is an integer or a null pointer, whose initializer has a constant that is one of its values

abbrev pub is_value_of : Form → Option ℤ → Bool
is_value_of form None = false
is_value_of form (Some value) = fits (basic_of form) value

-- before it is converted
abbrev pub is_constant_for : Form → unit.Expr → Bool
is_constant_for form e = if is_integer form then is_value_of form (integer_constant e) else is_null_constant e || is_null_pointer e

-- `{}` gives zero, and of a faulty initializer nothing is known
abbrev pub is_constant_if_any : Form → Option unit.Expr → Bool
is_constant_if_any form None = true
is_constant_if_any form (Some e) = is_constant_for form e

abbrev pub has_constant : Form → Given → Bool
has_constant form given = is_scalar form && is_constant_if_any form (given_value given)

abbrev pub constant_fault : (is_constexpr : Bool) → CType → Given → Option Fault
constant_fault is_constexpr type given = fault_if (is_constexpr && not (has_constant (form_of_type type) given)) (given_first given) 32

-- ---- its value

abbrev pub value_or_zero : Option ℤ → ℤ
value_or_zero None = pos 0
value_or_zero (Some value) = value

abbrev pub constant_or_zero : Option unit.Expr → ℤ
constant_or_zero None = pos 0
constant_or_zero (Some e) = value_or_zero (integer_constant e)

-- of a null pointer it is zero
abbrev pub known_value : Form → Given → Value
known_value form given =
    if is_integer form then record { value = constant_or_zero (given_value given); basic = basic_of form }
    else record { value = pos 0; basic = Int }

abbrev pub known_if : (is_constexpr : Bool) → Form → Given → Option Value
known_if true form given = Some (known_value form given)
known_if false form given = None

-- ---- an object: an automatic one starts with its values each time, another has them before the run

abbrev pub at_name : Place → Mark
at_name place = record { at = place; first = place; outer = place }

abbrev pub start_of : Bound → Initialized → unit.Stat
start_of b o = unit.Start b.id o.type o.values (at_name b.declared.place)

abbrev pub with_values : Bound → Initialized → State → State
with_values b o s = record s { values = s.values ++ record { id = b.id; type = o.type; values = o.values } ∷ [] }

abbrev pub started : (is_automatic : Bool) → Bound → Initialized → State → Answer (Option unit.Stat)
started true b o s = gives (Some (start_of b o)) s
started false b o s = gives None (with_values b o s)

abbrev pub settled : Bound → Given → Initialized → State → State
settled b given o s = in_scopes (settle b.id o.type (known_if b.is_constexpr (form_of_type o.type) given) s.scopes) s

abbrev pub object_with : Bound → Given → State → Answer (Option unit.Stat)
object_with b given s =
    with_fault (constant_fault b.is_constexpr b.declared.ty given)
    (then_do (initialized (not b.declared.automatic) b.first b.declared.place b.declared.ty given s) (λ o s.
    started b.declared.automatic b o (settled b given o s)))

-- ---- what else has an initializer: it is only looked at by itself

abbrev pub step_fault : GivenStep → Option Fault
step_fault (to_element index place) = None
step_fault (to_no_element place) = None
step_fault (to_member name place) = None
step_fault (faulty_index fault place) = Some fault

abbrev pub steps_fault : List GivenStep → Option Fault
steps_fault [] = None
steps_fault (s ∷ ss) = or_fault (step_fault s) (steps_fault ss)

abbrev mutual
  -- the first fault in an initializer
  pub given_fault : Given → Option Fault
  given_fault (a_value value first later) = later
  given_fault (a_text id bytes value first) = None
  given_fault (in_braces items place) = items_fault items
  given_fault (faulty fault first) = Some fault

  pub items_fault : GivenItems → Option Fault
  items_fault no_given = None
  items_fault (more_given steps first others) = or_fault (steps_fault steps) (or_fault (given_fault first) (items_fault others))

abbrev pub nothing_unless : Option Fault → State → Answer (Option unit.Stat)
nothing_unless None s = gives None s
nothing_unless (Some fault) s = Err fault

-- ---- an initializer, and the statement that it is where its object is automatic

abbrev pub kind_with : Kind → Bound → Given → State → Answer (Option unit.Stat)
kind_with Object b given s = object_with b given s
kind_with Function b given s = nothing_unless (given_fault given) s
kind_with TypeName b given s = nothing_unless (given_fault given) s
kind_with Enumerator b given s = nothing_unless (given_fault given) s
kind_with Tag b given s = nothing_unless (given_fault given) s

abbrev pub with_initializer : Bound → Given → State → Answer (Option unit.Stat)
with_initializer b given s = kind_with b.declared.kind b given s
