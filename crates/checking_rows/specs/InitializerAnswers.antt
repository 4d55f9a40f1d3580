-- What an initializer gives in the worked examples.
use Rattle.std.specs.Prelude.{ℕ, ℤ, Bool, true, false, ◌&&◌, if◌then◌else◌, List, [], ◌∷◌, ◌++◌, codes, Option, Some, None, Ok, Err}
use Rattle.model_types.specs.Types.{CType}
use Rattle.model_core.specs.CoreTypes.{int_type}
use Rattle.model_core.specs.SameTypes.{integer_constant}
use Rattle.model_core.specs.TypedExpr.{are_typed_values}
use Rattle.model_core.specs.InitialParts.{parts_fit}
use Rattle.model_core.specs.Core as unit
use Rattle.model_scopes.specs.declared.declarations.Kind.TheVariants.{Object}
use Rattle.model_scopes.specs.declared.declarations.Linkage.TheVariants.{Absent}
use Rattle.model_scopes.specs.Declarations.{Declaration}
use Rattle.model_scopes.specs.Scopes.{Scopes, file_scope, enter}
use Rattle.model_scopes.specs.Declaring.{declare}
use Rattle.model_checking.specs.State.{State, Answer, start}
use Rattle.model_checking.specs.Parts.{Given}
use Rattle.model_checking.specs.Initializing.{Initialized, initialized}
use Rattle.checking_rows.specs.InitializerParts.{at, array, pair, point, line, structures}

-- ---- in a block, behind these declarations: int n = .., struct point p = .., struct pair q = .., struct line l = ..;
-- and, static ones, int s, t[2];

abbrev pub object : List ℕ → CType → (automatic : Bool) → Declaration
object name type automatic =
    record { name = name; kind = Object; linkage = Absent; ty = type; value = None; defines = true; automatic = automatic; place = at 0 }

abbrev pub in_block : Scopes
in_block =
    declare (object (codes "t") (array 2 int_type) false)
    (declare (object (codes "s") int_type false)
    (declare (object (codes "l") line true)
    (declare (object (codes "q") pair true)
    (declare (object (codes "p") point true)
    (declare (object (codes "n") int_type true)
    (enter false (record file_scope { structs = structures; ids = 1 })))))))

abbrev pub before : State
before = start in_block

-- ---- what is due

-- a value: a number, where it is an integer constant expression; what an object holds, the address of one, or what a
-- function gives, by the id
pub data Shown : Type 0 where
  number_is : (value : ℤ) → Shown
  held_by : (id : ℕ) → Shown
  address_of : (id : ℕ) → Shown
  result_of : (id : ℕ) → Shown
  another : Shown

abbrev pub shown_lvalue : (ℕ → Shown) → unit.Lvalue → Shown
shown_lvalue as_what (unit.Object id type mark) = as_what id
shown_lvalue as_what object = another

abbrev pub shown_other : unit.Expr → Shown
shown_other (unit.Load object mark) = shown_lvalue held_by object
shown_other (unit.Address origin object mark) = shown_lvalue address_of object
shown_other (unit.Convert origin type e mark) = shown_other e
shown_other (unit.Call (unit.FunctionRef id type by_name place) arguments mark) = result_of id
shown_other (unit.Constant value type mark) = number_is value
shown_other e = another

abbrev pub shown_by : Option ℤ → unit.Expr → Shown
shown_by (Some value) e = number_is value
shown_by None e = shown_other e

abbrev pub shown : unit.Expr → Shown
shown e = shown_by (integer_constant e) e

-- a value at an offset
pub record At : Type 0 where
  pub path : List ℕ
  pub offset : ℕ
  pub what : Shown

abbrev pub value_at : (path : List ℕ) → (offset : ℕ) → Shown → At
value_at path offset what = record { path = path; offset = offset; what = what }

abbrev pub shown_values : unit.Initials → List At
shown_values unit.no_initials = []
shown_values (unit.more_initials path offset type value others) = value_at path offset (shown value) ∷ shown_values others

-- the values, which are typed and for parts of the object; the rule that is broken, with its place; or nothing of these
pub data Outcome : Type 0 where
  gets : (values : List At) → Outcome
  breaks : (rule order : ℕ) → Outcome
  untyped : Outcome

abbrev pub outcome_of : Answer Initialized → Outcome
outcome_of (Ok both) =
    if are_typed_values both.made.values && parts_fit structures both.made.type both.made.values then gets (shown_values both.made.values) else untyped
outcome_of (Err fault) = breaks fault.rule.number fault.place.order

-- `type x = initializer;` with the tokens of its declarator and its name
pub record Example : Type 0 where
  pub is_static : Bool
  pub type : CType
  pub first : ℕ
  pub name : ℕ
  pub initializer : Given

-- in a block
abbrev pub automatic_one : CType → (first name : ℕ) → Given → Example
automatic_one type first name given = record { is_static = false; type = type; first = first; name = name; initializer = given }

abbrev pub static_one : CType → (first name : ℕ) → Given → Example
static_one type first name given = record { is_static = true; type = type; first = first; name = name; initializer = given }

abbrev pub answer : Example → Answer Initialized
answer e = initialized e.is_static (at e.first) (at e.name) e.type e.initializer before

abbrev pub outcome : Example → Outcome
outcome e = outcome_of (answer e)

-- the numbers alone, of which there is one for each scalar
abbrev pub number_in : Shown → List ℤ
number_in (number_is value) = value ∷ []
number_in (held_by id) = []
number_in (address_of id) = []
number_in (result_of id) = []
number_in another = []

abbrev pub numbers_at : List At → List ℤ
numbers_at [] = []
numbers_at (a ∷ as_well) = number_in a.what ++ numbers_at as_well

abbrev pub numbers_in : Outcome → List ℤ
numbers_in (gets values) = numbers_at values
numbers_in (breaks rule order) = []
numbers_in untyped = []

abbrev pub numbers : Example → List ℤ
numbers e = numbers_in (outcome e)

abbrev pub type_in : Answer Initialized → Option CType
type_in (Ok both) = Some both.made.type
type_in (Err fault) = None

abbrev pub type_after : Example → Option CType
type_after e = type_in (answer e)
