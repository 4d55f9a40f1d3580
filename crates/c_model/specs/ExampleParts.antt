-- Short words for cores that are written by hand.
use Rattle.std.specs.Prelude.{ℕ, pos, true, false, List, [], ◌∷◌, Some, None}
use Rattle.cake_base.specs.declared.places.Place.{Place}
use Rattle.model_types.specs.declared.numbers.BinOp.{BinOp}
use Rattle.model_types.specs.declared.marks.Mark.{Mark}
use Rattle.model_types.specs.declared.marks.Span.{Span}
use Rattle.model_types.specs.declared.operators.StepOp.TheVariants.{Increment}
use Rattle.model_types.specs.declared.operators.StepSide.TheVariants.{Postfix}
use Rattle.model_types.specs.Types.{CType, Function as FunctionForm, types}
use Rattle.model_core.specs.CoreTypes.{int_type, plain}
use Rattle.model_runs.specs.Memory.{Value, Single, Number}
use Rattle.model_runs.specs.Run.{Event, Integer as IntegerArgument}
use Rattle.c_model.specs.FirstUnit.{mark_at}
use Rattle.model_core.specs.Core.{Expr, Constant, Load, FunctionRef, Binary, Call, Assign, Plain, Step, Lvalue, Object, exprs, no_initials}
use Rattle.model_core.specs.Core.{more_initials, Stat, Evaluate, Start, Block, Return, an_expr, MaybeStat, stats, Storage, Automatic, Static}
use Rattle.model_core.specs.Core.{DeclaredObject, Function, Named, Core}

-- a place on the first line
abbrev pub at_column : (column order : ℕ) → Place
at_column column order = record { file = 0; line = 1; column = column; order = order }

abbrev pub nowhere : Place
nowhere = at_column 1 0

abbrev pub no_mark : Mark
no_mark = mark_at nowhere

abbrev pub no_span : Span
no_span = record { first = nowhere; last = nowhere }

abbrev pub number : ℕ → Expr
number value = Constant (pos value) int_type no_mark

abbrev pub variable : (id : ℕ) → CType → Lvalue
variable id type = Object id type no_mark

abbrev pub int_variable : (id : ℕ) → Lvalue
int_variable id = variable id int_type

abbrev pub load : Lvalue → Expr
load object = Load object no_mark

abbrev pub binary : BinOp → Expr → Expr → Expr
binary op left right = Binary op left right no_mark

abbrev pub assigned : Lvalue → Expr → Expr
assigned object value = Assign Plain object value no_mark

abbrev pub call : (id : ℕ) → CType → List Expr → Expr
call id type arguments = Call (FunctionRef id type true no_mark) (exprs arguments) no_mark

abbrev pub increment : Lvalue → Expr
increment object = Step Increment Postfix int_type object no_mark

abbrev pub evaluate : Expr → Stat
evaluate value = Evaluate value no_span

-- an object gets a value of its type
abbrev pub start : (id : ℕ) → CType → Expr → Stat
start id type value = Start id type (more_initials [] 0 type value no_initials) no_mark

abbrev pub block : List ℕ → List Stat → Stat
block ids body = Block ids (stats body) no_span

abbrev pub return : Expr → Stat
return value = Return (an_expr value) nowhere

abbrev pub function_type : CType → List CType → CType
function_type result parameters = plain (FunctionForm result (types parameters) false)

abbrev pub automatic : (id : ℕ) → CType → DeclaredObject
automatic id type = record {
  id = id;
  name = None;
  type = type;
  is_external = false;
  storage = Automatic;
  is_address_taken = false;
  place = nowhere;
  joint_place = nowhere;
}

abbrev pub stored_as : Storage → DeclaredObject → DeclaredObject
stored_as storage o = record o { storage = storage }

abbrev pub global_int : (id : ℕ) → (value : ℕ) → DeclaredObject
global_int id value = stored_as (Static (more_initials [] 0 int_type (number value) no_initials)) (automatic id int_type)

abbrev pub function : (id : ℕ) → List ℕ → CType → List ℕ → MaybeStat → Function
function id name type parameters body = record {
  id = id;
  name = Named name;
  type = type;
  is_external = true;
  parameters = parameters;
  body = body;
  place = nowhere;
  joint_place = nowhere;
}

abbrev pub unit : List DeclaredObject → List Function → Core
unit objects functions = record { objects = objects; functions = functions; structs = []; named_types = [] }

abbrev pub int_value : ℕ → Value
int_value value = Single (Number (pos value))

-- a call of an outside function with an integer, which is answered 0
abbrev pub called_with : List ℕ → ℕ → Event
called_with name value = record { name = name; arguments = IntegerArgument (pos value) ∷ []; answer = Some (pos 0) }
