-- The runs of a unit (ISO/IEC 9899:2024, 5.1.2.3, 6.5.3.3, 6.9.2, 6.9.3).
use Rattle.std.specs.Prelude.{ℕ, zero, suc, ℤ, pos, Bool, true, List, [], ◌∷◌, Option, Some, None, if◌then◌else◌}
use Rattle.cake_base.specs.declared.places.Place.{Place}
use Rattle.model_types.specs.declared.outcomes.Cause.TheVariants.{BadCall, Null as NullCause}
use Rattle.model_types.specs.Types.{CType, Form, Function, Types, form_of_type}
use Rattle.model_types.specs.Structures.{Structure}
use Rattle.model_types.specs.Compatible.{compatible}
use Rattle.model_runs.specs.Memory.{Numbered, Local, Null, Code, Value}
use Rattle.model_runs.specs.Accesses.{store_to}
use Rattle.model_runs.specs.Outside.{Answering, call_outside}
use Rattle.model_runs.specs.Allocation.{call_builtin}
use Rattle.model_runs.specs.Run.{Run, Step, Act, ◌▷◌, just, ends, Undefined, Out, take_turn, start_with, new_call, answer_of, run_of}
use Rattle.model_core.specs.CoreTypes.{pointee, shape_of}
use Rattle.model_runs.specs.SourceFrame.{Callee, enter_scope, leave_scope}
use Rattle.model_runs.specs.SourceCalls.{builtin_of, passed, answering}
use Rattle.model_runs.specs.SourceStart.{start_memory, object_type_of, statics}
use Rattle.model_runs.specs.SourceStatements.{perform}
use Rattle.model_core.specs.Core as unit
use Rattle.model_core.specs.BuiltinTypes.{Builtin}

-- the parameters get the values of the arguments
abbrev pub bind : unit.Core → (call : ℕ) → List ℕ → List Value → Act (Unit {0})
bind core call [] [] = just tt
bind core call (id ∷ ids) (v ∷ vs) =
    store_to None (shape_of core.structs (object_type_of core id)) (Local call (Numbered id)) (pos 0) v ▷ (λ u. bind core call ids vs)
bind core call _ _ = ends (Undefined BadCall None)

-- a body, between the entry of the parameters' scope and its end
abbrev pub enter_body : unit.Core → Callee → (bound : ℕ) → List ℕ → unit.Stat → List Value → (call : ℕ) → Act Value
enter_body core callee bound parameters body vs call =
    enter_scope core call parameters
    ▷ (λ u. bind core call parameters vs
    ▷ (λ w. perform (record { core = core; call = call; callee = callee }) bound body
    ▷ (λ flow. leave_scope core call parameters ▷ (λ x. just (answer_of flow)))))

abbrev pub enter : unit.Core → Callee → (bound : ℕ) → unit.MaybeStat → List ℕ → List Value → Act Value
enter core callee bound unit.no_stat parameters vs = ends (Undefined BadCall None)
enter core callee bound (unit.a_stat body) parameters vs = new_call ▷ enter_body core callee bound parameters body vs

abbrev pub known_call : Option Place → Option Builtin → (name : List ℕ) → List CType → List Value → Types → Answering → Act Value
known_call place (Some builtin) name types vs parameters answers = call_builtin place builtin vs
known_call place None name types vs parameters answers = call_outside place name (passed parameters types vs) answers

abbrev pub by_form : List Structure → Option Place → CType → (name : List ℕ) → List CType → List Value → Form → Act Value
by_form structs place type name types vs (Function result parameters variadic) =
    known_call place (builtin_of name type) name types vs parameters (answering structs result)
by_form structs place type name types vs form = ends (Undefined BadCall place)

-- a call of a function that is declared and not defined
abbrev pub declared_call : List Structure → Option Place → unit.FunctionName → CType → List CType → List Value → Act Value
declared_call structs place (unit.Named name) type types vs = by_form structs place type name types vs (form_of_type type)
declared_call structs place (unit.Lambda at) type types vs = ends (Undefined BadCall place)

-- what a defined function does on arguments; `fits` says that it is called through a compatible type
abbrev pub Defined : Type 0
Defined = Option Place → unit.Function → (fits : Bool) → List Value → Act Value

abbrev pub by_body : List Structure → Defined → Option Place → unit.Function → (fits : Bool) → List CType → List Value → unit.MaybeStat → Act Value
by_body structs defined place g fits types vs (unit.a_stat body) = defined place g fits vs
by_body structs defined place g fits types vs unit.no_stat =
    if fits then declared_call structs place g.name g.type types vs else ends (Undefined BadCall place)

abbrev pub by_function : List Structure → Defined → Option Place → CType → List CType → List Value → Option unit.Function → Act Value
by_function structs defined place type types vs None = ends (Undefined BadCall place)
by_function structs defined place type types vs (Some g) =
    by_body structs defined place g (compatible (pointee (form_of_type type)) g.type) types vs g.body

-- a call through a pointer
abbrev pub call_through : unit.Core → Defined → Callee
call_through core defined place null_place Null type types vs = ends (Undefined NullCause null_place)
call_through core defined place null_place (Code (Numbered id)) type types vs =
    by_function core.structs defined place type types vs (unit.function_by_id core.functions id)
call_through core defined place null_place _ type types vs = ends (Undefined BadCall place)

-- a call of a defined function takes one turn; calls lie at most so deep in one another
abbrev pub call_defined : unit.Core → (bound : ℕ) → Defined
call_defined core zero place g fits vs = ends Out
call_defined core (suc bound) place g fits vs =
    take_turn
    ▷ (λ u. if fits then enter core (call_through core (call_defined core bound)) bound g.body g.parameters vs else ends (Undefined BadCall place))

abbrev pub call_entry : unit.Core → (bound : ℕ) → Option unit.Function → List Value → Act Value
call_entry core bound None arguments = ends (Undefined BadCall None)
call_entry core bound (Some g) arguments = call_defined core bound None g true arguments

-- what becomes of an entry on arguments, from a state, with n turns to take
abbrev pub run_from : (n : ℕ) → unit.Core → (entry : List ℕ) → (arguments : List Value) → Act Value
run_from n core entry arguments =
    statics core ▷ (λ u. call_entry core n (unit.function_of core.functions entry) arguments)

abbrev pub ended23 : (n : ℕ) → unit.Core → (entry : List ℕ) → (arguments : List Value) → (world : List ℤ) → Step Value
ended23 n core entry arguments world = run_from n core entry arguments (start_with (start_memory core) n world)

-- the run of an entry on arguments, with n turns to take
abbrev pub run23 : (n : ℕ) → unit.Core → (entry : List ℕ) → (arguments : List Value) → (world : List ℤ) → Run
run23 n core entry arguments world = run_of (ended23 n core entry arguments world)
