-- The runs of a C89 program (ISO/IEC 9899:1990, 5.1.2.3, 6.3.2.2, 6.7.1).
use Rattle.std.specs.Prelude.{ℕ, zero, suc, ℤ, pos, Bool, true, false, ◌&&◌, List, [], ◌∷◌, ◌++◌, Option, Some, None, if◌then◌else◌}
use Rattle.std.specs.Str.{bytes_eq}
use Rattle.model_types.specs.declared.numbers.Basic.{Basic}
use Rattle.model_types.specs.declared.outcomes.Cause.TheVariants.{BadCall, Null as NullCause}
use Rattle.model_types.specs.Conversions.{promoted}
use Rattle.model_core.specs.Types89.{Void, Char, UnsignedLong, Struct, integer_of, Type89, Based, Pointer, Function, Types89, no_types, more_types, int_type}
use Rattle.model_c89.specs.Compatible89.{compatible}
use Rattle.model_runs.specs.Memory.{Named, Local, Null, Code, Value}
use Rattle.model_runs.specs.Accesses.{store_to}
use Rattle.model_runs.specs.Outside.{Passed, Answering, NoAnswer, IntegerAnswer, HandleAnswer, OtherAnswer, call_outside}
use Rattle.model_runs.specs.Allocation.{call_builtin}
use Rattle.model_runs.specs.Run.{Run, Step, Act, ◌▷◌, just, ends, Undefined, Out, take_turn, start_with, new_call, answer_of, run_of}
use Rattle.model_c89.specs.TargetLayout.{shape_of}
use Rattle.model_c89.specs.TargetTypes.{find_name, pointee, integer_type, basic_type}
use Rattle.model_c89.specs.TargetFrame.{Callee, Frame, enter_scope, leave_scope, locals, file_names}
use Rattle.model_c89.specs.TargetOperations.{value_as}
use Rattle.model_c89.specs.TargetStart.{is_incomplete, start_memory, place_values}
use Rattle.model_c89.specs.TargetStatements.{perform_all, with_names, in_scope}
use Rattle.model_core.specs.Program89 as text
use Rattle.model_core.specs.BuiltinTypes.{Builtin, Malloc, Calloc, Free, Exit, Abort, builtin_name}

abbrev pub void_pointer : Type89
void_pointer = Pointer false (Based false Void)

abbrev pub size_type : Type89
size_type = Based false UnsignedLong

-- the types of the five functions of <stdlib.h> that runs know
abbrev pub builtin_type : Builtin → Type89
builtin_type Malloc = Function void_pointer (more_types size_type no_types) false
builtin_type Calloc = Function void_pointer (more_types size_type (more_types size_type no_types)) false
builtin_type Free = Function (Based false Void) (more_types void_pointer no_types) false
builtin_type Exit = Function (Based false Void) (more_types int_type no_types) false
builtin_type Abort = Function (Based false Void) no_types false

abbrev pub first_builtin : List Builtin → (name : List ℕ) → Type89 → Option Builtin
first_builtin [] name type = None
first_builtin (b ∷ bs) name type = if bytes_eq (builtin_name b) name && compatible type (builtin_type b) then Some b else first_builtin bs name type

abbrev pub builtin_of : (name : List ℕ) → Type89 → Option Builtin
builtin_of = first_builtin (Malloc ∷ Calloc ∷ Free ∷ Exit ∷ Abort ∷ [])

-- a string is read at a pointer to const char; in the variable part, at one to char as well
abbrev pub is_text_parameter : Type89 → Bool
is_text_parameter (Pointer outer (Based is_const Char)) = is_const
is_text_parameter _ = false

abbrev pub is_text_argument : Type89 → Bool
is_text_argument (Pointer outer (Based is_const Char)) = true
is_text_argument _ = false

-- what the arguments are to an outside function; a C89 type says nothing of owners
abbrev pub passed : Types89 → List Type89 → List Value → List Passed
passed parameters types [] = []
passed parameters [] (v ∷ vs) = []
passed no_types (type ∷ types) (v ∷ vs) = record { value = v; is_text = is_text_argument type; is_owner = false } ∷ passed no_types types vs
passed (more_types parameter parameters) (type ∷ types) (v ∷ vs) =
    record { value = v; is_text = is_text_parameter parameter; is_owner = false } ∷ passed parameters types vs

abbrev pub integer_answer : Option Basic → Answering
integer_answer None = OtherAnswer
integer_answer (Some basic) = IntegerAnswer basic

-- what an outside function with this result answers
abbrev pub answering : List text.Structure89 → Type89 → Answering
answering structures (Based is_const Void) = NoAnswer
answering structures (Based is_const base) = integer_answer (integer_of base)
answering structures (Pointer outer (Based inner (Struct name))) = if is_incomplete structures name then HandleAnswer false else OtherAnswer
answering structures type = OtherAnswer

abbrev pub promoted_or : Option Basic → (type : Type89) → Value → Value
promoted_or None type value = value
promoted_or (Some basic) type value = value_as type (basic_type (promoted basic)) value

-- arguments converted to the types of the parameters, and behind these promoted
abbrev pub converted_arguments : Types89 → List Type89 → List Value → List Value
converted_arguments parameters types [] = []
converted_arguments no_types [] (v ∷ vs) = v ∷ vs
converted_arguments no_types (type ∷ types) (v ∷ vs) = promoted_or (integer_type type) type v ∷ converted_arguments no_types types vs
converted_arguments (more_types parameter parameters) [] (v ∷ vs) = v ∷ vs
converted_arguments (more_types parameter parameters) (type ∷ types) (v ∷ vs) = value_as type parameter v ∷ converted_arguments parameters types vs

abbrev pub parameters_of : Type89 → Types89
parameters_of (Function result parameters is_variadic) = parameters
parameters_of type = no_types

abbrev pub result_of : Type89 → Type89
result_of (Function result parameters is_variadic) = result
result_of type = type

-- the parameters get the values of the arguments
abbrev pub bind : List text.Structure89 → (call : ℕ) → List text.Declaration → List Value → Act (Unit {0})
bind structures call [] [] = just tt
bind structures call (d ∷ ds) (v ∷ vs) =
    store_to None (shape_of structures d.type) (Local call (Named d.name)) (pos 0) v ▷ (λ u. bind structures call ds vs)
bind structures call _ _ = ends (Undefined BadCall None)

-- the names that a function's body sees outside of it, with its parameters
abbrev pub frame_of : text.Program → Callee → text.Function → (call : ℕ) → Frame
frame_of program callee g call = record {
  program = program;
  call = call;
  callee = callee;
  objects = locals g;
  names = record { structures = program.structures; declared = g.parameters ++ file_names program };
  result = g.result;
}

-- a body, between the entry of the parameters' scope and its end
abbrev pub enter : text.Program → Callee → (bound : ℕ) → text.Function → List Value → (call : ℕ) → Act Value
enter program callee bound g vs call =
    enter_scope program.structures call g.parameters
    ▷ (λ u. bind program.structures call g.parameters vs
    ▷ (λ w. in_scope (frame_of program callee g call) g.objects (perform_all (with_names (frame_of program callee g call) g.objects) bound g.body)
    ▷ (λ flow. leave_scope program.structures call g.parameters ▷ (λ x. just (answer_of flow)))))

-- what a defined function does on arguments; `fits` says that it is called through a compatible type
abbrev pub Defined : Type 0
Defined = text.Function → (fits : Bool) → List Value → Act Value

abbrev pub known_call : text.Program → Option Builtin → (name : List ℕ) → Type89 → List Type89 → List Value → Act Value
known_call program (Some builtin) name type types vs = call_builtin None builtin vs
known_call program None name type types vs = call_outside None name (passed (parameters_of type) types vs) (answering program.structures (result_of type))

-- a call of a function that is declared and not defined
abbrev pub declared_call : text.Program → (name : List ℕ) → (called : Type89) → List Type89 → List Value → Option Type89 → Act Value
declared_call program name called types vs None = ends (Undefined BadCall None)
declared_call program name called types vs (Some type) =
    if compatible called type then known_call program (builtin_of name type) name type types vs else ends (Undefined BadCall None)

abbrev pub by_name : text.Program → Defined → (name : List ℕ) → (called : Type89) → List Type89 → List Value → Option text.Function → Act Value
by_name program defined name called types vs (Some g) = defined g (compatible called (text.function_type g)) vs
by_name program defined name called types vs None = declared_call program name called types vs (find_name (file_names program) name)

-- a call through a pointer
abbrev pub call_through : text.Program → Defined → Callee
call_through program defined Null type types vs = ends (Undefined NullCause None)
call_through program defined (Code (Named name)) type types vs =
    by_name program defined name (pointee type) types (converted_arguments (parameters_of (pointee type)) types vs) (text.function_of program.functions name)
call_through program defined _ type types vs = ends (Undefined BadCall None)

-- a call of a defined function takes one turn; calls lie at most so deep in one another
abbrev pub call_defined : text.Program → (bound : ℕ) → Defined
call_defined program zero g fits vs = ends Out
call_defined program (suc bound) g fits vs =
    take_turn
    ▷ (λ u. if fits then new_call ▷ enter program (call_through program (call_defined program bound)) bound g vs else ends (Undefined BadCall None))

abbrev pub call_entry : text.Program → (bound : ℕ) → Option text.Function → List Value → Act Value
call_entry program bound None arguments = ends (Undefined BadCall None)
call_entry program bound (Some g) arguments = call_defined program bound g true arguments

-- nothing is called for the values of static objects
abbrev pub no_call : Callee
no_call pointer type types vs = ends (Undefined BadCall None)

abbrev pub file_frame : text.Program → Frame
file_frame program = record {
  program = program;
  call = 0;
  callee = no_call;
  objects = [];
  names = record { structures = program.structures; declared = file_names program };
  result = int_type;
}

-- what becomes of an entry on arguments, from a state, with n turns to take
abbrev pub run_from : (n : ℕ) → text.Program → (entry : List ℕ) → (arguments : List Value) → Act Value
run_from n program entry arguments =
    place_values (file_frame program) program.outers ▷ (λ u. call_entry program n (text.function_of program.functions entry) arguments)

abbrev pub ended89 : (n : ℕ) → text.Program → (entry : List ℕ) → (arguments : List Value) → (world : List ℤ) → Step Value
ended89 n program entry arguments world = run_from n program entry arguments (start_with (start_memory program) n world)

-- the run of an entry on arguments, with n turns to take
abbrev pub run89 : (n : ℕ) → text.Program → (entry : List ℕ) → (arguments : List Value) → (world : List ℤ) → Run
run89 n program entry arguments world = run_of (ended89 n program entry arguments world)
