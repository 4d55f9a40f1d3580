-- What the walk over a tree makes of its smallest parts: operands, constants, first tokens, types, lengths, and the
-- function literals that wait.
use Rattle.std.specs.Prelude.{ℕ, ◌+◌, ℤ, Bool, false, ◌||◌, not, List, [], ◌∷◌, ◌++◌, Option, Some, None, Result, Ok, Err}
use Rattle.std.specs.Option.{unwrap_or}
use Rattle.cake_base.specs.declared.places.Place.{Place}
use Rattle.cake_base.specs.declared.rules.Fault.{Fault}
use Rattle.model_types.specs.Structures.{Structure}
use Rattle.model_types.specs.Types.{CType, Form, form_of_type}
use Rattle.model_scopes.specs.Declarations.{Value}
use Rattle.model_scopes.specs.Scopes.{drawn}
use Rattle.model_grammar.specs.SyntaxForms as syntax
use Rattle.c_tree.specs.SyntaxPlaces.{expr_first, specs_first, type_name_first, declarator_first}
use Rattle.model_core.specs.CoreTypes.{int_type}
use Rattle.model_core.specs.TypedParts.{is_array, is_function, is_struct}
use Rattle.model_checking.specs.State.{Use, State, Waiting, Both, Answer, Reached, gives, then_do, unless, with_state, in_scopes, note_type}
use Rattle.model_checking.specs.Meanings.{Meaning, a_function, Operand}
use Rattle.model_checking.specs.Parts.{Declared}
use Rattle.model_checking.specs.Marks.{mark_of}
use Rattle.model_checking.specs.MadeCore.{operand, used_fault}
use Rattle.model_checking.specs.ConstantValues.{constant_of}
use Rattle.model_checking.specs.FaultsBeside.{first_of_faults, fault_if}
use Rattle.model_checking.specs.Assertions.{assertion_fault}
use Rattle.model_checking.specs.Derivations.{Derivation, an_array, array_length}
use Rattle.model_checking.specs.Declaring.{definition_fault}

-- ---- operands and constants

abbrev pub as_operand : syntax.Expr → Answer Meaning → Answer Operand
as_operand e answer = then_do answer (λ meaning s. gives (operand (expr_first e) meaning) s)

abbrev constant_number : Result Value Fault → Result ℤ Fault
constant_number (Ok v) = Ok v.value
constant_number (Err fault) = Err fault

-- C21, C22, then C23 and C24
abbrev constant_in : List Structure → Operand → Result ℤ Fault
constant_in structs o = unless (used_fault structs o) (constant_number (constant_of o.first o.value))

-- the value of an integer constant expression (6.6)
abbrev pub as_constant : syntax.Expr → Answer Meaning → Answer ℤ
as_constant e answer = then_do (as_operand e answer) (λ o s. with_state (constant_in s.scopes.structs o) s)

abbrev pub asserted_of : Place → Answer ℤ → Answer ℤ
asserted_of place answer = then_do answer (λ value s. unless (assertion_fault place value) (gives value s))

abbrev pub count_of : syntax.Exprs → ℕ
count_of syntax.no_exprs = 0
count_of (syntax.more_exprs first others) = 1 + count_of others

-- ---- first tokens; no tree of the grammar is without one

abbrev nowhere : Place
nowhere = record { file = 0; line = 0; column = 0; order = 0 }

abbrev pub type_name_place : syntax.TypeName → Place
type_name_place name = unwrap_or (type_name_first name) nowhere

abbrev pub specs_place : syntax.Specs → Place
specs_place specs = unwrap_or (specs_first specs) nowhere

-- of a declarator, or what stands before it where it has none
abbrev pub first_or : (before : Place) → syntax.Declarator → Place
first_or before d = unwrap_or (declarator_first d) before

-- of a declarator that has a name
abbrev pub named_first : syntax.Declarator → Place
named_first d = first_or nowhere d

-- the `{`
abbrev pub braces_place : syntax.Braces → Place
braces_place (syntax.braces items place) = place

-- ---- types

-- the type of a declarator that doesn't infer it
abbrev pub declared_type : Declared → CType
declared_type d = unwrap_or d.type int_type

abbrev pub note_declared : Use → Both Declared → Answer Declared
note_declared u x = gives x.made (note_type u x.made.first (declared_type x.made) x.state)

abbrev pub or_type : Option CType → Option CType → Option CType
or_type (Some type) other = Some type
or_type None other = other

abbrev pub given_type : Answer CType → Answer (Option CType)
given_type answer = then_do answer (λ type s. gives (Some type) s)

-- ---- the type of a cast: nothing is cast to an array, a function or a structure (C18), whatever the operand is and also
-- where a length or a parameter is faulty; where the type isn't known, its own fault is all that is told

abbrev is_never_cast : Form → Bool
is_never_cast form = is_array form || is_function form || is_struct form

abbrev target_fault_of : Option CType → (own : Option Fault) → Place → Option Fault
target_fault_of None own place = own
target_fault_of (Some type) own place = fault_if (is_never_cast (form_of_type type)) place 18

abbrev pub target_fault : Place → Declared → Option Fault
target_fault place d = target_fault_of d.type d.fault place

-- ---- what declarators derive

abbrev array_of_length : syntax.MaybeExpr → Option ℤ → Result (Option ℕ) Fault
array_of_length (syntax.an_expr e) (Some value) = array_length (expr_first e) value
array_of_length length value = Ok None

abbrev pub an_array_of : syntax.MaybeExpr → Answer (Option ℤ) → Answer Derivation
an_array_of length answer =
    then_do answer (λ value s. then_do (with_state (array_of_length length value) s) (λ count s. gives (an_array count) s))

-- the only parameter, and no `...` behind it
abbrev pub is_alone : syntax.Parameters → (is_variadic : Bool) → Bool
is_alone syntax.no_parameters is_variadic = false
is_alone (syntax.more_parameters first syntax.no_parameters) is_variadic = not is_variadic
is_alone (syntax.more_parameters first (syntax.more_parameters second others)) is_variadic = false

-- ---- function literals (this profile's own): a function whose body waits for the end of the full expression

abbrev waiting : Use → syntax.Expr → Declared → State → Waiting
waiting u literal d s = record {
  evaluation = u;
  id = s.scopes.ids;
  literal = literal;
  type = declared_type d;
  parameters = d.parameters;
}

abbrev with_waiting : Waiting → State → State
with_waiting w s = record (in_scopes (drawn s.scopes) s) { waiting = s.waiting ++ w ∷ [] }

abbrev pub function_literal : Use → (literal : syntax.Expr) → (place : Place) → Declared → State → Answer Meaning
function_literal u literal place d s =
    unless (first_of_faults (definition_fault s.scopes.structs place d.first d) d.fault)
    (gives (a_function s.scopes.ids (declared_type d) false (mark_of literal)) (with_waiting (waiting u literal d s) s))

-- what is done at the end of a full expression: the bodies of the function literals in it are elaborated, or, in a
-- compound literal, which is no full expression, they wait
abbrev pub Ends : Type 0
Ends = State → Reached

abbrev pub waits : Ends
waits s = Ok s
