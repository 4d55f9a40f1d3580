-- What the worked examples of expressions are made of. A place is the rank of its token in the example's line.
use Rattle.std.specs.Prelude.{ℕ, ℤ, pos, Bool, true, false, if◌then◌else◌, List, [], ◌∷◌, codes, Option, Some, None, Result, Ok, Err}
use Rattle.cake_base.specs.declared.rules.Fault.{Fault}
use Rattle.model_types.specs.declared.types.Quals.{Quals}
use Rattle.model_types.specs.declared.marks.Origin.TheVariants.{Written}
use Rattle.model_types.specs.Types.{CType, typed, Function, Types, no_types}
use Rattle.model_types.specs.Structures.{Structure}
use Rattle.model_core.specs.CoreTypes.{no_quals, plain, int_type, pointer_to}
use Rattle.model_core.specs.TypedExpr.{is_typed, is_typed_lvalue}
use Rattle.model_core.specs.Core as unit
use Rattle.model_scopes.specs.Scopes.{file_scope}
use Rattle.model_grammar.specs.declared.syntax.Name.{Name}
use Rattle.model_checking.specs.State.{State, Answer, start, gives, beside}
use Rattle.model_checking.specs.Meanings.{Meaning, a_place, a_value, a_function, a_target, Operand}
use Rattle.model_checking.specs.MadeCore as made
use Rattle.checking_rows.specs.InitializerParts.{at, mark, broken, char_type, void_type, array, structure, member, struct_of}

-- ---- types

abbrev pub only_const : Quals
only_const = record no_quals { has_const = true }

abbrev pub only_owner : Quals
only_owner = record no_quals { has_owner = true }

abbrev pub only_view : Quals
only_view = record no_quals { has_view = true }

abbrev pub with_quals : Quals → CType → CType
with_quals quals (typed form none) = typed form quals

abbrev pub const : CType → CType
const type = with_quals only_const type

abbrev pub function_of : CType → Types → CType
function_of result parameters = plain (Function result parameters false)

abbrev pub int_pointer : CType
int_pointer = pointer_to int_type

abbrev pub void_pointer : CType
void_pointer = pointer_to void_type

-- int (void)
abbrev pub int_function : CType
int_function = function_of int_type no_types

-- char * _Owner
abbrev pub owner : CType
owner = with_quals only_owner (pointer_to char_type)

-- struct pair { int a; int row[2]; };
abbrev pub pair : CType
pair = structure 0

-- struct fixed { const int c; };
abbrev pub fixed : CType
fixed = structure 1

-- struct outer { struct fixed inner[2]; };
abbrev pub outer : CType
outer = structure 2

-- struct holder { char * _Owner text; int n; };
abbrev pub holder : CType
holder = structure 3

-- struct hidden;
abbrev pub hidden : CType
hidden = structure 4

abbrev pub structures : List Structure
structures =
    struct_of (member (codes "a") int_type ∷ member (codes "row") (array 2 int_type) ∷ [])
    ∷ struct_of (member (codes "c") (const int_type) ∷ [])
    ∷ struct_of (member (codes "inner") (array 2 fixed) ∷ [])
    ∷ struct_of (member (codes "text") owner ∷ member (codes "n") int_type ∷ [])
    ∷ record { tag = None; outer = true; place = at 0; members = None }
    ∷ []

-- before an example: these structures, and nothing else is declared
abbrev pub before : State
before = start (record file_scope { structs = structures; ids = 50 })

-- ---- what stands at a place

abbrev pub object : (id : ℕ) → CType → (order : ℕ) → Meaning
object id type order = a_place (unit.Object id type (mark order)) None

-- a `constexpr` object of value 0
abbrev pub known : (id : ℕ) → CType → (order : ℕ) → Meaning
known id type order = a_place (unit.Object id type (mark order)) (Some (pos 0))

abbrev pub function : (id : ℕ) → CType → (order : ℕ) → Meaning
function id type order = a_function id type true (mark order)

abbrev pub number : ℤ → (order : ℕ) → Meaning
number value order = a_value (unit.Constant value int_type (mark order))

-- v(), where `void v(void);`
abbrev pub void_call : (order : ℕ) → Meaning
void_call order = a_value (unit.Call (unit.FunctionRef 40 (function_of void_type no_types) true (mark order)) unit.no_exprs (mark order))

-- f(), where `struct pair f(void);`
abbrev pub pair_call : (order : ℕ) → Meaning
pair_call order = a_value (unit.Call (unit.FunctionRef 41 (function_of pair no_types) true (mark order)) unit.no_exprs (mark order))

abbrev pub nullptr : (order : ℕ) → Meaning
nullptr order = a_value (unit.Constant (pos 0) void_pointer (mark order))

-- (type)e
abbrev pub cast_to : CType → Meaning → (order : ℕ) → Meaning
cast_to type e order = a_value (unit.Convert Written type (made.value_of e) (mark order))

abbrev pub operand : (ℕ → Meaning) → (order : ℕ) → Operand
operand m order = made.operand (at order) (m order)

abbrev pub named : List ℕ → (order : ℕ) → Name
named text order = record { text = text; place = at order }

-- ---- what comes out

abbrev pub breaks : (rule order : ℕ) → Result Meaning Fault
breaks rule order = Err (broken rule order)

abbrev pub breaks_rule : (rule order : ℕ) → Option Fault
breaks_rule rule order = Some (broken rule order)

abbrev pub is_well_made : Meaning → Bool
is_well_made (a_place object value) = is_typed_lvalue object
is_well_made (a_value e) = is_typed e
is_well_made (a_function id type by_name mark) = true
is_well_made (a_target pointer) = is_typed pointer

-- the type of what is accepted, and is typed
abbrev pub type_made : Result Meaning Fault → Option CType
type_made (Ok m) = if is_well_made m then Some (made.meaning_type m) else None
type_made (Err fault) = None

abbrev pub alone : Answer Meaning → Result Meaning Fault
alone (Ok both) = Ok both.made
alone (Err fault) = Err fault

-- a form whose right part is undeclared at a place, by what its left part breaks alone
abbrev pub with_undeclared : (left : Option Fault) → (order : ℕ) → Result Meaning Fault
with_undeclared left order = alone (beside {A = Meaning} left (Err (broken 5 order)) (λ right s. gives right s))
