-- Structures in expressions: their members, what may be changed in them, and the qualifiers of ownership.
use Rattle.std.specs.Prelude.{ℕ, pos, List, [], codes, Result, Ok, Err}
use Rattle.cake_base.specs.declared.rules.Fault.{Fault}
use Rattle.model_grammar.specs.declared.syntax.PrefixOp.TheVariants as prefix
use Rattle.model_types.specs.Types.{CType}
use Rattle.model_core.specs.CoreTypes.{int_type, pointer_to}
use Rattle.model_core.specs.Core as unit
use Rattle.model_checking.specs.State.{Evaluated, Unevaluated, Answer, then_do, with_state}
use Rattle.model_checking.specs.Meanings.{Meaning}
use Rattle.model_checking.specs.MadeCore as made
use Rattle.model_checking.specs.Conversion.{passed}
use Rattle.model_checking.specs.UnaryRules.{unary}
use Rattle.model_checking.specs.PointerRules.{index}
use Rattle.model_checking.specs.MemberRules.{member, arrow}
use Rattle.model_checking.specs.AssignRules.{assign}
use Rattle.checking_rows.specs.InitializerParts.{at, mark, char_type, char_pointer, array}
use Rattle.checking_rows.specs.ExpressionParts.{only_view, with_quals, const, owner, pair, outer, holder, hidden, structures, before, object, number, void_call, pair_call, operand, named, alone}

-- ---- members

-- struct pair x; x.a
abbrev pub of_object : Result Meaning Fault
of_object = alone (member Evaluated (object 1 pair 0) (named (codes "a") 2) (mark 1) before)

-- struct pair x; x.b
abbrev pub not_there : Result Meaning Fault
not_there = alone (member Evaluated (object 1 pair 0) (named (codes "b") 2) (mark 1) before)

-- extern struct hidden x; x.a
abbrev pub of_hidden : Result Meaning Fault
of_hidden = alone (member Evaluated (object 1 hidden 0) (named (codes "a") 2) (mark 1) before)

-- int x; x.a
abbrev pub of_number : Result Meaning Fault
of_number = alone (member Evaluated (object 1 int_type 0) (named (codes "a") 2) (mark 1) before)

-- v().a
abbrev pub of_void : Result Meaning Fault
of_void = alone (member Evaluated (void_call 0) (named (codes "a") 4) (mark 3) before)

-- struct pair f(void); f().a
abbrev pub of_value : Result Meaning Fault
of_value = alone (member Evaluated (pair_call 0) (named (codes "a") 4) (mark 3) before)

-- f().a = 1
abbrev pub of_value_assigned : Result Meaning Fault
of_value_assigned =
    alone (then_do (member Evaluated (pair_call 0) (named (codes "a") 4) (mark 3) before)
    (λ m s. with_state (assign structures (mark 5) m (operand (number (pos 1)) 6)) s))

-- f().row
abbrev pub row_of_value : Answer Meaning
row_of_value = member Evaluated (pair_call 0) (named (codes "row") 4) (mark 3) before

-- f().row[0]
abbrev pub element_of_value : Result Meaning Fault
element_of_value =
    alone (then_do row_of_value (λ m s. with_state (index structures (mark 5) (made.operand (at 0) m) (operand (number (pos 0)) 6)) s))

-- &f().row
abbrev pub address_of_row : Result Meaning Fault
address_of_row = alone (then_do row_of_value (λ m s. with_state (unary structures prefix.Address (mark 0) (at 1) m) s))

-- sizeof f().row, f().row once more for its type
abbrev pub row_alone : Result Meaning Fault
row_alone = alone row_of_value

-- the objects that were made, in an evaluated part and in another, and those of the block
abbrev pub made_in : Answer Meaning → List ℕ
made_in (Ok both) = both.state.automatic
made_in (Err fault) = []

abbrev pub row_unevaluated : Answer Meaning
row_unevaluated = member Unevaluated (pair_call 0) (named (codes "row") 4) (mark 3) before

-- ---- qualifiers that reach members

-- const struct pair *p; p->a
abbrev pub of_const : Result Meaning Fault
of_const = arrow structures (operand (object 1 (pointer_to (const pair))) 0) (named (codes "a") 2) (mark 1)

-- const struct pair *p; p->row
abbrev pub row_of_const : Result Meaning Fault
row_of_const = arrow structures (operand (object 1 (pointer_to (const pair))) 0) (named (codes "row") 2) (mark 1)

-- _View struct holder *p; p->text
abbrev pub of_view : Result Meaning Fault
of_view = arrow structures (operand (object 1 (pointer_to (with_quals only_view holder))) 0) (named (codes "text") 2) (mark 1)

-- struct holder *p; p->text
abbrev pub of_holder : Result Meaning Fault
of_holder = arrow structures (operand (object 1 (pointer_to holder)) 0) (named (codes "text") 2) (mark 1)

-- ---- what may be changed

-- struct outer x, y; x = y
abbrev pub const_inside : Result Meaning Fault
const_inside = assign structures (mark 1) (object 1 outer 0) (operand (object 2 outer) 2)

-- struct pair x, y; x = y
abbrev pub structure_assigned : Result Meaning Fault
structure_assigned = assign structures (mark 1) (object 1 pair 0) (operand (object 2 pair) 2)

-- int a[3], b[3]; a = b
abbrev pub array_assigned : Result Meaning Fault
array_assigned = assign structures (mark 1) (object 1 (array 3 int_type) 0) (operand (object 2 (array 3 int_type)) 2)

-- extern struct hidden x, y; x = y
abbrev pub hidden_assigned : Result Meaning Fault
hidden_assigned = assign structures (mark 1) (object 1 hidden 0) (operand (object 2 hidden) 2)

-- const int x; x = 1
abbrev pub const_assigned : Result Meaning Fault
const_assigned = assign structures (mark 1) (object 1 (const int_type) 0) (operand (number (pos 1)) 2)

-- struct pair x; struct holder y; x = y
abbrev pub other_structure : Result Meaning Fault
other_structure = assign structures (mark 1) (object 1 pair 0) (operand (object 2 holder) 2)

-- ---- what may be dropped behind a pointer: q is given to p

abbrev pub given : (to from : CType) → Result unit.Expr Fault
given to from = passed structures (at 2) (pointer_to to) (made.value_of (object 1 (pointer_to from) 2))

abbrev pub drops_const : Result unit.Expr Fault
drops_const = given char_type (const char_type)

abbrev pub gains_const : Result unit.Expr Fault
gains_const = given (const char_type) char_type

abbrev pub drops_view : Result unit.Expr Fault
drops_view = given char_type (with_quals only_view char_type)

abbrev pub gains_view : Result unit.Expr Fault
gains_view = given (with_quals only_view char_type) char_type

abbrev pub gains_owner : Result unit.Expr Fault
gains_owner = given owner char_pointer

abbrev pub drops_owner : Result unit.Expr Fault
drops_owner = given char_pointer owner

-- of arrays it is their elements' qualifiers
abbrev pub array_gains_const : Result unit.Expr Fault
array_gains_const = given (array 3 (const int_type)) (array 3 int_type)

abbrev pub array_drops_const : Result unit.Expr Fault
array_drops_const = given (array 3 int_type) (array 3 (const int_type))

-- deeper ones have to agree
abbrev pub deeper_const : Result unit.Expr Fault
deeper_const = given (pointer_to (const char_type)) char_pointer

-- char * _Owner *p; p = 0
abbrev pub null_for_owners : Result unit.Expr Fault
null_for_owners = passed structures (at 2) (pointer_to owner) (made.value_of (number (pos 0) 2))

-- char * _Owner p; char *q; p = q
abbrev pub owner_gets_pointer : Result unit.Expr Fault
owner_gets_pointer = passed structures (at 2) owner (made.value_of (object 1 char_pointer 2))
