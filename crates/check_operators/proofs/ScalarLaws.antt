-- Operands that are no integers and no pointers, which no operator takes.
use Rattle.std.proofs.Common.{◌≡◌, refl, ℕ, Bool, true, false, ◌&&◌, ◌||◌, None, Result, Err, List, if◌then◌else◌}
use Rattle.std.proofs.lemmas.Bool.{not-true}
use Rattle.cake_base.specs.declared.places.Place.{Place}
use Rattle.cake_base.specs.declared.rules.Fault.{Fault}
use Rattle.model_types.specs.declared.numbers.BinOp.{BinOp}
use Rattle.model_types.specs.declared.numbers.BinOp.TheVariants as op
use Rattle.model_types.specs.declared.operators.UnaryOp.{UnaryOp}
use Rattle.model_types.specs.declared.operators.UnaryOp.TheVariants as unary
use Rattle.model_types.specs.declared.marks.Mark.{Mark}
use Rattle.model_types.specs.Types.{CType, typed, Form, Void, Integer, Enum, Pointer, Array, Struct, Function, form_of_type}
use Rattle.model_types.specs.Structures.{Structure}
use Rattle.model_types.specs.Layout.{is_complete}
use Rattle.model_scopes.specs.DeclarationRules.{constraint_at}
use Rattle.model_core.specs.CoreTypes.{unqualified, is_pointer, is_void, type_of, object_type}
use Rattle.model_core.specs.SameTypes.{is_integer, is_null_constant}
use Rattle.model_core.specs.TypedParts.{is_scalar, is_storable, is_array, is_function_pointer, is_object_pointer, takes_one}
use Rattle.model_core.specs.TypedExpr.{form_of, object_form}
use Rattle.model_core.specs.TypedScope.{can_move}
use Rattle.model_core.specs.SourceMarks.{lvalue_mark}
use Rattle.model_core.specs.Core as unit
use Rattle.model_checking.specs.Meanings.{Meaning, a_place, Operand}
use Rattle.model_checking.specs.State.{unless}
use Rattle.model_checking.specs.Faults.{wants}
use Rattle.model_checking.specs.MadeCore.{are_integers, operand_form, used_fault, unread_fault, promoted_value}
use Rattle.model_checking.specs.PointerRules.{may_be_added, are_moved, is_pointer_or_null, may_be_compared, points_to_object}
use Rattle.model_checking.specs.BinaryRules.{operation}
use Rattle.model_checking.specs.UnaryRules.{followed}
use Rattle.typed_rule_laws.proofs.TypeForms as forms
use Rattle.typed_rule_laws.proofs.NullConstants.{null_is_scalar}
use Rattle.typed_rule_laws.proofs.Converted.{promoted_value_promoted}
use Rattle.check_operators.specs.Rules.{element, is_inverse}
use Rattle.check_operators.specs.Designated.{loads_no_array}

-- ---- objects that aren't loaded

unstored : (t : CType) → is_storable (form_of_type t) ≡ false → is_scalar (form_of_type (unqualified t)) ≡ false
unstored (typed Void q) h = refl
unstored (typed (Integer b) q) h = cc
unstored (typed (Enum b d) q) h = cc
unstored (typed (Pointer t) q) h = cc
unstored (typed (Array t n) q) h = refl
unstored (typed (Struct s) q) h = cc
unstored (typed (Function t ps v) q) h = refl

pub unstored_no_scalar : (object : unit.Lvalue) → is_storable (object_form object) ≡ false →
    is_scalar (form_of (unit.Load object (lvalue_mark object))) ≡ false
unstored_no_scalar object h = unstored (object_type object) h

complete_stored : (structs : List Structure) (t : CType) → is_complete structs t ≡ true → is_array (form_of_type t) ≡ false → is_storable (form_of_type t) ≡ true
complete_stored structs (typed Void q) c a = cc
complete_stored structs (typed (Integer b) q) c a = refl
complete_stored structs (typed (Enum b d) q) c a = refl
complete_stored structs (typed (Pointer t) q) c a = refl
complete_stored structs (typed (Array t n) q) c a = cc
complete_stored structs (typed (Struct s) q) c a = refl
complete_stored structs (typed (Function t ps v) q) c a = cc

read_by : (structs : List Structure) (t : CType) (first : Place) (complete void later : Bool) → is_complete structs t ≡ complete → later ≡ complete →
    (if (if complete then false else true) then (if void then wants false first 21 else wants later first 22) else None) ≡ None → is_complete structs t ≡ true
read_by structs t first true void later e l h = e
read_by structs t first false true later e l h = cc
read_by structs t first false false true e l h = cc
read_by structs t first false false false e l h = cc

-- a part of a comma that isn't an object without a value can be loaded
pub read_is_stored : (structs : List Structure) (object : unit.Lvalue) (mark : Mark) (first : Place) → loads_no_array (unit.Load object mark) ≡ true →
    unread_fault structs (record { value = unit.Load object mark; first = first }) ≡ None → is_storable (object_form object) ≡ true
read_is_stored structs object mark first a h =
    complete_stored structs (object_type object)
    (read_by structs (object_type object) first (is_complete structs (object_type object)) (is_void (unqualified (object_type object)))
    (is_complete structs (unqualified (object_type object))) refl (forms.unqualified_complete structs (object_type object)) h)
    (not-true (is_array (object_form object)) a)

-- ---- tests that fail where an operand is no scalar

no_one : (a p : Bool) → a || p ≡ false → a ≡ false
no_one true p h = cc
no_one false p h = refl

no_integers : (a p b q : Bool) → (a || p) && (b || q) ≡ false → a && b ≡ false
no_integers true p true q h = cc
no_integers true p false q h = refl
no_integers false p b q h = refl

no_sum : (a p b q : Bool) → (a || p) && (b || q) ≡ false → a && b || p && b || q && a ≡ false
no_sum true true true true h = cc
no_sum true true true false h = cc
no_sum true true false true h = cc
no_sum true true false false h = refl
no_sum true false true true h = cc
no_sum true false true false h = cc
no_sum true false false true h = cc
no_sum true false false false h = refl
no_sum false true true true h = cc
no_sum false true true false h = cc
no_sum false true false true h = cc
no_sum false true false false h = refl
no_sum false false true true h = refl
no_sum false false true false h = refl
no_sum false false false true h = refl
no_sum false false false false h = refl

no_difference : (a p b q : Bool) → (a || p) && (b || q) ≡ false → a && b || p && b || p && q ≡ false
no_difference true true true true h = cc
no_difference true true true false h = cc
no_difference true true false true h = cc
no_difference true true false false h = refl
no_difference true false true true h = cc
no_difference true false true false h = cc
no_difference true false false true h = cc
no_difference true false false false h = refl
no_difference false true true true h = cc
no_difference false true true false h = cc
no_difference false true false true h = cc
no_difference false true false false h = refl
no_difference false false true true h = refl
no_difference false false true false h = refl
no_difference false false false true h = refl
no_difference false false false false h = refl

no_element : (a p b q : Bool) → (a || p) && (b || q) ≡ false → p && b || q && a ≡ false
no_element true true true true h = cc
no_element true true true false h = cc
no_element true true false true h = cc
no_element true true false false h = refl
no_element true false true true h = cc
no_element true false true false h = cc
no_element true false false true h = cc
no_element true false false false h = refl
no_element false true true true h = cc
no_element false true true false h = cc
no_element false true false true h = cc
no_element false true false false h = refl
no_element false false true true h = refl
no_element false false true false h = refl
no_element false false false true h = refl
no_element false false false false h = refl

no_comparison : (a p n b q m : Bool) → (n ≡ true → a || p ≡ true) → (m ≡ true → b || q ≡ true) → (a || p) && (b || q) ≡ false →
    a && b || (p || n) && (q || m) ≡ false
no_comparison false false true b q m hn hm h = let e : false ≡ true = hn refl in cc
no_comparison false false false b q m hn hm h = refl
no_comparison false true n true q m hn hm h = cc
no_comparison false true n false true m hn hm h = cc
no_comparison false true n false false true hn hm h = let e : false ≡ true = hm refl in cc
no_comparison false true n false false false hn hm h = refl
no_comparison true p n true q m hn hm h = cc
no_comparison true p n false true m hn hm h = cc
no_comparison true p n false false true hn hm h = let e : false ≡ true = hm refl in cc
no_comparison true true n false false false hn hm h = refl
no_comparison true false true false false false hn hm h = refl
no_comparison true false false false false false hn hm h = refl

broken_by : (b : Bool) (place : Place) (rule : ℕ) (r : Result Meaning Fault) → b ≡ false → unless (wants b place rule) r ≡ Err (constraint_at place rule)
broken_by true place rule r h = cc
broken_by false place rule r h = refl

-- ---- rules that refuse them

abbrev NoScalars : (a b : Operand) → Type 0
NoScalars a b = is_scalar (operand_form a) && is_scalar (operand_form b) ≡ false

integers_refused : (a b : Operand) (mark : Mark) (r : Result Meaning Fault) → NoScalars a b →
    unless (wants (are_integers (operand_form a) (operand_form b)) mark.at 9) r ≡ Err (constraint_at mark.at 9)
integers_refused a b mark r h =
    broken_by (are_integers (operand_form a) (operand_form b)) mark.at 9 r
    (no_integers (is_integer (operand_form a)) (is_pointer (operand_form a)) (is_integer (operand_form b)) (is_pointer (operand_form b)) h)

comparison_refused : (a b : Operand) (mark : Mark) (r : Result Meaning Fault) → NoScalars a b →
    unless (wants (may_be_compared a.value b.value) mark.at 9) r ≡ Err (constraint_at mark.at 9)
comparison_refused a b mark r h =
    broken_by (may_be_compared a.value b.value) mark.at 9 r
    (no_comparison (is_integer (operand_form a)) (is_pointer (operand_form a)) (is_null_constant a.value)
    (is_integer (operand_form b)) (is_pointer (operand_form b)) (is_null_constant b.value) (null_is_scalar a.value) (null_is_scalar b.value) h)

pub no_scalar_operation : (structs : List Structure) (o : BinOp) (mark : Mark) (a b : Operand) → is_scalar (operand_form a) && is_scalar (operand_form b) ≡ false →
    operation structs o mark a b ≡ Err (constraint_at mark.at 9)
no_scalar_operation structs op.Mul mark a b h = integers_refused a b mark _ h
no_scalar_operation structs op.Div mark a b h = integers_refused a b mark _ h
no_scalar_operation structs op.Rem mark a b h = integers_refused a b mark _ h
no_scalar_operation structs op.Add mark a b h = broken_by _ mark.at 9 _ (no_sum (is_integer (operand_form a)) (is_pointer (operand_form a)) (is_integer (operand_form b)) (is_pointer (operand_form b)) h)
no_scalar_operation structs op.Sub mark a b h = broken_by _ mark.at 9 _ (no_difference (is_integer (operand_form a)) (is_pointer (operand_form a)) (is_integer (operand_form b)) (is_pointer (operand_form b)) h)
no_scalar_operation structs op.ShiftLeft mark a b h = integers_refused a b mark _ h
no_scalar_operation structs op.ShiftRight mark a b h = integers_refused a b mark _ h
no_scalar_operation structs op.Less mark a b h = comparison_refused a b mark _ h
no_scalar_operation structs op.Greater mark a b h = comparison_refused a b mark _ h
no_scalar_operation structs op.LessEqual mark a b h = comparison_refused a b mark _ h
no_scalar_operation structs op.GreaterEqual mark a b h = comparison_refused a b mark _ h
no_scalar_operation structs op.Equal mark a b h = comparison_refused a b mark _ h
no_scalar_operation structs op.NotEqual mark a b h = comparison_refused a b mark _ h
no_scalar_operation structs op.BitAnd mark a b h = integers_refused a b mark _ h
no_scalar_operation structs op.BitXor mark a b h = integers_refused a b mark _ h
no_scalar_operation structs op.BitOr mark a b h = integers_refused a b mark _ h

pub no_scalar_element : (structs : List Structure) (mark : Mark) (a b : Operand) → is_scalar (operand_form a) && is_scalar (operand_form b) ≡ false →
    element structs mark a b ≡ Err (constraint_at mark.at 9)
no_scalar_element structs mark a b h =
    broken_by _ mark.at 9 _ (no_element (is_integer (operand_form a)) (is_pointer (operand_form a)) (is_integer (operand_form b)) (is_pointer (operand_form b)) h)

no_function_pointer : (f : Form) → is_scalar f ≡ false → is_function_pointer f ≡ false
no_function_pointer (Pointer t) h = cc
no_function_pointer Void h = refl
no_function_pointer (Integer b) h = refl
no_function_pointer (Enum b d) h = refl
no_function_pointer (Array t n) h = refl
no_function_pointer (Struct s) h = refl
no_function_pointer (Function t ps v) h = refl

no_object_pointer : (f : Form) → is_scalar f ≡ false → is_object_pointer f ≡ false
no_object_pointer (Pointer t) h = cc
no_object_pointer Void h = refl
no_object_pointer (Integer b) h = refl
no_object_pointer (Enum b d) h = refl
no_object_pointer (Array t n) h = refl
no_object_pointer (Struct s) h = refl
no_object_pointer (Function t ps v) h = refl

followed_by : (f o c : Bool) (first : Place) (r s : Result Meaning Fault) → f ≡ false → o ≡ false →
    (if f then r else unless (wants (o && c) first 12) s) ≡ Err (constraint_at first 12)
followed_by true o c first r s hf ho = cc
followed_by false true c first r s hf ho = cc
followed_by false false c first r s hf ho = refl

pub no_scalar_followed : (structs : List Structure) (mark : Mark) (o : Operand) → is_scalar (operand_form o) ≡ false →
    followed structs mark o ≡ Err (constraint_at o.first 12)
no_scalar_followed structs mark o h =
    followed_by (is_function_pointer (operand_form o)) (is_object_pointer (operand_form o)) (can_move structs (operand_form o)) o.first _ _
    (no_function_pointer (operand_form o) h) (no_object_pointer (operand_form o) h)

pub no_scalar_integer : (f : Form) → is_scalar f ≡ false → is_integer f ≡ false
no_scalar_integer f h = no_one (is_integer f) (is_pointer f) h

-- ---- what is promoted is taken by `-` and `~`

pub promoted_taken : (o : UnaryOp) (e : unit.Expr) → is_inverse o ≡ true → takes_one o (form_of (promoted_value e)) ≡ true
promoted_taken unary.Minus e h = promoted_value_promoted e
promoted_taken unary.Complement e h = promoted_value_promoted e
promoted_taken unary.Not e h = cc
