-- What a value breaks where it is used, given to an object or wanted constant (ISO/IEC 9899:2024, 6.3.3, 6.5.17.2, 6.6).
use Rattle.std.specs.Prelude.{ℕ, Bool, false, ◌&&◌, ◌||◌, not, List, is_some}
use Rattle.model_types.specs.declared.numbers.Basic.TheVariants as basic
use Rattle.model_types.specs.Types.{CType, Form, Integer, Enum, Pointer, Struct, form_of_type}
use Rattle.model_types.specs.Structures.{Structure}
use Rattle.model_types.specs.Layout.{is_complete}
use Rattle.model_core.specs.CoreTypes.{type_of, object_type, is_void, is_pointer}
use Rattle.model_core.specs.SameTypes.{is_integer, is_null_constant, is_built_of_constants, constant_value, same_form}
use Rattle.model_core.specs.StaticValues.{is_null_pointer, is_address, is_integer_constant}
use Rattle.model_core.specs.TypedParts.{is_scalar, comparable}
use Rattle.model_core.specs.TypedExpr.{form_of}
use Rattle.model_core.specs.Core as unit
use Rattle.model_checking.specs.Qualifiers.{quals_behind, loses}
use Rattle.model_checking.specs.ConstantValues.{is_fixed}
use Rattle.model_checking.specs.Meanings.{Operand}
use Rattle.model_constraints.specs.Pairs.{Pairs, At, Beside}

-- ---- a value that is used: C21 where it is void; C22 where it is that of an incomplete structure

abbrev pub broken_use : List Structure → Operand → Pairs
broken_use structs o =
    Beside (At o.first 21 (is_void (type_of o.value)))
    (At o.first 22 (not (is_void (type_of o.value)) && not (is_complete structs (type_of o.value))))

-- an object that is read though it has no value
abbrev pub reads_incomplete : List Structure → unit.Expr → Bool
reads_incomplete structs (unit.Load object mark) = not (is_complete structs (object_type object))
reads_incomplete structs _ = false

-- where a value may be void, an object is read all the same
abbrev pub broken_reading : List Structure → Operand → Pairs
broken_reading structs o =
    Beside (At o.first 21 (reads_incomplete structs o.value && is_void (type_of o.value)))
    (At o.first 22 (reads_incomplete structs o.value && not (is_void (type_of o.value))))

-- ---- a value that is given to an object of a type

-- integers to integers, null pointer constants to pointers; pointers to pointers to compatible types, the qualifiers of
-- these aside, or of which one is to void; pointers to `bool`; and a structure to its own type
abbrev pub may_be_given : (to : Form) → unit.Expr → Bool
may_be_given (Integer basic.Bool) e = is_scalar (form_of e)
may_be_given (Integer number) e = is_integer (form_of e)
may_be_given (Enum number order) e = is_integer (form_of e)
may_be_given (Pointer type) e = is_null_constant e || comparable (form_of e) (Pointer type)
may_be_given (Struct id) e = same_form (form_of e) (Struct id)
may_be_given form e = false

-- `const` or `_View` behind a pointer is dropped, or `_Owner` or `_Opt` behind it isn't the same; from a null pointer
-- constant nothing is dropped
abbrev pub drops_qualifier : (to : Form) → unit.Expr → Bool
drops_qualifier to e =
    not (is_null_constant e) && is_pointer (form_of e) && is_pointer to && loses (quals_behind (form_of e)) (quals_behind to)

-- C16; C17; C21 and C22
abbrev pub broken_giving : List Structure → (to : CType) → Operand → Pairs
broken_giving structs to o =
    Beside (At o.first 16 (not (may_be_given (form_of_type to) o.value)))
    (Beside (At o.first 17 (may_be_given (form_of_type to) o.value && drops_qualifier (form_of_type to) o.value))
    (broken_use structs o))

-- ---- a constant expression

-- C23: it isn't built of integer constants; C24: an operation in it is undefined in a part that is evaluated
abbrev pub broken_constant : List Structure → Operand → Pairs
broken_constant structs o =
    Beside (broken_use structs o)
    (Beside (At o.first 23 (not (is_built_of_constants o.value)))
    (At o.first 24 (is_built_of_constants o.value && not (is_some (constant_value o.value)))))

-- an object of static storage begins with an integer constant expression, a null pointer, or the address of a function
-- or, at a constant offset, of an object that isn't automatic
abbrev pub may_begin : (is_automatic : ℕ → Bool) → unit.Expr → Bool
may_begin is_automatic e = is_built_of_constants e || is_null_pointer e || is_fixed is_automatic e

abbrev pub broken_static : (is_automatic : ℕ → Bool) → Operand → Pairs
broken_static is_automatic o =
    Beside (At o.first 23 (not (may_begin is_automatic o.value)))
    (At o.first 24 (may_begin is_automatic o.value && not (is_integer_constant o.value || is_null_pointer o.value || is_address o.value)))
