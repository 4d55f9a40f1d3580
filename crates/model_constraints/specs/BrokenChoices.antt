-- What `?:` breaks (ISO/IEC 9899:2024, 6.5.16).
use Rattle.std.specs.Prelude.{Bool, ◌&&◌, ◌||◌, not, List}
use Rattle.cake_base.specs.declared.places.Place.{Place}
use Rattle.model_types.specs.Structures.{Structure}
use Rattle.model_core.specs.CoreTypes.{is_void, is_pointer, type_of}
use Rattle.model_core.specs.SameTypes.{same_form}
use Rattle.model_core.specs.TypedParts.{is_scalar, is_struct}
use Rattle.model_core.specs.TypedExpr.{form_of}
use Rattle.model_core.specs.Core as unit
use Rattle.model_checking.specs.Meanings.{Operand}
use Rattle.model_constraints.specs.Pairs.{Pairs, At, Beside}
use Rattle.model_constraints.specs.BrokenValues.{broken_use, broken_reading}
use Rattle.model_constraints.specs.BrokenPointers.{can_be_equal}
use Rattle.model_constraints.specs.BrokenOperators.{are_integers, is_pointer_or_null}

-- of the condition C21 and C22, and C09 at the `?` where it is no scalar
abbrev pub broken_chosen_by : List Structure → (at : Place) → Operand → Pairs
broken_chosen_by structs at c = Beside (broken_use structs c) (At at 9 (not (is_scalar (form_of c.value))))

-- pointers, or one and a null pointer constant, that can be equal
abbrev pub are_pointers_alike : (a b : unit.Expr) → Bool
are_pointers_alike a b =
    (is_pointer (form_of a) || is_pointer (form_of b)) && is_pointer_or_null a && is_pointer_or_null b && can_be_equal a b

abbrev pub are_both_void : (a b : unit.Expr) → Bool
are_both_void a b = is_void (type_of a) && is_void (type_of b)

abbrev pub are_one_structure : (a b : unit.Expr) → Bool
are_one_structure a b = is_struct (form_of a) && same_form (form_of a) (form_of b)

-- C20 at the `?`; what the second branch breaks alone
abbrev pub broken_branches : List Structure → (at : Place) → (a b : Operand) → Pairs
broken_branches structs at a b =
    Beside (At at 20 (not (are_integers a.value b.value || are_pointers_alike a.value b.value || are_both_void a.value b.value || are_one_structure a.value b.value)))
    (broken_reading structs b)
