-- An array member of a structure's value, whose object is implied, and cores in which that object isn't one.
use Rattle.std.specs.Prelude.{false, [], ◌∷◌, codes}
use Rattle.model_types.specs.declared.marks.Origin.{Origin}
use Rattle.model_types.specs.declared.marks.Origin.TheVariants.{Implied}
use Rattle.model_types.specs.Types.{CType}
use Rattle.model_core.specs.CoreTypes.{int_type}
use Rattle.model_core.specs.Core.{Core, Expr, Address, Lvalue, Index, Field, Literal, Initials, no_initials, more_initials, a_stat}
use Rattle.c_model.specs.ExampleParts.{nowhere, no_mark, number, variable, load, assigned, call, evaluate, block, return, function_type, automatic, function, unit}
use Rattle.c_model.specs.ExampleList.{int_void}
use Rattle.c_model.specs.ExampleFaults.{in_table, member, structure, struct_type, array_of, int_value_at}

-- struct s { int m[2]; };
abbrev pub struct_s : CType
struct_s = struct_type 0

-- the second element of the member of a structure
abbrev pub second_element : Lvalue → Lvalue
second_element object = Index false (Address Implied (Field object 0 (array_of int_type 2) nowhere no_mark) no_mark) (number 1) no_mark

-- struct s f(void) { struct s x; x.m[1] = 7; return x; } and a `main` that returns this value with this object
abbrev pub with_object : CType → Expr → Core
with_object type value =
    in_table (structure (member (array_of int_type 2) ∷ []) ∷ [])
    (unit (automatic 1 struct_s ∷ automatic 2 type ∷ [])
    (function 3 (codes "f") (function_type struct_s []) [] (a_stat (block (1 ∷ [])
    (evaluate (assigned (second_element (variable 1 struct_s)) (number 7)) ∷ return (load (variable 1 struct_s)) ∷ [])))
    ∷ function 4 (codes "main") int_void [] (a_stat (block (2 ∷ []) (return value ∷ [])))
    ∷ []))

-- the value of f()
abbrev pub value_of_f : Initials
value_of_f = more_initials [] 0 struct_s (call 3 (function_type struct_s []) []) no_initials

-- int main(void) { return f().m[1]; }
abbrev pub element_of_value : Core
element_of_value = with_object struct_s (load (second_element (Literal Implied 2 struct_s value_of_f no_mark)))

-- (struct s){.m[1] = 5}.m[1], with this origin
abbrev pub element_of_braces : Origin → Core
element_of_braces origin = with_object struct_s (load (second_element (Literal origin 2 struct_s (int_value_at (0 ∷ 1 ∷ []) 4 no_initials) no_mark)))

-- (int){5}, with this origin
abbrev pub int_literal : Origin → Core
int_literal origin = with_object int_type (load (Literal origin 2 int_type (int_value_at [] 0 no_initials) no_mark))
