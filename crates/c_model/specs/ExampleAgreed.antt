-- Units with the texts that C89 has for them, where it takes care that they agree: zeros of static objects, a
-- bool that a call gives, names of blocks side by side, and structures that have no order.
use Rattle.std.specs.Prelude.{ℕ, pos, true, false, List, [], ◌∷◌, codes, Some}
use Rattle.model_types.specs.declared.numbers.Basic.TheVariants.{Bool as bool, UnsignedChar, Long}
use Rattle.model_types.specs.declared.numbers.BinOp.TheVariants.{Equal}
use Rattle.model_types.specs.declared.marks.Origin.TheVariants.{Written, Implied}
use Rattle.model_types.specs.Types.{CType, Integer}
use Rattle.model_core.specs.CoreTypes.{int_type, plain, pointer_to}
use Rattle.model_core.specs.Core.{Core, Constant, Convert, Address, Lvalue, Deref, no_initials, a_stat}
use Rattle.model_core.specs.Types89 as type89
use Rattle.model_core.specs.Program89 as text
use Rattle.c_model.specs.ExampleParts.{no_mark, variable, load, binary, assigned, call, evaluate, block, return, function_type, automatic, function, unit}
use Rattle.c_model.specs.ExampleList.{int_void, implied}
use Rattle.c_model.specs.ExampleTexts.{stats, name, number89, long89, main_outer, main_function}
use Rattle.c_model.specs.ExampleFaults.{array_of, struct_type, static, int_value_at, member, structure, in_table}

-- zeros of static objects

abbrev pub long_type : CType
long_type = plain (Integer Long)

abbrev pub three_ints : Lvalue
three_ints = variable 1 (array_of int_type 3)

-- static int a[3] = {[2] = 5}; int main(void) { return *(long *)a == 0; }
abbrev pub zeros_read_as_long : Core
zeros_read_as_long =
    unit (static (array_of int_type 3) (int_value_at (2 ∷ []) 8 no_initials) ∷ [])
    (function 2 (codes "main") int_void [] (a_stat (block []
    (return (binary Equal
    (load (Deref (Convert Written (pointer_to long_type) (Address Implied three_ints no_mark) no_mark) no_mark))
    (Constant (pos 0) long_type no_mark))
    ∷ []))) ∷ [])

-- static int a_1[3] = {0, 0, 5}; int main(void) { return ((*((long *)a_1)) == 0L); }
abbrev pub zeros_written : text.Program
zeros_written = record {
  structures = [];
  outers = record {
    storage = text.Static;
    type = type89.Array (Some 3) type89.int_type;
    name = codes "a_1";
    init = Some (text.Braces (text.Value (number89 0)) (text.more_inits (text.Value (number89 0)) (text.more_inits (text.Value (number89 5)) text.no_inits)));
  } ∷ main_outer ∷ [];
  functions = main_function []
      (text.Return (text.Binary Equal
      (text.Unary text.Deref (text.Cast (type89.Pointer false long89) (name (codes "a_1"))))
      (text.Constant 0 text.L))
      ∷ []) ∷ [];
}

-- a bool that a call gives

abbrev pub bool_type : CType
bool_type = plain (Integer bool)

abbrev pub byte_type : CType
byte_type = plain (Integer UnsignedChar)

-- bool f(void) { bool b; *(unsigned char *)&b = 7; return b; } int main(void) { return f(); }
abbrev pub seven_as_bool : Core
seven_as_bool =
    unit (record (automatic 1 bool_type) { is_address_taken = true } ∷ [])
    (function 2 (codes "f") (function_type bool_type []) [] (a_stat (block (1 ∷ [])
    (evaluate (assigned (Deref (Convert Written (pointer_to byte_type) (Address Written (variable 1 bool_type) no_mark) no_mark) no_mark)
    (Constant (pos 7) byte_type no_mark))
    ∷ return (load (variable 1 bool_type))
    ∷ [])))
    ∷ function 3 (codes "main") int_void [] (a_stat (block [] (return (implied int_type (call 2 (function_type bool_type []) [])) ∷ [])))
    ∷ [])

-- names of blocks

abbrev pub int_x : text.Declaration
int_x = record { type = type89.int_type; name = codes "x_1" }

-- { int x_1; x_1 = 5; .. }
abbrev pub block_of_x : List text.Stat → text.Stat
block_of_x others = text.Block (int_x ∷ []) (stats (text.Assign (name (codes "x_1")) (number89 5) ∷ others))

abbrev pub with_body : List text.Stat → text.Program
with_body body = record { structures = []; outers = main_outer ∷ []; functions = main_function [] body ∷ [] }

-- { int x_1; x_1 = 5; } { int x_1; x_1 = 5; } return 0;
abbrev pub side_by_side : text.Program
side_by_side = with_body (block_of_x [] ∷ block_of_x [] ∷ text.Return (number89 0) ∷ [])

-- { int x_1; x_1 = 5; { int x_1; x_1 = 5; } } return 0;
abbrev pub one_in_another : text.Program
one_in_another = with_body (block_of_x (block_of_x [] ∷ []) ∷ text.Return (number89 0) ∷ [])

-- structures

abbrev pub pointer_to_elements : ℕ → CType
pointer_to_elements rank = pointer_to (array_of (struct_type rank) 3)

-- struct s { struct t (*m)[3]; }; struct t { struct s (*m)[3]; };
abbrev pub without_order : Core
without_order = in_table (structure (member (pointer_to_elements 1) ∷ []) ∷ structure (member (pointer_to_elements 0) ∷ []) ∷ []) (unit [] [])

-- struct s { struct t (*m)[3]; }; struct t { struct s *m; };
abbrev pub with_order : Core
with_order = in_table (structure (member (pointer_to_elements 1) ∷ []) ∷ structure (member (pointer_to (struct_type 0)) ∷ []) ∷ []) (unit [] [])
