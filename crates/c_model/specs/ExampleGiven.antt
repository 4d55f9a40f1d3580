-- A function that changes a block that it was given, with its text; and a text whose object begins otherwise
-- than the unit's.
use Rattle.std.specs.Prelude.{pos, true, false, List, [], ◌∷◌, codes, Some, None}
use Rattle.model_types.specs.declared.numbers.BinOp.TheVariants.{Add}
use Rattle.model_types.specs.Types.{CType}
use Rattle.model_core.specs.CoreTypes.{int_type, pointer_to}
use Rattle.model_core.specs.Core.{Core, Assign, Compound, Lvalue, Deref, Initials, no_initials, more_initials, Parameter, a_stat}
use Rattle.model_core.specs.Types89 as type89
use Rattle.model_core.specs.Program89 as text
use Rattle.model_runs.specs.Memory.{Given, Number, Address, Holds, Value, Single, Memory, fresh}
use Rattle.model_runs.specs.Run.{Step}
use Rattle.c_model.specs.ExampleParts.{no_mark, number, variable, load, evaluate, block, return, function_type, automatic, stored_as, function, unit}
use Rattle.c_model.specs.ExampleTexts.{stats, name, number89}
use Rattle.c_model.specs.ExampleFaults.{array_of, static}
use Rattle.c_model.specs.GivenBlocks.{ended_from23, ended_from89}

abbrev pub int_pointer : CType
int_pointer = pointer_to int_type

abbrev pub bump_type : CType
bump_type = function_type int_type (int_pointer ∷ [])

-- *p
abbrev pub pointed_int : Lvalue
pointed_int = Deref (load (variable 1 int_pointer)) no_mark

-- int bump(int *p) { *p += 2; return *p; }
abbrev pub bumps : Core
bumps =
    unit (stored_as Parameter (automatic 1 int_pointer) ∷ [])
    (function 2 (codes "bump") bump_type (1 ∷ []) (a_stat (block []
    (evaluate (Assign (Compound Add int_type) pointed_int (number 2) no_mark) ∷ return (load pointed_int) ∷ []))) ∷ [])

abbrev pub pointer89 : type89.Type89
pointer89 = type89.Pointer false type89.int_type

-- (*p_1)
abbrev pub pointed_int89 : text.Expr
pointed_int89 = text.Unary text.Deref (name (codes "p_1"))

-- int bump(int *p_1) { (*p_1) = ((*p_1) + 2); return (*p_1); }
abbrev pub bumps_written : text.Program
bumps_written = record {
  structures = [];
  outers = record { storage = text.Plainly; type = type89.Function type89.int_type (type89.more_types pointer89 type89.no_types) false; name = codes "bump"; init = None } ∷ [];
  functions = record {
    is_static = false;
    result = type89.int_type;
    name = codes "bump";
    parameters = record { type = pointer89; name = codes "p_1" } ∷ [];
    is_variadic = false;
    objects = [];
    body = stats (text.Assign pointed_int89 (text.Binary Add pointed_int89 (number89 2)) ∷ text.Return pointed_int89 ∷ []);
  } ∷ [];
}

-- a block of one int, which is 5, and a pointer to it
abbrev pub five : Memory
five = (Given 1, record (fresh 4) { cells = record { offset = 0; size = 4; content = Holds (Number (pos 5)) } ∷ [] }) ∷ []

abbrev pub at_five : List Value
at_five = Single (Address (Given 1) (pos 0)) ∷ []

abbrev pub bumped : Step Value
bumped = ended_from23 100 bumps five (codes "bump") at_five []

abbrev pub bumped89 : Step Value
bumped89 = ended_from89 100 bumps_written five (codes "bump") at_five []

-- int a[2] = {1, 2};
abbrev pub one_and_two : Initials
one_and_two = more_initials (0 ∷ []) 0 int_type (number 1) (more_initials (1 ∷ []) 4 int_type (number 2) no_initials)

abbrev pub exports_array : Core
exports_array = unit (record (static (array_of int_type 2) one_and_two) { name = Some (codes "a"); is_external = true } ∷ []) []

-- int a[2] = init;
abbrev pub array_written : text.Init → text.Program
array_written init = record {
  structures = [];
  outers = record { storage = text.Plainly; type = type89.Array (Some 2) type89.int_type; name = codes "a"; init = Some init } ∷ [];
  functions = [];
}

-- {0}
abbrev pub only_zeros : text.Init
only_zeros = text.Braces (text.Value (number89 0)) text.no_inits
