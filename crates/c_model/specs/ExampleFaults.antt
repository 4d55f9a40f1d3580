-- Cores that aren't typed, each by one thing, some that are where it may be doubted, and C89 programs whose
-- declarations don't agree.
use Rattle.std.specs.Prelude.{ℕ, pos, true, false, List, [], ◌∷◌, codes, Option, Some, None}
use Rattle.model_types.specs.declared.numbers.Basic.TheVariants.{Char}
use Rattle.model_types.specs.declared.numbers.BinOp.{BinOp}
use Rattle.model_types.specs.declared.numbers.BinOp.TheVariants.{Add, Equal}
use Rattle.model_types.specs.declared.operators.LogicOp.TheVariants.{And}
use Rattle.model_types.specs.declared.marks.Origin.TheVariants.{Written, Implied}
use Rattle.model_types.specs.Types.{CType, typed, Void, Integer, Array, Struct, Function as FunctionForm, types}
use Rattle.model_types.specs.Structures.{Member, Structure}
use Rattle.model_core.specs.CoreTypes.{int_type, plain, pointer_to}
use Rattle.model_core.specs.Core.{Core, Expr, Constant, Address, Logic, Assign, Compound, Lvalue, Field, Deref, Initials, no_initials, more_initials}
use Rattle.model_core.specs.Core.{Stat, Parameter, Static, Declared, Text, DeclaredObject, no_stat, a_stat}
use Rattle.c_model.specs.ExampleParts.{nowhere, no_mark, number, int_variable, variable, load, binary, assigned, call, evaluate, block, return, function_type, automatic, stored_as, function, unit}
use Rattle.c_model.specs.ExampleList.{is_const, int_void, implied, const_int}
use Rattle.model_core.specs.Types89 as type89
use Rattle.model_core.specs.Program89 as text
use Rattle.c_model.specs.FirstRow.{program_returning}
use Rattle.c_model.specs.ExampleTexts.{number89, outside, main_outer}
use Rattle.model_core.specs.BuiltinTypes.{size_type}

-- a unit whose `main` does this with these objects
abbrev pub doing : List DeclaredObject → List ℕ → List Stat → Core
doing objects ids body = unit objects (function 9 (codes "main") int_void [] (a_stat (block ids body)) ∷ [])

abbrev pub in_table : List Structure → Core → Core
in_table structs core = record core { structs = structs }

abbrev pub member : CType → Member
member type = record { name = codes "m"; ty = type; place = nowhere }

abbrev pub structure : List Member → Structure
structure members = record { tag = None; outer = true; place = nowhere; members = Some members }

abbrev pub struct_type : ℕ → CType
struct_type rank = plain (Struct (record { 0 = rank }))

abbrev pub array_of : CType → ℕ → CType
array_of type count = plain (Array type (Some count))

abbrev pub static : CType → Initials → DeclaredObject
static type values = stored_as (Static values) (automatic 1 type)

abbrev pub int_value_at : (path : List ℕ) → (offset : ℕ) → Initials → Initials
int_value_at path offset others = more_initials path offset int_type (number 5) others

-- numbers and scopes

-- two objects with one number
abbrev pub one_number_twice : Core
one_number_twice = doing (automatic 1 int_type ∷ automatic 1 int_type ∷ []) [] []

-- int x; { int x; } with one number
abbrev pub declared_again_inside : Core
declared_again_inside = doing (automatic 1 int_type ∷ []) (1 ∷ []) (block (1 ∷ []) [] ∷ [])

-- { int x; } x = 5;
abbrev pub used_out_of_scope : Core
used_out_of_scope = doing (automatic 1 int_type ∷ []) [] (block (1 ∷ []) [] ∷ evaluate (assigned (int_variable 1) (number 5)) ∷ [])

-- int f(int p) { return 0; } without an object for p
abbrev pub parameter_without_object : Core
parameter_without_object =
    unit [] (function 2 (codes "f") (function_type int_type (int_type ∷ [])) (1 ∷ []) (a_stat (block [] (return (number 0) ∷ []))) ∷ [])

-- &x of an object that doesn't say so
abbrev pub address_not_noted : Core
address_not_noted = doing (automatic 1 int_type ∷ []) (1 ∷ []) (evaluate (Address Written (int_variable 1) no_mark) ∷ [])

-- initial values

abbrev pub value_for_no_part : Core
value_for_no_part = unit (static int_type (int_value_at (0 ∷ []) 0 no_initials) ∷ []) []

abbrev pub value_elsewhere : Core
value_elsewhere = unit (static (array_of int_type 2) (int_value_at (1 ∷ []) 0 no_initials) ∷ []) []

abbrev pub two_values_for_one_part : Core
two_values_for_one_part = unit (static (array_of int_type 2) (int_value_at (0 ∷ []) 0 (int_value_at (0 ∷ []) 0 no_initials)) ∷ []) []

abbrev pub values_out_of_order : Core
values_out_of_order = unit (static (array_of int_type 2) (int_value_at (1 ∷ []) 4 (int_value_at (0 ∷ []) 0 no_initials)) ∷ []) []

abbrev pub values_in_order : Core
values_in_order = unit (static (array_of int_type 2) (int_value_at (0 ∷ []) 0 (int_value_at (1 ∷ []) 4 no_initials)) ∷ []) []

-- struct { int m; int m; } y, x = { .m = 5 after y };
abbrev pub part_over_whole : (values : Initials) → Core
part_over_whole values =
    in_table (structure (member int_type ∷ member int_type ∷ []) ∷ [])
    (doing (automatic 1 (struct_type 0) ∷ automatic 2 (struct_type 0) ∷ []) (1 ∷ 2 ∷ [])
    (Stat.Start 2 (struct_type 0) values no_mark ∷ []))

abbrev pub whole_value : Initials → Initials
whole_value others = more_initials [] 0 (struct_type 0) (load (variable 1 (struct_type 0))) others

-- static int x = 0 && f();
abbrev pub call_in_constant : Core
call_in_constant =
    unit (static int_type (more_initials [] 0 int_type (Logic And (number 0) (call 2 int_void []) no_mark) no_initials) ∷ [])
    (function 2 (codes "f") int_void [] no_stat ∷ [])

-- static char *x = (char *)0 + 1;
abbrev pub moved_null : Core
moved_null =
    unit (static (pointer_to (plain (Integer Char))) (more_initials [] 0 (pointer_to (plain (Integer Char)))
    (binary Add (Constant (pos 0) (pointer_to (plain (Integer Char))) no_mark) (number 1)) no_initials) ∷ []) []

-- int x = 5; and int a[2] = {5};
abbrev pub one_value : Initials
one_value = int_value_at [] 0 no_initials

abbrev pub first_of_two : Initials
first_of_two = int_value_at (0 ∷ []) 0 no_initials

-- (char *)0, as `{}` gives it
abbrev pub empty_pointer : Expr
empty_pointer = Constant (pos 0) (pointer_to (plain (Integer Char))) no_mark

-- types

abbrev pub object_of : CType → Core
object_of type = unit (record (stored_as Declared (automatic 1 type)) { name = Some (codes "x"); is_external = true } ∷ []) []

abbrev pub with_structure : List Member → Core
with_structure members = in_table (structure members ∷ []) (unit [] [])

-- struct s { struct s m; };
abbrev pub structure_in_itself : Core
structure_in_itself = with_structure (member (struct_type 0) ∷ [])

abbrev pub declared_function : CType → Core
declared_function type = unit [] (function 2 (codes "f") type [] no_stat ∷ [])

-- int f(int p, ...) { return 0; }
abbrev pub variadic_definition : Core
variadic_definition =
    unit (stored_as Parameter (automatic 1 int_type) ∷ [])
    (function 2 (codes "f") (plain (FunctionForm int_type (types (int_type ∷ [])) true)) (1 ∷ []) (a_stat (block [] (return (number 0) ∷ []))) ∷ [])

-- char x[2] for the bytes of "ab"
abbrev pub string_without_room : Core
string_without_room = unit (stored_as (Text (codes "ab")) (automatic 1 (array_of (plain (Integer Char)) 2)) ∷ []) []

-- functions

-- static int f(void); .. f();
abbrev pub internal_undefined : Core
internal_undefined =
    unit [] (function 9 (codes "main") int_void [] (a_stat (block [] (evaluate (call 2 int_void []) ∷ [])))
    ∷ record (function 2 (codes "f") int_void [] no_stat) { is_external = false } ∷ [])

-- void *malloc(unsigned long);
abbrev pub malloc_without_owner : Core
malloc_without_owner = unit [] (function 2 (codes "malloc") (function_type (pointer_to (plain Void)) (size_type ∷ [])) [] no_stat ∷ [])

-- void abort(void) { }
abbrev pub defined_abort : Core
defined_abort = unit [] (function 2 (codes "abort") (function_type (plain Void) []) [] (a_stat (block [] [])) ∷ [])

-- assignments and conversions

-- struct { struct { const int m; } m; } x; x = x;
abbrev pub const_member_inside : Core
const_member_inside =
    in_table (structure (member const_int ∷ []) ∷ structure (member (struct_type 0) ∷ []) ∷ [])
    (doing (automatic 1 (struct_type 1) ∷ []) (1 ∷ []) (evaluate (assigned (variable 1 (struct_type 1)) (load (variable 1 (struct_type 1)))) ∷ []))

-- const struct { int m; } x; x.m = 5; the member of this type
abbrev pub member_assigned : CType → Core
member_assigned type =
    in_table (structure (member int_type ∷ []) ∷ [])
    (doing (automatic 1 (typed (Struct (record { 0 = 0 })) is_const) ∷ []) (1 ∷ [])
    (evaluate (assigned (Field (variable 1 (typed (Struct (record { 0 = 0 })) is_const)) 0 type nowhere no_mark) (number 5)) ∷ []))

-- a value of `main`'s, with a pointer to int as object 1
abbrev pub valued : Expr → Core
valued e = doing (automatic 1 (pointer_to int_type) ∷ automatic 2 int_type ∷ []) (1 ∷ 2 ∷ []) (evaluate e ∷ [])

abbrev pub pointer : Lvalue
pointer = variable 1 (pointer_to int_type)

-- x += p; p *= 2; and p += 2;
abbrev pub compound : BinOp → CType → Lvalue → Expr → Core
compound op done_in object value = valued (Assign (Compound op done_in) object value no_mark)

-- a pointer to an array that gains const
abbrev pub array_gains_const : Core
array_gains_const =
    doing (automatic 1 (pointer_to (array_of int_type 3)) ∷ []) (1 ∷ [])
    (evaluate (implied (pointer_to (array_of const_int 3)) (load (variable 1 (pointer_to (array_of int_type 3))))) ∷ [])

-- int a[] = {5, a[0]};, where the name stands before its length is known
abbrev pub array_in_its_initializer : Core
array_in_its_initializer =
    doing (automatic 1 (array_of int_type 2) ∷ []) (1 ∷ [])
    (Stat.Start 1 (array_of int_type 2)
    (int_value_at (0 ∷ []) 0
    (more_initials (1 ∷ []) 4 int_type
    (load (Deref (Address Implied (variable 1 (plain (Array int_type None))) no_mark) no_mark)) no_initials)) no_mark
    ∷ [])

-- C89 programs

abbrev pub outer89 : text.Storage → type89.Type89 → List ℕ → Option text.Init → text.Outer
outer89 storage type name init = record { storage = storage; type = type; name = name; init = init }

abbrev pub function89 : type89.Type89
function89 = type89.Function type89.int_type type89.no_types false

-- int main(void) { return 0; } behind these declarations
abbrev pub declaring89 : List text.Outer → text.Program
declaring89 outers = record (program_returning (number89 0)) { outers = outers }

abbrev pub main89 : text.Storage → text.Outer
main89 storage = record main_outer { storage = storage }

abbrev pub object89 : text.Storage → text.Outer
object89 storage = outer89 storage type89.int_type (codes "x") (Some (text.Value (number89 0)))

-- a `main` that returns this value, behind these declarations
abbrev pub returning89 : List text.Outer → text.Expr → text.Program
returning89 outers e = record (program_returning e) { outers = main89 text.Plainly ∷ outers }

-- extern int f(void); extern int *p; extern void *v;
abbrev pub outside89 : List text.Outer
outside89 =
    outside (codes "f") function89 ∷ outside (codes "p") (type89.Pointer false type89.int_type)
    ∷ outside (codes "v") (type89.Pointer false (type89.Based false type89.Void)) ∷ []

abbrev pub f89 : text.Expr
f89 = text.Name (codes "f")

abbrev pub p89 : text.Expr
p89 = text.Name (codes "p")

abbrev pub v89 : text.Expr
v89 = text.Name (codes "v")

-- ((1 ? v : p) == p)
abbrev pub joined89 : text.Expr → text.Expr
joined89 first = text.Binary Equal (text.Choice (number89 1) first p89) p89

-- static T x = e;
abbrev pub started89 : type89.Type89 → text.Expr → text.Program
started89 type e = declaring89 (main89 text.Plainly ∷ outside (codes "f") function89 ∷ outer89 text.Static type (codes "x") (Some (text.Value e)) ∷ [])

abbrev pub char_pointer89 : type89.Type89
char_pointer89 = type89.Pointer false (type89.Based false type89.Char)

abbrev pub null89 : text.Expr
null89 = text.Cast char_pointer89 (number89 0)
