-- Strings in blocks with more elements than they have bytes, in units and in texts, with what a `main` reads of them.
use Rattle.std.specs.Prelude.{ℕ, pos, false, [], ◌∷◌, codes, Some}
use Rattle.model_types.specs.declared.numbers.BinOp.TheVariants.{Add}
use Rattle.model_types.specs.declared.marks.Origin.TheVariants.{Written, Implied}
use Rattle.model_core.specs.CoreTypes.{int_type, pointer_to}
use Rattle.model_core.specs.Core.{Core, Expr, Constant, Address, Convert, Lvalue, Index, Deref, Initials, no_initials, more_initials, Text, DeclaredObject, a_stat}
use Rattle.model_core.specs.Types89 as type89
use Rattle.model_core.specs.Program89 as text
use Rattle.c_model.specs.ExampleParts.{no_mark, number, variable, load, binary, block, return, automatic, stored_as, function, unit}
use Rattle.c_model.specs.ExampleList.{int_void, implied}
use Rattle.c_model.specs.ExampleReleases.{char_type}
use Rattle.c_model.specs.ExampleTexts.{name, number89}
use Rattle.c_model.specs.ExampleFaults.{array_of, static, outer89, returning89}

abbrev pub char_at : (rank byte : ℕ) → Initials → Initials
char_at rank byte others = more_initials (rank ∷ []) rank char_type (Constant (pos byte) char_type no_mark) others

-- static char a[8] = "ab";
abbrev pub longer_array : DeclaredObject
longer_array = static (array_of char_type 8) (char_at 0 97 (char_at 1 98 no_initials))

-- "ab"
abbrev pub literal : DeclaredObject
literal = stored_as (Text (codes "ab")) (automatic 1 (array_of char_type 3))

-- the array as a pointer to its first element
abbrev pub first_element : DeclaredObject → Expr
first_element o = Address Implied (variable 1 o.type) no_mark

-- a unit with this object and a `main` that returns what is read there
abbrev pub reading : DeclaredObject → Lvalue → Core
reading o object =
    unit (o ∷ []) (function 2 (codes "main") int_void [] (a_stat (block [] (return (implied int_type (load object)) ∷ []))) ∷ [])

-- a[rank] of it, and *(int *)(a + 4)
abbrev pub reads_element : DeclaredObject → (rank : ℕ) → Core
reads_element o rank = reading o (Index false (first_element o) (number rank) no_mark)

abbrev pub reads_int : DeclaredObject → Core
reads_int o = reading o (Deref (Convert Written (pointer_to int_type) (binary Add (first_element o) (number 4)) no_mark) no_mark)

-- static char a_1[COUNT] = "ab"; and a `main` that returns this
abbrev pub reading89 : (count : ℕ) → text.Expr → text.Program
reading89 count e = returning89 (outer89 text.Static (type89.Array (Some count) (type89.Based false type89.Char)) (codes "a_1") (Some (text.Text (codes "ab"))) ∷ []) e

-- a_1[RANK], and (*((int *)(a_1 + 4)))
abbrev pub reads_element89 : (count rank : ℕ) → text.Program
reads_element89 count rank = reading89 count (text.Index (name (codes "a_1")) (number89 rank))

abbrev pub reads_int89 : (count : ℕ) → text.Program
reads_int89 count =
    reading89 count (text.Unary text.Deref (text.Cast (type89.Pointer false type89.int_type) (text.Binary Add (name (codes "a_1")) (number89 4))))
