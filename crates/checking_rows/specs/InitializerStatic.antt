-- Objects of static storage keep what the source gives, the rest is zero; constants alone are given.
use Rattle.std.specs.Prelude.{false, pos, codes, [], ◌∷◌}
use Rattle.model_types.specs.declared.numbers.BinOp.TheVariants.{Div}
use Rattle.model_core.specs.CoreTypes.{int_type}
use Rattle.model_core.specs.Core as unit
use Rattle.model_checking.specs.Parts.{to_element, to_member}
use Rattle.checking_rows.specs.InitializerParts.{at, list, next, to, text, number, value, constant, loaded, decayed, address, called, array, char_type, const_char_pointer, int_pointer, point, line, mark}
use Rattle.checking_rows.specs.InitializerAnswers.{Example, static_one}

-- static int x[4] = {1, 2};
abbrev pub given : Example
given = static_one (array 4 int_type) 2 2
    (list (next (number (pos 1) 8) ∷ next (number (pos 2) 10) ∷ []) 7)

-- static int x[100] = {[50] = 1};
abbrev pub far : Example
far = static_one (array 100 int_type) 2 2
    (list (to (to_element 50 (at 8) ∷ []) (number (pos 1) 12) ∷ []) 7)

-- static int x[2] = {};
abbrev pub nothing : Example
nothing = static_one (array 2 int_type) 2 2
    (list ([]) 7)

-- static int x = {};
abbrev pub empty_scalar : Example
empty_scalar = static_one int_type 2 2
    (list ([]) 4)

-- static char x[8] = "ab";
abbrev pub string : Example
string = static_one (array 8 char_type) 2 2
    (text 21 (codes "ab") 7)

-- static int x[2] = {5, [0] = 0};
abbrev pub written_zero : Example
written_zero = static_one (array 2 int_type) 2 2
    (list (next (number (pos 5) 8) ∷ to (to_element 0 (at 10) ∷ []) (number (pos 0) 14) ∷ []) 7)

-- static struct line x = {.from = {1, 2}, .from = {3}};
abbrev pub cleared : Example
cleared = static_one line 3 3
    (list (to (to_member (codes "from") (at 6) ∷ []) (list (next (number (pos 1) 10) ∷ next (number (pos 2) 12) ∷ []) 9) ∷ to (to_member (codes "from") (at 15) ∷ []) (list (next (number (pos 3) 19) ∷ []) 18) ∷ []) 5)

-- static int *x = &s;
abbrev pub of_an_object : Example
of_an_object = static_one int_pointer 2 3
    (value (address (unit.Object 5 int_type (mark 6)) 5) 5)

-- static int *x = &t[1];
abbrev pub element : Example
element = static_one int_pointer 2 3
    (value (address (unit.Index false (decayed 6 (array 2 int_type) 6) (constant (pos 1) 8) (mark 7)) 5) 5)

-- static const char *x[2] = {"a"};
abbrev pub strings : Example
strings = static_one (array 2 const_char_pointer) 3 4
    (list (next (text 21 (codes "a") 10) ∷ []) 9)

-- static int *x = {0};
abbrev pub null : Example
null = static_one int_pointer 2 3
    (list (next (number (pos 0) 6) ∷ []) 5)

-- static int x = n;
abbrev pub no_constant : Example
no_constant = static_one int_type 2 2
    (value (loaded 1 int_type 4) 4)

-- static int x = 1 / 0;
abbrev pub undefined : Example
undefined = static_one int_type 2 2
    (value (unit.Binary Div (constant (pos 1) 4) (constant (pos 0) 6) (mark 5)) 4)

-- static int *x = &t[1 / 0];
abbrev pub undefined_offset : Example
undefined_offset = static_one int_pointer 2 3
    (value (address (unit.Index false (decayed 6 (array 2 int_type) 6) (unit.Binary Div (constant (pos 1) 8) (constant (pos 0) 10) (mark 9)) (mark 7)) 5) 5)

-- static int *x = &n;
abbrev pub automatic : Example
automatic = static_one int_pointer 2 3
    (value (address (unit.Object 1 int_type (mark 6)) 5) 5)

-- static struct point x = p;
abbrev pub structure : Example
structure = static_one point 3 3
    (value (loaded 2 point 5) 5)

-- static struct line x = {1, 2, p};
abbrev pub structure_inside : Example
structure_inside = static_one line 3 3
    (list (next (number (pos 1) 6) ∷ next (number (pos 2) 8) ∷ next (value (loaded 2 point 10) 10) ∷ []) 5)

-- static int x[2] = {1, f()};
abbrev pub a_call : Example
a_call = static_one (array 2 int_type) 2 2
    (list (next (number (pos 1) 8) ∷ next (value (called 30 int_type 10) 10) ∷ []) 7)

-- static int *x = 5;
abbrev pub integer_for_pointer : Example
integer_for_pointer = static_one int_pointer 2 3
    (number (pos 5) 5)

-- static int x = &s;
abbrev pub pointer_for_integer : Example
pointer_for_integer = static_one int_type 2 2
    (value (address (unit.Object 5 int_type (mark 5)) 4) 4)

-- static int x[3] = {1, 2, n, 4};
abbrev pub before_too_many : Example
before_too_many = static_one (array 3 int_type) 2 2
    (list (next (number (pos 1) 8) ∷ next (number (pos 2) 10) ∷ next (value (loaded 1 int_type 12) 12) ∷ next (number (pos 4) 14) ∷ []) 7)
