-- Two rules at one token, and faults of values beside those of their places.
use Rattle.std.specs.Prelude.{pos, codes, [], ◌∷◌}
use Rattle.model_core.specs.CoreTypes.{int_type}
use Rattle.model_checking.specs.Parts.{to_element, faulty}
use Rattle.checking_rows.specs.InitializerParts.{at, broken, list, next, to, text, number, value, called, string_address, array, unsized, char_type, void_type, point}
use Rattle.checking_rows.specs.InitializerAnswers.{Example, automatic_one}

-- int x = v();
abbrev pub no_value : Example
no_value = automatic_one int_type 1 1
    (value (called 32 void_type 3) 3)

-- struct point x = v();
abbrev pub no_value_for_structure : Example
no_value_for_structure = automatic_one point 2 2
    (value (called 32 void_type 4) 4)

-- int x[1] = {1, v()};
abbrev pub no_value_too_many : Example
no_value_too_many = automatic_one (array 1 int_type) 1 1
    (list (next (number (pos 1) 7) ∷ next (value (called 32 void_type 9) 9) ∷ []) 6)

-- int x[1] = {1, u};
abbrev pub undeclared_too_many : Example
undeclared_too_many = automatic_one (array 1 int_type) 1 1
    (list (next (number (pos 1) 7) ∷ next (faulty (broken 5 9) (at 9)) ∷ []) 6)

-- int x[1] = {1, 1 + u};
abbrev pub too_many_undeclared : Example
too_many_undeclared = automatic_one (array 1 int_type) 1 1
    (list (next (number (pos 1) 7) ∷ next (faulty (broken 5 11) (at 9)) ∷ []) 6)

-- int x[1] = u;
abbrev pub undeclared_for_array : Example
undeclared_for_array = automatic_one (array 1 int_type) 1 1
    (faulty (broken 5 6) (at 6))

-- int x[1] = 1 + u;
abbrev pub array_undeclared : Example
array_undeclared = automatic_one (array 1 int_type) 1 1
    (faulty (broken 5 8) (at 6))

-- struct point x = 1 + u;
abbrev pub structure_undeclared : Example
structure_undeclared = automatic_one point 2 2
    (faulty (broken 5 6) (at 4))

-- int x[1] = {u, 2};
abbrev pub nothing_behind : Example
nothing_behind = automatic_one (array 1 int_type) 1 1
    (list (next (faulty (broken 5 7) (at 7)) ∷ []) 6)

-- int x[] = 5;
abbrev pub length_before_value : Example
length_before_value = automatic_one (unsized int_type) 1 1
    (number (pos 5) 5)

-- int x[] = u;
abbrev pub length_before_undeclared : Example
length_before_undeclared = automatic_one (unsized int_type) 1 1
    (faulty (broken 5 5) (at 5))

-- int x[] = "ab";
abbrev pub length_before_string : Example
length_before_string = automatic_one (unsized int_type) 1 1
    (text 21 (codes "ab") 5)

-- char x[] = ("a");
abbrev pub length_before_parentheses : Example
length_before_parentheses = automatic_one (unsized char_type) 1 1
    (value (string_address 21 1 6) 5)

-- int x[] = {};
abbrev pub no_elements : Example
no_elements = automatic_one (unsized int_type) 1 1
    (list ([]) 5)

-- int x[] = {1, u};
abbrev pub fault_inside : Example
fault_inside = automatic_one (unsized int_type) 1 1
    (list (next (number (pos 1) 6) ∷ next (faulty (broken 5 8) (at 8)) ∷ []) 5)

-- int x[] = {[1000000000] = 1};
abbrev pub too_large : Example
too_large = automatic_one (unsized int_type) 1 1
    (list (to (to_element 1000000000 (at 6) ∷ []) (number (pos 1) 10) ∷ []) 5)

-- int x[] = {[1000000000] = 1, u};
abbrev pub too_large_with_fault : Example
too_large_with_fault = automatic_one (unsized int_type) 1 1
    (list (to (to_element 1000000000 (at 6) ∷ []) (number (pos 1) 10) ∷ next (faulty (broken 5 12) (at 12)) ∷ []) 5)
