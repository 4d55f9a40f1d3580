-- Values that do not fit what they are for, and those that are too many.
use Rattle.std.specs.Prelude.{pos, codes, [], ◌∷◌}
use Rattle.model_core.specs.CoreTypes.{int_type}
use Rattle.model_checking.specs.Parts.{to_member}
use Rattle.checking_rows.specs.InitializerParts.{at, list, next, to, text, number, value, loaded, string_address, array, char_type, const_char_pointer, char_pointer, pair, point, line}
use Rattle.checking_rows.specs.InitializerAnswers.{Example, automatic_one}

-- int x[2] = {1, 2, 3};
abbrev pub too_many : Example
too_many = automatic_one (array 2 int_type) 1 1
    (list (next (number (pos 1) 7) ∷ next (number (pos 2) 9) ∷ next (number (pos 3) 11) ∷ []) 6)

-- int x = {1, 2};
abbrev pub too_many_for_a_scalar : Example
too_many_for_a_scalar = automatic_one int_type 1 1
    (list (next (number (pos 1) 4) ∷ next (number (pos 2) 6) ∷ []) 3)

-- char x[2] = "abc";
abbrev pub string_too_long : Example
string_too_long = automatic_one (array 2 char_type) 1 1
    (text 21 (codes "abc") 6)

-- char x[2] = {"abc"};
abbrev pub string_too_long_in_braces : Example
string_too_long_in_braces = automatic_one (array 2 char_type) 1 1
    (list (next (text 21 (codes "abc") 7) ∷ []) 6)

-- int x[2][2] = {1, {2, 3}};
abbrev pub too_many_inside : Example
too_many_inside = automatic_one (array 2 (array 2 int_type)) 1 1
    (list (next (number (pos 1) 10) ∷ next (list (next (number (pos 2) 13) ∷ next (number (pos 3) 15) ∷ []) 12) ∷ []) 9)

-- int x[1] = {1, {2}};
abbrev pub too_many_braces : Example
too_many_braces = automatic_one (array 1 int_type) 1 1
    (list (next (number (pos 1) 7) ∷ next (list (next (number (pos 2) 10) ∷ []) 9) ∷ []) 6)

-- int x[2] = 5;
abbrev pub value_for_array : Example
value_for_array = automatic_one (array 2 int_type) 1 1
    (number (pos 5) 6)

-- int x[2] = "ab";
abbrev pub string_for_integers : Example
string_for_integers = automatic_one (array 2 int_type) 1 1
    (text 21 (codes "ab") 6)

-- struct point x = 5;
abbrev pub value_for_structure : Example
value_for_structure = automatic_one point 2 2
    (number (pos 5) 4)

-- struct point x = q;
abbrev pub other_structure : Example
other_structure = automatic_one point 2 2
    (value (loaded 3 pair 4) 4)

-- struct point x = "ab";
abbrev pub string_for_structure : Example
string_for_structure = automatic_one point 2 2
    (text 21 (codes "ab") 4)

-- char x[2] = ("a");
abbrev pub string_in_parentheses : Example
string_in_parentheses = automatic_one (array 2 char_type) 1 1
    (value (string_address 21 1 7) 6)

-- char x[2] = 'a';
abbrev pub character_for_array : Example
character_for_array = automatic_one (array 2 char_type) 1 1
    (number (pos 97) 6)

-- struct line x = {.to = q};
abbrev pub other_structure_inside : Example
other_structure_inside = automatic_one line 2 2
    (list (to (to_member (codes "to") (at 5) ∷ []) (value (loaded 3 pair 8) 8) ∷ []) 4)

-- struct line x = {l};
abbrev pub whole_in_its_braces : Example
whole_in_its_braces = automatic_one line 2 2
    (list (next (value (loaded 4 line 5) 5) ∷ []) 4)

-- int x[2] = {p};
abbrev pub structure_for_element : Example
structure_for_element = automatic_one (array 2 int_type) 1 1
    (list (next (value (loaded 2 point 7) 7) ∷ []) 6)

-- int x = p;
abbrev pub structure_for_scalar : Example
structure_for_scalar = automatic_one int_type 1 1
    (value (loaded 2 point 3) 3)

-- int x = "a";
abbrev pub string_for_scalar : Example
string_for_scalar = automatic_one int_type 1 1
    (text 21 (codes "a") 3)

-- int x[2] = {1, "a"};
abbrev pub string_for_element : Example
string_for_element = automatic_one (array 2 int_type) 1 1
    (list (next (number (pos 1) 7) ∷ next (text 21 (codes "a") 9) ∷ []) 6)

-- char x[3] = {"ab", 'c'};
abbrev pub string_and_more : Example
string_and_more = automatic_one (array 3 char_type) 1 1
    (list (next (text 21 (codes "ab") 7) ∷ next (number (pos 99) 9) ∷ []) 6)

-- char x[2] = {{"a"}};
abbrev pub string_in_two_braces : Example
string_in_two_braces = automatic_one (array 2 char_type) 1 1
    (list (next (list (next (text 21 (codes "a") 8) ∷ []) 7) ∷ []) 6)

-- char x[2] = {("a")};
abbrev pub string_in_parentheses_inside : Example
string_in_parentheses_inside = automatic_one (array 2 char_type) 1 1
    (list (next (value (string_address 21 1 8) 7) ∷ []) 6)

-- char *x = c;
abbrev pub drops_const : Example
drops_const = automatic_one char_pointer 1 2
    (value (loaded 13 const_char_pointer 4) 4)

-- int x[1] = {p, 2};
abbrev pub first_of_two : Example
first_of_two = automatic_one (array 1 int_type) 1 1
    (list (next (value (loaded 2 point 7) 7) ∷ next (number (pos 2) 9) ∷ []) 6)
