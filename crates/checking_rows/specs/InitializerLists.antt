-- Lists in braces, with elided and superfluous braces.
use Rattle.std.specs.Prelude.{pos, negsuc, [], ◌∷◌}
use Rattle.model_core.specs.CoreTypes.{int_type}
use Rattle.checking_rows.specs.InitializerParts.{list, next, number, array, char_type, bool_type, long_type, pair, line, grid}
use Rattle.checking_rows.specs.InitializerAnswers.{Example, automatic_one}

-- int x[4] = {1, 2};
abbrev pub missing_are_zero : Example
missing_are_zero = automatic_one (array 4 int_type) 1 1
    (list (next (number (pos 1) 7) ∷ next (number (pos 2) 9) ∷ []) 6)

-- int x = 5;
abbrev pub scalar : Example
scalar = automatic_one int_type 1 1
    (number (pos 5) 3)

-- int x = {5};
abbrev pub scalar_in_braces : Example
scalar_in_braces = automatic_one int_type 1 1
    (list (next (number (pos 5) 4) ∷ []) 3)

-- int x = {{5}};
abbrev pub scalar_in_two_braces : Example
scalar_in_two_braces = automatic_one int_type 1 1
    (list (next (list (next (number (pos 5) 5) ∷ []) 4) ∷ []) 3)

-- int x = {};
abbrev pub empty_scalar : Example
empty_scalar = automatic_one int_type 1 1
    (list ([]) 3)

-- int x[2] = {};
abbrev pub empty_array : Example
empty_array = automatic_one (array 2 int_type) 1 1
    (list ([]) 6)

-- struct line x = {};
abbrev pub empty_structure : Example
empty_structure = automatic_one line 2 2
    (list ([]) 4)

-- int x[2][2] = {{1}, {2, 3}};
abbrev pub rows : Example
rows = automatic_one (array 2 (array 2 int_type)) 1 1
    (list (next (list (next (number (pos 1) 11) ∷ []) 10) ∷ next (list (next (number (pos 2) 15) ∷ next (number (pos 3) 17) ∷ []) 14) ∷ []) 9)

-- int x[2][2] = {1, 2, 3};
abbrev pub rows_elided : Example
rows_elided = automatic_one (array 2 (array 2 int_type)) 1 1
    (list (next (number (pos 1) 10) ∷ next (number (pos 2) 12) ∷ next (number (pos 3) 14) ∷ []) 9)

-- int x[2][2] = {{1, 2}, 3};
abbrev pub row_and_elided : Example
row_and_elided = automatic_one (array 2 (array 2 int_type)) 1 1
    (list (next (list (next (number (pos 1) 11) ∷ next (number (pos 2) 13) ∷ []) 10) ∷ next (number (pos 3) 16) ∷ []) 9)

-- struct pair x = {1, 2, 3};
abbrev pub members : Example
members = automatic_one pair 2 2
    (list (next (number (pos 1) 5) ∷ next (number (pos 2) 7) ∷ next (number (pos 3) 9) ∷ []) 4)

-- struct pair x = {{1}, 3};
abbrev pub member_in_braces : Example
member_in_braces = automatic_one pair 2 2
    (list (next (list (next (number (pos 1) 6) ∷ []) 5) ∷ next (number (pos 3) 9) ∷ []) 4)

-- struct pair x[2] = {1, 2, 3, 4};
abbrev pub structures_elided : Example
structures_elided = automatic_one (array 2 pair) 2 2
    (list (next (number (pos 1) 8) ∷ next (number (pos 2) 10) ∷ next (number (pos 3) 12) ∷ next (number (pos 4) 14) ∷ []) 7)

-- struct line x[2] = {1, 2, 3, 4, 5};
abbrev pub lines_elided : Example
lines_elided = automatic_one (array 2 line) 2 2
    (list (next (number (pos 1) 8) ∷ next (number (pos 2) 10) ∷ next (number (pos 3) 12) ∷ next (number (pos 4) 14) ∷ next (number (pos 5) 16) ∷ []) 7)

-- struct line x = {{}, {7}};
abbrev pub empty_inside : Example
empty_inside = automatic_one line 2 2
    (list (next (list ([]) 5) ∷ next (list (next (number (pos 7) 9) ∷ []) 8) ∷ []) 4)

-- struct grid x = {1, 2, 3, {4}, 5};
abbrev pub braces_behind_elided : Example
braces_behind_elided = automatic_one grid 2 2
    (list (next (number (pos 1) 5) ∷ next (number (pos 2) 7) ∷ next (number (pos 3) 9) ∷ next (list (next (number (pos 4) 12) ∷ []) 11) ∷ next (number (pos 5) 15) ∷ []) 4)

-- char x[3] = {'a', 98};
abbrev pub characters : Example
characters = automatic_one (array 3 char_type) 1 1
    (list (next (number (pos 97) 7) ∷ next (number (pos 98) 9) ∷ []) 6)

-- bool x[3] = {2, 0, -1};
abbrev pub truths : Example
truths = automatic_one (array 3 bool_type) 1 1
    (list (next (number (pos 2) 7) ∷ next (number (pos 0) 9) ∷ next (number (negsuc 0) 11) ∷ []) 6)

-- long x = {-1};
abbrev pub wider : Example
wider = automatic_one long_type 1 1
    (list (next (number (negsuc 0) 4) ∷ []) 3)

-- char x[2] = {300, 1};
abbrev pub narrower : Example
narrower = automatic_one (array 2 char_type) 1 1
    (list (next (number (pos 300) 7) ∷ next (number (pos 1) 9) ∷ []) 6)
