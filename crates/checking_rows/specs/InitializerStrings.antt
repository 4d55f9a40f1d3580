-- Strings for arrays of characters.
use Rattle.std.specs.Prelude.{pos, codes, [], ◌∷◌}
use Rattle.model_checking.specs.Parts.{to_element, to_member}
use Rattle.checking_rows.specs.InitializerParts.{at, list, next, to, text, number, array, char_type, signed_char_type, unsigned_char_type, named}
use Rattle.checking_rows.specs.InitializerAnswers.{Example, automatic_one}

-- char x[4] = "ab";
abbrev pub padded : Example
padded = automatic_one (array 4 char_type) 1 1
    (text 21 (codes "ab") 6)

-- char x[3] = "abc";
abbrev pub without_zero : Example
without_zero = automatic_one (array 3 char_type) 1 1
    (text 21 (codes "abc") 6)

-- char x[4] = {"ab"};
abbrev pub in_braces : Example
in_braces = automatic_one (array 4 char_type) 1 1
    (list (next (text 21 (codes "ab") 7) ∷ []) 6)

-- char x[3] = "";
abbrev pub no_bytes : Example
no_bytes = automatic_one (array 3 char_type) 1 1
    (text 21 (codes "") 6)

-- char x[4] = "a\0b";
abbrev pub zero_inside : Example
zero_inside = automatic_one (array 4 char_type) 1 1
    (text 21 (97 ∷ 0 ∷ 98 ∷ []) 6)

-- char x[2] = "\377";
abbrev pub as_char : Example
as_char = automatic_one (array 2 char_type) 1 1
    (text 21 (255 ∷ []) 6)

-- signed char x[2] = "\377";
abbrev pub as_signed_char : Example
as_signed_char = automatic_one (array 2 signed_char_type) 2 2
    (text 21 (255 ∷ []) 7)

-- unsigned char x[2] = "\377";
abbrev pub as_unsigned_char : Example
as_unsigned_char = automatic_one (array 2 unsigned_char_type) 2 2
    (text 21 (255 ∷ []) 7)

-- char x[2][3] = {"ab", "cde"};
abbrev pub two : Example
two = automatic_one (array 2 (array 3 char_type)) 1 1
    (list (next (text 21 (codes "ab") 10) ∷ next (text 22 (codes "cde") 12) ∷ []) 9)

-- char x[2][3] = {{"ab"}, 'c'};
abbrev pub one_in_braces : Example
one_in_braces = automatic_one (array 2 (array 3 char_type)) 1 1
    (list (next (list (next (text 21 (codes "ab") 11) ∷ []) 10) ∷ next (number (pos 99) 14) ∷ []) 9)

-- struct named x = {"abc", 5};
abbrev pub member : Example
member = automatic_one named 2 2
    (list (next (text 21 (codes "abc") 5) ∷ next (number (pos 5) 7) ∷ []) 4)

-- struct named x[2] = {"ab", 1, "cd", 2};
abbrev pub members_elided : Example
members_elided = automatic_one (array 2 named) 2 2
    (list (next (text 21 (codes "ab") 8) ∷ next (number (pos 1) 10) ∷ next (text 22 (codes "cd") 12) ∷ next (number (pos 2) 14) ∷ []) 7)

-- struct named x = {{"ab"}, 5};
abbrev pub member_in_braces : Example
member_in_braces = automatic_one named 2 2
    (list (next (list (next (text 21 (codes "ab") 6) ∷ []) 5) ∷ next (number (pos 5) 9) ∷ []) 4)

-- struct named x = {.text = "xyz", .text[1] = 'q'};
abbrev pub element_behind : Example
element_behind = automatic_one named 2 2
    (list (to (to_member (codes "text") (at 5) ∷ []) (text 21 (codes "xyz") 8) ∷ to (to_member (codes "text") (at 10) ∷ to_element 1 (at 12) ∷ []) (number (pos 113) 16) ∷ []) 4)

-- struct named x = {.text[3] = 'q', .text = "a"};
abbrev pub element_before : Example
element_before = automatic_one named 2 2
    (list (to (to_member (codes "text") (at 5) ∷ to_element 3 (at 7) ∷ []) (number (pos 113) 11) ∷ to (to_member (codes "text") (at 13) ∷ []) (text 21 (codes "a") 16) ∷ []) 4)
