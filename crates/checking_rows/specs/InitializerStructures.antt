-- Values of whole structures, and values that no constant shows; in the order of offsets.
use Rattle.std.specs.Prelude.{pos, codes, [], ◌∷◌}
use Rattle.model_core.specs.CoreTypes.{int_type}
use Rattle.model_checking.specs.Parts.{to_element, to_member}
use Rattle.checking_rows.specs.InitializerParts.{at, list, next, to, text, number, value, loaded, called, array, const_char_pointer, char_pointer, point, line, item}
use Rattle.checking_rows.specs.InitializerAnswers.{Example, automatic_one}

-- struct point x = p;
abbrev pub whole : Example
whole = automatic_one point 2 2
    (value (loaded 2 point 4) 4)

-- struct line x = l;
abbrev pub whole_line : Example
whole_line = automatic_one line 2 2
    (value (loaded 4 line 4) 4)

-- struct line x = {p, {1, 2}};
abbrev pub first_member : Example
first_member = automatic_one line 2 2
    (list (next (value (loaded 2 point 5) 5) ∷ next (list (next (number (pos 1) 8) ∷ next (number (pos 2) 10) ∷ []) 7) ∷ []) 4)

-- struct line x = {1, 2, p};
abbrev pub behind_scalars : Example
behind_scalars = automatic_one line 2 2
    (list (next (number (pos 1) 5) ∷ next (number (pos 2) 7) ∷ next (value (loaded 2 point 9) 9) ∷ []) 4)

-- struct line x = {p, 3};
abbrev pub before_scalars : Example
before_scalars = automatic_one line 2 2
    (list (next (value (loaded 2 point 5) 5) ∷ next (number (pos 3) 7) ∷ []) 4)

-- struct line x = {.from = p, .from.y = 5};
abbrev pub part_behind_whole : Example
part_behind_whole = automatic_one line 2 2
    (list (to (to_member (codes "from") (at 5) ∷ []) (value (loaded 2 point 8) 8) ∷ to (to_member (codes "from") (at 10) ∷ to_member (codes "y") (at 12) ∷ []) (number (pos 5) 15) ∷ []) 4)

-- struct line x = {.from.y = 5, .from = p};
abbrev pub part_before_whole : Example
part_before_whole = automatic_one line 2 2
    (list (to (to_member (codes "from") (at 5) ∷ to_member (codes "y") (at 7) ∷ []) (number (pos 5) 10) ∷ to (to_member (codes "from") (at 12) ∷ []) (value (loaded 2 point 15) 15) ∷ []) 4)

-- struct line x = {.from = p, .from = {1}};
abbrev pub braces_behind_whole : Example
braces_behind_whole = automatic_one line 2 2
    (list (to (to_member (codes "from") (at 5) ∷ []) (value (loaded 2 point 8) 8) ∷ to (to_member (codes "from") (at 10) ∷ []) (list (next (number (pos 1) 14) ∷ []) 13) ∷ []) 4)

-- struct point x[2] = {p, p};
abbrev pub elements : Example
elements = automatic_one (array 2 point) 2 2
    (list (next (value (loaded 2 point 8) 8) ∷ next (value (loaded 2 point 10) 10) ∷ []) 7)

-- struct line x[2] = {l, p};
abbrev pub of_the_whole_type : Example
of_the_whole_type = automatic_one (array 2 line) 2 2
    (list (next (value (loaded 4 line 8) 8) ∷ next (value (loaded 2 point 10) 10) ∷ []) 7)

-- struct item x = {"abc", p};
abbrev pub string_for_a_pointer : Example
string_for_a_pointer = automatic_one item 2 2
    (list (next (text 21 (codes "abc") 5) ∷ next (value (loaded 2 point 7) 7) ∷ []) 4)

-- const char *x[2] = {"a", 0};
abbrev pub string_and_null : Example
string_and_null = automatic_one (array 2 const_char_pointer) 2 3
    (list (next (text 21 (codes "a") 9) ∷ next (number (pos 0) 11) ∷ []) 8)

-- char *x = "a";
abbrev pub string_without_const : Example
string_without_const = automatic_one char_pointer 1 2
    (text 21 (codes "a") 4)

-- struct item x = {.at = {1}};
abbrev pub missing_pointer : Example
missing_pointer = automatic_one item 2 2
    (list (to (to_member (codes "at") (at 5) ∷ []) (list (next (number (pos 1) 9) ∷ []) 8) ∷ []) 4)

-- int x[2] = {[1] = f(), [0] = g()};
abbrev pub order_of_offsets : Example
order_of_offsets = automatic_one (array 2 int_type) 1 1
    (list (to (to_element 1 (at 7) ∷ []) (value (called 30 int_type 11) 11) ∷ to (to_element 0 (at 15) ∷ []) (value (called 31 int_type 19) 19) ∷ []) 6)

-- int x[2] = {[0] = f(), [0] = g()};
abbrev pub overridden_call : Example
overridden_call = automatic_one (array 2 int_type) 1 1
    (list (to (to_element 0 (at 7) ∷ []) (value (called 30 int_type 11) 11) ∷ to (to_element 0 (at 15) ∷ []) (value (called 31 int_type 19) 19) ∷ []) 6)
