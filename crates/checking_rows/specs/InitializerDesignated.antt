-- Designators that do not fit, and faulty ones.
use Rattle.std.specs.Prelude.{pos, codes, [], ◌∷◌}
use Rattle.model_core.specs.CoreTypes.{int_type}
use Rattle.model_checking.specs.Parts.{to_element, to_no_element, to_member, faulty_index, faulty}
use Rattle.checking_rows.specs.InitializerParts.{at, broken, list, to, number, array, unsized, point, line}
use Rattle.checking_rows.specs.InitializerAnswers.{Example, automatic_one}

-- struct point x = {.x = 1, .z = 2};
abbrev pub no_member : Example
no_member = automatic_one point 2 2
    (list (to (to_member (codes "x") (at 5) ∷ []) (number (pos 1) 8) ∷ to (to_member (codes "z") (at 10) ∷ []) (number (pos 2) 13) ∷ []) 4)

-- int x[2] = {[2] = 1};
abbrev pub no_element : Example
no_element = automatic_one (array 2 int_type) 1 1
    (list (to (to_element 2 (at 7) ∷ []) (number (pos 1) 11) ∷ []) 6)

-- int x[2] = {[-1] = 1};
abbrev pub negative : Example
negative = automatic_one (array 2 int_type) 1 1
    (list (to (to_no_element (at 7) ∷ []) (number (pos 1) 12) ∷ []) 6)

-- int x[2] = {.a = 1};
abbrev pub member_of_array : Example
member_of_array = automatic_one (array 2 int_type) 1 1
    (list (to (to_member (codes "a") (at 7) ∷ []) (number (pos 1) 10) ∷ []) 6)

-- struct point x = {[0] = 1};
abbrev pub element_of_structure : Example
element_of_structure = automatic_one point 2 2
    (list (to (to_element 0 (at 5) ∷ []) (number (pos 1) 9) ∷ []) 4)

-- int x = {[0] = 1};
abbrev pub of_a_scalar : Example
of_a_scalar = automatic_one int_type 1 1
    (list (to (to_element 0 (at 4) ∷ []) (number (pos 1) 8) ∷ []) 3)

-- struct line x = {.from[0] = 1};
abbrev pub deep : Example
deep = automatic_one line 2 2
    (list (to (to_member (codes "from") (at 5) ∷ to_element 0 (at 7) ∷ []) (number (pos 1) 11) ∷ []) 4)

-- struct point x = {[u] = 1};
abbrev pub kind_before_index : Example
kind_before_index = automatic_one point 2 2
    (list (to (faulty_index (broken 5 6) (at 5) ∷ []) (faulty (broken 5 6) (at 6)) ∷ []) 4)

-- int x[2] = {[u] = 1};
abbrev pub undeclared_index : Example
undeclared_index = automatic_one (array 2 int_type) 1 1
    (list (to (faulty_index (broken 5 8) (at 7) ∷ []) (faulty (broken 5 8) (at 8)) ∷ []) 6)

-- int x[2] = {[n] = 1};
abbrev pub index_no_constant : Example
index_no_constant = automatic_one (array 2 int_type) 1 1
    (list (to (faulty_index (broken 23 8) (at 7) ∷ []) (faulty (broken 23 8) (at 8)) ∷ []) 6)

-- int x[] = {[-1] = 1};
abbrev pub negative_without_length : Example
negative_without_length = automatic_one (unsized int_type) 1 1
    (list (to (to_no_element (at 6) ∷ []) (number (pos 1) 11) ∷ []) 5)
