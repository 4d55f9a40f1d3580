-- Designators, what stands behind them, and what is overridden.
use Rattle.std.specs.Prelude.{pos, codes, [], ◌∷◌}
use Rattle.model_core.specs.CoreTypes.{int_type}
use Rattle.model_checking.specs.Parts.{to_element, to_member}
use Rattle.checking_rows.specs.InitializerParts.{at, list, next, to, text, number, array, pair, line, grid}
use Rattle.checking_rows.specs.InitializerAnswers.{Example, automatic_one}

-- int x[4] = {[2] = 1, 2};
abbrev pub goes_on : Example
goes_on = automatic_one (array 4 int_type) 1 1
    (list (to (to_element 2 (at 7) ∷ []) (number (pos 1) 11) ∷ next (number (pos 2) 13) ∷ []) 6)

-- int x[4] = {[3] = 1, [0] = 2, 3};
abbrev pub backwards : Example
backwards = automatic_one (array 4 int_type) 1 1
    (list (to (to_element 3 (at 7) ∷ []) (number (pos 1) 11) ∷ to (to_element 0 (at 13) ∷ []) (number (pos 2) 17) ∷ next (number (pos 3) 19) ∷ []) 6)

-- int x[3] = {1, 2, 3, [1] = 5};
abbrev pub overridden : Example
overridden = automatic_one (array 3 int_type) 1 1
    (list (next (number (pos 1) 7) ∷ next (number (pos 2) 9) ∷ next (number (pos 3) 11) ∷ to (to_element 1 (at 13) ∷ []) (number (pos 5) 17) ∷ []) 6)

-- struct pair x = {.b = 1, .a = {2}};
abbrev pub by_name : Example
by_name = automatic_one pair 2 2
    (list (to (to_member (codes "b") (at 5) ∷ []) (number (pos 1) 8) ∷ to (to_member (codes "a") (at 10) ∷ []) (list (next (number (pos 2) 14) ∷ []) 13) ∷ []) 4)

-- struct pair x = {.a[1] = 1, 2};
abbrev pub out_of_an_array : Example
out_of_an_array = automatic_one pair 2 2
    (list (to (to_member (codes "a") (at 5) ∷ to_element 1 (at 7) ∷ []) (number (pos 1) 11) ∷ next (number (pos 2) 13) ∷ []) 4)

-- struct line x = {.to.y = 1, .from = {2, 3}};
abbrev pub deep : Example
deep = automatic_one line 2 2
    (list (to (to_member (codes "to") (at 5) ∷ to_member (codes "y") (at 7) ∷ []) (number (pos 1) 10) ∷ to (to_member (codes "from") (at 12) ∷ []) (list (next (number (pos 2) 16) ∷ next (number (pos 3) 18) ∷ []) 15) ∷ []) 4)

-- struct line x = {.from = {1, 2}, .from.y = 3};
abbrev pub part_behind_braces : Example
part_behind_braces = automatic_one line 2 2
    (list (to (to_member (codes "from") (at 5) ∷ []) (list (next (number (pos 1) 9) ∷ next (number (pos 2) 11) ∷ []) 8) ∷ to (to_member (codes "from") (at 14) ∷ to_member (codes "y") (at 16) ∷ []) (number (pos 3) 19) ∷ []) 4)

-- struct line x = {.from.y = 3, .from = {1}};
abbrev pub braces_clear : Example
braces_clear = automatic_one line 2 2
    (list (to (to_member (codes "from") (at 5) ∷ to_member (codes "y") (at 7) ∷ []) (number (pos 3) 10) ∷ to (to_member (codes "from") (at 12) ∷ []) (list (next (number (pos 1) 16) ∷ []) 15) ∷ []) 4)

-- struct line x = {.to = 5, 6};
abbrev pub elided_behind : Example
elided_behind = automatic_one line 2 2
    (list (to (to_member (codes "to") (at 5) ∷ []) (number (pos 5) 8) ∷ next (number (pos 6) 10) ∷ []) 4)

-- struct grid x = {.rows[1].a[1] = 1, 2, "ab"};
abbrev pub deep_goes_on : Example
deep_goes_on = automatic_one grid 2 2
    (list (to (to_member (codes "rows") (at 5) ∷ to_element 1 (at 7) ∷ to_member (codes "a") (at 10) ∷ to_element 1 (at 12) ∷ []) (number (pos 1) 16) ∷ next (number (pos 2) 18) ∷ next (text 21 (codes "ab") 20) ∷ []) 4)

-- struct pair x[2] = {[1].a = {7, 8}, 9, [0] = {1}};
abbrev pub braces_go_on : Example
braces_go_on = automatic_one (array 2 pair) 2 2
    (list (to (to_element 1 (at 8) ∷ to_member (codes "a") (at 11) ∷ []) (list (next (number (pos 7) 15) ∷ next (number (pos 8) 17) ∷ []) 14) ∷ next (number (pos 9) 20) ∷ to (to_element 0 (at 22) ∷ []) (list (next (number (pos 1) 27) ∷ []) 26) ∷ []) 7)

-- int x[2][3] = {[1] = {1, 2, 3}, [1][1] = 5};
abbrev pub element_of_a_row : Example
element_of_a_row = automatic_one (array 2 (array 3 int_type)) 1 1
    (list (to (to_element 1 (at 10) ∷ []) (list (next (number (pos 1) 15) ∷ next (number (pos 2) 17) ∷ next (number (pos 3) 19) ∷ []) 14) ∷ to (to_element 1 (at 22) ∷ to_element 1 (at 25) ∷ []) (number (pos 5) 29) ∷ []) 9)

-- int x[2][3] = {[0][2] = 1, 2, 3};
abbrev pub into_the_next_row : Example
into_the_next_row = automatic_one (array 2 (array 3 int_type)) 1 1
    (list (to (to_element 0 (at 10) ∷ to_element 2 (at 13) ∷ []) (number (pos 1) 17) ∷ next (number (pos 2) 19) ∷ next (number (pos 3) 21) ∷ []) 9)

-- struct line x = {1, .to = {2}, .from.y = 3, 4};
abbrev pub there_and_back : Example
there_and_back = automatic_one line 2 2
    (list (next (number (pos 1) 5) ∷ to (to_member (codes "to") (at 7) ∷ []) (list (next (number (pos 2) 11) ∷ []) 10) ∷ to (to_member (codes "from") (at 14) ∷ to_member (codes "y") (at 16) ∷ []) (number (pos 3) 19) ∷ next (number (pos 4) 21) ∷ []) 4)
