-- Arrays without a length get one, of their type as well.
use Rattle.std.specs.Prelude.{pos, codes, [], ◌∷◌}
use Rattle.model_core.specs.CoreTypes.{int_type}
use Rattle.model_checking.specs.Parts.{to_element}
use Rattle.checking_rows.specs.InitializerParts.{at, list, next, to, text, number, array, unsized, char_type, pair}
use Rattle.checking_rows.specs.InitializerAnswers.{Example, automatic_one}

-- int x[] = {1, 2, 3};
abbrev pub by_elements : Example
by_elements = automatic_one (unsized int_type) 1 1
    (list (next (number (pos 1) 6) ∷ next (number (pos 2) 8) ∷ next (number (pos 3) 10) ∷ []) 5)

-- int x[] = {[4] = 1, [1] = 2};
abbrev pub by_designators : Example
by_designators = automatic_one (unsized int_type) 1 1
    (list (to (to_element 4 (at 6) ∷ []) (number (pos 1) 10) ∷ to (to_element 1 (at 12) ∷ []) (number (pos 2) 16) ∷ []) 5)

-- char x[] = "ab";
abbrev pub by_string : Example
by_string = automatic_one (unsized char_type) 1 1
    (text 21 (codes "ab") 5)

-- char x[] = {"ab"};
abbrev pub by_string_in_braces : Example
by_string_in_braces = automatic_one (unsized char_type) 1 1
    (list (next (text 21 (codes "ab") 6) ∷ []) 5)

-- int x[][2] = {1, 2, 3};
abbrev pub by_elided_rows : Example
by_elided_rows = automatic_one (unsized (array 2 int_type)) 1 1
    (list (next (number (pos 1) 9) ∷ next (number (pos 2) 11) ∷ next (number (pos 3) 13) ∷ []) 8)

-- struct pair x[] = {1, 2, 3, 4};
abbrev pub by_structures : Example
by_structures = automatic_one (unsized pair) 2 2
    (list (next (number (pos 1) 7) ∷ next (number (pos 2) 9) ∷ next (number (pos 3) 11) ∷ next (number (pos 4) 13) ∷ []) 6)

-- char x[][3] = {"a", "b"};
abbrev pub by_strings : Example
by_strings = automatic_one (unsized (array 3 char_type)) 1 1
    (list (next (text 21 (codes "a") 9) ∷ next (text 22 (codes "b") 11) ∷ []) 8)

-- int x[] = {[2] = {}};
abbrev pub by_empty_braces : Example
by_empty_braces = automatic_one (unsized int_type) 1 1
    (list (to (to_element 2 (at 6) ∷ []) (list ([]) 10) ∷ []) 5)
