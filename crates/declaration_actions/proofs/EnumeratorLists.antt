-- Enumerators that are read from the front.
use Rattle.std.specs.Prelude.{◌≡◌, refl, List, [], ◌∷◌, ◌++◌}
use Rattle.std.proofs.Common.{ap}
use Rattle.model_grammar.specs.SyntaxForms as m
use Rattle.c_tree.specs.declared.syntax_specifiers.Enumerator.{Enumerator}
use Rattle.c_tree.specs.SyntaxViews.{enumerator_of, enumerators_of}

-- the enumerators before others
abbrev pub before : List Enumerator → m.Enumerators → m.Enumerators
before [] others = others
before (x ∷ xs) others = m.more_enumerators (enumerator_of x) (before xs others)

pub before_last : (xs : List Enumerator) (x : Enumerator) (others : m.Enumerators) → before (xs ++ x ∷ []) others ≡ before xs (m.more_enumerators (enumerator_of x) others)
before_last [] x others = refl
before_last (y ∷ ys) x others = ap (m.more_enumerators (enumerator_of y)) (before_last ys x others)

pub before_none : (xs : List Enumerator) → before xs m.no_enumerators ≡ enumerators_of xs
before_none [] = refl
before_none (x ∷ xs) = ap (m.more_enumerators (enumerator_of x)) (before_none xs)
