-- Declarators that are read from the front.
use Rattle.std.specs.Prelude.{◌≡◌, refl, List, [], ◌∷◌, ◌++◌}
use Rattle.std.proofs.Common.{ap}
use Rattle.model_grammar.specs.SyntaxForms as m

-- the declarators before others
abbrev pub before : List m.Declarator → m.Declarators → m.Declarators
before [] others = others
before (x ∷ xs) others = m.more_declarators x (before xs others)

pub before_last : (xs : List m.Declarator) (x : m.Declarator) (others : m.Declarators) → before (xs ++ x ∷ []) others ≡ before xs (m.more_declarators x others)
before_last [] x others = refl
before_last (y ∷ ys) x others = ap (m.more_declarators y) (before_last ys x others)

pub before_none : (xs : List m.Declarator) → before xs m.no_declarators ≡ m.declarators xs
before_none [] = refl
before_none (x ∷ xs) = ap (m.more_declarators x) (before_none xs)
