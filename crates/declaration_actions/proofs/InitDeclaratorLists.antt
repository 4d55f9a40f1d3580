-- Declarators with their initializers that are read from the front.
use Rattle.std.specs.Prelude.{◌≡◌, refl, List, [], ◌∷◌, ◌++◌}
use Rattle.std.proofs.Common.{ap}
use Rattle.model_grammar.specs.SyntaxForms as m
use Rattle.c_tree.specs.declared.syntax_declarations.InitDeclarator.{InitDeclarator}
use Rattle.c_tree.specs.SyntaxViews.{init_declarator_of, init_declarators_of}

-- the declarators before others
abbrev pub before : List InitDeclarator → m.InitDeclarators → m.InitDeclarators
before [] others = others
before (x ∷ xs) others = m.more_init_declarators (init_declarator_of x) (before xs others)

pub before_last : (xs : List InitDeclarator) (x : InitDeclarator) (others : m.InitDeclarators) → before (xs ++ x ∷ []) others ≡ before xs (m.more_init_declarators (init_declarator_of x) others)
before_last [] x others = refl
before_last (y ∷ ys) x others = ap (m.more_init_declarators (init_declarator_of y)) (before_last ys x others)

pub before_none : (xs : List InitDeclarator) → before xs m.no_init_declarators ≡ init_declarators_of xs
before_none [] = refl
before_none (x ∷ xs) = ap (m.more_init_declarators (init_declarator_of x)) (before_none xs)
