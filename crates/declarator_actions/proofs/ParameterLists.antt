-- Parameters that are read from the front.
use Rattle.std.specs.Prelude.{◌≡◌, refl, List, [], ◌∷◌, ◌++◌}
use Rattle.std.proofs.Common.{ap}
use Rattle.model_grammar.specs.SyntaxForms as m
use Rattle.c_tree.specs.declared.syntax_declarators.Parameter.{Parameter}
use Rattle.c_tree.specs.SyntaxViews.{parameter_of, parameters_of}

-- the parameters before others
abbrev pub before : List Parameter → m.Parameters → m.Parameters
before [] others = others
before (x ∷ xs) others = m.more_parameters (parameter_of x) (before xs others)

pub before_last : (xs : List Parameter) (x : Parameter) (others : m.Parameters) → before (xs ++ x ∷ []) others ≡ before xs (m.more_parameters (parameter_of x) others)
before_last [] x others = refl
before_last (y ∷ ys) x others = ap (m.more_parameters (parameter_of y)) (before_last ys x others)

pub before_none : (xs : List Parameter) → before xs m.no_parameters ≡ parameters_of xs
before_none [] = refl
before_none (x ∷ xs) = ap (m.more_parameters (parameter_of x)) (before_none xs)
