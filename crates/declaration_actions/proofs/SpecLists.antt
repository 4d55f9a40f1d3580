-- Specifiers that are read from the front.
use Rattle.std.specs.Prelude.{◌≡◌, refl, List, [], ◌∷◌, ◌++◌}
use Rattle.std.proofs.Common.{ap}
use Rattle.model_grammar.specs.SyntaxForms as m
use Rattle.c_tree.specs.declared.syntax_specifiers.Spec.{Spec}
use Rattle.c_tree.specs.SyntaxViews.{spec_of, specs_items}

-- the specifiers before others
abbrev pub before : List Spec → m.Specs → m.Specs
before [] others = others
before (x ∷ xs) others = m.more_specs (spec_of x) (before xs others)

pub before_last : (xs : List Spec) (x : Spec) (others : m.Specs) → before (xs ++ x ∷ []) others ≡ before xs (m.more_specs (spec_of x) others)
before_last [] x others = refl
before_last (y ∷ ys) x others = ap (m.more_specs (spec_of y)) (before_last ys x others)

pub before_none : (xs : List Spec) → before xs m.no_specs ≡ specs_items xs
before_none [] = refl
before_none (x ∷ xs) = ap (m.more_specs (spec_of x)) (before_none xs)
