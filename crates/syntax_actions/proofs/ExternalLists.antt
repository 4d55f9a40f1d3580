-- The declarations and definitions of a unit that are read from the front.
use Rattle.std.proofs.Common.{◌≡◌, refl, ap, List, [], ◌∷◌, ◌++◌}
use Rattle.model_grammar.specs.SyntaxForms as syntax
use Rattle.c_tree.specs.SyntaxViews.{external_of, externals_of}
use Rattle.c_tree.specs.declared.syntax_unit.External.{External}

abbrev pub externals_onto : List External → List syntax.External → List syntax.External
externals_onto [] others = others
externals_onto (x ∷ xs) others = external_of x ∷ externals_onto xs others

pub one_more_external : (xs : List External) (x : External) (others : List syntax.External) → externals_onto (xs ++ x ∷ []) others ≡ externals_onto xs (external_of x ∷ others)
one_more_external [] x others = refl
one_more_external (y ∷ ys) x others = ap (λ (zs : List syntax.External). external_of y ∷ zs) (one_more_external ys x others)

pub no_more_externals : (xs : List External) → externals_onto xs [] ≡ externals_of xs
no_more_externals [] = refl
no_more_externals (x ∷ xs) = ap (λ (zs : List syntax.External). external_of x ∷ zs) (no_more_externals xs)
