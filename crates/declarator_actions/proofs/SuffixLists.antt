-- Suffixes that are read from the front.
use Rattle.std.specs.Prelude.{◌≡◌, refl, List, [], ◌∷◌, ◌++◌}
use Rattle.std.proofs.Common.{ap}
use Rattle.model_grammar.specs.SyntaxForms as m
use Rattle.c_tree.specs.declared.syntax_declarators.Suffix.{Suffix}
use Rattle.c_tree.specs.SyntaxViews.{suffix_of, suffixes_of}

-- the suffixes before others
abbrev pub before : List Suffix → m.Suffixes → m.Suffixes
before [] others = others
before (x ∷ xs) others = m.more_suffixes (suffix_of x) (before xs others)

pub before_last : (xs : List Suffix) (x : Suffix) (others : m.Suffixes) → before (xs ++ x ∷ []) others ≡ before xs (m.more_suffixes (suffix_of x) others)
before_last [] x others = refl
before_last (y ∷ ys) x others = ap (m.more_suffixes (suffix_of y)) (before_last ys x others)

pub before_none : (xs : List Suffix) → before xs m.no_suffixes ≡ suffixes_of xs
before_none [] = refl
before_none (x ∷ xs) = ap (m.more_suffixes (suffix_of x)) (before_none xs)
