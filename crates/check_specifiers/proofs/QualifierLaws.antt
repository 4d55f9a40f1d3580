-- The qualifiers of a list, one specifier after another.
use Rattle.std.proofs.Common.{◌≡◌, ◌∙◌, ap, sym, ℕ, ◌+◌, ◌<◌, List, ◌∷◌, ◌++◌, append_assoc, length, drop, get_or}
use Rattle.std.proofs.lemmas.List.{drop_more}
use Rattle.model_grammar.specs.declared.syntax.Qualifier.{Qualifier}
use Rattle.c_tree.specs.SyntaxViews.{spec_of, specs_items}
use Rattle.c_tree.specs.declared.syntax_specifiers.Spec.{Spec}
use Rattle.model_checking.specs.Words.{word_of, words_of, qualifier_in, qualifiers_of}

pub qualifiers_from : (specs : List Spec) (i : ℕ) (x : Spec) (before after : List Qualifier) → i < length specs → x ≡ get_or specs i x
    → after ≡ before ++ qualifier_in (word_of (spec_of x))
    → after ++ qualifiers_of (words_of (specs_items (drop (i + 1) specs))) ≡ before ++ qualifiers_of (words_of (specs_items (drop i specs)))
qualifiers_from specs i x before after l is e =
    ap (λ qs. qs ++ qualifiers_of (words_of (specs_items (drop (i + 1) specs)))) e
    ∙ append_assoc before (qualifier_in (word_of (spec_of x))) (qualifiers_of (words_of (specs_items (drop (i + 1) specs))))
    ∙ ap (λ y. before ++ qualifiers_of (words_of (specs_items (y ∷ drop (i + 1) specs)))) is
    ∙ ap (λ ys. before ++ qualifiers_of (words_of (specs_items ys))) (sym (drop_more specs i x l))
