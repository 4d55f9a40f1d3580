-- The words of a list, each with those before it.
use Rattle.std.proofs.Common.{◌≡◌, ◌∙◌, ap, sym, refl, ℕ, ◌+◌, ◌<◌, Bool, true, false, ◌&&◌, ◌||◌, not, if◌then◌else◌, is_some, List, [], ◌∷◌, ◌++◌, length, take, drop, get_or, Option, Some}
use Rattle.std.proofs.lemmas.List.{drop_more, take_more}
use Rattle.cake_base.specs.declared.places.Place.{Place}
use Rattle.model_grammar.specs.declared.syntax.TypeWord.{TypeWord}
use Rattle.c_tree.specs.SyntaxViews.{spec_of, specs_items}
use Rattle.c_tree.specs.declared.syntax_specifiers.Spec.{Spec}
use Rattle.model_checking.specs.Words.{Word, word_of, words_of, type_words, place_of_word, is_type_specifier}
use Rattle.model_checking.specs.TypeKeywords.{type_by_words}
use Rattle.model_checking.specs.SpecifierWords.{combines, first_uncombined, types_combine}
use Rattle.check_specifiers.specs.declared.keywords.Keywords.{Keywords}
use Rattle.check_specifiers.specs.KeywordCounts.{keywords_in, with_keyword, named_by}
use Rattle.check_specifiers.proofs.KeywordLaws.{one_more, named_by_words}

abbrev words : List Spec → List Word
words specs = words_of (specs_items specs)

pub one_keyword : (word : TypeWord) (before : List Word) (k : Keywords) → k ≡ with_keyword word (keywords_in (type_words before))
    → is_some (named_by k) ≡ is_some (type_by_words (word ∷ type_words before))
one_keyword word before k e = ap is_some (named_by_words (word ∷ type_words before) k (e ∙ one_more word (type_words before)))

words_behind : (specs : List Spec) (x : Spec) → words (specs ++ x ∷ []) ≡ words specs ++ word_of (spec_of x) ∷ []
words_behind [] x = refl
words_behind (y ∷ ys) x = ap (λ ws. word_of (spec_of y) ∷ ws) (words_behind ys x)

words_taken : (specs : List Spec) (i : ℕ) (x : Spec) → i < length specs → x ≡ get_or specs i x → words (take (i + 1) specs) ≡ words (take i specs) ++ word_of (spec_of x) ∷ []
words_taken specs i x l is =
    ap words (take_more specs i x l ∙ ap (λ y. take i specs ++ y ∷ []) (sym is)) ∙ words_behind (take i specs) x

words_left : (specs : List Spec) (i : ℕ) (x : Spec) → i < length specs → x ≡ get_or specs i x → words (drop i specs) ≡ word_of (spec_of x) ∷ words (drop (i + 1) specs)
words_left specs i x l is = ap words (drop_more specs i x l ∙ ap (λ y. y ∷ drop (i + 1) specs) (sym is))

pub uncombined_from : (specs : List Spec) (i : ℕ) (x : Spec) → i < length specs → x ≡ get_or specs i x
    → first_uncombined (words (take i specs)) (words (drop i specs))
    ≡ (if combines (words (take i specs)) (word_of (spec_of x)) then first_uncombined (words (take (i + 1) specs)) (words (drop (i + 1) specs))
    else Some (place_of_word (word_of (spec_of x))))
uncombined_from specs i x l is =
    ap (first_uncombined (words (take i specs))) (words_left specs i x l is)
    ∙ ap (λ ws. if combines (words (take i specs)) (word_of (spec_of x)) then first_uncombined ws (words (drop (i + 1) specs)) else Some (place_of_word (word_of (spec_of x))))
    (sym (words_taken specs i x l is))

pub combined_from : (specs : List Spec) (i : ℕ) (x : Spec) → i < length specs → x ≡ get_or specs i x
    → types_combine (words (take i specs)) (words (drop i specs))
    ≡ ((not (is_type_specifier (word_of (spec_of x))) || combines (words (take i specs)) (word_of (spec_of x))) && types_combine (words (take (i + 1) specs)) (words (drop (i + 1) specs)))
combined_from specs i x l is =
    ap (types_combine (words (take i specs))) (words_left specs i x l is)
    ∙ ap (λ ws. (not (is_type_specifier (word_of (spec_of x))) || combines (words (take i specs)) (word_of (spec_of x))) && types_combine ws (words (drop (i + 1) specs)))
    (sym (words_taken specs i x l is))

-- one word further
pub uncombined_on : (specs before : List Spec) (i : ℕ) (x : Spec) (b : Bool) (whole : Option Place) → i < length specs → x ≡ get_or specs i x → before ≡ take i specs
    → b ≡ combines (words before) (word_of (spec_of x)) → b ≡ true → first_uncombined (words (take i specs)) (words (drop i specs)) ≡ whole
    → first_uncombined (words (take (i + 1) specs)) (words (drop (i + 1) specs)) ≡ whole
uncombined_on specs before i x b whole l is front e t h =
    let rest = first_uncombined (words (take (i + 1) specs)) (words (drop (i + 1) specs)) in
    let holds : combines (words (take i specs)) (word_of (spec_of x)) ≡ true = ap (λ f. combines (words f) (word_of (spec_of x))) (sym front) ∙ sym e ∙ t in
    sym (ap (λ c. if c then rest else Some (place_of_word (word_of (spec_of x)))) holds) ∙ sym (uncombined_from specs i x l is) ∙ h

pub combined_on : (specs before : List Spec) (i : ℕ) (x : Spec) (b whole : Bool) → i < length specs → x ≡ get_or specs i x → before ≡ take i specs
    → b ≡ not (not (is_type_specifier (word_of (spec_of x))) || combines (words before) (word_of (spec_of x))) → b ≡ false
    → types_combine (words (take i specs)) (words (drop i specs)) ≡ whole → types_combine (words (take (i + 1) specs)) (words (drop (i + 1) specs)) ≡ whole
combined_on specs before i x b whole l is front e t h =
    let rest = types_combine (words (take (i + 1) specs)) (words (drop (i + 1) specs)) in
    let holds : not (not (is_type_specifier (word_of (spec_of x))) || combines (words (take i specs)) (word_of (spec_of x))) ≡ false =
    ap (λ f. not (not (is_type_specifier (word_of (spec_of x))) || combines (words f) (word_of (spec_of x)))) (sym front) ∙ sym e ∙ t in
    sym (ap (λ c. c && rest) (positive _ holds)) ∙ sym (combined_from specs i x l is) ∙ h
  where
    positive : (c : Bool) → not c ≡ false → c ≡ true
    positive true h = refl
    positive false h = cc
