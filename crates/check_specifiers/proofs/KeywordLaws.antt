-- The type that keywords name depends on how often each of them is there.
use Rattle.std.proofs.Common.{◌≡◌, ◌∙◌, ap, sym, refl, arith, ℕ, zero, suc, ◌+◌, ◌<◌, nat_eq, Bool, true, false, ◌&&◌, cond, if◌then◌else◌, List, [], ◌∷◌, ◌++◌, length, drop, get_or, Option, Some}
use Rattle.std.proofs.lemmas.Bool.{and_parts, and_from}
use Rattle.std.proofs.lemmas.List.{drop_more}
use Rattle.model_types.specs.Types.{Form}
use Rattle.model_grammar.specs.declared.syntax.TypeWord.{TypeWord}
use Rattle.model_grammar.specs.declared.syntax.TypeWord.TheVariants as word
use Rattle.c_tree.specs.SyntaxViews.{spec_of, specs_items}
use Rattle.c_tree.specs.declared.syntax_specifiers.Spec.{Spec}
use Rattle.model_checking.specs.Words.{Word, a_storage_word, a_function_word, a_type_word, a_tagged_type, a_named_type, a_qualifier, word_of, words_of, type_words}
use Rattle.model_checking.specs.TypeKeywords.{Named, times, same_word, as_often, same_words, find_named, type_by_words, small_types, long_types}
use Rattle.check_specifiers.specs.declared.keywords.Times.{Times}
use Rattle.check_specifiers.specs.declared.keywords.Times.TheVariants.{Never, Once, Twice, TooOften}
use Rattle.check_specifiers.specs.declared.keywords.Keywords.{Keywords}
use Rattle.check_specifiers.specs.KeywordCounts.{more, often, keywords_in, with_keyword, with_word, same_times, same_keywords, find_by, named_by}
use Rattle.check_specifiers.proofs.NamedTypes.{named_is_found}

-- ---- one more keyword

often_more : (n : ℕ) → often (1 + n) ≡ more (often n)
often_more n = let e : 1 + n ≡ suc n = omega arith in ap often e

pub one_more : (w : TypeWord) (ws : List TypeWord) → with_keyword w (keywords_in ws) ≡ keywords_in (w ∷ ws)
one_more word.Void ws = λ i. record (keywords_in ws) { voids = sym (often_more (times word.Void ws)) i }
one_more word.Char ws = λ i. record (keywords_in ws) { chars = sym (often_more (times word.Char ws)) i }
one_more word.Short ws = λ i. record (keywords_in ws) { shorts = sym (often_more (times word.Short ws)) i }
one_more word.Int ws = λ i. record (keywords_in ws) { ints = sym (often_more (times word.Int ws)) i }
one_more word.Long ws = λ i. record (keywords_in ws) { longs = sym (often_more (times word.Long ws)) i }
one_more word.Signed ws = λ i. record (keywords_in ws) { signeds = sym (often_more (times word.Signed ws)) i }
one_more word.Unsigned ws = λ i. record (keywords_in ws) { unsigneds = sym (often_more (times word.Unsigned ws)) i }
one_more word.Bool ws = λ i. record (keywords_in ws) { bools = sym (often_more (times word.Bool ws)) i }

word_before : (w : Word) (ws : List Word) → with_word w (keywords_in (type_words ws)) ≡ keywords_in (type_words (w ∷ ws))
word_before (a_storage_word word place) ws = refl
word_before (a_function_word word place) ws = refl
word_before (a_type_word word place) ws = one_more word (type_words ws)
word_before (a_tagged_type place) ws = refl
word_before (a_named_type place) ws = refl
word_before (a_qualifier qualifier) ws = refl

-- the keywords of a list from one specifier on
pub keywords_from : (specs : List Spec) (i at : ℕ) (x : Spec) (k j : Keywords) → i + 1 ≡ at → i < length specs → x ≡ get_or specs i x
    → k ≡ keywords_in (type_words (words_of (specs_items (drop at specs)))) → j ≡ with_word (word_of (spec_of x)) k
    → j ≡ keywords_in (type_words (words_of (specs_items (drop i specs))))
keywords_from specs i at x k j next l is e h =
    h ∙ ap (with_word (word_of (spec_of x))) (e ∙ ap (λ n. keywords_in (type_words (words_of (specs_items (drop n specs))))) (sym next))
    ∙ word_before (word_of (spec_of x)) (words_of (specs_items (drop (i + 1) specs)))
    ∙ ap (λ y. keywords_in (type_words (words_of (specs_items (y ∷ drop (i + 1) specs))))) is
    ∙ ap (λ ys. keywords_in (type_words (words_of (specs_items ys)))) (sym (drop_more specs i x l))

-- ---- lists of the same keywords

abbrev all_words : (TypeWord → Bool) → Bool
all_words e =
    e word.Void && (e word.Bool && (e word.Signed && (e word.Unsigned && (e word.Char && (e word.Short && (e word.Long && e word.Int))))))

each_word : (e : TypeWord → Bool) → all_words e ≡ true → (w : TypeWord) → e w ≡ true
each_word e h =
    let v = and_parts (e word.Void) _ h in
    let b = and_parts (e word.Bool) _ v.1 in
    let s = and_parts (e word.Signed) _ b.1 in
    let u = and_parts (e word.Unsigned) _ s.1 in
    let c = and_parts (e word.Char) _ u.1 in
    let t = and_parts (e word.Short) _ c.1 in
    let l = and_parts (e word.Long) _ t.1 in
    λ w. elim w as (λ w. e w ≡ true) [
      | word.Void ↦ v.0
      | word.Char ↦ c.0
      | word.Short ↦ t.0
      | word.Int ↦ l.1
      | word.Long ↦ l.0
      | word.Signed ↦ s.0
      | word.Unsigned ↦ u.0
      | word.Bool ↦ b.0
    ]

all_from : (e : TypeWord → Bool) → ((w : TypeWord) → e w ≡ true) → all_words e ≡ true
all_from e h =
    and_from (e word.Void) _ (h word.Void) (and_from (e word.Bool) _ (h word.Bool) (and_from (e word.Signed) _ (h word.Signed)
    (and_from (e word.Unsigned) _ (h word.Unsigned) (and_from (e word.Char) _ (h word.Char) (and_from (e word.Short) _ (h word.Short)
    (and_from (e word.Long) _ (h word.Long) (h word.Int)))))))

often_from : (ws left right : List TypeWord) → ((w : TypeWord) → nat_eq (times w left) (times w right) ≡ true) → as_often ws left right ≡ true
often_from [] left right h = refl
often_from (w ∷ ws) left right h = and_from (nat_eq (times w left) (times w right)) (as_often ws left right) (h w) (often_from ws left right h)

same_is : (w v : TypeWord) → same_word w v ≡ true → w ≡ v
same_is word.Void word.Void h = refl
same_is word.Char word.Char h = refl
same_is word.Short word.Short h = refl
same_is word.Int word.Int h = refl
same_is word.Long word.Long h = refl
same_is word.Signed word.Signed h = refl
same_is word.Unsigned word.Unsigned h = refl
same_is word.Bool word.Bool h = refl
same_is _ _ h = cc

-- a keyword that is there is as often in both
often_at : (w : TypeWord) (ws left right : List TypeWord) (n : ℕ) → as_often ws left right ≡ true → times w ws ≡ suc n → nat_eq (times w left) (times w right) ≡ true
often_at w [] left right n h t = cc
often_at w (v ∷ vs) left right n h t = by (same_word w v) refl t (λ k. often_at w vs left right n parts.1 k)
  where
    parts : (nat_eq (times v left) (times v right) ≡ true) × (as_often vs left right ≡ true)
    parts = and_parts (nat_eq (times v left) (times v right)) (as_often vs left right) h

    by : (b : Bool) → same_word w v ≡ b → cond b (1 + times w vs) (times w vs) ≡ suc n → (times w vs ≡ suc n → nat_eq (times w left) (times w right) ≡ true)
        → nat_eq (times w left) (times w right) ≡ true
    by true e k rest = ap (λ x. nat_eq (times x left) (times x right)) (same_is w v e) ∙ parts.0
    by false e k rest = rest k

both_zero : (a b : ℕ) → a ≡ 0 → b ≡ 0 → nat_eq a b ≡ true
both_zero a b h k = grind (arith, h, k)

each_often : (left right : List TypeWord) → as_often left left right ≡ true → as_often right left right ≡ true → (w : TypeWord) → nat_eq (times w left) (times w right) ≡ true
each_often left right h k w = by (times w left) (times w right) refl refl
  where
    by : (a b : ℕ) → times w left ≡ a → times w right ≡ b → nat_eq (times w left) (times w right) ≡ true
    by zero zero e f = both_zero (times w left) (times w right) e f
    by (suc a) b e f = often_at w left left right a h e
    by zero (suc b) e f = often_at w right left right b k f

both_ways : (a b : Bool) → (a ≡ true → b ≡ true) → (b ≡ true → a ≡ true) → a ≡ b
both_ways true b h k = sym (h refl)
both_ways false true h k = k refl
both_ways false false h k = refl

same_by_words : (left right : List TypeWord) → same_words left right ≡ all_words (λ w. nat_eq (times w left) (times w right))
same_by_words left right = both_ways (same_words left right) (all_words (λ w. nat_eq (times w left) (times w right)))
    (λ h. let p = and_parts (as_often left left right) (as_often right left right) h in
    all_from (λ w. nat_eq (times w left) (times w right)) (each_often left right p.0 p.1))
    (λ h. let e = each_word (λ w. nat_eq (times w left) (times w right)) h in
    and_from (as_often left left right) (as_often right left right) (often_from left left right e) (often_from right left right e))

-- ---- counts of which one is small

abbrev is_few : Times → Bool
is_few TooOften = false
is_few Never = true
is_few Once = true
is_few Twice = true

too_often : (t : Times) → more (more (more t)) ≡ TooOften
too_often Never = refl
too_often Once = refl
too_often Twice = refl
too_often TooOften = refl

differ : (m n : ℕ) → (m ≡ n → ⊥) → nat_eq m n ≡ false
differ m n h = grind (arith, h)

same_counts : (m n : ℕ) → is_few (often n) ≡ true → nat_eq m n ≡ same_times (often m) (often n)
same_counts zero zero h = refl
same_counts zero (suc zero) h = refl
same_counts zero (suc (suc zero)) h = refl
same_counts (suc zero) zero h = refl
same_counts (suc zero) (suc zero) h = refl
same_counts (suc zero) (suc (suc zero)) h = refl
same_counts (suc (suc zero)) zero h = refl
same_counts (suc (suc zero)) (suc zero) h = refl
same_counts (suc (suc zero)) (suc (suc zero)) h = refl
same_counts (suc (suc (suc m))) zero h = differ (suc (suc (suc m))) 0 (λ e. omega (arith, e)) ∙ ap (λ t. same_times t Never) (sym (too_often (often m)))
same_counts (suc (suc (suc m))) (suc zero) h = differ (suc (suc (suc m))) 1 (λ e. omega (arith, e)) ∙ ap (λ t. same_times t Once) (sym (too_often (often m)))
same_counts (suc (suc (suc m))) (suc (suc zero)) h = differ (suc (suc (suc m))) 2 (λ e. omega (arith, e)) ∙ ap (λ t. same_times t Twice) (sym (too_often (often m)))
same_counts m (suc (suc (suc n))) h = let z : is_few TooOften ≡ true = ap is_few (sym (too_often (often n))) ∙ h in cc

abbrev all_few : Keywords → Bool
all_few k =
    is_few k.voids && (is_few k.bools && (is_few k.signeds && (is_few k.unsigneds && (is_few k.chars && (is_few k.shorts && (is_few k.longs && is_few k.ints))))))

same_by_counts : (left right : List TypeWord) → all_few (keywords_in right) ≡ true → same_words left right ≡ same_keywords (keywords_in left) (keywords_in right)
same_by_counts left right h =
    let few = each_word (λ w. is_few (often (times w right))) h in
    let at : (w : TypeWord) → nat_eq (times w left) (times w right) ≡ same_times (often (times w left)) (often (times w right)) =
    λ w. same_counts (times w left) (times w right) (few w) in
    same_by_words left right ∙ rw (at word.Void, at word.Bool, at word.Signed, at word.Unsigned, at word.Char, at word.Short, at word.Long, at word.Int) refl

abbrev few_named : List Named → Bool
few_named [] = true
few_named (n ∷ ns) = all_few (keywords_in n.words) && few_named ns

found_by_counts : (words : List TypeWord) (ns : List Named) → few_named ns ≡ true → find_named words ns ≡ find_by (keywords_in words) ns
found_by_counts words [] h = refl
found_by_counts words (n ∷ ns) h =
    let p = and_parts (all_few (keywords_in n.words)) (few_named ns) h in
    ap (λ (o : Option Form). if same_words words n.words then Some n.form else o) (found_by_counts words ns p.1)
    ∙ ap (λ b. if b then Some n.form else find_by (keywords_in words) ns) (same_by_counts words n.words p.0)

-- the type that counts of keywords name is that of a list with these counts
pub named_by_words : (words : List TypeWord) (k : Keywords) → k ≡ keywords_in words → named_by k ≡ type_by_words words
named_by_words words k e = ap named_by e ∙ named_is_found (keywords_in words) ∙ sym (found_by_counts words (small_types ++ long_types) refl)
