-- A spelling is looked for among the entries of its length alone.
use Rattle.std.proofs.Common.{◌≡◌, ℕ, ◌+◌, ◌<◌, ◌≤◌, Bool, true, false, ◌&&◌, ◌==◌, if◌then◌else◌, List, [], ◌∷◌, ◌++◌, length, map, Some, None, refl, sym, ap, ◌∙◌, arith, nat_le}
use Rattle.std.specs.Str.{bytes_eq}
use Rattle.std.proofs.lemmas.Bool.{leb-true}
use Rattle.model_types.specs.Vocabulary.{number_in, word_number, punctuator_number, grammar_words, left_out_words, punctuators}
use Rattle.c_tokens.specs.Numbered.{number_under}
use Rattle.c_tokens.specs.declared.words.TheConstants.{WORDS_OF_2, WORDS_OF_3, WORDS_OF_4, WORDS_OF_5, WORDS_OF_6, WORDS_OF_7, WORDS_OF_8, WORDS_OF_9, WORDS_OF_10, WORDS_OF_11, WORDS_OF_12, WORDS_OF_13, WORDS_OF_14, PUNCTUATORS_OF_1, PUNCTUATORS_OF_2, PUNCTUATORS_OF_3}
use Rattle.c_tokens.proofs.TableLaws.{other_length}

-- the entries of this length with their numbers
abbrev of_length : ℕ → ℕ → List (List ℕ) → List (List ℕ × ℕ)
of_length n next [] = []
of_length n next (entry ∷ table) = if length entry == n then (entry, next) ∷ of_length n (next + 1) table else of_length n (next + 1) table

split : (entry spelling : List ℕ) (next : ℕ) (table : List (List ℕ)) → number_in table (next + 1) spelling ≡ number_under (of_length (length spelling) (next + 1) table) spelling →
    (b : Bool) → (length entry == length spelling) ≡ b →
    (if bytes_eq entry spelling then Some next else number_in table (next + 1) spelling)
    ≡ number_under (if b then (entry, next) ∷ of_length (length spelling) (next + 1) table else of_length (length spelling) (next + 1) table) spelling
split entry spelling next table rest true e = ap (λ r. if bytes_eq entry spelling then Some next else r) rest
split entry spelling next table rest false e = ap (λ b. if b then Some next else number_in table (next + 1) spelling) (other_length entry spelling e) ∙ rest

in_length : (table : List (List ℕ)) (next : ℕ) (spelling : List ℕ) → number_in table next spelling ≡ number_under (of_length (length spelling) next table) spelling
in_length [] next spelling = refl
in_length (entry ∷ table) next spelling = split entry spelling next table (in_length table (next + 1) spelling) (length entry == length spelling) refl

-- every entry has a length from `low` to `high`
abbrev lengths_within : ℕ → ℕ → List (List ℕ) → Bool
lengths_within low high [] = true
lengths_within low high (entry ∷ table) = (nat_le low (length entry) && nat_le (length entry) high) && lengths_within low high table

within_parts : (p q r : Bool) → ((p && q) && r) ≡ true → (p ≡ true) × (q ≡ true) × (r ≡ true)
within_parts true true true e = (refl, refl, refl)
within_parts true true false e = absurd (let h : false ≡ true = e in cc)
within_parts true false r e = absurd (let h : false ≡ true = e in cc)
within_parts false q r e = absurd (let h : false ≡ true = e in cc)

passed : (entry : List ℕ) (rest : List (List ℕ × ℕ)) (n next : ℕ) → (length entry ≡ n → ⊥) → rest ≡ [] → (if length entry == n then (entry, next) ∷ rest else rest) ≡ []
passed entry rest n next other none = let e : (length entry == n) ≡ false = grind arith in rw e none

none_below : (low high : ℕ) (table : List (List ℕ)) (n next : ℕ) → lengths_within low high table ≡ true → n < low → of_length n next table ≡ []
none_below low high [] n next within below = refl
none_below low high (entry ∷ table) n next within below =
    let parts = within_parts (nat_le low (length entry)) (nat_le (length entry) high) (lengths_within low high table) within in
    let least : low ≤ length entry = leb-true low (length entry) parts.0 in
    passed entry (of_length n (next + 1) table) n next (λ same. omega arith) (none_below low high table n (next + 1) parts.2 below)

none_above : (low high : ℕ) (table : List (List ℕ)) (n next : ℕ) → lengths_within low high table ≡ true → high < n → of_length n next table ≡ []
none_above low high [] n next within above = refl
none_above low high (entry ∷ table) n next within above =
    let parts = within_parts (nat_le low (length entry)) (nat_le (length entry) high) (lengths_within low high table) within in
    let greatest : length entry ≤ high = leb-true (length entry) high parts.1 in
    passed entry (of_length n (next + 1) table) n next (λ same. omega arith) (none_above low high table n (next + 1) parts.2 above)

pub no_short_word : (spelling : List ℕ) → length spelling < 2 → word_number spelling ≡ None
unfolding word_number
no_short_word spelling h = in_length (grammar_words ++ left_out_words) 1 spelling ∙ ap (λ table. number_under table spelling) (none_below 2 14 (grammar_words ++ left_out_words) (length spelling) 1 refl h)

pub no_long_word : (spelling : List ℕ) → 14 < length spelling → word_number spelling ≡ None
unfolding word_number
no_long_word spelling h = in_length (grammar_words ++ left_out_words) 1 spelling ∙ ap (λ table. number_under table spelling) (none_above 2 14 (grammar_words ++ left_out_words) (length spelling) 1 refl h)

pub no_short_punctuator : (spelling : List ℕ) → length spelling < 1 → punctuator_number spelling ≡ None
unfolding punctuator_number
no_short_punctuator spelling h = in_length punctuators 1 spelling ∙ ap (λ table. number_under table spelling) (none_below 1 3 punctuators (length spelling) 1 refl h)

pub no_long_punctuator : (spelling : List ℕ) → 3 < length spelling → punctuator_number spelling ≡ None
unfolding punctuator_number
no_long_punctuator spelling h = in_length punctuators 1 spelling ∙ ap (λ table. number_under table spelling) (none_above 1 3 punctuators (length spelling) 1 refl h)

pub word_of_2 : (spelling : List ℕ) → length spelling ≡ 2 → number_under (map (λ e. (e.0.now, e.1)) WORDS_OF_2) spelling ≡ word_number spelling
unfolding word_number
word_of_2 spelling h = sym (in_length (grammar_words ++ left_out_words) 1 spelling ∙ ap (λ n. number_under (of_length n 1 (grammar_words ++ left_out_words)) spelling) h)

pub word_of_3 : (spelling : List ℕ) → length spelling ≡ 3 → number_under (map (λ e. (e.0.now, e.1)) WORDS_OF_3) spelling ≡ word_number spelling
unfolding word_number
word_of_3 spelling h = sym (in_length (grammar_words ++ left_out_words) 1 spelling ∙ ap (λ n. number_under (of_length n 1 (grammar_words ++ left_out_words)) spelling) h)

pub word_of_4 : (spelling : List ℕ) → length spelling ≡ 4 → number_under (map (λ e. (e.0.now, e.1)) WORDS_OF_4) spelling ≡ word_number spelling
unfolding word_number
word_of_4 spelling h = sym (in_length (grammar_words ++ left_out_words) 1 spelling ∙ ap (λ n. number_under (of_length n 1 (grammar_words ++ left_out_words)) spelling) h)

pub word_of_5 : (spelling : List ℕ) → length spelling ≡ 5 → number_under (map (λ e. (e.0.now, e.1)) WORDS_OF_5) spelling ≡ word_number spelling
unfolding word_number
word_of_5 spelling h = sym (in_length (grammar_words ++ left_out_words) 1 spelling ∙ ap (λ n. number_under (of_length n 1 (grammar_words ++ left_out_words)) spelling) h)

pub word_of_6 : (spelling : List ℕ) → length spelling ≡ 6 → number_under (map (λ e. (e.0.now, e.1)) WORDS_OF_6) spelling ≡ word_number spelling
unfolding word_number
word_of_6 spelling h = sym (in_length (grammar_words ++ left_out_words) 1 spelling ∙ ap (λ n. number_under (of_length n 1 (grammar_words ++ left_out_words)) spelling) h)

pub word_of_7 : (spelling : List ℕ) → length spelling ≡ 7 → number_under (map (λ e. (e.0.now, e.1)) WORDS_OF_7) spelling ≡ word_number spelling
unfolding word_number
word_of_7 spelling h = sym (in_length (grammar_words ++ left_out_words) 1 spelling ∙ ap (λ n. number_under (of_length n 1 (grammar_words ++ left_out_words)) spelling) h)

pub word_of_8 : (spelling : List ℕ) → length spelling ≡ 8 → number_under (map (λ e. (e.0.now, e.1)) WORDS_OF_8) spelling ≡ word_number spelling
unfolding word_number
word_of_8 spelling h = sym (in_length (grammar_words ++ left_out_words) 1 spelling ∙ ap (λ n. number_under (of_length n 1 (grammar_words ++ left_out_words)) spelling) h)

pub word_of_9 : (spelling : List ℕ) → length spelling ≡ 9 → number_under (map (λ e. (e.0.now, e.1)) WORDS_OF_9) spelling ≡ word_number spelling
unfolding word_number
word_of_9 spelling h = sym (in_length (grammar_words ++ left_out_words) 1 spelling ∙ ap (λ n. number_under (of_length n 1 (grammar_words ++ left_out_words)) spelling) h)

pub word_of_10 : (spelling : List ℕ) → length spelling ≡ 10 → number_under (map (λ e. (e.0.now, e.1)) WORDS_OF_10) spelling ≡ word_number spelling
unfolding word_number
word_of_10 spelling h = sym (in_length (grammar_words ++ left_out_words) 1 spelling ∙ ap (λ n. number_under (of_length n 1 (grammar_words ++ left_out_words)) spelling) h)

pub word_of_11 : (spelling : List ℕ) → length spelling ≡ 11 → number_under (map (λ e. (e.0.now, e.1)) WORDS_OF_11) spelling ≡ word_number spelling
unfolding word_number
word_of_11 spelling h = sym (in_length (grammar_words ++ left_out_words) 1 spelling ∙ ap (λ n. number_under (of_length n 1 (grammar_words ++ left_out_words)) spelling) h)

pub word_of_12 : (spelling : List ℕ) → length spelling ≡ 12 → number_under (map (λ e. (e.0.now, e.1)) WORDS_OF_12) spelling ≡ word_number spelling
unfolding word_number
word_of_12 spelling h = sym (in_length (grammar_words ++ left_out_words) 1 spelling ∙ ap (λ n. number_under (of_length n 1 (grammar_words ++ left_out_words)) spelling) h)

pub word_of_13 : (spelling : List ℕ) → length spelling ≡ 13 → number_under (map (λ e. (e.0.now, e.1)) WORDS_OF_13) spelling ≡ word_number spelling
unfolding word_number
word_of_13 spelling h = sym (in_length (grammar_words ++ left_out_words) 1 spelling ∙ ap (λ n. number_under (of_length n 1 (grammar_words ++ left_out_words)) spelling) h)

pub word_of_14 : (spelling : List ℕ) → length spelling ≡ 14 → number_under (map (λ e. (e.0.now, e.1)) WORDS_OF_14) spelling ≡ word_number spelling
unfolding word_number
word_of_14 spelling h = sym (in_length (grammar_words ++ left_out_words) 1 spelling ∙ ap (λ n. number_under (of_length n 1 (grammar_words ++ left_out_words)) spelling) h)

pub punctuator_of_1 : (spelling : List ℕ) → length spelling ≡ 1 → number_under (map (λ e. (e.0.now, e.1)) PUNCTUATORS_OF_1) spelling ≡ punctuator_number spelling
unfolding punctuator_number
punctuator_of_1 spelling h = sym (in_length punctuators 1 spelling ∙ ap (λ n. number_under (of_length n 1 punctuators) spelling) h)

pub punctuator_of_2 : (spelling : List ℕ) → length spelling ≡ 2 → number_under (map (λ e. (e.0.now, e.1)) PUNCTUATORS_OF_2) spelling ≡ punctuator_number spelling
unfolding punctuator_number
punctuator_of_2 spelling h = sym (in_length punctuators 1 spelling ∙ ap (λ n. number_under (of_length n 1 punctuators) spelling) h)

pub punctuator_of_3 : (spelling : List ℕ) → length spelling ≡ 3 → number_under (map (λ e. (e.0.now, e.1)) PUNCTUATORS_OF_3) spelling ≡ punctuator_number spelling
unfolding punctuator_number
punctuator_of_3 spelling h = sym (in_length punctuators 1 spelling ∙ ap (λ n. number_under (of_length n 1 punctuators) spelling) h)

pub ruleset words = (no_short_word, no_long_word, word_of_2, word_of_3, word_of_4, word_of_5, word_of_6, word_of_7, word_of_8, word_of_9, word_of_10, word_of_11, word_of_12, word_of_13, word_of_14)

pub ruleset punctuator_numbers = (no_short_punctuator, no_long_punctuator, punctuator_of_1, punctuator_of_2, punctuator_of_3)
