-- The characters of a text one by one.
use Rattle.std.proofs.Common.{◌≡◌, ℕ, zero, suc, ◌-◌, ◌<◌, ◌≤◌, List, [], ◌∷◌, ◌++◌, length, drop, Option, Some, None, Result, Ok, Err, refl, sym, ap, ◌∙◌, arith, append_assoc}
use Rattle.model_tokens.specs.declared.tokens.TokenRule.{TokenRule}
use Rattle.model_tokens.specs.declared.tokens.TokenRule.TheVariants.{NotOneCharacter, BadEscape}
use Rattle.model_tokens.specs.Characters.{characters, characters_from, character_value, character_length}
use Rattle.model_tokens.specs.CTokens.{all_bytes, before_bytes, one_character}

passed_over : (left : ℕ) (text : List ℕ) → characters_from left text ≡ characters (drop left text)
passed_over zero text = refl
passed_over (suc left) [] = refl
passed_over (suc left) (b ∷ text) = passed_over left text

after_first : (n b : ℕ) (text : List ℕ) → 1 ≤ n → drop (n - 1) text ≡ drop n (b ∷ text)
after_first zero b text h = absurd (omega arith)
after_first (suc n) b text h = let e : suc n - 1 ≡ n = omega arith in rw e refl

-- the first character and those that follow
pub first_of : (text : List ℕ) → 0 < length text → 1 ≤ character_length text → characters text ≡ character_value text ∷ characters (drop (character_length text) text)
first_of [] some h = absurd (omega arith)
first_of (b ∷ text) some h =
    ap (λ others. character_value (b ∷ text) ∷ others) (passed_over (character_length (b ∷ text) - 1) text ∙ ap characters (after_first (character_length (b ∷ text)) b text h))

-- bytes before others
abbrev pub before_all : List ℕ → Result (List ℕ) TokenRule → Result (List ℕ) TokenRule
before_all front (Ok others) = Ok (front ++ others)
before_all front (Err rule) = Err rule

before_twice : (front : List ℕ) (b : ℕ) (others : Result (List ℕ) TokenRule) → before_all front (before_bytes (Some b) others) ≡ before_all (front ++ b ∷ []) others
before_twice front b (Ok others) = ap Ok (sym (append_assoc front (b ∷ []) others))
before_twice front b (Err rule) = refl

pub string_on : (front longer rest next : List ℕ) (n b : ℕ) (due : Result (List ℕ) TokenRule) → 0 < length rest → n ≡ character_length rest → 1 ≤ n → Some b ≡ character_value rest →
    next ≡ drop n rest → longer ≡ front ++ b ∷ [] → before_all front (all_bytes (characters rest)) ≡ due → before_all longer (all_bytes (characters next)) ≡ due
string_on front longer rest next n b due some is_n moves is_b is_next is_longer same =
    let step : characters rest ≡ Some b ∷ characters next =
    first_of rest some (rw (← is_n) moves) ∙ ap (λ v. v ∷ characters (drop (character_length rest) rest)) (sym is_b) ∙ ap (λ k. Some b ∷ characters (drop k rest)) (sym is_n) ∙ ap (λ z. Some b ∷ characters z) (sym is_next) in
    ap (λ z. before_all z (all_bytes (characters next))) is_longer ∙ sym (before_twice front b (all_bytes (characters next))) ∙ ap (λ z. before_all front (all_bytes z)) (sym step) ∙ same

pub string_stops : (front rest : List ℕ) (due : Result (List ℕ) TokenRule) → 0 < length rest → 1 ≤ character_length rest → None ≡ character_value rest →
    before_all front (all_bytes (characters rest)) ≡ due → due ≡ Err BadEscape
string_stops front rest due some moves bad same =
    sym same ∙ ap (λ z. before_all front (all_bytes z)) (first_of rest some moves ∙ ap (λ v. v ∷ characters (drop (character_length rest) rest)) (sym bad))

drop_all : (n : ℕ) (text : List ℕ) → n ≡ length text → drop n text ≡ []
drop_all zero [] h = refl
drop_all zero (b ∷ text) h = absurd (omega arith)
drop_all (suc n) [] h = absurd (omega arith)
drop_all (suc n) (b ∷ text) h = drop_all n text (omega arith)

pub only_one : (text : List ℕ) (n : ℕ) → n ≡ character_length text → 1 ≤ n → n ≡ length text → one_character (characters text) ≡ one_character (character_value text ∷ [])
only_one text n is_n moves whole =
    ap one_character (first_of text (omega arith) (rw (← is_n) moves) ∙ ap (λ z. character_value text ∷ characters z) (ap (λ k. drop k text) (sym is_n) ∙ drop_all n text whole))

none_at_all : (text : List ℕ) → length text ≡ 0 → one_character (characters text) ≡ Err NotOneCharacter
none_at_all [] h = refl
none_at_all (b ∷ text) h = absurd (omega arith)

several : (first : Option ℕ) (rest : List (Option ℕ)) → 0 < length rest → one_character (first ∷ rest) ≡ Err NotOneCharacter
several first [] h = absurd (omega arith)
several None (second ∷ rest) h = refl
several (Some b) (second ∷ rest) h = refl

characters_left : (n : ℕ) (text : List ℕ) → n < length text → 0 < length (characters (drop n text))
characters_left zero [] h = absurd (omega arith)
characters_left zero (b ∷ text) h = omega arith
characters_left (suc n) [] h = absurd (omega arith)
characters_left (suc n) (b ∷ text) h = characters_left n text (omega arith)

pub more_than_one : (text : List ℕ) (n : ℕ) → n ≡ character_length text → 1 ≤ n → n < length text → one_character (characters text) ≡ Err NotOneCharacter
more_than_one text n is_n moves within =
    ap one_character (first_of text (omega arith) (rw (← is_n) moves)) ∙ several (character_value text) (characters (drop (character_length text) text)) (characters_left (character_length text) text (rw (← is_n) within))

pub no_character : (text : List ℕ) (n : ℕ) → n ≡ 0 → (0 < length text → 1 ≤ n) → one_character (characters text) ≡ Err NotOneCharacter
no_character [] n h moves = refl
no_character (b ∷ text) n h moves = absurd (let k : 1 ≤ n = moves (omega arith) in omega arith)

pub ruleset counts = (only_one, more_than_one, no_character)
