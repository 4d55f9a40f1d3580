-- Only the entries of a table that have the length of a spelling can be it.
use Rattle.std.proofs.Common.{◌≡◌, ℕ, Bool, true, false, ◌||◌, ◌==◌, if◌then◌else◌, List, [], ◌∷◌, length, map, refl, sym, ap, ◌∙◌, eq-eqb, ◌++◌}
use Rattle.std.specs.Str.{bytes_eq}
use Rattle.std.proofs.lemmas.Slice.Eq.{bytes_eq-Decides}
use Rattle.model_types.specs.Vocabulary.{stands_in, is_punctuator, preprocessing_punctuators, punctuators}
use Rattle.c_tokens.specs.declared.punctuators.TheConstants.{THREES, TWOS, ONES}

-- the entries of this length
abbrev of_length : ℕ → List (List ℕ) → List (List ℕ)
of_length n [] = []
of_length n (entry ∷ table) = if length entry == n then entry ∷ of_length n table else of_length n table

pub other_length : (entry spelling : List ℕ) → (length entry == length spelling) ≡ false → bytes_eq entry spelling ≡ false
other_length entry spelling differs = decided (bytes_eq entry spelling) refl
  where
    decided : (b : Bool) → bytes_eq entry spelling ≡ b → b ≡ false
    decided false e = refl
    decided true e = absurd (let same : entry ≡ spelling = (bytes_eq-Decides entry spelling).0 e in let h : true ≡ false = sym (eq-eqb (length entry) (length spelling) (ap length same)) ∙ differs in cc)

stands_in_length : (table : List (List ℕ)) (spelling : List ℕ) → stands_in table spelling ≡ stands_in (of_length (length spelling) table) spelling
stands_in_length [] spelling = refl
stands_in_length (entry ∷ table) spelling = split (stands_in_length table spelling) (length entry == length spelling) refl
  where
    split : stands_in table spelling ≡ stands_in (of_length (length spelling) table) spelling → (b : Bool) → (length entry == length spelling) ≡ b →
        (bytes_eq entry spelling || stands_in table spelling) ≡ stands_in (if b then entry ∷ of_length (length spelling) table else of_length (length spelling) table) spelling
    split rest true e = ap (λ r. bytes_eq entry spelling || r) rest
    split rest false e = ap (λ r. r || stands_in table spelling) (other_length entry spelling e) ∙ rest

pub three_bytes : (a b c : ℕ) → stands_in (map (λ p. p.0 ∷ p.1 ∷ p.2 ∷ []) THREES) (a ∷ b ∷ c ∷ []) ≡ is_punctuator (a ∷ b ∷ c ∷ [])
unfolding is_punctuator
three_bytes a b c = sym (stands_in_length (preprocessing_punctuators ++ punctuators) (a ∷ b ∷ c ∷ []))

pub two_bytes : (a b : ℕ) → stands_in (map (λ p. p.0 ∷ p.1 ∷ []) TWOS) (a ∷ b ∷ []) ≡ is_punctuator (a ∷ b ∷ [])
unfolding is_punctuator
two_bytes a b = sym (stands_in_length (preprocessing_punctuators ++ punctuators) (a ∷ b ∷ []))

pub one_byte : (a : ℕ) → stands_in (map (λ p. p ∷ []) ONES) (a ∷ []) ≡ is_punctuator (a ∷ [])
unfolding is_punctuator
one_byte a = sym (stands_in_length (preprocessing_punctuators ++ punctuators) (a ∷ []))
