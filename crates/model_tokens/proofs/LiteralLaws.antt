-- A literal ends at the first quote that no backslash stands before.
use Rattle.std.proofs.Common.{◌≡◌, ℕ, suc, Bool, true, false, ◌==◌, if◌then◌else◌, List, [], ◌∷◌, ◌++◌, length, take, drop, Option, Some, None, refl, sym, ap, ◌∙◌, subst, arith, eq-eqb}
use Rattle.std.proofs.lemmas.List.{take-append-drop, length-take-le}
use Rattle.model_tokens.specs.PpSteps.{closing, longer}
use Rattle.model_tokens.specs.Literals.{Ended, quote_itself, character, escaped, EndsLiteral}

one_longer : (found : Option ℕ) (n : ℕ) → longer found ≡ Some n → (m : ℕ) × (found ≡ Some m) × (n ≡ suc m)
one_longer None n e = absurd (let h : None ≡ Some n = e in cc)
one_longer (Some m) n e = (m, refl, let h : Some (suc m) ≡ Some n = e in cc)

no_length : (n : ℕ) → None ≡ Some n → ⊥
no_length n e = cc

equal_bytes : (b k : ℕ) → (b == k) ≡ true → b ≡ k
equal_bytes b k e = grind arith

-- behind a backslash one byte more is taken
record Escaped (quote : ℕ) (text : List ℕ) (n : ℕ) : Type 0 where
  byte : ℕ
  rest : List ℕ
  left : ℕ
  is : text ≡ byte ∷ rest
  in_line : (byte == 10) ≡ false
  length_is : n ≡ suc left
  ended : Ended quote (take left rest)

abbrev Plain : ℕ → List ℕ → Type 0
Plain quote text = (m : ℕ) → closing quote false text ≡ Some m → Ended quote (take m text)

abbrev Slashed : ℕ → List ℕ → Type 0
Slashed quote text = (m : ℕ) → closing quote true text ≡ Some m → Escaped quote text m

behind_slash : (quote b n : ℕ) (text : List ℕ) (line : Bool) → (b == 10) ≡ line → Plain quote text → (if line then None else longer (closing quote false text)) ≡ Some n → Escaped quote (b ∷ text) n
behind_slash quote b n text true is plain e = absurd (no_length n e)
behind_slash quote b n text false is plain e =
    let found = one_longer (closing quote false text) n e in
    record { byte = b; rest = text; left = found.0; is = refl; in_line = is; length_is = found.2; ended = plain found.0 found.1 }

at_byte : (quote b n : ℕ) (text : List ℕ) (line same slash : Bool) → (b == 10) ≡ line → (b == quote) ≡ same → (b == 92) ≡ slash → Plain quote text → Slashed quote text →
    (if line then None else (if same then Some 1 else longer (closing quote slash text))) ≡ Some n → Ended quote (take n (b ∷ text))
at_byte quote b n text true same slash l s k plain slashed e = absurd (no_length n e)
at_byte quote b n text false true slash l s k plain slashed e =
    let size : 1 ≡ n = (let h : Some 1 ≡ Some n = e in cc) in
    subst (λ j. Ended quote (take j (b ∷ text))) size (subst (λ c. Ended quote (c ∷ [])) (sym (equal_bytes b quote s)) quote_itself)
at_byte quote b n text false false false l s k plain slashed e =
    let found = one_longer (closing quote false text) n e in
    subst (λ j. Ended quote (take j (b ∷ text))) (sym found.2) (character b (take found.0 text) s k l (plain found.0 found.1))
at_byte quote b n text false false true l s k plain slashed e =
    let found = one_longer (closing quote true text) n e in
    let r = slashed found.0 found.1 in
    subst (λ j. Ended quote (take j (b ∷ text))) (sym (found.2 ∙ ap suc r.length_is))
    (subst (λ z. Ended quote (take (suc (suc r.left)) (b ∷ z))) (sym r.is)
    (subst (λ c. Ended quote (c ∷ r.byte ∷ take r.left r.rest)) (sym (equal_bytes b 92 k)) (escaped r.byte (take r.left r.rest) r.in_line r.ended)))

abbrev Both : ℕ → List ℕ → Type 0
Both quote text = Plain quote text × Slashed quote text

found : (quote : ℕ) (text : List ℕ) → Both quote text
found quote [] = (λ m e. absurd (no_length m e), λ m e. absurd (no_length m e))
found quote (b ∷ text) =
    let rest = found quote text in (
      λ m e. at_byte quote b m text (b == 10) (b == quote) (b == 92) refl refl refl rest.0 rest.1 e,
      λ m e. behind_slash quote b m text (b == 10) refl rest.0 e,
    )

ends : (quote : ℕ) (text more : List ℕ) → (quote == 10) ≡ false → (92 == quote) ≡ false → Ended quote text → closing quote false (text ++ more) ≡ Some (length text)
ends quote _ more line slash quote_itself = let same : (quote == quote) ≡ true = eq-eqb quote quote refl in rw (line, same) refl
ends quote _ more line slash (character b text other no_slash in_line ended) = rw (in_line, other, no_slash) (ap longer (ends quote text more line slash ended))
ends quote _ more line slash (escaped b text in_line ended) = rw (slash, in_line) (ap (λ k. longer (longer k)) (ends quote text more line slash ended))

pub ends_literal : (quote : ℕ) (text : List ℕ) (n : ℕ) → (quote == 10) ≡ false → (92 == quote) ≡ false → EndsLiteral quote text n
ends_literal quote text n line slash = record {
  found = λ e. (found quote text).0 n e;
  ends = λ within ended.
      ap (closing quote false) (sym (take-append-drop n text)) ∙ ends quote (take n text) (drop n text) line slash ended ∙ ap Some (length-take-le n text within);
}
