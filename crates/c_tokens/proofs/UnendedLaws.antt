-- Where a quote isn't ended on its line, none of its kind further on is.
use Rattle.std.proofs.Common.{◌≡◌, ℕ, zero, suc, ◌+◌, ◌-◌, ◌<◌, Bool, true, false, not, ◌==◌, if◌then◌else◌, List, [], ◌∷◌, drop, slice_index, Option, Some, None, refl, sym, ap, ◌∙◌, subst, arith, eq-eqb}
use Rattle.std.specs.List.{prefix_len}
use Rattle.model_tokens.specs.declared.steps.Cell.{Cell}
use Rattle.model_tokens.specs.JoinedLines.{bytes}
use Rattle.model_tokens.specs.PpSteps.{closing, longer, is_in_line}
use Rattle.c_tokens.specs.Unended.{Barren, Knows}
use Rattle.c_tokens.specs.declared.unended.Unended.{Unended}
use Rattle.c_tokens.proofs.CellLaws.{bytes_drop, drop_further}

longer_none : (n : Option ℕ) → longer n ≡ None → n ≡ None
longer_none None e = refl
longer_none (Some n) e = absurd (let h : Some (suc n) ≡ None = e in cc)

behind_escaped : (quote b n : ℕ) (text : List ℕ) (line : Bool) (k : ℕ) → (closing quote false text ≡ None → Barren quote n text) →
    (if line then None else longer (closing quote false text)) ≡ None → k < (if not line then 1 + n else 0) → slice_index (b ∷ text) k ≡ quote →
    closing quote false (drop k text) ≡ None
behind_escaped quote b n text true k rest none below is = absurd (omega arith)
behind_escaped quote b n text false zero rest none below is = longer_none (closing quote false text) none
behind_escaped quote b n text false (suc k) rest none below is = rest (longer_none (closing quote false text) none) k (omega arith) is

behind_plain : (quote b n : ℕ) (text : List ℕ) (line same next : Bool) (k : ℕ) → (b == quote) ≡ same → (closing quote next text ≡ None → Barren quote n text) →
    (if line then None else (if same then Some 1 else longer (closing quote next text))) ≡ None → k < (if not line then 1 + n else 0) → slice_index (b ∷ text) k ≡ quote →
    closing quote false (drop k text) ≡ None
behind_plain quote b n text true same next k is_same rest none below is = absurd (omega arith)
behind_plain quote b n text false true next k is_same rest none below is = absurd (let h : Some 1 ≡ None = none in cc)
behind_plain quote b n text false false next zero is_same rest none below is = absurd (let h : true ≡ false = sym (eq-eqb b quote is) ∙ is_same in cc)
behind_plain quote b n text false false next (suc k) is_same rest none below is = rest (longer_none (closing quote next text) none) k (omega arith) is

-- no end on the line leaves none behind any quote of the line
no_end : (quote : ℕ) (escaped : Bool) (text : List ℕ) → closing quote escaped text ≡ None → Barren quote (prefix_len is_in_line text) text
no_end quote escaped [] none k below is = refl
no_end quote true (b ∷ text) none k below is = behind_escaped quote b (prefix_len is_in_line text) text (b == 10) k (no_end quote false text) none below is
no_end quote false (b ∷ text) none k below is = behind_plain quote b (prefix_len is_in_line text) text (b == 10) (b == quote) (b == 92) k refl (no_end quote (b == 92) text) none below is

index_further : (m k : ℕ) (text : List ℕ) → slice_index (drop m text) k ≡ slice_index text (m + k)
index_further zero k text = let e : 0 + k ≡ k = omega arith in rw e refl
index_further (suc m) k [] = refl
index_further (suc m) k (b ∷ text) = let e : suc m + k ≡ suc (m + k) = omega arith in rw e (index_further m k text)

pub barren_front : (quote n : ℕ) (text : List ℕ) → closing quote false (drop 1 text) ≡ None → n ≡ prefix_len is_in_line (drop 1 text) → Barren quote (n + 1) text
barren_front quote n text none is_line zero below is = none
barren_front quote n text none is_line (suc k) below is =
    let e : suc k ≡ 1 + k = omega arith in
    let e2 : suc (suc k) ≡ 1 + suc k = omega arith in
    let below' : k < prefix_len is_in_line (drop 1 text) = rw (← is_line) (omega arith) in
    let is' : slice_index (drop 1 text) k ≡ quote = index_further 1 k text ∙ ap (slice_index text) (sym e) ∙ is in
    ap (λ j. closing quote false (drop j text)) e2 ∙ ap (closing quote false) (sym (drop_further 1 (suc k) text)) ∙ no_end quote false (drop 1 text) none k below' is'

pub barren_further : (quote n m : ℕ) (text : List ℕ) → Barren quote n text → Barren quote (n - m) (drop m text)
barren_further quote n m text barren k below is =
    let e : m + suc k ≡ suc (m + k) = omega arith in
    ap (closing quote false) (drop_further m (suc k) text ∙ ap (λ j. drop j text) e) ∙ barren (m + k) (omega arith) (sym (index_further m k text) ∙ is)

-- the same over the cells that are left
pub knows_further : (known next : Unended) (n : ℕ) (cells rest : List Cell) → Knows known (bytes cells) → next ≡ record { texts = known.texts - n; characters = known.characters - n } →
    rest ≡ drop n cells → Knows next (bytes rest)
knows_further known next n cells rest knows is_next is_rest =
    subst (λ (u : Unended). Knows u (bytes rest)) (sym is_next)
    (subst (λ (text : List ℕ). Knows (record { texts = known.texts - n; characters = known.characters - n }) text) (sym (ap bytes is_rest ∙ bytes_drop n cells))
    (record { texts = barren_further 34 known.texts n (bytes cells) knows.texts; characters = barren_further 39 known.characters n (bytes cells) knows.characters }))

pub ruleset quotes = (barren_front, bytes_drop)
