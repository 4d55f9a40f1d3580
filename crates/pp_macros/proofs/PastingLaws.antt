-- Pasting at the end of a list.
use Rattle.std.proofs.Common.{◌≡◌, ℕ, List, [], ◌∷◌, ◌++◌, Option, Some, None, refl, ap, sym, ◌∙◌, append_assoc, length, slice_get, Ok, cond, arith}
use Rattle.model_tokens.specs.PpTokens.{PpToken}
use Rattle.model_macros.specs.MacroArguments.{Painted, Run}
use Rattle.model_macros.specs.Pasting.{alone, pasted, pasted_runs, before, then_rest}
use Rattle.model_types.specs.Texts.{same_text}

abbrev pub all_before : Run → Option Run → Option Run
all_before xs None = None
all_before xs (Some ys) = Some (xs ++ ys)

before-all : (x : Painted) (xs : Run) (o : Option Run) → before x (all_before xs o) ≡ all_before (x ∷ xs) o
before-all x xs None = refl
before-all x xs (Some ys) = refl

all_before-nil : (o : Option Run) → o ≡ all_before [] o
all_before-nil None = refl
all_before-nil (Some ys) = refl

one_last : (p : Painted) (qs : Run) → pasted_runs (p ∷ []) qs ≡ all_before [] (pasted_runs (p ∷ []) qs)
one_last p qs = all_before-nil (pasted_runs (p ∷ []) qs)

-- only the last token is pasted
pub last_pasted : (xs : Run) (p : Painted) (qs : Run) → pasted_runs (xs ++ p ∷ []) qs ≡ all_before xs (pasted_runs (p ∷ []) qs)
last_pasted [] p qs = one_last p qs
last_pasted (x ∷ []) p qs = ap (before x) (one_last p qs) ∙ before-all x [] (pasted_runs (p ∷ []) qs)
last_pasted (x ∷ (y ∷ xs)) p qs = ap (before x) (last_pasted (y ∷ xs) p qs) ∙ before-all x (y ∷ xs) (pasted_runs (p ∷ []) qs)

-- ---- the only token of a list

pub alone-other : (text : List ℕ) (list : List PpToken) → (length list ≡ 1 → ⊥) → None ≡ alone text (Ok list)
alone-other text [] h = refl
alone-other text (t ∷ []) h = absurd (h refl)
alone-other text (t ∷ (u ∷ ts)) h = refl

pub alone-one : (text : List ℕ) (list : List PpToken) (t : PpToken) → length list ≡ 1 → Some t ≡ slice_get list 0 → alone text (Ok list) ≡ cond (same_text t.spelling text) (Some t.kind) None
alone-one text [] t h e = cc
alone-one text (u ∷ []) t h e = let q : u ≡ t = cc in ap (λ (z : PpToken). cond (same_text z.spelling text) (Some z.kind) None) q
alone-one text (u ∷ (v ∷ ts)) t h e = absurd (omega (arith, h))

-- the lists of a paste, put together
pub pasted_end : (left r right qs row row' : Run) (p q both : Painted) → left ≡ r ++ p ∷ [] → right ≡ q ∷ qs → Some both ≡ pasted p q → row ≡ r ++ both ∷ [] → row' ≡ row ++ qs → Some row' ≡ pasted_runs left right
pasted_end left r right qs row row' p q both is_left is_right made pushed all =
    ap (λ (z : Run). Some z) (all ∙ ap (λ (z : Run). z ++ qs) pushed ∙ append_assoc r (both ∷ []) qs)
    ∙ ap (λ o. all_before r (then_rest qs o)) made
    ∙ sym (last_pasted r p (q ∷ qs))
    ∙ ap (λ (z : Run). pasted_runs z (q ∷ qs)) (sym is_left) ∙ ap (pasted_runs left) (sym is_right)
