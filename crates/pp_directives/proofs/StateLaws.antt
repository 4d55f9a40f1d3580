-- Small laws of the parts of the state.
use Rattle.std.proofs.Common.{◌≡◌, ℕ, zero, suc, ◌+◌, ◌-◌, ◌≤◌, List, [], ◌∷◌, ◌++◌, length, drop, slice_get, Some, None, refl, ap, sym, ◌∙◌, arith, append_assoc}
use Rattle.std.proofs.lemmas.List.{length-append}
use Rattle.cake_base.specs.declared.rules.Act.{Act}
use Rattle.cake_base.specs.declared.rules.Act.TheVariants as act
use Rattle.cake_base.specs.declared.rules.LimitHit.{LimitHit}
use Rattle.cake_base.specs.declared.places.Place.{Place}
use Rattle.cake_base.specs.declared.rules.Mark.{Mark}
use Rattle.model_tokens.specs.PpTokens.{PpToken}
use Rattle.model_preprocessing.specs.Pragmas.{open_pushes, pushes_after}
use Rattle.model_preprocessing.specs.Sources.{standing, standing_token, standing_all, ranked_from}
use Rattle.model_preprocessing.specs.ControlLines.{MOST_TOKENS}
use Rattle.pp_directives.specs.Outputs.{HitsAt, too_many}
use Rattle.pp_lines.proofs.RankLaws.{at_rank, at_rank-plus, past_end}

-- ---- pushes

pub pushes-more : (n : ℕ) (ms : List Mark) (m : Mark) → open_pushes n (ms ++ m ∷ []) ≡ pushes_after (open_pushes n ms) m.act
pushes-more n [] m = refl
pushes-more n (x ∷ ms) m = pushes-more (pushes_after n x.act) ms m

one_more : (p : ℕ) (a : Act) → pushes_after p a ≤ p + 1
one_more p act.Push = omega arith
one_more p act.Pop = omega arith
one_more p (act.Assign s r) = omega arith

pub marks-kept : (ms all : List Mark) (m : Mark) (p q : ℕ) → all ≡ ms ++ m ∷ [] → p ≡ open_pushes 0 ms → p ≤ length ms → q ≡ pushes_after p m.act →
    (q ≡ open_pushes 0 all) × (q ≤ length all)
marks-kept ms all m p q e so_far within is =
    let more = one_more p m.act in
    let size : length all ≡ length ms + 1 = ap length e ∙ length-append ms (m ∷ []) in (
      is ∙ ap (λ (n : ℕ). pushes_after n m.act) so_far ∙ sym (pushes-more 0 ms m) ∙ ap (open_pushes 0) (sym e),
      omega (arith, more, size),
    )

-- ---- tokens by their ranks

pub ranked-drop : (k n : ℕ) (ts : List PpToken) → drop n (ranked_from k ts) ≡ ranked_from (k + n) (drop n ts)
ranked-drop k zero ts = let e : k ≡ k + 0 = omega arith in ap (λ (z : ℕ). ranked_from z ts) e
ranked-drop k (suc n) [] = refl
ranked-drop k (suc n) (t ∷ ts) = let e : suc k + n ≡ k + suc n = omega arith in ranked-drop (suc k) n ts ∙ ap (λ (z : ℕ). ranked_from z (drop n ts)) e

-- a token that is moved to another place
pub moved : (n : ℕ) (t v : PpToken) (p : Place) → v ≡ t → p ≡ standing n v.place → record v { place = p } ≡ standing_token n t
moved n t v p e h = ap (λ (z : Place). let r : PpToken = record v { place = z } in r) h ∙ ap (standing_token n) e

onto : {A : Type 0} (front more rest : List A) (x : A) → more ≡ front ++ x ∷ [] → more ++ rest ≡ front ++ x ∷ rest
onto front more rest x e = ap (λ z. z ++ rest) e ∙ append_assoc front (x ∷ []) rest

pub ranked-step : (rank at : ℕ) (new : List PpToken) (t u : PpToken) (tokens more whole : List PpToken) → slice_get new at ≡ Some t → u ≡ standing_token (rank + at) t →
    more ≡ tokens ++ u ∷ [] → tokens ++ ranked_from (rank + at) (drop at new) ≡ whole → more ++ ranked_from (rank + (at + 1)) (drop (at + 1) new) ≡ whole
ranked-step rank at new t u tokens more whole here is added so_far =
    let next : suc (rank + at) ≡ rank + (at + 1) = omega arith in
    onto tokens more (ranked_from (rank + (at + 1)) (drop (at + 1) new)) u added
    ∙ ap (λ z. tokens ++ z ∷ ranked_from (rank + (at + 1)) (drop (at + 1) new)) is
    ∙ ap (λ (m : ℕ). tokens ++ standing_token (rank + at) t ∷ ranked_from m (drop (at + 1) new)) (sym next)
    ∙ ap (λ z. tokens ++ ranked_from (rank + at) z) (sym (at_rank-plus new at t here))
    ∙ so_far

pub standing-step : (n at : ℕ) (new : List PpToken) (t u : PpToken) (tokens more whole : List PpToken) → slice_get new at ≡ Some t → u ≡ standing_token n t →
    more ≡ tokens ++ u ∷ [] → tokens ++ standing_all n (drop at new) ≡ whole → more ++ standing_all n (drop (at + 1) new) ≡ whole
standing-step n at new t u tokens more whole here is added so_far =
    onto tokens more (standing_all n (drop (at + 1) new)) u added
    ∙ ap (λ z. tokens ++ z ∷ standing_all n (drop (at + 1) new)) is
    ∙ ap (λ z. tokens ++ standing_all n z) (sym (at_rank-plus new at t here))
    ∙ so_far

pub fits-all : (old new : List PpToken) (room : ℕ) → slice_get new room ≡ None → room ≡ MOST_TOKENS - length old → too_many old new ≡ []
fits-all old new room none is =
    ap (λ (z : ℕ). drop z (ranked_from (length old) new)) (sym is) ∙ ranked-drop (length old) room new ∙ ap (ranked_from (length old + room)) (past_end new room none)

pub hits-limit : (old new : List PpToken) (room : ℕ) (t : PpToken) (p : Place) → slice_get new room ≡ Some t → room ≡ MOST_TOKENS - length old → length old ≤ MOST_TOKENS →
    p ≡ standing MOST_TOKENS t.place → HitsAt (too_many old new) (record { place = p; limit = record { number = 5 } })
hits-limit old new room t p here is fits at =
    let sum : MOST_TOKENS ≡ length old + room = omega arith in (
      standing_token (length old + room) t,
      ranked_from (suc (length old + room)) (drop (suc room) new),
      ap (λ (z : ℕ). drop z (ranked_from (length old) new)) (sym is) ∙ ranked-drop (length old) room new ∙ ap (ranked_from (length old + room)) (at_rank new room t here),
      ap (λ (z : Place). let r : LimitHit = record { place = z; limit = record { number = 5 } } in r) (at ∙ ap (λ (z : ℕ). standing z t.place) sum),
    )
