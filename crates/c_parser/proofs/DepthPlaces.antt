-- A part too many is met at a token.
use Rattle.std.proofs.Common.{◌≡◌, ℕ, zero, suc, ◌+◌, ◌<◌, List, [], ◌∷◌, length, drop, slice_get, Option, Some, None, refl, ap, ◌∙◌, arith}
use Rattle.model_tokens.specs.declared.tokens.CTok.{CTok}
use Rattle.model_grammar.specs.declared.grammar.Terminal.{Terminal}
use Rattle.model_grammar.specs.TerminalsOf.{terminals_from, terminals_of}
use Rattle.grammar_laws.specs.UnitSyntax.{IsTooDeep}
use Rattle.grammar_laws.proofs.answers.AtLeastOneAnswer.{at_token}
use Rattle.cake_base.specs.declared.places.Place.{Place}
use Rattle.cake_base.specs.declared.rules.LimitHit.{LimitHit}
use Rattle.c_parser.specs.Answers.{place_of, IsDepthLimit}

drop_from : (all ts : List CTok) (rank n : ℕ) → slice_get ts n ≡ None → drop n (terminals_from all rank ts) ≡ []
drop_from all [] rank zero e = refl
drop_from all [] rank (suc n) e = refl
drop_from all (t ∷ ts) rank zero e = cc
drop_from all (t ∷ ts) rank (suc n) e = let q : slice_get ts n ≡ None = grind arith in drop_from all ts (rank + 1) n q

past_end : (n : ℕ) (ts : List Terminal) → n < length ts → drop n ts ≡ [] → ⊥
past_end n [] l e = omega (arith, l)
past_end zero (t ∷ ts) l e = cc
past_end (suc n) (t ∷ ts) l e = let m : n < length ts = omega (arith, l) in past_end n ts m e

pub is_token : (ts : List CTok) (n : ℕ) → IsTooDeep (terminals_of ts) n → slice_get ts n ≡ None → ⊥
is_token ts n h e = past_end n (terminals_of ts) (at_token (terminals_of ts) n h) (drop_from ts ts 0 n e)

pub limit : (ts : List CTok) (n : ℕ) (end place : Place) → IsTooDeep (terminals_of ts) n → place ≡ place_of (slice_get ts n) end → IsDepthLimit ts (record { place = place; limit = record { number = 6 } })
limit ts n end place h e = by (slice_get ts n) refl
  where
    by : (o : Option CTok) → slice_get ts n ≡ o → IsDepthLimit ts (record { place = place; limit = record { number = 6 } })
    by None q = absurd (is_token ts n h q)
    by (Some t) q = record { at = n; token = t; there = q; deep = h; named = ap (λ p. let z : LimitHit = record { place = p; limit = record { number = 6 } } in z) (e ∙ ap (λ o. place_of o end) q) }
