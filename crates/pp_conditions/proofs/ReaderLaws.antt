-- Reading a condition, token by token.
use Rattle.std.proofs.Common.{◌≡◌, ℕ, ◌≤◌, Bool, List, ◌∷◌, length, drop, Some, None, Err, refl, sym, ap, ◌∙◌}
use Rattle.std.proofs.lemmas.List.{drop_all}
use Rattle.model_conditions.specs.declared.conditions.ConditionRule.TheVariants.{Malformed}
use Rattle.model_conditions.specs.declared.conditions.ConditionToken.{ConditionToken}
use Rattle.model_conditions.specs.apparatus.ConditionReader.{read, read_from, next, ended}
use Rattle.model_conditions.specs.ConditionReading.{computed, concluded, Judged-read}
use Rattle.model_conditions.specs.Conditions.{judged, judged-only}
use Rattle.pp_conditions.specs.declared.reader.Reading.{Reading}
use Rattle.pp_conditions.specs.declared.errors.Refusal.{Refusal}
use Rattle.pp_conditions.specs.declared.errors.Refusal.TheVariants as refusal
use Rattle.pp_conditions.specs.Answers.{Gives}
use Rattle.pp_conditions.specs.Progress.{reading, Goes}
use Rattle.pp_conditions.specs.Shown.{all}

-- the judgement is what the reader that computes concludes
pub judged_is : (tokens : List ConditionToken) → judged tokens ≡ concluded (read computed tokens)
judged_is tokens = sym (judged-only tokens (concluded (read computed tokens)) (Judged-read tokens (read computed tokens) refl))

-- what is judged where the tokens end
pub ends_at : (r : Reading) (at : ℕ) (tokens : List ConditionToken) → read_from computed (Some (reading r)) (drop at tokens) ≡ read computed tokens →
    length tokens ≤ at → judged tokens ≡ concluded (ended computed (all r.frames) r.operand)
ends_at r at tokens inv h =
    judged_is tokens ∙ ap concluded (sym inv ∙ ap (read_from computed (Some (reading r))) (drop_all at tokens h))

-- what is judged where a token has no place
pub stops_at : (r : Reading) (at : ℕ) (tokens : List ConditionToken) (t : ConditionToken) → read_from computed (Some (reading r)) (drop at tokens) ≡ read computed tokens →
    (rest : List ConditionToken) → drop at tokens ≡ t ∷ rest → next computed r.operand (all r.frames) t ≡ None → judged tokens ≡ Err Malformed
stops_at r at tokens t inv rest d n =
    judged_is tokens ∙ ap concluded (sym inv ∙ ap (read_from computed (Some (reading r))) d ∙ ap (λ o. read_from computed o rest) n)

pub stop_gives : (r : Reading) (at : ℕ) (tokens : List ConditionToken) (t : ConditionToken) → read_from computed (Some (reading r)) (drop at tokens) ≡ read computed tokens →
    (rest : List ConditionToken) → drop at tokens ≡ t ∷ rest → (e : Refusal) → Goes (next computed r.operand (all r.frames) t) (Err e) → Gives {T = Bool} (Err e) (judged tokens)
stop_gives r at tokens t inv rest d (refusal.Broken rule) g = stops_at r at tokens t inv rest d g.0 ∙ ap Err (sym g.1)
stop_gives r at tokens t inv rest d refusal.NoMemory g = tt
