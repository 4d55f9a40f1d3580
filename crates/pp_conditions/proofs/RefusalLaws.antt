-- Refusals on the way along a line.
use Rattle.std.proofs.Common.{◌≡◌, ℕ, List, drop, slice_get, Some, Err, sym, ap, ◌∙◌}
use Rattle.model_conditions.specs.declared.conditions.ConditionToken.{ConditionToken}
use Rattle.model_tokens.specs.PpTokens.{PpToken}
use Rattle.model_macros.specs.Macros.{Macro}
use Rattle.model_conditions.specs.Defined.{answered_from}
use Rattle.model_conditions.specs.ConditionTokens.{of_part, condition_tokens}
use Rattle.pp_conditions.specs.declared.errors.Refusal.{Refusal}
use Rattle.pp_conditions.specs.declared.errors.Refusal.TheVariants as refusal
use Rattle.pp_conditions.specs.Answers.{Gives, Refuses}
use Rattle.pp_conditions.specs.Lines.{answered_at, with_front}
use Rattle.pp_conditions.proofs.LineLaws.{no_part}

-- where the line from a rank on is refused, the line is
pub line_refused : (macros : List (List ℕ × Macro)) (line out : List PpToken) (at : ℕ) → with_front out (answered_at macros line at) ≡ answered_from macros 0 line →
    (e : Refusal) → Refuses e (answered_at macros line at) → Gives {T = List PpToken} (Err e) (answered_from macros 0 line)
line_refused macros line out at inv (refusal.Broken rule) h = sym inv ∙ ap (with_front out) h
line_refused macros line out at inv refusal.NoMemory h = tt

pub part_refused : (line : List PpToken) (at : ℕ) (t : PpToken) → slice_get line at ≡ Some t → (e : Refusal) → Gives {T = ConditionToken} (Err e) (of_part t.kind t) →
    Refuses e (condition_tokens (drop at line))
part_refused line at t h (refusal.Broken rule) g = no_part line at t rule h g
part_refused line at t h refusal.NoMemory g = tt
