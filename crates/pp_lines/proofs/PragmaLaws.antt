-- Two words after `cake diagnostic`.
use Rattle.std.proofs.Common.{◌≡◌, List, ◌∷◌, drop, slice_get, Some, None, ap, ◌∙◌}
use Rattle.model_tokens.specs.PpTokens.{PpToken}
use Rattle.model_preprocessing.specs.Pragmas.{diagnostic, assignment, severity_of, finding_number}
use Rattle.pp_lines.proofs.RankLaws.{at_rank, past_end}

pub diagnostic-two : (toks : List PpToken) (t u : PpToken) → slice_get toks 2 ≡ Some t → slice_get toks 3 ≡ Some u → slice_get toks 4 ≡ None →
    diagnostic (drop 2 toks) ≡ assignment (severity_of t.spelling) (finding_number u.spelling)
diagnostic-two toks t u first second none =
    ap diagnostic (at_rank toks 2 t first ∙ ap (λ z. t ∷ z) (at_rank toks 3 u second ∙ ap (λ z. u ∷ z) (past_end toks 4 none)))
