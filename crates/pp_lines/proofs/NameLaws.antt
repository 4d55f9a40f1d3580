-- Spellings up to the closing bracket.
use Rattle.std.proofs.Common.{◌≡◌, ℕ, ◌+◌, true, false, List, ◌++◌, drop, slice_get, Option, Some, None, refl, ap, sym, ◌∙◌, cond, codes, append_assoc, append-nil, []}
use Rattle.model_tokens.specs.PpTokens.{PpToken}
use Rattle.model_macros.specs.Macros.{spells}
use Rattle.model_preprocessing.specs.Includes.{with_spelling, up_to_close}
use Rattle.pp_lines.proofs.RankLaws.{at_rank-plus}

more_spelling : (text s : List ℕ) (o : Option (List ℕ)) → with_spelling text (with_spelling s o) ≡ with_spelling (text ++ s) o
more_spelling text s None = refl
more_spelling text s (Some rest) = ap Some (sym (append_assoc text s rest))

pub close-here : (toks : List PpToken) (at : ℕ) (t : PpToken) (text : List ℕ) (whole : Option (List ℕ)) → slice_get toks at ≡ Some t → spells (codes ">") t ≡ true →
    with_spelling text (up_to_close (drop at toks)) ≡ whole → Some text ≡ whole
close-here toks at t text whole here close so_far =
    sym (ap Some (append-nil text))
    ∙ sym (ap (λ b. with_spelling text (cond b (Some []) (with_spelling t.spelling (up_to_close (drop (at + 1) toks))))) close)
    ∙ sym (ap (λ z. with_spelling text (up_to_close z)) (at_rank-plus toks at t here)) ∙ so_far

pub close-later : (toks : List PpToken) (at : ℕ) (t : PpToken) (text more : List ℕ) (whole : Option (List ℕ)) → slice_get toks at ≡ Some t → spells (codes ">") t ≡ false → more ≡ text ++ t.spelling →
    with_spelling text (up_to_close (drop at toks)) ≡ whole → with_spelling more (up_to_close (drop (at + 1) toks)) ≡ whole
close-later toks at t text more whole here close new so_far =
    ap (λ z. with_spelling z (up_to_close (drop (at + 1) toks))) new
    ∙ sym (more_spelling text t.spelling (up_to_close (drop (at + 1) toks)))
    ∙ sym (ap (λ b. with_spelling text (cond b (Some []) (with_spelling t.spelling (up_to_close (drop (at + 1) toks))))) close)
    ∙ sym (ap (λ z. with_spelling text (up_to_close z)) (at_rank-plus toks at t here)) ∙ so_far
