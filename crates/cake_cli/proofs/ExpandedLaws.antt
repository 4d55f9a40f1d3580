-- The text of tokens, one token further.
use Rattle.std.proofs.Common.{◌≡◌, ℕ, suc, ◌+◌, List, [], ◌∷◌, ◌++◌, length, drop, slice_get, Option, Some, None, refl, sym, ap, ◌∙◌, append_assoc, arith}
use Rattle.cake_base.specs.declared.places.Place.{Place}
use Rattle.model_tokens.specs.PpTokens.{PpToken}
use Rattle.cake_cli.specs.ExpandedText.{parting, behind_token}
use Rattle.cake_cli.specs.Behind.{token_behind, text_behind}
use Rattle.cake_cli.proofs.GetLaws.{drop_get}

text_step : (before : Option Place) (t : PpToken) (rest : List PpToken) → text_behind before (t ∷ rest) ≡ token_behind before t ++ text_behind (Some t.place) rest
text_step None t rest = refl
text_step (Some place) t rest = sym (append_assoc (parting place t.place) t.spelling (behind_token t.place rest))

pub one_token : (text text' all : List ℕ) (before : Option Place) (tokens : List PpToken) (at : ℕ) (t : PpToken) → slice_get tokens at ≡ Some t → text' ≡ text ++ token_behind before t → text ++ text_behind before (drop at tokens) ≡ all → text' ++ text_behind (Some t.place) (drop (at + 1) tokens) ≡ all
one_token text text' all before tokens at t is more h =
    ap (λ x. x ++ text_behind (Some t.place) (drop (at + 1) tokens)) more
    ∙ append_assoc text (token_behind before t) (text_behind (Some t.place) (drop (at + 1) tokens))
    ∙ ap (λ x. text ++ x) (sym (text_step before t (drop (at + 1) tokens)) ∙ ap (text_behind before) (sym (drop_get tokens at t is)))
    ∙ h

drop_all : {A : Type 0} (xs : List A) → drop (length xs) xs ≡ []
drop_all [] = refl
drop_all (x ∷ xs) = ap (λ n. drop n (x ∷ xs)) (one (length xs)) ∙ drop_all xs
  where
    one : (n : ℕ) → length (x ∷ xs) ≡ suc (length xs)
    one n = omega arith

pub whole_text : (text text' all : List ℕ) (before : Option Place) (tokens : List PpToken) → text' ≡ text ++ text_behind before [] → text ++ text_behind before (drop (length tokens) tokens) ≡ all → text' ≡ all
whole_text text text' all before tokens more h = more ∙ ap (λ ts. text ++ text_behind before ts) (sym (drop_all tokens)) ∙ h
