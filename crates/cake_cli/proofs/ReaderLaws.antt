-- Reading, one token further.
use Rattle.std.proofs.Common.{◌≡◌, ℕ, ◌+◌, List, Option, Some, None, sym, ap, ◌∙◌, drop, slice_get}
use Rattle.cake_base.specs.declared.places.Place.{Place}
use Rattle.model_tokens.specs.declared.tokens.CTok.{CTok}
use Rattle.cake_cli.specs.Reader.{Stage, Reading, Stops, read_token, on_stage, read_from}
use Rattle.cake_cli.proofs.GetLaws.{drop_get}

from_token : (stage : Stage) (at : ℕ) (ts : List CTok) (end : Place) (t : CTok) → slice_get ts at ≡ Some t → read_from stage (drop at ts) end ≡ on_stage (read_token stage t) t.place (λ next. read_from next (drop (at + 1) ts) end)
from_token stage at ts end t is = ap (λ x. read_from stage x end) (drop_get ts at t is)

pub no_stage_stops : (stage : Stage) (at : ℕ) (ts : List CTok) (end : Place) (t : CTok) (all : Reading) → slice_get ts at ≡ Some t → read_token stage t ≡ None → read_from stage (drop at ts) end ≡ all → Stops t.place ≡ all
no_stage_stops stage at ts end t all is none h =
    sym (from_token stage at ts end t is ∙ ap (λ o. on_stage o t.place (λ next. read_from next (drop (at + 1) ts) end)) none) ∙ h

pub stage_goes_on : (stage next : Stage) (at : ℕ) (ts : List CTok) (end : Place) (t : CTok) (all : Reading) → slice_get ts at ≡ Some t → read_token stage t ≡ Some next → read_from stage (drop at ts) end ≡ all → read_from next (drop (at + 1) ts) end ≡ all
stage_goes_on stage next at ts end t all is some h =
    sym (from_token stage at ts end t is ∙ ap (λ o. on_stage o t.place (λ next. read_from next (drop (at + 1) ts) end)) some) ∙ h
