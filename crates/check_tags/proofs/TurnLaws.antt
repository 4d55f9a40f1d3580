-- What follows from what a part answers in whatever state.
use Rattle.std.proofs.Common.{◌≡◌, ◌∙◌, ap, sym, subst, Result, Ok, Err}
use Rattle.model_scopes.specs.Scopes.{Scopes}
use Rattle.model_checking.specs.State.{State, Answer, then_do, in_scopes}
use Rattle.check_base.specs.declared.errors.CheckError.{CheckError}
use Rattle.check_base.specs.declared.errors.CheckError.TheVariants as check_error
use Rattle.check_base.specs.Broken.{Broken}
use Rattle.check_base.specs.Answers.{Answers}
use Rattle.check_base.specs.Turns.{Turns}

pub broken_then : {A B : Type 0} (e : CheckError) (due : Answer A) (go : A → State → Answer B) → Broken e due → Broken e (then_do due go)
broken_then (check_error.Fault fault) due go h = ap (λ d. then_do d go) h
broken_then (check_error.Limit hit) due go h = h
broken_then (check_error.NotBuilt place) due go h = h
broken_then check_error.NoMemory due go h = h

-- the same where two parts are one
pub turns_same : {A : Type 0} (due other : State → Answer A) (old : Scopes) (r : Result A CheckError) (new : Scopes)
    → ((s : State) → due (in_scopes old s) ≡ other (in_scopes old s)) → Turns other old r new → Turns due old r new
turns_same due other old (Ok x) new same h = λ s. same s ∙ h s
turns_same due other old (Err e) new same h = λ s. subst (λ d. Broken e d) (sym (same s)) (h s)

-- a part that leaves the state alone
pub turns_still : {A : Type 0} (due : State → Answer A) (old : Scopes) (r : Result A CheckError) → ((s : State) → Answers r (due s) s) → Turns due old r old
turns_still due old (Ok x) h = λ s. h (in_scopes old s)
turns_still due old (Err e) h = λ s. h (in_scopes old s)
