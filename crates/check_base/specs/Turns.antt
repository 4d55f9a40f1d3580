-- What code answers where a definition gives a part with the state behind it, and only the scopes are another's.
use Rattle.std.specs.Prelude.{◌≡◌, Result, Ok, Err}
use Rattle.model_scopes.specs.Scopes.{Scopes}
use Rattle.model_checking.specs.State.{State, Answer, gives, in_scopes}
use Rattle.check_base.specs.declared.errors.CheckError.{CheckError}
use Rattle.check_base.specs.Broken.{Broken}

-- in whatever state with the scopes of before, what is due is the part with the scopes of after, or the fault
abbrev pub Turns : {A : Type 0} → (due : State → Answer A) → (old : Scopes) → Result A CheckError → (new : Scopes) → Type 0
Turns due old (Ok x) new = (s : State) → due (in_scopes old s) ≡ gives x (in_scopes new s)
Turns due old (Err e) new = (s : State) → Broken e (due (in_scopes old s))
