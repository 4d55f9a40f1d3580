-- What code answers for a part in a state that it leaves alone, where a definition gives the part with the state behind it.
use Rattle.std.specs.Prelude.{◌≡◌, Option, Some, None, Result, Ok, Err}
use Rattle.cake_base.specs.declared.rules.Fault.{Fault}
use Rattle.model_checking.specs.State.{State, Answer, gives}
use Rattle.check_base.specs.declared.errors.CheckError.{CheckError}
use Rattle.check_base.specs.declared.errors.CheckError.TheVariants as check_error
use Rattle.check_base.specs.Broken.{Broken, beside}

-- what is due is the part in this state, or the fault
abbrev pub Answers : {A : Type 0} → Result A CheckError → Answer A → State → Type 0
Answers (Ok x) due s = due ≡ gives x s
Answers (Err e) due s = Broken e due

-- what was made, beside a fault that is there whatever it is
abbrev pub made_beside : {A : Type 0} → Option Fault → Result A CheckError → Result A CheckError
made_beside None made = made
made_beside (Some fault) (Ok x) = Err (check_error.Fault fault)
made_beside (Some fault) (Err e) = Err (beside (Some fault) e)
