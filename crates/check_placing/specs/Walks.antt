-- What a walk over initializers answers.
use Rattle.std.specs.Prelude.{◌≡◌, ◌++◌, List, Some, None, Result, Ok, Err}
use Rattle.model_checking.specs.Placing.{Placed, Placement}
use Rattle.check_base.specs.declared.errors.CheckError.{CheckError}
use Rattle.check_base.specs.Broken.{Due}
use Rattle.check_placing.specs.declared.placed.Placement as code

-- what was placed before, and then the rest
abbrev pub behind_all : List Placed → Placement → Placement
behind_all front due = record { placed = front ++ due.placed; fault = due.fault }

-- a fault ends what is due, behind all that was placed
abbrev pub Stopped : CheckError → (placed : List Placed) → (due : Placement) → Type 0
Stopped e placed due = Due e (λ fault. due ≡ record { placed = placed; fault = Some fault })

-- what is due was placed behind what stood there, all of it or up to a fault
abbrev pub Walks : {A : Type 0} → (old : List Placed) → (due : Placement) → Result A CheckError → (new : List Placed) → Type 0
Walks old due (Ok done) new = behind_all old due ≡ record { placed = new; fault = None }
Walks old due (Err e) new = Stopped e new (behind_all old due)

-- the placement that code made
abbrev pub placement_of : code.Placement → Placement
placement_of made = record { placed = made.placed; fault = made.fault }
