-- A step of a replacement, from one state to the next.
use Rattle.std.specs.Prelude.{◌≡◌, ℕ, ◌+◌, ◌<◌, length, Ok}
use Rattle.model_macros.specs.Macros.{Macros}
use Rattle.model_macros.specs.Expansion.{Answer}
use Rattle.pp_macros.specs.declared.expansion.State.{State}
use Rattle.pp_macros.specs.declared.expansion.Progress.{Progress}
use Rattle.pp_macros.specs.declared.expansion.Progress.TheVariants.{Done, More}
use Rattle.pp_macros.specs.Machine.{Gives, all_weight, remaining}

-- what the whole gives from a state
abbrev pub From : Macros → State → ℕ → Answer → Type 0
From table s made a = Gives table s.calls s.pending s.out made a

-- the work that is left in a state
abbrev pub work : State → ℕ → ℕ
work s made = remaining made (length s.pending + all_weight s.calls)

-- the whole is done, or goes on from a state with less work
abbrev pub Progresses : Macros → State → ℕ → Progress → ℕ → Type 0
Progresses table s made (Done out) more = (more ≡ made) × From table s made (Ok (out, made))
Progresses table s made (More t) more = ((a : Answer) → From table t more a → From table s made a) × (work t more < work s made)
