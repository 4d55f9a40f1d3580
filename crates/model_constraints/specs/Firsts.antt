-- The first broken constraint where parts come one behind another, each checked as a whole before the next.
use Rattle.std.specs.Prelude.{◌⊎◌, Bool, true, false, Option, Some, None, Ok, Err}
use Rattle.cake_base.specs.declared.rules.Fault.{Fault}
use Rattle.model_checking.specs.State.{State, Both, Answer, Reached}
use Rattle.model_constraints.specs.Pairs.{Pairs, First, IsUnbroken}

-- which fault comes first
abbrev pub Firsts : Type 1
Firsts = Fault → Type 0

abbrev pub NoFault : Firsts
NoFault fault = ⊥

-- what comes behind a part, where that has an answer
abbrev pub After : {A : Type 0} → Answer A → (A → State → Firsts) → Firsts
After (Ok x) Q fault = Q x.made x.state fault
After (Err broken) Q fault = ⊥

abbrev pub Afterwards : Reached → (State → Firsts) → Firsts
Afterwards (Ok s) Q fault = Q s fault
Afterwards (Err broken) Q fault = ⊥

-- of what is known, whatever its faults are
abbrev pub OfBoth : {A : Type 0} → Both A → (A → State → Firsts) → Firsts
OfBoth x Q = Q x.made x.state

abbrev pub Where : Bool → Firsts → Firsts
Where true F fault = F fault
Where false F fault = ⊥

abbrev pub WithoutFault : Option Fault → Firsts → Firsts
WithoutFault None F fault = F fault
WithoutFault (Some broken) F fault = ⊥

-- a part, or what comes behind it
abbrev pub Then : {A : Type 0} → Firsts → Answer A → (A → State → Firsts) → Firsts
Then F part Q fault = F fault ⊎ After part Q fault

abbrev pub Either : Firsts → Firsts → Firsts
Either F G fault = F fault ⊎ G fault

-- what is gathered together, ordered by its places; and where nothing in it is broken, what waits for its end
abbrev pub Whole : Pairs → (waiting : Firsts) → Firsts
Whole P waiting fault = First P fault ⊎ (IsUnbroken P × waiting fault)
