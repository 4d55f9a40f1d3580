-- The lines of conditionals (ISO/IEC 9899:2024, 6.10.2).
use Rattle.std.specs.Prelude.{ℕ, Bool, not, if◌then◌else◌, [], ◌∷◌, Result, Ok, Err}
use Rattle.model_preprocessing.specs.declared.directives.Group.{Group}
use Rattle.model_preprocessing.specs.declared.directives.Group.TheVariants.{Taken, Sought, Passed}
use Rattle.model_preprocessing.specs.declared.directives.Conditional.{Conditional}
use Rattle.model_macros.specs.Macros.{defines}
use Rattle.model_macros.specs.Expansion as expansion
use Rattle.model_conditions.specs.Conditions.{condition}
use Rattle.model_preprocessing.specs.Directives.{Part}
use Rattle.model_preprocessing.specs.Conditionals.{Conditionals, is_translated, opened, opened_in_skipped, next_group, passed, at_else}
use Rattle.model_preprocessing.specs.Processes.{Process, gives, and_then}
use Rattle.model_preprocessing.specs.Sources.{State, here, tokens_here, stops, faults}
use Rattle.model_preprocessing.specs.ControlLines.{stop_of, counted, with_name}

-- whether a condition holds, and the state after it
abbrev pub Test : Type 0
Test = State → Process (Bool × State)

abbrev pub decided : State → Result (Bool × ℕ) (expansion.Stop × ℕ) → Process (Bool × State)
decided s (Ok v) = gives (v.0, counted s v.1)
decided s (Err e) = stops (counted s e.1) (stop_of e.0)

abbrev pub expression_holds : Part → Test
expression_holds p s = decided s (condition s.table (here s p.at) (tokens_here s p.tokens) s.made)

abbrev pub name_is_defined : Part → Test
name_is_defined p s = with_name s (here s p.at) p.tokens (λ name. gives (defines name s.table.entries, s))

abbrev pub name_is_undefined : Part → Test
name_is_undefined p s = with_name s (here s p.at) p.tokens (λ name. gives (not (defines name s.table.entries), s))

-- the open conditionals and the state after a line
abbrev pub Lines : Type 0
Lines = Conditionals × State

-- `#if`, `#ifdef`, `#ifndef`
abbrev pub begins : Part → Test → Conditionals → State → Process Lines
begins p test opens s =
    if is_translated opens then and_then (test s) (λ v. gives (opened (here s p.at) v.0 opens, v.1))
    else gives (opened_in_skipped (here s p.at) opens, s)

-- a condition is looked at only where no group was taken
abbrev pub goes_on_in : Group → Test → Conditional → Conditionals → State → Process Lines
goes_on_in Taken test c opens s = gives (passed c ∷ opens, s)
goes_on_in Sought test c opens s = and_then (test s) (λ v. gives (next_group c v.0 ∷ opens, v.1))
goes_on_in Passed test c opens s = gives (passed c ∷ opens, s)

-- `#elif`, `#elifdef`, `#elifndef`
abbrev pub goes_on : Part → Test → Conditionals → State → Process Lines
goes_on p test [] s = faults s (here s p.at) 12
goes_on p test (c ∷ opens) s = if c.last then faults s (here s p.at) 12 else goes_on_in c.group test c opens s

abbrev pub else_line : Part → Conditionals → State → Process Lines
else_line p [] s = faults s (here s p.at) 12
else_line p (c ∷ opens) s = if c.last then faults s (here s p.at) 12 else gives (at_else c ∷ opens, s)

abbrev pub endif_line : Part → Conditionals → State → Process Lines
endif_line p [] s = faults s (here s p.at) 12
endif_line p (c ∷ opens) s = gives (opens, s)
