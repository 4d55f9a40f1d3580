-- What code answers beside a fault is what a definition gives beside it.
use Rattle.std.proofs.Common.{ap, Option, Some, None, Result, Ok, Err}
use Rattle.cake_base.specs.declared.rules.Fault.{Fault}
use Rattle.model_checking.specs.State.{State, Answer}
use Rattle.model_checking.specs.FaultsBeside.{with_fault}
use Rattle.check_base.specs.declared.errors.CheckError.{CheckError}
use Rattle.check_base.specs.declared.errors.CheckError.TheVariants as check_error
use Rattle.check_base.specs.Broken.{Broken, beside}
use Rattle.check_base.specs.Answers.{Answers, made_beside}

pub broken_beside : {A : Type 0} (fault : Fault) (e : CheckError) (due : Result A Fault) → Broken e due → Broken (beside (Some fault) e) (with_fault (Some fault) due)
broken_beside fault (check_error.Fault other) due h = ap (with_fault (Some fault)) h
broken_beside fault (check_error.Limit hit) due h = h
broken_beside fault (check_error.NotBuilt place) due h = h
broken_beside fault check_error.NoMemory due h = h

pub answers_beside : {A : Type 0} (fault : Option Fault) (made : Result A CheckError) (due : Answer A) (s : State) → Answers made due s
    → Answers (made_beside fault made) (with_fault fault due) s
answers_beside None made due s h = h
answers_beside (Some fault) (Ok x) due s h = ap (with_fault (Some fault)) h
answers_beside (Some fault) (Err e) due s h = broken_beside fault e due h
