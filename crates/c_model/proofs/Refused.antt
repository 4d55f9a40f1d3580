-- What isn't typed or isn't the same, by one thing that it lacks.
use Rattle.std.proofs.Common.{◌≡◌, ℕ, [], Option, arith, refl, sym, ap, subst, ⊎_elim, lit<, true≢false}
use Rattle.std.specs.Prelude.{codes}
use Rattle.cake_base.specs.declared.places.Place.{Place}
use Rattle.model_types.specs.declared.outcomes.Cause.{Cause}
use Rattle.model_runs.specs.Run.{Run, Ending, Returned, Leaves, Undefined}
use Rattle.model_runs.specs.SourceRun.{run23}
use Rattle.model_c89.specs.TargetRun.{run89}
use Rattle.model_core.specs.Core as unit
use Rattle.model_core.specs.TypedCore.{TypedCore}
use Rattle.c_model.specs.ExampleParts.{int_value}
use Rattle.c_model.specs.ExamplePlaces.{two_at_one_place, operation_at_lvalue, int_at, owner_there, sum_there}
use Rattle.c_model.specs.ExampleRealloc.{resizes, resizes_no_more}
use Rattle.c_model.specs.Translation.{Same, IsEntry, IsUndefined}

abbrev number_of : unit.Lvalue → ℕ
number_of (unit.Object id type mark) = id
number_of object = 0

differ : int_at ≡ owner_there → ⊥
differ e = let numbers : 11 ≡ 10 = ap number_of e in omega (arith, numbers)

pub two_lvalues_at_one_place : TypedCore two_at_one_place → ⊥
two_lvalues_at_one_place typed = differ (typed.places.lvalues int_at owner_there (0, lit< tt, refl) (1, lit< tt, refl) refl)

pub operation_where_lvalue_stands : TypedCore operation_at_lvalue → ⊥
operation_where_lvalue_stands typed = true≢false (sym (typed.places.operations sum_there int_at (0, lit< tt, refl) (1, lit< tt, refl) refl))

main_is_entry : IsEntry resizes (codes "main") []
main_is_entry = (_, record { function = _; named = refl; external = refl; body = tt; typed = refl }, (tt, tt))

abbrev IsLeaving : Ending → Type 0
IsLeaving Leaves = Unit {0}
IsLeaving ending = ⊥

returns_there : Leaves ≡ Returned (int_value 0) → ⊥
returns_there e = subst IsLeaving e tt

undefined_there : (cause : Cause) (place : Option Place) → Leaves ≡ Undefined cause place → ⊥
undefined_there cause place e = subst IsLeaving e tt

pub call_is_left_out : Same resizes resizes_no_more → ⊥
call_is_left_out same =
    ⊎_elim
    (λ (undefined : IsUndefined (run23 100 resizes (codes "main") [] [])). undefined_there undefined.0 undefined.1 undefined.2)
    (λ (is : run89 100 resizes_no_more (codes "main") [] [] ≡ run23 100 resizes (codes "main") [] []). returns_there (sym (ap (λ (r : Run). r.ending) is)))
    (same 100 (codes "main") [] [] main_is_entry)
