-- A sum of constants does in its text what it does in its unit.
use Rattle.std.proofs.Common.{[], refl}
use Rattle.model_core.specs.Program89.{no_stats}
use Rattle.c_model.specs.Renamed.{provisional}
use Rattle.c_model.specs.Flattened.{Flattens}
use Rattle.c_model.specs.ExampleFlattened.{sum, sum89}

pub sum_flattens : Flattens provisional sum 0 [] no_stats sum89
sum_flattens = record {
  steps_flat = tt;
  value_flat = refl;
  typed = λ scope f g core lawful is_typed stands mirrors valued. refl;
  runs = λ scope f g bound s t core lawful is_typed stands mirrors agree ready. record { value = (tt, refl); states = agree; kept = λ number below. refl };
}
