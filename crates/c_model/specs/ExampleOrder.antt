-- Cores whose lists stand in order, and some whose lists don't, each by one list.
use Rattle.std.specs.Prelude.{ℕ, List, [], codes, map}
use Rattle.model_core.specs.CoreTypes.{int_type}
use Rattle.model_core.specs.Core.{Core, no_stat}
use Rattle.c_model.specs.ExampleParts.{at_column, automatic, function, unit}
use Rattle.c_model.specs.ExampleList.{int_void}

-- a unit with objects, functions and types that are named, of these numbers and in this order
abbrev pub standing : (objects functions named : List ℕ) → Core
standing objects functions named = record (unit (map (λ id. automatic id int_type) objects) (map (λ id. function id (codes "f") int_void [] no_stat) functions)) {
  named_types = map (λ order. (at_column 1 order, int_type)) named;
}
