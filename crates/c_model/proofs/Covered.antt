-- One value covers an int, and not an array of two.
use Rattle.std.proofs.Common.{[], ◌∷◌, refl, sym, true≢false}
use Rattle.model_core.specs.CoreTypes.{int_type}
use Rattle.model_core.specs.CoveredObjects.{Covers}
use Rattle.c_model.specs.ExampleFaults.{array_of, one_value, first_of_two}

pub scalar_is_covered : Covers [] int_type one_value
scalar_is_covered path part there is = refl

pub second_has_no_value : Covers [] (array_of int_type 2) first_of_two → ⊥
second_has_no_value covers =
    true≢false (sym (covers (1 ∷ []) (record { offset = 4; type = int_type }) refl refl))
