-- A block that a unit and its text change alike, and an object that a text begins otherwise.
use Rattle.std.proofs.Common.{◌≡◌, pos, Option, Some, None, refl, subst}
use Rattle.std.specs.Prelude.{codes}
use Rattle.model_types.specs.declared.numbers.Basic.TheVariants as basic
use Rattle.model_types.specs.Types.{Integer}
use Rattle.model_runs.specs.Memory.{Number}
use Rattle.model_core.specs.CoreTypes.{int_type}
use Rattle.c_model.specs.ExampleFaults.{array_of}
use Rattle.c_model.specs.Seen.{Seen, SeenAs}
use Rattle.c_model.specs.Translation.{Holds23, Exports}
use Rattle.c_model.specs.GivenBlocks.{SameStep}
use Rattle.c_model.specs.ExampleGiven.{bumped, bumped89, exports_array, array_written, only_zeros}

pub bumped_alike : SameStep (Integer basic.Int) bumped bumped89
bumped_alike = record {
  events = refl;
  moves = refl;
  end = (refl, λ number. record { stored = λ offset size. refl; zero = λ offset. refl });
}

abbrev array_is_held : Holds23 exports_array (codes "a") (array_of int_type 2)
array_is_held = record { object = _; named = refl; defined = tt; typed = refl }

abbrev IsStored : Option Seen → Type 0
IsStored None = ⊥
IsStored (Some seen) = Unit {0}

nothing_stored : Some (SeenAs (Number (pos 1))) ≡ None → ⊥
nothing_stored e = subst IsStored e tt

pub zeros_are_not_exported : Exports exports_array (array_written only_zeros) → ⊥
zeros_are_not_exported exports = nothing_stored ((exports.values (codes "a") (array_of int_type 2) array_is_held).stored 0 3)
