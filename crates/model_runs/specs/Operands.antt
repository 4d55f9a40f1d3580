-- What expressions of units and of texts alike do with the values of their operands (ISO/IEC 9899:2024,
-- 6.5.3.2, 6.5.4.2, 6.5.14, 6.5.15).
use Rattle.std.specs.Prelude.{ℤ, pos, ◌+ℤ◌, Bool, true, false, Option}
use Rattle.cake_base.specs.declared.places.Place.{Place}
use Rattle.model_types.specs.declared.operators.LogicOp.{LogicOp}
use Rattle.model_types.specs.declared.operators.LogicOp.TheVariants.{And, Or}
use Rattle.model_types.specs.declared.outcomes.Cause.TheVariants.{Null as NullCause, Kind}
use Rattle.model_runs.specs.Memory.{Block, Scalar, Number, Null, Address, Code, Value, Single}
use Rattle.model_runs.specs.Applied.{is_true, truth_value}
use Rattle.model_runs.specs.Run.{Act, ◌▷◌, just, ends, Undefined}

-- a byte of a block
pub record Location : Type 0 where
  pub block : Block
  pub offset : ℤ

-- the object at a pointer that isn't null
abbrev pub pointed_location : Option Place → Scalar → Act Location
pointed_location place Null = ends (Undefined NullCause place)
pointed_location place (Address block offset) = just (record { block = block; offset = offset })
pointed_location place (Number value) = ends (Undefined Kind place)
pointed_location place (Code function) = ends (Undefined Kind place)

-- a location that is so many bytes further on
abbrev pub moved_location : ℤ → Location → Location
moved_location bytes location = record location { offset = location.offset +ℤ bytes }

-- the value of an index, which is an integer
abbrev pub index_value : Scalar → ℤ
index_value (Number value) = value
index_value _ = pos 0

-- `&&` and `||`: the second operand is evaluated where the first doesn't decide
abbrev pub logical_value : LogicOp → Bool → Act Scalar → Act Scalar
logical_value And true second = second ▷ (λ b. just (truth_value (is_true b)))
logical_value And false second = just (truth_value false)
logical_value Or true second = just (truth_value true)
logical_value Or false second = second ▷ (λ b. just (truth_value (is_true b)))

-- the value of a scalar, without a step
abbrev pub just_scalar : Scalar → Act Value
just_scalar scalar = just (Single scalar)
