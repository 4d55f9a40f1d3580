-- When an operand has a value that a core can hold.
use Rattle.std.specs.Prelude.{Bool, true}
use Rattle.model_core.specs.TypedParts.{is_storable}
use Rattle.model_core.specs.TypedExpr.{object_form}
use Rattle.check_base.specs.declared.meanings.OperandValue.{OperandValue}
use Rattle.check_base.specs.declared.meanings.OperandValue.TheVariants as value

-- an object can be loaded
abbrev pub has_value : OperandValue → Bool
has_value (value.Read e) = true
has_value (value.Unread object) = is_storable (object_form object)
