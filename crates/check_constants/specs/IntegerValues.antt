-- Values of integer types, and constants as contracts see them.
use Rattle.std.specs.Prelude.{ℤ, Bool, ◌&&◌}
use Rattle.model_types.specs.declared.numbers.Const.{Const}
use Rattle.model_types.specs.Types.{Form}
use Rattle.model_types.specs.Operations.{fits}
use Rattle.model_core.specs.CoreTypes.{basic_of}
use Rattle.model_core.specs.SameTypes.{is_integer}
use Rattle.model_scopes.specs.Declarations.{Value}

-- a value of the integer type of this form
abbrev pub is_value_in : Form → ℤ → Bool
is_value_in form value = is_integer form && fits (basic_of form) value

abbrev pub value_of : Const → Value
value_of c = record { value = c.value; basic = c.basic }
