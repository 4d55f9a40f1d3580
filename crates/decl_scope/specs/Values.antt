-- Values of declarations as contracts see them.
use Rattle.std.specs.Prelude.{Option, Some, None}
use Rattle.model_types.specs.declared.numbers.Const.{Const}
use Rattle.model_scopes.specs.Declarations.{Value}

abbrev pub value_of : Const → Value
value_of c = record { value = c.value; basic = c.basic }

abbrev pub value_if_any : Option Const → Option Value
value_if_any None = None
value_if_any (Some c) = Some (value_of c)
