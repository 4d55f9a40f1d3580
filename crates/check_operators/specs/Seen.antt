-- What a value with its first token stands for.
use Rattle.model_checking.specs.Meanings.{Operand}
use Rattle.check_operators.specs.declared.values.Value.{Value}

abbrev pub seen : Value → Operand
seen v = record { value = v.value; first = v.first }
