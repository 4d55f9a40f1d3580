-- What the twins of meanings and operands stand for.
use Rattle.model_core.specs.Core as unit
use Rattle.model_core.specs.SourceMarks.{lvalue_mark}
use Rattle.model_checking.specs.Meanings as m
use Rattle.check_base.specs.declared.meanings.Meaning.{Meaning}
use Rattle.check_base.specs.declared.meanings.Meaning.TheVariants as meaning
use Rattle.check_base.specs.declared.meanings.OperandValue.{OperandValue}
use Rattle.check_base.specs.declared.meanings.OperandValue.TheVariants as value
use Rattle.check_base.specs.declared.meanings.Operand.{Operand}

abbrev pub meaning_of : Meaning → m.Meaning
meaning_of (meaning.Place object known) = m.a_place object known
meaning_of (meaning.Value value) = m.a_value value
meaning_of (meaning.Function id type by_name mark) = m.a_function id.0 type by_name mark
meaning_of (meaning.Target pointer) = m.a_target pointer

abbrev pub value_in : OperandValue → unit.Expr
value_in (value.Read e) = e
value_in (value.Unread object) = unit.Load object (lvalue_mark object)

abbrev pub operand_of : Operand → m.Operand
operand_of o = record { value = value_in o.value; first = o.first }
