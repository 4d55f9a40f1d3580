-- Where the expressions of a unit stand, and where the test of a pointer fails.
use Rattle.std.specs.Prelude.{Option, Some, if◌then◌else◌}
use Rattle.cake_base.specs.declared.places.Place.{Place}
use Rattle.model_types.specs.declared.marks.Mark.{Mark}
use Rattle.model_types.specs.Types.{form_of_type}
use Rattle.model_core.specs.CoreTypes.{is_pointer}
use Rattle.model_core.specs.Core as unit

-- where an expression stands
abbrev pub expr_mark : unit.Expr → Mark
expr_mark (unit.Constant value type mark) = mark
expr_mark (unit.Load object mark) = mark
expr_mark (unit.Address origin object mark) = mark
expr_mark (unit.FunctionRef id type by_name mark) = mark
expr_mark (unit.Unary op operand mark) = mark
expr_mark (unit.Binary op left right mark) = mark
expr_mark (unit.Logic op left right mark) = mark
expr_mark (unit.Choice condition first second mark) = mark
expr_mark (unit.Convert origin type operand mark) = mark
expr_mark (unit.Call function arguments mark) = mark
expr_mark (unit.Assign assignment object value mark) = mark
expr_mark (unit.Step op side type object mark) = mark
expr_mark (unit.MemberValue structure rank type name mark) = mark
expr_mark (unit.Comma first second mark) = mark

abbrev pub lvalue_mark : unit.Lvalue → Mark
lvalue_mark (unit.Object id type mark) = mark
lvalue_mark (unit.Deref pointer mark) = mark
lvalue_mark (unit.Index is_second first second mark) = mark
lvalue_mark (unit.Field structure rank type name mark) = mark
lvalue_mark (unit.Arrow pointer rank type name mark) = mark
lvalue_mark (unit.Literal origin id type values mark) = mark

abbrev pub at_mark : Mark → Option Place
at_mark mark = Some mark.at

abbrev pub name_or : unit.Lvalue → Option Place → Option Place
name_or (unit.Object id type mark) place = at_mark mark
name_or _ place = place

-- where the test of a pointer fails: at the name of the object from which it is read, through pointer
-- casts; else at this place
abbrev pub tested_at : unit.Expr → Option Place → Option Place
tested_at (unit.Load object mark) place = name_or object place
tested_at (unit.Convert origin type operand mark) place = if is_pointer (form_of_type type) then tested_at operand place else place
tested_at _ place = place
