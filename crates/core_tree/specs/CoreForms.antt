-- The parts of a core that the forms of its nodes stand for.
use Rattle.model_core.specs.Core as m
use Rattle.core_tree.specs.CoreNodes.{Initial, initials}
use Rattle.core_tree.specs.declared.core_exprs.CoreAssignment.{CoreAssignment}
use Rattle.core_tree.specs.declared.core_exprs.CoreAssignment.TheVariants as a
use Rattle.core_tree.specs.declared.core_exprs.CoreExprForm.{CoreExprForm}
use Rattle.core_tree.specs.declared.core_exprs.CoreExprForm.TheVariants as e
use Rattle.core_tree.specs.declared.core_exprs.CoreLvalueForm.{CoreLvalueForm}
use Rattle.core_tree.specs.declared.core_exprs.CoreLvalueForm.TheVariants as l
use Rattle.core_tree.specs.declared.core_exprs.CoreInitialForm.{CoreInitialForm}

abbrev pub assignment_of : CoreAssignment → m.Assignment
assignment_of a.Plain = m.Plain
assignment_of (a.Compound op type) = m.Compound op type

-- the expression of a form
abbrev pub expr_of : CoreExprForm → m.Expr
expr_of (e.Constant value type mark) = m.Constant value type mark
expr_of (e.Load object mark) = m.Load object mark
expr_of (e.Address origin object mark) = m.Address origin object mark
expr_of (e.FunctionRef id type by_name mark) = m.FunctionRef id.0 type by_name mark
expr_of (e.Unary op operand mark) = m.Unary op operand mark
expr_of (e.Binary op left right mark) = m.Binary op left right mark
expr_of (e.Logic op left right mark) = m.Logic op left right mark
expr_of (e.Choice condition first second mark) = m.Choice condition first second mark
expr_of (e.Convert origin type operand mark) = m.Convert origin type operand mark
expr_of (e.Call function arguments mark) = m.Call function (m.exprs arguments) mark
expr_of (e.Assign assignment object value mark) = m.Assign (assignment_of assignment) object value mark
expr_of (e.Step op side type object mark) = m.Step op side type object mark
expr_of (e.MemberValue structure rank type name mark) = m.MemberValue structure rank type name mark
expr_of (e.Comma first second mark) = m.Comma first second mark

-- the lvalue of a form
abbrev pub lvalue_of : CoreLvalueForm → m.Lvalue
lvalue_of (l.Object id type mark) = m.Object id.0 type mark
lvalue_of (l.Deref pointer mark) = m.Deref pointer mark
lvalue_of (l.Index is_second first second mark) = m.Index is_second first second mark
lvalue_of (l.Field structure rank type name mark) = m.Field structure rank type name mark
lvalue_of (l.Arrow pointer rank type name mark) = m.Arrow pointer rank type name mark
lvalue_of (l.Literal origin id type values mark) = m.Literal origin id.0 type (initials values) mark

-- the initial value of its parts
abbrev pub initial_of : CoreInitialForm → Initial
initial_of i = record { path = i.path; offset = i.offset; type = i.ty; value = i.value }
