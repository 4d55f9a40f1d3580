-- Each node in a form has fewer nodes than what the form stands for.
use Rattle.std.specs.Prelude.{◌+◌, ◌≤◌, max, List, [], ◌∷◌}
use Rattle.std.proofs.Common.{arith}
use denote.Param.Weighed.{most}
use Rattle.model_core.specs.Core as m
use Rattle.core_tree.specs.CoreNodes.{Initial, initials}
use Rattle.core_tree.specs.declared.core_exprs.CoreExprForm.{CoreExprForm}
use Rattle.core_tree.specs.declared.core_exprs.CoreExprForm.TheVariants as e
use Rattle.core_tree.specs.declared.core_exprs.CoreLvalueForm.{CoreLvalueForm}
use Rattle.core_tree.specs.declared.core_exprs.CoreLvalueForm.TheVariants as l
use Rattle.core_tree.specs.declared.core_exprs.CoreInitialForm.{CoreInitialForm}
use Rattle.core_tree.specs.declared.core_exprs.CoreExpr.TheDeep.{deep-CoreExprForm, deep-CoreLvalueForm, deep-CoreInitialForm}
use Rattle.core_tree.specs.CoreForms.{expr_of, lvalue_of, initial_of}
use Rattle.core_tree.specs.apparatus.CoreSizes.{expr_nodes, lvalue_nodes, exprs_nodes, initials_nodes, initial_nodes}

most_exprs : (es : List m.Expr) → most (λ e. expr_nodes e + 1) es ≤ exprs_nodes (m.exprs es)
most_exprs [] = omega arith
most_exprs (e ∷ es) = omega (arith, most_exprs es)

most_initials : (is : List Initial) → most (λ i. initial_nodes i + 1) is ≤ initials_nodes (initials is)
most_initials [] = omega arith
most_initials (i ∷ is) = omega (arith, most_initials is)

pub expr_falls : (f : CoreExprForm) → max (deep-CoreExprForm f) 0 ≤ expr_nodes (expr_of f)
expr_falls (e.Constant value type mark) = omega arith
expr_falls (e.Load object mark) = omega arith
expr_falls (e.Address origin object mark) = omega arith
expr_falls (e.FunctionRef id type by_name mark) = omega arith
expr_falls (e.Unary op operand mark) = omega arith
expr_falls (e.Binary op left right mark) = omega arith
expr_falls (e.Logic op left right mark) = omega arith
expr_falls (e.Choice condition first second mark) = omega arith
expr_falls (e.Convert origin type operand mark) = omega arith
expr_falls (e.Call function arguments mark) = omega (arith, most_exprs arguments)
expr_falls (e.Assign assignment object value mark) = omega arith
expr_falls (e.Step op side type object mark) = omega arith
expr_falls (e.MemberValue structure rank type name mark) = omega arith
expr_falls (e.Comma first second mark) = omega arith

pub lvalue_falls : (f : CoreLvalueForm) → max (deep-CoreLvalueForm f) 0 ≤ lvalue_nodes (lvalue_of f)
lvalue_falls (l.Object id type mark) = omega arith
lvalue_falls (l.Deref pointer mark) = omega arith
lvalue_falls (l.Index is_second first second mark) = omega arith
lvalue_falls (l.Field structure rank type name mark) = omega arith
lvalue_falls (l.Arrow pointer rank type name mark) = omega arith
lvalue_falls (l.Literal origin id type values mark) = omega (arith, most_initials values)

pub initial_falls : (f : CoreInitialForm) → max (deep-CoreInitialForm f) 0 ≤ initial_nodes (initial_of f)
initial_falls f = omega arith
