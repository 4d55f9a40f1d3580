-- Each expression or initial value in a form has fewer nodes than what the form stands for.
use Rattle.std.specs.Prelude.{◌+◌, ◌≤◌, max, List, [], ◌∷◌}
use Rattle.std.proofs.Common.{arith}
use denote.Param.Weighed.{most}
use Rattle.model_core.specs.Program89 as m
use Rattle.c89_tree.specs.ProgramNodes89.{exprs, inits}
use Rattle.c89_tree.specs.declared.unit_exprs.OutExprForm.{OutExprForm}
use Rattle.c89_tree.specs.declared.unit_exprs.OutExprForm.TheVariants as e
use Rattle.c89_tree.specs.declared.unit_exprs.OutExpr.TheDeep.{deep-OutExprForm}
use Rattle.c89_tree.specs.declared.unit_exprs.OutInitForm.{OutInitForm}
use Rattle.c89_tree.specs.declared.unit_exprs.OutInitForm.TheVariants as i
use Rattle.c89_tree.specs.declared.unit_exprs.OutInit.TheDeep.{deep-OutInitForm}
use Rattle.c89_tree.specs.UnitExprForms.{expr_of, init_of}
use Rattle.c89_tree.specs.apparatus.UnitSizes.{expr_nodes, exprs_nodes, init_nodes, inits_nodes}

most_exprs : (es : List m.Expr) → most (λ e. expr_nodes e + 1) es ≤ exprs_nodes (exprs es)
most_exprs [] = omega arith
most_exprs (e ∷ es) = omega (arith, most_exprs es)

pub expr_falls : (f : OutExprForm) → max (deep-OutExprForm f) 0 ≤ expr_nodes (expr_of f)
expr_falls (e.Name name) = omega arith
expr_falls (e.Constant number suffix) = omega arith
expr_falls (e.Index left right) = omega arith
expr_falls (e.Dot structure name) = omega arith
expr_falls (e.Arrow pointer name) = omega arith
expr_falls (e.Call function arguments) = omega (arith, most_exprs arguments)
expr_falls (e.Unary op operand) = omega arith
expr_falls (e.Binary op left right) = omega arith
expr_falls (e.Logic op left right) = omega arith
expr_falls (e.Choice condition first second) = omega arith
expr_falls (e.Cast type operand) = omega arith

most_inits : (is : List m.Init) → most (λ i. init_nodes i + 1) is ≤ inits_nodes (inits is)
most_inits [] = omega arith
most_inits (i ∷ is) = omega (arith, most_inits is)

pub init_falls : (f : OutInitForm) → max (deep-OutInitForm f) 0 ≤ init_nodes (init_of f)
init_falls (i.Value value) = omega arith
init_falls (i.Text bytes) = omega arith
init_falls (i.Braces first others) = omega (arith, most_inits others)
