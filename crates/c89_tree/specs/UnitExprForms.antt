-- The expressions and initial values that the forms of a C89 program's nodes stand for.
use Rattle.model_core.specs.Program89 as m
use Rattle.c89_tree.specs.ProgramNodes89.{exprs, inits}
use Rattle.c89_tree.specs.declared.unit_exprs.OutSuffix.{OutSuffix}
use Rattle.c89_tree.specs.declared.unit_exprs.OutSuffix.TheVariants as s
use Rattle.c89_tree.specs.declared.unit_exprs.OutPrefix.{OutPrefix}
use Rattle.c89_tree.specs.declared.unit_exprs.OutPrefix.TheVariants as p
use Rattle.c89_tree.specs.declared.unit_exprs.OutExprForm.{OutExprForm}
use Rattle.c89_tree.specs.declared.unit_exprs.OutExprForm.TheVariants as e
use Rattle.c89_tree.specs.declared.unit_exprs.OutInitForm.{OutInitForm}
use Rattle.c89_tree.specs.declared.unit_exprs.OutInitForm.TheVariants as i

abbrev pub suffix_of : OutSuffix → m.Suffix
suffix_of s.Plain = m.Plain
suffix_of s.U = m.U
suffix_of s.L = m.L
suffix_of s.UL = m.UL

abbrev pub prefix_of : OutPrefix → m.Prefix
prefix_of p.Minus = m.Minus
prefix_of p.Complement = m.Complement
prefix_of p.Not = m.Not
prefix_of p.Deref = m.Deref
prefix_of p.AddressOf = m.AddressOf

-- the expression of a form
abbrev pub expr_of : OutExprForm → m.Expr
expr_of (e.Name name) = m.Name name
expr_of (e.Constant number suffix) = m.Constant number (suffix_of suffix)
expr_of (e.Index left right) = m.Index left right
expr_of (e.Dot structure name) = m.Dot structure name
expr_of (e.Arrow pointer name) = m.Arrow pointer name
expr_of (e.Call function arguments) = m.Call function (exprs arguments)
expr_of (e.Unary op operand) = m.Unary (prefix_of op) operand
expr_of (e.Binary op left right) = m.Binary op left right
expr_of (e.Logic op left right) = m.Logic op left right
expr_of (e.Choice condition first second) = m.Choice condition first second
expr_of (e.Cast type operand) = m.Cast type operand

-- the initial value of a form
abbrev pub init_of : OutInitForm → m.Init
init_of (i.Value value) = m.Value value
init_of (i.Text bytes) = m.Text bytes
init_of (i.Braces first others) = m.Braces first (inits others)
