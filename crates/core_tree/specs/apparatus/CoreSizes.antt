-- How many nodes a part of a core has, each cell of a list counted: the measure of a recursion over nodes.
use Rattle.std.specs.Prelude.{ℕ, ◌+◌}
use Rattle.model_core.specs.Core as m
use Rattle.core_tree.specs.CoreNodes.{Initial, Case, CaseLabel, DefaultLabel, Statement}

abbrev mutual
  pub expr_nodes : m.Expr → ℕ
  expr_nodes (m.Constant value type mark) = 1
  expr_nodes (m.Load object mark) = 1 + lvalue_nodes object
  expr_nodes (m.Address origin object mark) = 1 + lvalue_nodes object
  expr_nodes (m.FunctionRef id type by_name mark) = 1
  expr_nodes (m.Unary op operand mark) = 1 + expr_nodes operand
  expr_nodes (m.Binary op left right mark) = 1 + expr_nodes left + expr_nodes right
  expr_nodes (m.Logic op left right mark) = 1 + expr_nodes left + expr_nodes right
  expr_nodes (m.Choice condition first second mark) = 1 + expr_nodes condition + expr_nodes first + expr_nodes second
  expr_nodes (m.Convert origin type operand mark) = 1 + expr_nodes operand
  expr_nodes (m.Call function arguments mark) = 1 + expr_nodes function + exprs_nodes arguments
  expr_nodes (m.Assign assignment object value mark) = 1 + lvalue_nodes object + expr_nodes value
  expr_nodes (m.Step op side type object mark) = 1 + lvalue_nodes object
  expr_nodes (m.MemberValue structure rank type name mark) = 1 + expr_nodes structure
  expr_nodes (m.Comma first second mark) = 1 + expr_nodes first + expr_nodes second

  pub lvalue_nodes : m.Lvalue → ℕ
  lvalue_nodes (m.Object id type mark) = 1
  lvalue_nodes (m.Deref pointer mark) = 1 + expr_nodes pointer
  lvalue_nodes (m.Index is_second first second mark) = 1 + expr_nodes first + expr_nodes second
  lvalue_nodes (m.Field structure rank type name mark) = 1 + lvalue_nodes structure
  lvalue_nodes (m.Arrow pointer rank type name mark) = 1 + expr_nodes pointer
  lvalue_nodes (m.Literal origin id type values mark) = 1 + initials_nodes values

  pub exprs_nodes : m.Exprs → ℕ
  exprs_nodes m.no_exprs = 0
  exprs_nodes (m.more_exprs first others) = 1 + expr_nodes first + exprs_nodes others

  pub initials_nodes : m.Initials → ℕ
  initials_nodes m.no_initials = 0
  initials_nodes (m.more_initials path offset type value others) = 2 + expr_nodes value + initials_nodes others

abbrev pub initial_nodes : Initial → ℕ
initial_nodes i = 1 + expr_nodes i.value

-- of statements, their expressions aside
abbrev mutual
  pub stat_nodes : m.Stat → ℕ
  stat_nodes (m.Evaluate value span) = 1
  stat_nodes (m.Start id type values mark) = 1
  stat_nodes (m.Block objects body span) = 1 + stats_nodes body
  stat_nodes (m.If condition first second span) = 1 + stat_nodes first + maybe_stat_nodes second
  stat_nodes (m.Switch value objects body span) = 1 + cases_nodes body
  stat_nodes (m.While condition body span) = 1 + stat_nodes body
  stat_nodes (m.DoWhile body condition span) = 1 + stat_nodes body
  stat_nodes (m.For first condition step body span) = 1 + stat_nodes body
  stat_nodes (m.Break place) = 1
  stat_nodes (m.Continue place) = 1
  stat_nodes (m.Return value place) = 1
  stat_nodes (m.Defer body place span) = 1 + stat_nodes body

  pub stats_nodes : m.Stats → ℕ
  stats_nodes m.no_stats = 0
  stats_nodes (m.more_stats first others) = 1 + stat_nodes first + stats_nodes others

  pub maybe_stat_nodes : m.MaybeStat → ℕ
  maybe_stat_nodes m.no_stat = 0
  maybe_stat_nodes (m.a_stat stat) = stat_nodes stat

  pub cases_nodes : m.Cases → ℕ
  cases_nodes m.no_cases = 0
  cases_nodes (m.a_case value place others) = 2 + cases_nodes others
  cases_nodes (m.a_default place others) = 2 + cases_nodes others
  cases_nodes (m.a_stat_then stat others) = 2 + stat_nodes stat + cases_nodes others

abbrev pub case_nodes : Case → ℕ
case_nodes (CaseLabel value place) = 1
case_nodes (DefaultLabel place) = 1
case_nodes (Statement stat) = 1 + stat_nodes stat
