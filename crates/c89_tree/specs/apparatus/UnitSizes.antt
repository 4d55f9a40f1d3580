-- How many nodes a part of a C89 program has, each cell of a list counted: the measure of a recursion over nodes.
use Rattle.std.specs.Prelude.{ℕ, ◌+◌}
use Rattle.model_core.specs.Types89 as t
use Rattle.model_core.specs.Program89 as m
use Rattle.c89_tree.specs.ProgramNodes89.{Item}

abbrev mutual
  pub type_nodes : t.Type89 → ℕ
  type_nodes (t.Based is_const base) = 1
  type_nodes (t.Pointer is_const to) = 1 + type_nodes to
  type_nodes (t.Array count of) = 1 + type_nodes of
  type_nodes (t.Function result parameters is_variadic) = 1 + type_nodes result + types_nodes parameters

  pub types_nodes : t.Types89 → ℕ
  types_nodes t.no_types = 0
  types_nodes (t.more_types first others) = 1 + type_nodes first + types_nodes others

abbrev mutual
  pub expr_nodes : m.Expr → ℕ
  expr_nodes (m.Name name) = 1
  expr_nodes (m.Constant number suffix) = 1
  expr_nodes (m.Index left right) = 1 + expr_nodes left + expr_nodes right
  expr_nodes (m.Dot structure name) = 1 + expr_nodes structure
  expr_nodes (m.Arrow pointer name) = 1 + expr_nodes pointer
  expr_nodes (m.Call function arguments) = 1 + expr_nodes function + exprs_nodes arguments
  expr_nodes (m.Unary op operand) = 1 + expr_nodes operand
  expr_nodes (m.Binary op left right) = 1 + expr_nodes left + expr_nodes right
  expr_nodes (m.Logic op left right) = 1 + expr_nodes left + expr_nodes right
  expr_nodes (m.Choice condition first second) = 1 + expr_nodes condition + expr_nodes first + expr_nodes second
  expr_nodes (m.Cast type operand) = 1 + expr_nodes operand

  pub exprs_nodes : m.Exprs → ℕ
  exprs_nodes m.no_exprs = 0
  exprs_nodes (m.more_exprs first others) = 1 + expr_nodes first + exprs_nodes others

abbrev mutual
  pub init_nodes : m.Init → ℕ
  init_nodes (m.Value value) = 1
  init_nodes (m.Text bytes) = 1
  init_nodes (m.Braces first others) = 1 + init_nodes first + inits_nodes others

  pub inits_nodes : m.Inits → ℕ
  inits_nodes m.no_inits = 0
  inits_nodes (m.more_inits first others) = 1 + init_nodes first + inits_nodes others

-- of statements, their expressions and declarations aside
abbrev mutual
  pub stat_nodes : m.Stat → ℕ
  stat_nodes (m.Evaluate value) = 1
  stat_nodes (m.Assign left right) = 1
  stat_nodes m.Empty = 1
  stat_nodes (m.Block objects body) = 1 + stats_nodes body
  stat_nodes (m.If condition objects body) = 1 + stats_nodes body
  stat_nodes (m.IfElse condition objects body other_objects other_body) = 1 + stats_nodes body + stats_nodes other_body
  stat_nodes (m.Forever objects body) = 1 + stats_nodes body
  stat_nodes (m.Switch value items) = 1 + items_nodes items
  stat_nodes m.Break = 1
  stat_nodes m.Continue = 1
  stat_nodes m.ReturnNothing = 1
  stat_nodes (m.Return value) = 1

  pub stats_nodes : m.Stats → ℕ
  stats_nodes m.no_stats = 1
  stats_nodes (m.more_stats first others) = 1 + stat_nodes first + stats_nodes others

  pub items_nodes : m.Items → ℕ
  items_nodes m.no_items = 0
  items_nodes (m.an_item labels stat others) = 2 + stat_nodes stat + items_nodes others

abbrev pub item_nodes : Item → ℕ
item_nodes i = 1 + stat_nodes i.stat
