-- The part of a core that a node is. A node is seen as that part itself, and contracts of the crates above say these
-- words, so that nodes which stand for parts otherwise change nothing but them.
use Rattle.model_core.specs.Core as m
use Rattle.core_tree.specs.CoreNodes.{Initial, Case}

abbrev pub expr_tree : m.Expr → m.Expr
expr_tree e = e

abbrev pub lvalue_tree : m.Lvalue → m.Lvalue
lvalue_tree l = l

abbrev pub initial_tree : Initial → Initial
initial_tree i = i

abbrev pub stat_tree : m.Stat → m.Stat
stat_tree s = s

abbrev pub case_tree : Case → Case
case_tree c = c

abbrev pub object_tree : m.DeclaredObject → m.DeclaredObject
object_tree o = o

abbrev pub function_tree : m.Function → m.Function
function_tree g = g

abbrev pub core_tree : m.Core → m.Core
core_tree unit = unit
