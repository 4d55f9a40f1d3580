-- The part of a C89 program that a node is. A node is seen as that part itself, and contracts of the crates above say
-- these words, so that nodes which stand for parts otherwise change nothing but them.
use Rattle.model_core.specs.Types89.{Type89}
use Rattle.model_core.specs.Program89 as m
use Rattle.c89_tree.specs.ProgramNodes89.{Item}

abbrev pub type_tree : Type89 → Type89
type_tree t = t

abbrev pub declaration_tree : m.Declaration → m.Declaration
declaration_tree d = d

abbrev pub expr_tree : m.Expr → m.Expr
expr_tree e = e

abbrev pub init_tree : m.Init → m.Init
init_tree i = i

abbrev pub label_tree : m.Label → m.Label
label_tree l = l

abbrev pub stat_tree : m.Stat → m.Stat
stat_tree s = s

abbrev pub stats_tree : m.Stats → m.Stats
stats_tree ss = ss

abbrev pub item_tree : Item → Item
item_tree i = i

abbrev pub structure_tree : m.Structure89 → m.Structure89
structure_tree s = s

abbrev pub outer_tree : m.Outer → m.Outer
outer_tree d = d

abbrev pub function_tree : m.Function → m.Function
function_tree g = g

abbrev pub program_tree : m.Program → m.Program
program_tree p = p
