-- The statements that the forms of a C89 program's nodes stand for.
use Rattle.model_core.specs.Program89 as m
use Rattle.c89_tree.specs.ProgramNodes89.{Item, stats, items}
use Rattle.c89_tree.specs.declared.unit_stats.OutLabelForm.{OutLabelForm}
use Rattle.c89_tree.specs.declared.unit_stats.OutLabelForm.TheVariants as l
use Rattle.c89_tree.specs.declared.unit_stats.OutStatForm.{OutStatForm}
use Rattle.c89_tree.specs.declared.unit_stats.OutStatForm.TheVariants as s
use Rattle.c89_tree.specs.declared.unit_stats.OutStatsForm.{OutStatsForm}
use Rattle.c89_tree.specs.declared.unit_stats.OutItemForm.{OutItemForm}

-- the label of a form
abbrev pub label_of : OutLabelForm → m.Label
label_of (l.Case value) = m.Case value
label_of l.Default = m.Default

-- the statement of a form
abbrev pub stat_of : OutStatForm → m.Stat
stat_of (s.Evaluate value) = m.Evaluate value
stat_of (s.Assign left right) = m.Assign left right
stat_of s.Empty = m.Empty
stat_of (s.Block objects body) = m.Block objects body
stat_of (s.If condition objects body) = m.If condition objects body
stat_of (s.IfElse condition objects body other_objects other_body) = m.IfElse condition objects body other_objects other_body
stat_of (s.Forever objects body) = m.Forever objects body
stat_of (s.Switch value statements) = m.Switch value (items statements)
stat_of s.Break = m.Break
stat_of s.Continue = m.Continue
stat_of s.ReturnNothing = m.ReturnNothing
stat_of (s.Return value) = m.Return value

-- the statements of a list
abbrev pub stats_of : OutStatsForm → m.Stats
stats_of list = stats list.stats

-- the statement with its labels
abbrev pub item_of : OutItemForm → Item
item_of i = record { labels = i.labels; stat = i.stat }
