-- Each statement in a form has fewer nodes than what the form stands for.
use Rattle.std.specs.Prelude.{◌+◌, ◌≤◌, max, List, [], ◌∷◌}
use Rattle.std.proofs.Common.{arith}
use denote.Param.Weighed.{most}
use Rattle.model_core.specs.Program89 as m
use Rattle.c89_tree.specs.ProgramNodes89.{Item, stats, items}
use Rattle.c89_tree.specs.declared.unit_stats.OutStatForm.{OutStatForm}
use Rattle.c89_tree.specs.declared.unit_stats.OutStatForm.TheVariants as s
use Rattle.c89_tree.specs.declared.unit_stats.OutStatsForm.{OutStatsForm}
use Rattle.c89_tree.specs.declared.unit_stats.OutItemForm.{OutItemForm}
use Rattle.c89_tree.specs.declared.unit_stats.OutItem.TheDeep.{deep-OutStatForm, deep-OutStatsForm, deep-OutItemForm}
use Rattle.c89_tree.specs.UnitStatForms.{stat_of, stats_of, item_of}
use Rattle.c89_tree.specs.apparatus.UnitSizes.{stat_nodes, stats_nodes, items_nodes, item_nodes}

most_stats : (ss : List m.Stat) → most (λ s. stat_nodes s + 1) ss ≤ stats_nodes (stats ss)
most_stats [] = omega arith
most_stats (s ∷ ss) = omega (arith, most_stats ss)

most_items : (is : List Item) → most (λ i. item_nodes i + 1) is ≤ items_nodes (items is)
most_items [] = omega arith
most_items (i ∷ is) = omega (arith, most_items is)

pub stat_falls : (f : OutStatForm) → max (deep-OutStatForm f) 0 ≤ stat_nodes (stat_of f)
stat_falls (s.Evaluate value) = omega arith
stat_falls (s.Assign left right) = omega arith
stat_falls s.Empty = omega arith
stat_falls (s.Block objects body) = omega arith
stat_falls (s.If condition objects body) = omega arith
stat_falls (s.IfElse condition objects body other_objects other_body) = omega arith
stat_falls (s.Forever objects body) = omega arith
stat_falls (s.Switch value statements) = omega (arith, most_items statements)
stat_falls s.Break = omega arith
stat_falls s.Continue = omega arith
stat_falls s.ReturnNothing = omega arith
stat_falls (s.Return value) = omega arith

pub stats_falls : (f : OutStatsForm) → max (deep-OutStatsForm f) 0 ≤ stats_nodes (stats_of f)
stats_falls f = omega (arith, most_stats f.stats)

pub item_falls : (f : OutItemForm) → max (deep-OutItemForm f) 0 ≤ item_nodes (item_of f)
item_falls f = omega arith
