use Rattle.std.proofs.Common.{◌≡◌, ◌++◌, ◌+◌, ◌*◌, drop}
use Rattle.c89_tree.specs.ProgramNodes89.{items}
use Rattle.c89_tree.specs.ProgramNodes89.{stats}
use Rattle.model_c89.specs.SpellingParts89.{items_text}
use Rattle.model_c89.specs.SpellingParts89.{stats_text}
use Rattle.c89_tree.specs.apparatus.UnitSizes.{stat_nodes, stats_nodes, items_nodes}
use Rattle.c89_writer.proofs.statements.+statement.Given as goal

abbrev pub decreases-push_stat : goal.decreases-push_stat
decreases-push_stat l = 4 * stat_nodes l.stat.now

abbrev pub decreases-push_body : goal.decreases-push_body
decreases-push_body l = 4 * stats_nodes l.body.now + 2

abbrev pub decreases-push_block : goal.decreases-push_block
decreases-push_block l = 4 * stats_nodes l.body.now + 3

abbrev pub decreases-push_stats : goal.decreases-push_stats
decreases-push_stats l = 4 * stats_nodes l.list.now + 1

abbrev pub decreases-push_items : goal.decreases-push_items
decreases-push_items l = 4 * items_nodes (items l.list.now)

abbrev pub decreases-push_each : goal.decreases-push_each
decreases-push_each l = 4 * stats_nodes (stats l.list.now)

abbrev pub invariant-push_each-loop-stat : goal.invariant-push_each-loop-stat
invariant-push_each-loop-stat l = l.out ++ stats_text l.level (stats (drop l.stat-index l.list)) ≡ l.initial.out ++ stats_text l.level (stats l.list)

abbrev pub invariant-push_items-loop-item : goal.invariant-push_items-loop-item
invariant-push_items-loop-item l = l.out ++ items_text l.level (items (drop l.item-index l.list)) ≡ l.initial.out ++ items_text l.level (items l.list)
