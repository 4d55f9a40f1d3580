use Rattle.std.proofs.Common.{◌≡◌, ◌+◌, ◌*◌, drop}
use Rattle.given_tree.specs.apparatus.GivenSizes.{given_nodes, items_nodes}
use Rattle.given_tree.specs.GivenViews.{items_of}
use Rattle.model_checking.specs.Placing.{place_list}
use Rattle.model_checking.specs.Ways.{start}
use Rattle.check_ways.specs.Seen.{as_way}
use Rattle.check_placing.specs.Walks.{behind_all}
use Rattle.check_placing.proofs.walk.+place.Given as goal

abbrev pub decreases-place_at : goal.decreases-place_at
decreases-place_at l = 4 * given_nodes l.given.now

abbrev pub decreases-place_braces : goal.decreases-place_braces
decreases-place_braces l = 4 * items_nodes (items_of l.items.now) + 1

abbrev pub decreases-place_list : goal.decreases-place_list
decreases-place_list l = 4 * items_nodes (items_of l.items.now)

abbrev pub decreases-pass_item : goal.decreases-pass_item
decreases-pass_item l = 4 * given_nodes l.item.now.first + 2

abbrev pub decreases-place_item : goal.decreases-place_item
decreases-place_item l = 4 * given_nodes l.item.now.first + 1

abbrev pub invariant-place_list-loop-item : goal.invariant-place_list-loop-item
invariant-place_list-loop-item l =
    behind_all l.out (place_list l.structs l.object l.path (as_way l.there l.way) (items_of (drop l.item-index l.items)))
    ≡ behind_all l.initial.out (place_list l.structs l.object l.path (start l.structs l.object) (items_of l.items))
