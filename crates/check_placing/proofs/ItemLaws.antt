-- Laws of initializers in a list.
use Rattle.std.proofs.Common.{◌≡◌, ap, arith, ◌+◌, ◌≤◌, ◌<◌, [], ◌∷◌, List, ℕ, zero, suc, get_or, length}
use Rattle.given_tree.specs.declared.given.GivenItem.{GivenItem}
use Rattle.given_tree.specs.GivenViews.{items_of}
use Rattle.given_tree.specs.apparatus.GivenSizes.{given_nodes, items_nodes}

-- an initializer has fewer nodes than its list
pub item_in_list : (items : List GivenItem) (i : ℕ) (x : GivenItem) → i < length items → x ≡ get_or items i x → 2 + given_nodes x.first ≤ items_nodes (items_of items)
item_in_list [] i x h is = absurd (omega (arith, h))
item_in_list (y ∷ ys) zero x h is = let e : given_nodes x.first ≡ given_nodes y.first = ap (λ (z : GivenItem). given_nodes z.first) is in omega (arith, e)
item_in_list (y ∷ ys) (suc i) x h is = let l : i < length ys = omega (arith, h) in omega (arith, item_in_list ys i x l is)
