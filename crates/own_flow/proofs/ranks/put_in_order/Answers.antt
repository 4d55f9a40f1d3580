use Rattle.std.proofs.Common.{rules, arith}
use Rattle.std.proofs.lemmas.List.Filters.{dedup_is}
use Rattle.std.proofs.lemmas.List.Kept.{Contains-dedup, Contains-from_dedup, IsStrictlySortedBy-dedup}
use Rattle.std.proofs.lemmas.List.Sorted.{Contains-permutation, IsPermutation-sym}
use Rattle.own_flow.specs.contracts.ranks.RankedOrd.TheImpl.Laws.{total-law, matches_eq-law}
use Rattle.own_flow.specs.contracts.ranks.RankedEq.TheImpl.Laws.{laws-law}
use Rattle.own_flow.proofs.ranks.put_in_order.Goals as goal

pub returns-clause-ordered : goal.returns-clause-ordered
returns-clause-ordered c = rw (dedup_is _ _ _ c.dedup.ensures.filtered) (IsStrictlySortedBy-dedup total-law matches_eq-law _ c.sort_unstable.ensures.sorted)

pub returns-clause-same : goal.returns-clause-same
returns-clause-same c =
    let is = dedup_is _ _ _ c.dedup.ensures.filtered in
    let moved = c.sort_unstable.ensures.permutation in
    λ r. (
      λ h. Contains-permutation _ _ r (IsPermutation-sym _ _ moved) (Contains-from_dedup _ _ r (rw is at h)),
      λ h. rw is (Contains-dedup laws-law (λ x y e. first_of (search rules, grind arith)) _ r (Contains-permutation _ _ r moved h)),
    )
