-- Chains of the edges that begin at one point.
use Rattle.std.specs.Prelude.{◌≡◌, ℕ, ◌+◌, ◌<◌, ◌≤◌, List, length, slice_index_or, slice_index}
use Rattle.own_flow.specs.declared.flow.Edge.{Edge}
use Rattle.own_flow.specs.declared.flow.Action.TheVariants.{Pass}
use Rattle.own_flow.specs.declared.rows.Chains.{Chains}

abbrev pub no_edge : Edge
no_edge = record { from = 0; action = Pass; to = 0 }

-- the edge of that number
abbrev pub edge_at : List Edge → ℕ → Edge
edge_at edges k = slice_index_or edges k no_edge

-- n is the number of the first edge from k on that begins at the point, or the number of edges
pub record IsNext (edges : List Edge) (point k n : ℕ) : Type 0 where
  pub low : k ≤ n
  pub high : n ≤ length edges
  pub none : (i : ℕ) → k ≤ i → i < n → (edge_at edges i).from ≡ point → ⊥
  pub here : n < length edges → (edge_at edges n).from ≡ point

-- the chains from the edge `from` on: the first edge of each point, and the next one after each
pub record ChainsFrom (edges : List Edge) (points from : ℕ) (first next : List ℕ) : Type 0 where
  pub points_len : length first ≡ points
  pub edges_len : length next ≡ length edges
  pub firsts : (a : ℕ) → a < points → IsNext edges a from (slice_index first a)
  pub nexts : (k : ℕ) → from ≤ k → k < length edges → IsNext edges (edge_at edges k).from (k + 1) (slice_index next k)

abbrev pub AreChains : List Edge → ℕ → Chains → Type 0
AreChains edges points chains = ChainsFrom edges points 0 chains.first.items chains.next.items
