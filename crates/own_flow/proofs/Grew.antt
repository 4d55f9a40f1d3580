-- How a search grows: by a node, by nothing, and by one set of nodes after another.
use Rattle.std.proofs.Common.{◌≡◌, ℕ, Bool, true, false, List, [], ◌∷◌, ◌++◌, refl, ap, ◌∙◌, subst, ◌⊎◌, inr}
use Rattle.std.specs.Prelude.{map, slice_get, slice_set, Some}
use Rattle.own_flow.specs.declared.nodes.Node.{Node}
use Rattle.own_flow.specs.Nodes.{node_number}
use Rattle.own_flow.specs.Exploration.{Search, Grew, Just, numbers}
use Rattle.own_flow.proofs.Growth.{grown_mark, grown_none, grown_then, grown_weak}

map_end : (f : Node → ℕ) (xs : List Node) (x : Node) → map f (xs ++ x ∷ []) ≡ map f xs ++ f x ∷ []
map_end f [] x = refl
map_end f (y ∷ xs) x = ap (λ ns. f y ∷ ns) (map_end f xs x)

pub numbers_end : (places : ℕ) (xs : List Node) (x : Node) → map (node_number places) (xs ++ x ∷ []) ≡ map (node_number places) xs ++ node_number places x ∷ []
numbers_end places xs x = map_end (node_number places) xs x

pub grew_mark : (s : Search) (places points n : ℕ) (marks marks' : List Bool) (waiting waiting' : List Node) (node : Node) (b : Bool) → record { places = places; points = points; marks = marks; waiting = waiting } ≡ s → n ≡ node_number places node → slice_get marks n ≡ Some b → b ≡ false → marks' ≡ slice_set marks n true → waiting' ≡ waiting ++ node ∷ [] → Grew (Just s.places node) s (record { places = places; points = points; marks = marks'; waiting = waiting' })
grew_mark s places points n marks marks' waiting waiting' node b e k h q m w =
    subst (λ t. Grew (Just t.places node) t (record { places = places; points = points; marks = marks'; waiting = waiting' })) e
    (record {
      places = refl;
      points = refl;
      grown =
          grown_mark (node_number places node) marks (map (node_number places) waiting) marks' (map (node_number places) waiting')
          (inr (subst (λ i. slice_get marks i ≡ Some false) k (h ∙ ap Some q), m ∙ ap (λ i. slice_set marks i true) k, ap (map (node_number places)) w ∙ numbers_end places waiting node));
    })

pub grew_none : (A : ℕ → Type 0) (s : Search) → ((x : ℕ) → A x → ⊥) → Grew A s s
grew_none A s h = record { places = refl; points = refl; grown = grown_none A s.marks (numbers s) h }

pub grew_then : (A B C : ℕ → Type 0) (s t u : Search) → Grew A s t → Grew B t u → ((x : ℕ) → A x → C x) → ((x : ℕ) → B x → C x) → ((x : ℕ) → C x → A x ⊎ B x) → Grew C s u
grew_then A B C s t u g h a b c = record {
  places = h.places ∙ g.places;
  points = h.points ∙ g.points;
  grown = grown_then A B C s.marks (numbers s) t.marks (numbers t) u.marks (numbers u) g.grown h.grown a b c;
}

pub grew_as : (A C : ℕ → Type 0) (s t : Search) → ((x : ℕ) → A x → C x) → ((x : ℕ) → C x → A x) → Grew A s t → Grew C s t
grew_as A C s t a c g = record { places = g.places; points = g.points; grown = grown_weak A C s.marks (numbers s) t.marks (numbers t) a c g.grown }
