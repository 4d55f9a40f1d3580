-- The ranks of members by their names, as the code keeps them: each name once, with the rank of the first
-- member of that name.
use Rattle.std.specs.Prelude.{◌≡◌, ◌<◌, ◌^◌, ℕ, if◌then◌else◌, List, [], ◌∷◌, ◌++◌, length, Option, Some, None, position}
use Rattle.model_types.specs.Texts.{same_text}
use Rattle.model_types.specs.Structures.{Member}

-- the rank that is kept for a name
abbrev pub rank_in : List ℕ → List (List ℕ × ℕ) → Option ℕ
rank_in name [] = None
rank_in name (e ∷ es) = if same_text name e.0 then Some e.1 else rank_in name es

abbrev pub noted_by : Option ℕ → List ℕ → (rank : ℕ) → List (List ℕ × ℕ) → List (List ℕ × ℕ)
noted_by (Some old) name rank es = es
noted_by None name rank es = es ++ (name, rank) ∷ []

-- with one more name; one that is there keeps its rank
abbrev pub noted : List ℕ → (rank : ℕ) → List (List ℕ × ℕ) → List (List ℕ × ℕ)
noted name rank es = noted_by (rank_in name es) name rank es

-- the rank of the first member of a name
abbrev pub rank_of : List ℕ → List Member → Option ℕ
rank_of name ms = position (λ m. same_text name m.name) ms

-- there are at most so many members, and for each name the rank of its first one is kept
pub record IsRanked (ms : List Member) (es : List (List ℕ × ℕ)) : Type 0 where
  pub few : length ms < 2 ^ 32
  pub each : (name : List ℕ) → rank_in name es ≡ rank_of name ms
