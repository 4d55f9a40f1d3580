-- Hide sets: the macros by which a token isn't replaced (ISO/IEC 9899:2024, 6.10.5.5). A macro stands
-- in a set by its rank in the table.
use Rattle.std.specs.Prelude.{ℕ, Bool, not, ◌==◌, if◌then◌else◌, List, [], ◌∷◌, ◌++◌, filter}
use Rattle.std.specs.List.{list_any}

-- whether a macro is in a set
abbrev pub holds : ℕ → List ℕ → Bool
holds n ms = list_any (λ m. m == n) ms

-- the set with one more macro
abbrev pub with_rank : List ℕ → ℕ → List ℕ
with_rank ms n = if holds n ms then ms else ms ++ n ∷ []

-- the macros of either set
abbrev pub union : List ℕ → List ℕ → List ℕ
union ms ns = ms ++ filter (λ n. not (holds n ms)) ns

-- the macros of both sets
abbrev pub common : List ℕ → List ℕ → List ℕ
common ms ns = filter (λ m. holds m ns) ms
