-- What a table tells of the declared names, where later declarations hide earlier ones.
use Rattle.std.specs.Prelude.{ℕ, ◌≡◌, ◌<◌, Bool, false, List, [], ◌∷◌, ◌++◌, length, replicate, get_or, set}
use Rattle.c_parser.specs.declared.entries.Kept.{Kept}

abbrev pub type_at : List Bool → ℕ → Bool
type_at types n = get_or types n false

-- the table tells the latest declaration of each name, and without the latest one what it hid; the latest stands first
abbrev pub Tells : List Bool → List Kept → Type 0
Tells types [] = (n : ℕ) → type_at types n ≡ false
Tells types (k ∷ ks) = (k.entry.name < length types) × (type_at types k.entry.name ≡ k.entry.is_type) × Tells (set types k.entry.name k.hidden) ks

-- the same table with room for the name
pub record IsWider (n : ℕ) (old new : List Bool) : Type 0 where
  pub more : ℕ
  pub added : new ≡ old ++ replicate more false
  pub room : n < length new
