-- Names by their ranks.
use Rattle.std.specs.Prelude.{ℕ, Bool, false, List, Option, Some, None}
use Rattle.model_types.specs.Texts.{same_text}

-- whether there are two names, and they are the same
abbrev pub same_at : Option (List ℕ) → Option (List ℕ) → Bool
same_at None o = false
same_at (Some a) None = false
same_at (Some a) (Some b) = same_text a b
