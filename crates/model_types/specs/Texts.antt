-- Texts that are the same.
use Rattle.std.specs.Prelude.{ℕ, Bool, nat_eq, List}
use lib.Pointwise.{pointwise}

abbrev pub same_text : List ℕ → List ℕ → Bool
same_text = pointwise nat_eq
