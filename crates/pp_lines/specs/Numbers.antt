-- The numbers of files by their names, as contracts see a map of them.
use Rattle.std.specs.Prelude.{ℕ, List, map}

abbrev pub texts : {K : Type 0} → (K → List ℕ) → List (K × ℕ) → List (List ℕ × ℕ)
texts text es = map (λ e. (text e.0, e.1)) es
