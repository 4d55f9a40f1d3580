-- What holds of the scopes at any point: what is bound is declared, ids that will be drawn aren't yet,
-- and declarations fit their kinds and name structures that are there.
use Rattle.std.specs.Prelude.{ℕ, ◌<◌, List, [], ◌∷◌, length, IsTrue}
use Rattle.model_types.specs.Structures.{names_below}
use Rattle.model_scopes.specs.Declarations.{fits}
use Rattle.model_scopes.specs.Scopes.{Declared, Level, Scopes, is_declared}

abbrev pub AreDeclared : List (ℕ × Declared) → List (List ℕ × ℕ) → Type 0
AreDeclared ds [] = Unit {0}
AreDeclared ds (b ∷ bs) = IsTrue (is_declared b.1 ds) × AreDeclared ds bs

abbrev pub LevelsDeclared : List (ℕ × Declared) → List Level → Type 0
LevelsDeclared ds [] = Unit {0}
LevelsDeclared ds (l ∷ ls) = AreDeclared ds l.names × AreDeclared ds l.tags × LevelsDeclared ds ls

abbrev pub AreBelow : ℕ → List (ℕ × Declared) → Type 0
AreBelow n [] = Unit {0}
AreBelow n (e ∷ es) = (e.0 < n) × AreBelow n es

abbrev pub AreFit : (structs : ℕ) → List (ℕ × Declared) → Type 0
AreFit n [] = Unit {0}
AreFit n (e ∷ es) = IsTrue (fits e.1.latest) × IsTrue (names_below n e.1.latest.ty) × AreFit n es

pub record IsSound (s : Scopes) : Type 0 where
  pub levels : LevelsDeclared s.declared (s.innermost ∷ s.around)
  pub linked : AreDeclared s.declared s.linked
  pub below : AreBelow s.ids s.declared
  pub fit : AreFit (length s.structs) s.declared
