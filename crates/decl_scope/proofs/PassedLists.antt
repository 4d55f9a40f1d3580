-- Lists of types of parameters that differ in length.
use Rattle.std.proofs.Common.{◌≡◌, suc, Bool, true, false, ◌&&◌, List, [], ◌∷◌, length, refl, ap}
use Rattle.model_types.specs.Types.{CType, types}
use Rattle.model_scopes.specs.SameTypedefs.{same_passed, same_passed_lists}

pub lists_differ : (ps qs : List CType) → (length ps ≡ length qs → ⊥) → false ≡ same_passed_lists (types ps) (types qs)
lists_differ [] [] h = absurd (h refl)
lists_differ [] (q ∷ qs) h = refl
lists_differ (p ∷ ps) [] h = refl
lists_differ (p ∷ ps) (q ∷ qs) h = by (same_passed p q) (lists_differ ps qs (λ e. h (ap suc e)))
  where
    by : (b : Bool) → false ≡ same_passed_lists (types ps) (types qs) → false ≡ (b && same_passed_lists (types ps) (types qs))
    by true e = e
    by false e = refl
