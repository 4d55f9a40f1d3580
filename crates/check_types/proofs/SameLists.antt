-- Lists of types that differ in length.
use Rattle.std.proofs.Common.{◌≡◌, suc, Bool, true, false, ◌&&◌, List, [], ◌∷◌, length, refl, ap}
use Rattle.model_types.specs.Types.{CType, types}
use Rattle.model_core.specs.SameTypes.{same_type, same_types}

pub lists_differ : (ps qs : List CType) → (length ps ≡ length qs → ⊥) → false ≡ same_types (types ps) (types qs)
lists_differ [] [] h = absurd (h refl)
lists_differ [] (q ∷ qs) h = refl
lists_differ (p ∷ ps) [] h = refl
lists_differ (p ∷ ps) (q ∷ qs) h = by (same_type p q) (lists_differ ps qs (λ e. h (ap suc e)))
  where
    by : (b : Bool) → false ≡ same_types (types ps) (types qs) → false ≡ (b && same_types (types ps) (types qs))
    by true e = e
    by false e = refl
