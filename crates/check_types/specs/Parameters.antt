-- Types of parameters, one by one.
use Rattle.std.specs.Prelude.{List, [], ◌∷◌, Option, Some, None}
use Rattle.model_types.specs.Types.{CType}
use Rattle.model_scopes.specs.CompositeTypes.{composite}

-- a type with that of another declaration, where there is one
abbrev pub composite_if_any : CType → Option CType → CType
composite_if_any p None = p
composite_if_any p (Some q) = composite p q

-- those of parameters, one by one
abbrev pub composites : List CType → List CType → List CType
composites [] qs = []
composites (p ∷ ps) [] = p ∷ composites ps []
composites (p ∷ ps) (q ∷ qs) = composite p q ∷ composites ps qs
