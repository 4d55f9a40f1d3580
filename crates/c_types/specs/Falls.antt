-- Each type in a type is smaller than it.
use Rattle.std.specs.Prelude.{◌+◌, ◌≤◌, max, List, [], ◌∷◌}
use Rattle.std.proofs.Common.{arith}
use denote.Param.Weighed.{most}
use Rattle.model_types.specs.Types as m
use Rattle.c_types.specs.declared.types.TypeForm.{TypeForm}
use Rattle.c_types.specs.declared.types.TypeForm.TheVariants.{Void, Integer, Enum, Pointer, Array, Struct, Function}
use Rattle.c_types.specs.declared.types.CType.TheDeep.{deep-TypeForm}
use Rattle.c_types.specs.Forms.{form_of}

-- the types in a form
pub type_falls : (f : TypeForm) → max (deep-TypeForm f) 0 ≤ 1 + m.form_nodes (form_of f)
type_falls Void = omega arith
type_falls (Integer b) = omega arith
type_falls (Enum b e) = omega arith
type_falls (Pointer t) = omega arith
type_falls (Array t n) = omega arith
type_falls (Struct s) = omega arith
type_falls (Function r ps v) = omega arith

most_types : (ts : List m.CType) → most (λ t. m.type_nodes t + 1) ts ≤ m.types_nodes (m.types ts)
most_types [] = omega arith
most_types (t ∷ ts) = omega (arith, most_types ts)

-- the types in a list
pub list_falls : (ts : List m.CType) → max (most (λ t. m.type_nodes t + 1) ts) 0 ≤ m.types_nodes (m.types ts)
list_falls ts = omega (arith, most_types ts)
