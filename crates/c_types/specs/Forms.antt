-- The mathematical form of a form.
use Rattle.model_types.specs.Types as m
use Rattle.c_types.specs.declared.types.TypeForm.{TypeForm}
use Rattle.c_types.specs.declared.types.TypeForm.TheVariants.{Void, Integer, Enum, Pointer, Array, Struct, Function}

-- the form that contracts see
abbrev pub form_of : TypeForm → m.Form
form_of Void = m.Void
form_of (Integer b) = m.Integer b
form_of (Enum b e) = m.Enum b e
form_of (Pointer t) = m.Pointer t
form_of (Array t n) = m.Array t n
form_of (Struct s) = m.Struct s
form_of (Function r ps v) = m.Function r (m.types ps) v
