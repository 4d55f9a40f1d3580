-- Each type in a form has fewer nodes than what the form stands for.
use Rattle.std.specs.Prelude.{◌+◌, ◌≤◌, max, List, [], ◌∷◌}
use Rattle.std.proofs.Common.{arith}
use denote.Param.Weighed.{most}
use Rattle.model_core.specs.Types89.{Type89}
use Rattle.c89_tree.specs.ProgramNodes89.{types}
use Rattle.c89_tree.specs.declared.unit_types.OutTypeForm.{OutTypeForm}
use Rattle.c89_tree.specs.declared.unit_types.OutTypeForm.TheVariants as t
use Rattle.c89_tree.specs.declared.unit_types.OutType.TheDeep.{deep-OutTypeForm}
use Rattle.c89_tree.specs.UnitTypeForms.{type_of}
use Rattle.c89_tree.specs.apparatus.UnitSizes.{type_nodes, types_nodes}

most_types : (ts : List Type89) → most (λ t. type_nodes t + 1) ts ≤ types_nodes (types ts)
most_types [] = omega arith
most_types (t ∷ ts) = omega (arith, most_types ts)

pub type_falls : (f : OutTypeForm) → max (deep-OutTypeForm f) 0 ≤ type_nodes (type_of f)
type_falls (t.Based is_const base) = omega arith
type_falls (t.Pointer is_const to) = omega arith
type_falls (t.Array count of) = omega arith
type_falls (t.Function result parameters is_variadic) = omega (arith, most_types parameters)
