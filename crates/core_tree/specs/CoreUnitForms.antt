-- The objects, functions and cores that the forms of the core's nodes stand for.
use Rattle.std.specs.Prelude.{List, [], ◌∷◌}
use Rattle.cake_base.specs.declared.places.Place.{Place}
use Rattle.model_types.specs.Types.{CType}
use Rattle.model_core.specs.Core as m
use Rattle.core_tree.specs.CoreNodes.{initials, maybe_stat}
use Rattle.core_tree.specs.declared.core_unit.CoreStorage.{CoreStorage}
use Rattle.core_tree.specs.declared.core_unit.CoreStorage.TheVariants as s
use Rattle.core_tree.specs.declared.core_unit.CoreObjectForm.{CoreObjectForm}
use Rattle.core_tree.specs.declared.core_unit.CoreFunctionName.{CoreFunctionName}
use Rattle.core_tree.specs.declared.core_unit.CoreFunctionName.TheVariants as n
use Rattle.core_tree.specs.declared.core_unit.CoreFunctionForm.{CoreFunctionForm}
use Rattle.core_tree.specs.declared.core_unit.CoreNamedType.{CoreNamedType}
use Rattle.core_tree.specs.declared.core_unit.CoreForm.{CoreForm}
use Rattle.core_tree.specs.CoreStatForms.{ids}

abbrev pub storage_of : CoreStorage → m.Storage
storage_of s.Automatic = m.Automatic
storage_of s.Parameter = m.Parameter
storage_of (s.Static values) = m.Static (initials values)
storage_of s.Declared = m.Declared
storage_of (s.Text bytes) = m.Text bytes

-- the object of its parts
abbrev pub object_of : CoreObjectForm → m.DeclaredObject
object_of o = record {
  id = o.id.0;
  name = o.name;
  type = o.ty;
  is_external = o.is_external;
  storage = storage_of o.storage;
  is_address_taken = o.is_address_taken;
  place = o.place;
  joint_place = o.joint_place;
}

abbrev pub name_of : CoreFunctionName → m.FunctionName
name_of (n.Named name) = m.Named name
name_of (n.Lambda place) = m.Lambda place

-- the function of its parts
abbrev pub function_of : CoreFunctionForm → m.Function
function_of g = record {
  id = g.id.0;
  name = name_of g.name;
  type = g.ty;
  is_external = g.is_external;
  parameters = ids g.parameters;
  body = maybe_stat g.body;
  place = g.place;
  joint_place = g.joint_place;
}

-- the places and types of a list
abbrev pub named_types_of : List CoreNamedType → List (Place × CType)
named_types_of [] = []
named_types_of (first ∷ others) = (first.place, first.ty) ∷ named_types_of others

-- the core of its parts
abbrev pub core_of : CoreForm → m.Core
core_of u = record { objects = u.objects; functions = u.functions; structs = u.structs; named_types = named_types_of u.named_types }
