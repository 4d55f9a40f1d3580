-- The structures that other units share with a unit, by the types of what it exports, and how its text writes
-- them (ISO/IEC 9899:2024, 6.2.7; ISO/IEC 9899:1990, 6.1.2.6).
use Rattle.std.specs.Prelude.{◌≡◌, List, [], ◌∷◌, ◌++◌, map, Some, Contains}
use Rattle.std.specs.Option.{option_map}
use Rattle.model_types.specs.declared.types.StructId.{StructId}
use Rattle.model_types.specs.Types.{CType, typed, Form, Pointer, Array, Struct, Function, Types, no_types, more_types}
use Rattle.model_types.specs.Structures.{Member, Structure, members_of}
use Rattle.model_core.specs.Core as source
use Rattle.model_core.specs.Program89 as target
use Rattle.model_c89.specs.TargetLayout.{members_in}
use Rattle.c_model.specs.WrittenType.{StructNames, written_type}

abbrev mutual
  -- the structures that a type names, at any depth
  pub structures_in : CType → List StructId
  structures_in (typed form quals) = structures_in_form form

  pub structures_in_form : Form → List StructId
  structures_in_form (Struct id) = id ∷ []
  structures_in_form (Pointer type) = structures_in type
  structures_in_form (Array type count) = structures_in type
  structures_in_form (Function result parameters is_variadic) = structures_in result ++ structures_in_all parameters
  structures_in_form form = []

  pub structures_in_all : Types → List StructId
  structures_in_all no_types = []
  structures_in_all (more_types type types) = structures_in type ++ structures_in_all types

-- a type reaches the structures that it names, and those that their members reach
pub data Reaches (structs : List Structure) (type : CType) : StructId → Type 0 where
  by_name : (id : StructId) → Contains (structures_in type) id → Reaches structs type id
  by_member : (id inner : StructId) (members : List Member) (m : Member) → Reaches structs type id → members_of structs id ≡ Some members →
      Contains members m → Contains (structures_in m.ty) inner → Reaches structs type inner

-- the text completes a structure exactly where the unit does, with the types of its members in their order
abbrev pub HasMembers : StructNames → source.Core → target.Program → StructId → Type 0
HasMembers names core program id =
    option_map (map (λ (d : target.Declaration). d.type)) (members_in program.structures (names id))
    ≡ option_map (map (λ (m : Member). written_type names m.ty)) (members_of core.structs id)
