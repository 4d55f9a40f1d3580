-- When what is declared at a point of a unit is sound (ISO/IEC 9899:2024, 6.2.1, 6.2.5): the structures fit, and each name
-- is declared with a type that there is and that is one of its kind.
use Rattle.std.specs.Prelude.{Bool, true, ◌&&◌, ◌||◌, not, List, Option}
use Rattle.std.specs.Option.{option_map}
use Rattle.std.specs.List.{list_all}
use Rattle.model_types.specs.Types.{Form, form_of_type}
use Rattle.model_types.specs.Structures.{Structure}
use Rattle.model_core.specs.SameTypes.{is_integer}
use Rattle.model_core.specs.TypedParts.{is_function, is_struct}
use Rattle.model_core.specs.PossibleTypes.{is_possible, are_structures}
use Rattle.model_scopes.specs.declared.declarations.Kind.{Kind}
use Rattle.model_scopes.specs.declared.declarations.Kind.TheVariants.{Object, Function, TypeName, Enumerator, Tag}
use Rattle.model_scopes.specs.Declarations.{Value, Declaration}
use Rattle.model_scopes.specs.Scopes.{Scopes}
use Rattle.model_checking.specs.NamedObjects.{value_part}
use Rattle.typed_rule_laws.specs.TypedMeanings.{known_fits}

-- an object has no function type, and its value, where it has one, is of its type; a function has a function type; an
-- enumerator is an integer of its type; and a tag is that of a structure or an enumeration
abbrev pub is_of_kind : Kind → Form → Option Value → Bool
is_of_kind Object form value = not (is_function form) && known_fits (option_map value_part value) form
is_of_kind Function form value = is_function form
is_of_kind TypeName form value = true
is_of_kind Enumerator form value = is_integer form && known_fits (option_map value_part value) form
is_of_kind Tag form value = is_struct form || is_integer form

abbrev pub is_sound_declaration : List Structure → Declaration → Bool
is_sound_declaration structs d = is_possible structs d.ty && is_of_kind d.kind (form_of_type d.ty) d.value

abbrev pub are_sound : Scopes → Bool
are_sound s = are_structures s.structs && list_all (λ e. is_sound_declaration s.structs e.1.latest) s.declared
