-- What structures and enumerations break at their words, tags, members and enumerators (ISO/IEC 9899:2024, 6.7.3.2 to
-- 6.7.3.4), and any declaration at its name.
use Rattle.std.specs.Prelude.{ℤ, pos, Bool, true, false, not, List, Option, Some, None}
use Rattle.std.specs.List.{list_any}
use Rattle.cake_base.specs.declared.places.Place.{Place}
use Rattle.model_types.specs.declared.numbers.Basic.{Basic}
use Rattle.model_types.specs.Operations.{fits}
use Rattle.model_types.specs.Structures.{Member, Structure}
use Rattle.model_types.specs.Texts.{same_text}
use Rattle.model_types.specs.Types.{CType, form_of_type}
use Rattle.model_types.specs.Layout.{is_complete}
use Rattle.model_core.specs.PossibleTypes.{is_sized}
use Rattle.model_core.specs.SameTypes.{is_integer}
use Rattle.model_core.specs.TypedParts.{is_struct}
use Rattle.model_core.specs.CoreTypes.{basic_of}
use Rattle.model_scopes.specs.Declarations.{Declaration}
use Rattle.model_scopes.specs.DeclarationRules.{earlier, standing, has_prefix, clashes_with, differs, links_otherwise, retags, rebuilds}
use Rattle.model_scopes.specs.Scopes.{Declared, Scopes, is_defined}
use Rattle.model_grammar.specs.declared.syntax.Name.{Name}
use Rattle.model_grammar.specs.SyntaxForms as syntax
use Rattle.model_checking.specs.Enumerations.{Enumeration, enum_found, enumerator_declaration, enumerator_type}
use Rattle.model_checking.specs.State.{State}
use Rattle.model_checking.specs.Structures.{declares_member}
use Rattle.model_checking.specs.Tags.{tag_found, tag_here}
use Rattle.model_constraints.specs.Pairs.{Pairs, Nothing, At, Beside, IfAny}

-- ---- a declaration at its name: C01, C02, C03, C04, C06, C07

abbrev pub broken_declaration : Declaration → Scopes → Pairs
broken_declaration d s =
    Beside (At d.place 1 (has_prefix d.name))
    (Beside (At d.place 2 (clashes_with d (standing d s)))
    (Beside (At d.place 3 (differs d (earlier d s)))
    (Beside (At d.place 4 (links_otherwise d (earlier d s)))
    (Beside (At d.place 6 (retags d (earlier d s))) (At d.place 7 (rebuilds d))))))

-- ---- tags without braces

-- `struct`: C06, where the tag is that of an enumeration; where there is none it is declared
abbrev pub broken_struct_tag_as : Option Declared → Name → Pairs
broken_struct_tag_as (Some d) name = At name.place 6 (not (is_struct (form_of_type d.latest.ty)))
broken_struct_tag_as None name = At name.place 1 (has_prefix name.text)

abbrev pub broken_struct_tag : (is_lone : Bool) → Name → State → Pairs
broken_struct_tag is_lone name s = broken_struct_tag_as (tag_found is_lone name s) name

-- `enum`: C06, where the tag is that of a structure; where there is none, only a fixed type declares it (C05)
abbrev pub broken_enum_tag_as : Option Declared → (is_fixed : Bool) → Name → Pairs
broken_enum_tag_as (Some d) is_fixed name = At name.place 6 (is_struct (form_of_type d.latest.ty))
broken_enum_tag_as None true name = At name.place 1 (has_prefix name.text)
broken_enum_tag_as None false name = At name.place 5 true

abbrev pub is_there : Option Basic → Bool
is_there None = false
is_there (Some basic) = true

-- with the fixed type, if there is one
abbrev pub broken_enum_tag : (is_lone : Bool) → Name → Option Basic → State → Pairs
broken_enum_tag is_lone name fixed s = broken_enum_tag_as (enum_found is_lone name fixed s) (is_there fixed) name

-- whatever its fixed type is
abbrev pub broken_fixed_tag : (is_lone : Bool) → Name → State → Pairs
broken_fixed_tag is_lone name s = broken_enum_tag_as (tag_found is_lone name s) true name

-- ---- tags with braces: C01; C06, where the tag of this scope is of another kind or has its braces already

abbrev is_otherwise : (is_structure : Bool) → Declared → Bool
is_otherwise true d = not (is_struct (form_of_type d.latest.ty))
is_otherwise false d = is_struct (form_of_type d.latest.ty)

abbrev broken_again : (is_structure : Bool) → Name → Declared → Pairs
broken_again is_structure name d = Beside (At name.place 6 (is_otherwise is_structure d)) (At name.place 6 (is_defined d))

abbrev pub broken_braces_tag : (is_structure : Bool) → Option Name → State → Pairs
broken_braces_tag is_structure None s = Nothing
broken_braces_tag is_structure (Some name) s =
    Beside (At name.place 1 (has_prefix name.text)) (IfAny (tag_here name s) (broken_again is_structure name))

-- ---- structures

-- C28 at `struct`: the braces hold no member
abbrev pub broken_memberless : syntax.MemberDeclarations → (place : Place) → Pairs
broken_memberless members place = At place 28 (not (declares_member members))

-- C01 and C02 at the name of a member, behind these
abbrev pub broken_member_name : List Member → Option Name → Pairs
broken_member_name members None = Nothing
broken_member_name members (Some name) =
    Beside (At name.place 1 (has_prefix name.text)) (At name.place 2 (list_any (λ (m : Member). same_text m.name name.text) members))

-- C22: a member is complete
abbrev pub broken_member_type : List Structure → (first : Place) → Option CType → Pairs
broken_member_type structs first None = Nothing
broken_member_type structs first (Some type) = At first 22 (not (is_complete structs type))

-- C25 at `struct`: a structure isn't too large
abbrev pub broken_structure_size : List Structure → (place : Place) → CType → Pairs
broken_structure_size structs place type = At place 25 (not (is_sized structs type))

-- ---- enumerations

-- C27 at the first token of a fixed type: it is an integer type
abbrev pub broken_fixed_type : (first : Place) → Option CType → Pairs
broken_fixed_type first None = At first 27 true
broken_fixed_type first (Some type) = At first 27 (not (is_integer (form_of_type type)))

-- C01 and C02 at the name of an enumerator
abbrev pub broken_enumerator_name : Enumeration → Name → State → Pairs
broken_enumerator_name e name s = broken_declaration (enumerator_declaration e name (pos 0)) s.scopes

-- C30: its value fits its type
abbrev pub broken_enumerator_value : Enumeration → Name → ℤ → Pairs
broken_enumerator_value e name value = At name.place 30 (not (fits (basic_of (form_of_type (enumerator_type e))) value))
