-- Structures (ISO/IEC 9899:2024, 6.7.3.2, 6.7.3.4): by a tag, and by their braces: before the members, at each of them, and
-- behind them.
use Rattle.std.specs.Prelude.{ℕ, Bool, true, false, not, List, [], ◌∷◌, ◌++◌, length, Option, Some, None, option_map, if◌then◌else◌}
use Rattle.std.specs.List.{list_any}
use Rattle.cake_base.specs.declared.places.Place.{Place}
use Rattle.model_types.specs.declared.types.StructId.{StructId}
use Rattle.model_types.specs.Texts.{same_text}
use Rattle.model_types.specs.Types as t
use Rattle.model_types.specs.Types.{CType, form_of_type}
use Rattle.model_types.specs.Structures.{Member}
use Rattle.model_types.specs.Layout.{is_complete}
use Rattle.model_core.specs.CoreTypes.{plain}
use Rattle.model_core.specs.PossibleTypes.{is_sized}
use Rattle.model_scopes.specs.Scopes.{Declared, with_struct, with_members}
use Rattle.model_scopes.specs.DeclarationRules.{has_prefix, is_struct_form}
use Rattle.model_grammar.specs.declared.syntax.Name.{Name}
use Rattle.model_grammar.specs.SyntaxForms as syntax
use Rattle.model_checking.specs.State.{Use, State, Answer, gives, breaks, unless, then_do, in_scopes, note_type}
use Rattle.model_checking.specs.Parts as part
use Rattle.model_checking.specs.FaultsBeside.{fault_if, with_fault}
use Rattle.model_checking.specs.DeclaratorNames.{declarator_name, rule_at}
use Rattle.model_checking.specs.Tags.{tag_found, tag_here, tag_declaration, declared_tag}

abbrev pub struct_type : StructId → CType
struct_type id = plain (t.Struct id)

-- ---- a structure that isn't there yet; `place` is that of its word `struct`

abbrev pub next_id : State → StructId
next_id s = record { 0 = length s.scopes.structs }

abbrev pub with_next : Option Name → (place : Place) → State → State
with_next tag place s = in_scopes (with_struct (option_map (λ name. name.text) tag) place s.scopes) s

-- with a tag that is declared for it
abbrev pub new_struct : Name → (has_braces : Bool) → (place : Place) → State → Answer StructId
new_struct name has_braces place s =
    then_do (declared_tag (tag_declaration name (struct_type (next_id s)) has_braces) (with_next (Some name) place s))
    (λ type behind. gives (next_id s) behind)

-- ---- `struct` and a tag without braces

-- C06 at the tag, where it is that of an enumeration
abbrev pub as_struct : Name → CType → State → Answer CType
as_struct name type s = if is_struct_form (form_of_type type) then gives type s else breaks name.place 6

abbrev pub struct_by : Option Declared → Name → (place : Place) → State → Answer CType
struct_by (Some d) name place s = as_struct name d.latest.ty s
struct_by None name place s = then_do (new_struct name false place s) (λ id s. gives (struct_type id) s)

abbrev pub struct_tag : (is_lone : Bool) → Name → (place : Place) → State → Answer CType
struct_tag is_lone name place s = struct_by (tag_found is_lone name s) name place s

-- ---- before the members

abbrev pub declares_member : syntax.MemberDeclarations → Bool
declares_member syntax.no_members = false
declares_member (syntax.more_members (syntax.MemberDeclarators specs _) others) = true
declares_member (syntax.more_members (syntax.MemberAssertion assertion) others) = declares_member others

abbrev pub id_of_struct : t.Form → Option StructId
id_of_struct (t.Struct id) = Some id
id_of_struct _ = None

-- a tag of this scope has its braces now, which it mustn't have had
abbrev pub begun_again : Option StructId → Name → State → Answer StructId
begun_again None name s = breaks name.place 6
begun_again (Some id) name s = then_do (declared_tag (tag_declaration name (struct_type id) true) s) (λ type s. gives id s)

abbrev pub begun_by : Option Declared → Name → (place : Place) → State → Answer StructId
begun_by None name place s = new_struct name true place s
begun_by (Some d) name place s = begun_again (id_of_struct (form_of_type d.latest.ty)) name s

abbrev pub begun : Option Name → (place : Place) → State → Answer StructId
begun None place s = gives (next_id s) (with_next None place s)
begun (Some name) place s = begun_by (tag_here name s) name place s

-- C28 at `struct`, then C01 and C06 at the tag
abbrev pub struct_begun : Option Name → syntax.MemberDeclarations → (place : Place) → State → Answer StructId
struct_begun tag members place s = unless (fault_if (not (declares_member members)) place 28) (begun tag place s)

-- ---- one member, behind others of its structure

abbrev pub has_member : List ℕ → List Member → Bool
has_member name members = list_any (λ m. same_text m.name name) members

abbrev pub member_rule : List Member → Name → Option ℕ
member_rule members name = if has_prefix name.text then Some 1 else if has_member name.text members then Some 2 else None

-- a member wants a complete object type
abbrev pub with_member : Use → List Member → Name → CType → (first : Place) → State → Answer (List Member)
with_member u members name type first s =
    unless (fault_if (not (is_complete s.scopes.structs type)) first 22)
    (gives (members ++ record { name = name.text; ty = type; place = name.place } ∷ []) (note_type u name.place type s))

abbrev pub with_member_if : Use → List Member → Option Name → Option CType → (first : Place) → State → Answer (List Member)
with_member_if u members (Some name) (Some type) first s = with_member u members name type first s
with_member_if u members name type first s = gives members s

-- C01 and C02 at the name, beside what the declarator breaks, and C22 at its first token
abbrev pub member : Use → List Member → syntax.Declarator → part.Declared → State → Answer (List Member)
member u members declarator d s =
    with_fault (rule_at (member_rule members) (declarator_name declarator))
    (with_fault d.fault (with_member_if u members (declarator_name declarator) d.type d.first s))

-- ---- behind the members

-- C25 at `struct`
abbrev pub if_sized : (place : Place) → CType → State → Answer CType
if_sized place type s = if is_sized s.scopes.structs type then gives type s else breaks place 25

abbrev pub struct_completed : StructId → (place : Place) → List Member → State → Answer CType
struct_completed id place members s = if_sized place (struct_type id) (in_scopes (with_members id.0 members s.scopes) s)
