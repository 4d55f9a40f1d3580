-- What the tags of structures and of enumerations, and enumerators, give and declare.
use Rattle.std.proofs.Common.{◌≡◌, ◌∙◌, ap, sym, refl, ℕ, ℤ, ◌+◌, nat_lt, Bool, true, false, ◌&&◌, ◌||◌, not, List, [], ◌∷◌, ◌++◌, length, length-append, Option, Some, None, option_map, arith, Ok, Err, if◌then◌else◌}
use Rattle.std.specs.Option.{unwrap_or}
use Rattle.std.specs.Result.{IfOk}
use Rattle.std.proofs.lemmas.Bool.{and_parts, and_from, lt-ltb, not-false, or_right}
use Rattle.cake_base.specs.declared.places.Place.{Place}
use Rattle.cake_base.specs.declared.rules.Fault.{Fault}
use Rattle.model_types.specs.declared.numbers.Basic.{Basic}
use Rattle.model_types.specs.declared.numbers.Basic.TheVariants.{Int}
use Rattle.model_types.specs.declared.types.StructId.{StructId}
use Rattle.model_types.specs.Operations.{fits}
use Rattle.model_types.specs.Types.{CType, typed, Form, Void, Integer, Enum, Pointer, Array, Struct, Function, form_of_type}
use Rattle.model_types.specs.Structures.{Structure}
use Rattle.model_grammar.specs.declared.syntax.Name.{Name}
use Rattle.model_grammar.specs.SyntaxForms as syntax
use Rattle.model_core.specs.CoreTypes.{plain, int_type, basic_of}
use Rattle.model_core.specs.SameTypes.{is_integer}
use Rattle.model_core.specs.TypedParts.{is_struct, constant_fits}
use Rattle.model_core.specs.PossibleTypes.{is_possible}
use Rattle.model_scopes.specs.declared.declarations.Kind.{Kind}
use Rattle.model_scopes.specs.declared.declarations.Kind.TheVariants as kind
use Rattle.model_scopes.specs.Declarations.{Value, Declaration, is_tag}
use Rattle.model_scopes.specs.DeclarationRules.{is_struct_form}
use Rattle.model_scopes.specs.Scopes.{Scopes, Declared, with_struct}
use Rattle.model_scopes.specs.Binding.{look, here, declared_as}
use Rattle.model_scopes.specs.Declaring.{declare}
use Rattle.model_checking.specs.State.{State, Answer, gives, then_do, unless, breaks, in_scopes}
use Rattle.model_checking.specs.FaultsBeside.{with_fault}
use Rattle.model_checking.specs.Parts.{Specified}
use Rattle.model_checking.specs.Tags.{visible_tag, tag_here, tag_found, tag_declaration, declared_tag}
use Rattle.model_checking.specs.Structures.{struct_type, next_id, with_next, new_struct, as_struct, struct_by, struct_tag}
use Rattle.model_checking.specs.DeclaratorNames.{rule_at}
use Rattle.model_checking.specs.Enumerations.{fixed_by, fixed_type, enum_type, as_enum, enum_by, is_own, enum_found, fixed_tag_rule, enum_tag, Enumeration, begun_as, begun_by, begun, braces_rule, enum_begun, enumerator_type, enumerator_declaration, enumerator_rule, value_behind, range_fault, with_enumerator, enumerator}
use Rattle.typed_walk_laws.specs.SoundScopes.{is_of_kind, is_sound_declaration, are_sound}
use Rattle.typed_walk_laws.specs.Behind.{TypesKept, Behind, GivesSound}
use Rattle.typed_walk_laws.proofs.Tables.{kept_more}
use Rattle.typed_walk_laws.proofs.Walks.{Anything, after, after_fault, after_unless, given, from_before, behind_here}
use Rattle.typed_walk_laws.proofs.Declared.{PossibleType, declared_sound, declared_tag_sound, declare_first_sound, with_struct_sound}
use Rattle.typed_walk_laws.proofs.SpecifiedTypes.{PossibleIfAny, SpecifiedPossible}

-- ---- a new structure

abbrev PossibleStruct : List Structure → StructId → Type 0
PossibleStruct structs id = is_possible structs (struct_type id) ≡ true

next_possible : (s : State) (tag : Option Name) (place : Place) → is_possible (with_next tag place s).scopes.structs (struct_type (next_id s)) ≡ true
next_possible s tag place =
    let ss = s.scopes.structs in
    let one = (with_next tag place s).scopes.structs in
    let more : length one ≡ length ss + 1 = length-append ss _ in
    lt-ltb (length ss) (length one) (omega (arith, more))

pub behind_next : (s : State) (tag : Option Name) (place : Place) → are_sound s.scopes ≡ true → Behind s (with_next tag place s)
behind_next s tag place h = record {
  sound = with_struct_sound (option_map (λ name. name.text) tag) place s.scopes h;
  kept = kept_more s.scopes.structs _ refl;
}

new_struct_sound : (name : Name) (braces : Bool) (place : Place) (s : State) → are_sound s.scopes ≡ true →
    GivesSound s PossibleStruct (new_struct name braces place s)
new_struct_sound name braces place s h =
    let next = with_next (Some name) place s in
    let behind = behind_next s (Some name) place h in
    let possible = next_possible s (Some name) place in
    let declared = declared_tag_sound name (struct_type (next_id s)) braces next behind.sound (and_from (is_possible next.scopes.structs (struct_type (next_id s))) true possible refl) in
    from_before PossibleStruct s next _ behind
    (after PossibleType PossibleStruct next (declared_tag (tag_declaration name (struct_type (next_id s)) braces) next) _ declared
    (λ type t kept p. given PossibleStruct t (next_id s) kept.sound (kept.kept.possible (struct_type (next_id s)) possible)))

-- ---- `struct` and a tag

found_type : (id : Option ℕ) (s : State) (d : Declared) → are_sound s.scopes ≡ true → declared_as id s.scopes ≡ Some d → is_possible s.scopes.structs d.latest.ty ≡ true
found_type id s d h e =
    (and_parts (is_possible s.scopes.structs d.latest.ty) (is_of_kind d.latest.kind (form_of_type d.latest.ty) d.latest.value) (declared_sound id s.scopes d h e)).0

as_struct_by : (name : Name) (type : CType) (s : State) (b : Bool) → are_sound s.scopes ≡ true → is_possible s.scopes.structs type ≡ true →
    GivesSound s PossibleType (if b then gives type s else breaks name.place 6)
as_struct_by name type s true h p = given PossibleType s type h p
as_struct_by name type s false h p = tt

struct_found : (o : Option Declared) (name : Name) (place : Place) (s : State) → are_sound s.scopes ≡ true →
    ((d : Declared) → o ≡ Some d → is_possible s.scopes.structs d.latest.ty ≡ true) → GivesSound s PossibleType (struct_by o name place s)
struct_found (Some d) name place s h p = as_struct_by name d.latest.ty s (is_struct_form (form_of_type d.latest.ty)) h (p d refl)
struct_found None name place s h p =
    after PossibleStruct PossibleType s (new_struct name false place s) _ (new_struct_sound name false place s h)
    (λ id t behind possible. given PossibleType t (struct_type id) behind.sound possible)

pub tag_type : (lone : Bool) (name : Name) (s : State) (d : Declared) → are_sound s.scopes ≡ true → tag_found lone name s ≡ Some d → is_possible s.scopes.structs d.latest.ty ≡ true
tag_type true name s d h e = found_type (here true name.text s.scopes) s d h e
tag_type false name s d h e = found_type (look true name.text s.scopes) s d h e

pub struct_tag_sound : (lone : Bool) (name : Name) (place : Place) (s : State) → are_sound s.scopes ≡ true → GivesSound s PossibleType (struct_tag lone name place s)
struct_tag_sound lone name place s h = struct_found (tag_found lone name s) name place s h (λ d e. tag_type lone name s d h e)

-- ---- the fixed type of an enumeration

fixed_by_sound : (type : Option CType) (first : Place) (s : State) → are_sound s.scopes ≡ true → GivesSound s Anything (fixed_by type first s)
fixed_by_sound None first s h = tt
fixed_by_sound (Some (typed (Integer b) q)) first s h = given Anything s b h refl
fixed_by_sound (Some (typed (Enum b d) q)) first s h = given Anything s b h refl
fixed_by_sound (Some (typed Void q)) first s h = tt
fixed_by_sound (Some (typed (Pointer t) q)) first s h = tt
fixed_by_sound (Some (typed (Array t n) q)) first s h = tt
fixed_by_sound (Some (typed (Struct id) q)) first s h = tt
fixed_by_sound (Some (typed (Function t ps v) q)) first s h = tt

pub fixed_type_sound : (place : Place) (specs : syntax.Specs) (s : State) (answer : Answer Specified) → GivesSound s SpecifiedPossible answer →
    GivesSound s Anything (fixed_type place specs answer)
fixed_type_sound place specs s answer h = after SpecifiedPossible Anything s answer _ h (λ x t behind p. fixed_by_sound x.type _ t behind.sound)

-- ---- `enum` and a tag

as_enum_by : (name : Name) (type : CType) (s : State) (b : Bool) → are_sound s.scopes ≡ true → is_possible s.scopes.structs type ≡ true →
    GivesSound s PossibleType (if b then breaks name.place 6 else gives type s)
as_enum_by name type s true h p = tt
as_enum_by name type s false h p = given PossibleType s type h p

enum_declared : (name : Name) (fixed : Option Basic) (place : Place) (braces : Bool) (s : State) → are_sound s.scopes ≡ true →
    GivesSound s PossibleType (declared_tag (tag_declaration name (enum_type fixed place) braces) s)
enum_declared name fixed place braces s h = declared_tag_sound name (enum_type fixed place) braces s h refl

enum_by_sound : (o : Option Declared) (name : Name) (fixed : Option Basic) (place : Place) (s : State) → are_sound s.scopes ≡ true →
    ((d : Declared) → o ≡ Some d → is_possible s.scopes.structs d.latest.ty ≡ true) → GivesSound s PossibleType (enum_by o name fixed place s)
enum_by_sound (Some d) name fixed place s h p = as_enum_by name d.latest.ty s (is_struct_form (form_of_type d.latest.ty)) h (p d refl)
enum_by_sound None name None place s h p = tt
enum_by_sound None name (Some basic) place s h p = enum_declared name (Some basic) place false s h

no_fault_gives : {A : Type 0} (P : A → Type 0) (o : Option Fault) (fault : Fault) → IfOk (with_fault o (Err fault)) P
no_fault_gives P None fault = tt
no_fault_gives P (Some other) fault = tt

pub enum_tag_sound : (lone : Bool) (name : Name) (place : Place) (s : State) (answer : Answer (Option Basic)) → GivesSound s Anything answer →
    GivesSound s PossibleType (enum_tag lone name place s answer)
enum_tag_sound lone name place s (Ok x) h =
    from_before PossibleType s x.state _ h.0
    (enum_by_sound (enum_found lone name x.made x.state) name x.made place x.state h.0.sound (λ d e. tag_type (is_own lone x.made) name x.state d h.0.sound e))
enum_tag_sound lone name place s (Err fault) h = no_fault_gives _ (rule_at (fixed_tag_rule (tag_found lone name s)) (Some name)) fault
