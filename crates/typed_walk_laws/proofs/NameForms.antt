-- What a name means is typed.
use Rattle.std.proofs.Common.{◌≡◌, refl, ℕ, ℤ, Bool, true, false, ◌&&◌, not, List, Option, Some, None, option_map, Ok}
use Rattle.std.proofs.lemmas.Bool.{and_parts, and_from}
use Rattle.model_types.specs.declared.marks.Mark.{Mark}
use Rattle.model_types.specs.Types.{CType, typed, Form, Void, Integer, Enum, Pointer, Array, Struct, Function, form_of_type}
use Rattle.model_types.specs.Structures.{Structure}
use Rattle.model_grammar.specs.declared.syntax.Name.{Name}
use Rattle.model_core.specs.SameTypes.{is_integer}
use Rattle.model_core.specs.TypedParts.{is_function, constant_fits}
use Rattle.model_core.specs.PossibleTypes.{is_possible}
use Rattle.model_core.specs.Core as unit
use Rattle.model_scopes.specs.declared.declarations.Kind.{Kind}
use Rattle.model_scopes.specs.declared.declarations.Kind.TheVariants as kind
use Rattle.model_scopes.specs.Declarations.{Value, Declaration}
use Rattle.model_scopes.specs.Scopes.{Declared}
use Rattle.model_scopes.specs.Binding.{look, declared_as, is_surrounding}
use Rattle.model_scopes.specs.NotedUses.{note_use}
use Rattle.model_checking.specs.State.{Use, Evaluated, Unevaluated, State, gives, in_scopes}
use Rattle.model_checking.specs.Meanings.{a_place, a_value, a_function}
use Rattle.model_checking.specs.Faults.{wants}
use Rattle.model_checking.specs.MadeCore.{constant}
use Rattle.model_checking.specs.NamedObjects.{value_part, named_object, named_function, named_enumerator, named_as, named_by, named}
use Rattle.typed_rule_laws.specs.TypedMeanings.{is_typed_value, is_object_type, is_typed_object, known_fits}
use Rattle.typed_walk_laws.specs.SoundScopes.{is_of_kind, is_sound_declaration, are_sound}
use Rattle.typed_walk_laws.specs.Behind.{GivesSound}
use Rattle.typed_walk_laws.proofs.Walks.{TypedMeaning, all_kept, after_unless, given}
use Rattle.typed_walk_laws.proofs.Declared.{declared_sound, note_use_sound}

object_named : (id : ℕ) (d : Declaration) (mark : Mark) (s : State) → are_sound s.scopes ≡ true → is_possible s.scopes.structs d.ty ≡ true →
    is_of_kind kind.Object (form_of_type d.ty) d.value ≡ true → GivesSound s TypedMeaning (named_object id d mark s)
object_named id d mark s h p k =
    let known = option_map value_part d.value in
    let place = unit.Object id d.ty mark in
    let apart = not (is_function (form_of_type d.ty)) in
    let parts = and_parts apart (known_fits known (form_of_type d.ty)) k in
    let object = and_from apart (is_object_type s.scopes.structs d.ty) parts.0 (and_from (is_possible s.scopes.structs d.ty) apart p parts.0) in
    after_unless _ (wants (not (d.automatic && is_surrounding id s.scopes)) mark.at 26) (gives (a_place place known) s) (λ n.
    given TypedMeaning s (a_place place known) h (and_from (is_typed_object s.scopes.structs place) (known_fits known (form_of_type d.ty)) object parts.1))

function_named : (u : Use) (id : ℕ) (d : Declaration) (mark : Mark) (s : State) → are_sound s.scopes ≡ true → is_possible s.scopes.structs d.ty ≡ true →
    is_function (form_of_type d.ty) ≡ true → GivesSound s TypedMeaning (named_function u id d mark s)
function_named Evaluated id d mark s h p k =
    (record { sound = note_use_sound id mark.at s.scopes h; kept = all_kept s.scopes.structs }, and_from (is_possible s.scopes.structs d.ty) (is_function (form_of_type d.ty)) p k)
function_named Unevaluated id d mark s h p k =
    given TypedMeaning s (a_function id d.ty true mark) h (and_from (is_possible s.scopes.structs d.ty) (is_function (form_of_type d.ty)) p k)

integer_value : (structs : List Structure) (t : CType) (value : ℤ) (mark : Mark) → is_integer (form_of_type t) ≡ true → constant_fits value (form_of_type t) ≡ true →
    is_typed_value structs (constant value t mark) ≡ true
integer_value structs (typed (Integer b) q) value mark h k = and_from (constant_fits value (Integer b)) true k refl
integer_value structs (typed (Enum b d) q) value mark h k = and_from (constant_fits value (Enum b d)) true k refl
integer_value structs (typed Void q) value mark h k = cc
integer_value structs (typed (Pointer t) q) value mark h k = cc
integer_value structs (typed (Array t n) q) value mark h k = cc
integer_value structs (typed (Struct id) q) value mark h k = cc
integer_value structs (typed (Function t ps v) q) value mark h k = cc

enumerator_named : (d : Declaration) (mark : Mark) (value : Option Value) (s : State) → are_sound s.scopes ≡ true →
    is_of_kind kind.Enumerator (form_of_type d.ty) value ≡ true → GivesSound s TypedMeaning (named_enumerator d mark value s)
enumerator_named d mark (Some v) s h k =
    let parts = and_parts (is_integer (form_of_type d.ty)) (constant_fits v.value (form_of_type d.ty)) k in
    given TypedMeaning s (a_value (constant v.value d.ty mark)) h (integer_value s.scopes.structs d.ty v.value mark parts.0 parts.1)
enumerator_named d mark None s h k = tt

named_of : (u : Use) (k : Kind) (id : ℕ) (d : Declaration) (mark : Mark) (s : State) → are_sound s.scopes ≡ true → is_possible s.scopes.structs d.ty ≡ true →
    is_of_kind k (form_of_type d.ty) d.value ≡ true → GivesSound s TypedMeaning (named_as u k id d mark s)
named_of u kind.Object id d mark s h p k = object_named id d mark s h p k
named_of u kind.Function id d mark s h p k = function_named u id d mark s h p k
named_of u kind.Enumerator id d mark s h p k = enumerator_named d mark d.value s h k
named_of u kind.TypeName id d mark s h p k = tt
named_of u kind.Tag id d mark s h p k = tt

named_found : (u : Use) (id : Option ℕ) (o : Option Declared) (mark : Mark) (s : State) → are_sound s.scopes ≡ true → declared_as id s.scopes ≡ o →
    GivesSound s TypedMeaning (named_by u id o mark s)
named_found u (Some id) (Some d) mark s h e =
    let parts = and_parts (is_possible s.scopes.structs d.latest.ty) (is_of_kind d.latest.kind (form_of_type d.latest.ty) d.latest.value) (declared_sound (Some id) s.scopes d h e) in
    named_of u d.latest.kind id d.latest mark s h parts.0 parts.1
named_found u (Some id) None mark s h e = tt
named_found u None o mark s h e = tt

pub named_sound : (u : Use) (name : Name) (mark : Mark) (s : State) → are_sound s.scopes ≡ true → GivesSound s TypedMeaning (named u name mark s)
named_sound u name mark s h = named_found u (look false name.text s.scopes) (declared_as (look false name.text s.scopes) s.scopes) mark s h refl
