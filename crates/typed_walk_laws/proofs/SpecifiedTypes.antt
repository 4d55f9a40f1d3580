-- The types that specifiers give are possible.
use Rattle.std.proofs.Common.{◌≡◌, ◌∙◌, ap, sym, refl, ℕ, nat_lt, Bool, true, false, ◌&&◌, ◌||◌, not, List, [], ◌∷◌, ◌++◌, Option, Some, None, is_some, option_map, Ok, Err, Result, if◌then◌else◌}
use Rattle.std.specs.Option.{option_and_then}
use Rattle.std.specs.List.{list_all}
use Rattle.std.specs.Result.{IfOk}
use Rattle.std.proofs.lemmas.Bool.{and_parts, and_from}
use Rattle.cake_base.specs.declared.places.Place.{Place}
use Rattle.cake_base.specs.declared.rules.Fault.{Fault}
use Rattle.model_types.specs.declared.types.StructId.{StructId}
use Rattle.model_types.specs.declared.types.Quals.{Quals}
use Rattle.model_types.specs.declared.numbers.Basic.{Basic}
use Rattle.model_types.specs.Types.{CType, typed, Form, Void, Integer, Enum, Pointer, Array, Struct, Function, form_of_type}
use Rattle.model_types.specs.Structures.{Structure}
use Rattle.model_types.specs.Layout.{Layout, repeated, type_layout, layout_in, is_complete, within_limit}
use Rattle.model_grammar.specs.declared.syntax.Name.{Name}
use Rattle.model_grammar.specs.declared.syntax.Qualifier.{Qualifier}
use Rattle.model_grammar.specs.declared.syntax.TypeWord.{TypeWord}
use Rattle.model_grammar.specs.declared.syntax.TypeofWord.{TypeofWord}
use Rattle.model_grammar.specs.declared.syntax.TypeofWord.TheVariants.{Typeof, TypeofUnqual}
use Rattle.model_grammar.specs.SyntaxForms as syntax
use Rattle.model_core.specs.CoreTypes.{plain, unqualified}
use Rattle.model_core.specs.PossibleTypes.{is_possible, is_possible_form, length_fits}
use Rattle.model_scopes.specs.Scopes.{Declared}
use Rattle.model_scopes.specs.Declarations.{is_typedef}
use Rattle.model_scopes.specs.Binding.{look, declared_as}
use Rattle.model_checking.specs.State.{State, Answer, gives, with_state}
use Rattle.model_checking.specs.Parts.{Specified}
use Rattle.model_checking.specs.Words.{Word, words_of, storage_of, type_words, qualifiers_of}
use Rattle.model_checking.specs.Qualified.{with_all, qualified, qualifier_fault}
use Rattle.model_checking.specs.TypeKeywords.{Named, same_words, find_named, small_types, long_types, type_by_words}
use Rattle.model_checking.specs.SpecifierWords.{words_fault}
use Rattle.model_checking.specs.DeclarationContexts.{Context}
use Rattle.model_checking.specs.SpecifierTypes.{type_if_typedef, type_of_declared, typedef_type, typeof_type, type_or_words, specified_by, specified, specifiers}
use Rattle.typed_rule_laws.proofs.TypeForms.{unqualified_possible}
use Rattle.typed_walk_laws.specs.SoundScopes.{is_of_kind, is_sound_declaration, are_sound}
use Rattle.typed_walk_laws.specs.Behind.{Behind, GivesSound}
use Rattle.typed_walk_laws.proofs.Walks.{after, after_fault, after_unless, by_rule, given, behind_here}
use Rattle.typed_walk_laws.proofs.Declared.{PossibleType, declared_sound}

-- ---- qualifiers leave a type possible

qualified_layout : (layouts : StructId → Option Layout) (list : List Qualifier) (t : CType) → type_layout layouts (qualified list t) ≡ type_layout layouts t
qualified_layout layouts list (typed Void q) = refl
qualified_layout layouts list (typed (Integer b) q) = refl
qualified_layout layouts list (typed (Enum b d) q) = refl
qualified_layout layouts list (typed (Pointer t) q) = refl
qualified_layout layouts list (typed (Array t None) q) = refl
qualified_layout layouts list (typed (Array t (Some n)) q) = ap (option_map (repeated n)) (qualified_layout layouts list t)
qualified_layout layouts list (typed (Struct s) q) = refl
qualified_layout layouts list (typed (Function t ps v) q) = refl

qualified_complete : (structs : List Structure) (list : List Qualifier) (t : CType) → is_complete structs (qualified list t) ≡ is_complete structs t
qualified_complete structs list (typed Void q) = refl
qualified_complete structs list (typed (Integer b) q) = refl
qualified_complete structs list (typed (Enum b d) q) = refl
qualified_complete structs list (typed (Pointer t) q) = refl
qualified_complete structs list (typed (Array t None) q) = refl
qualified_complete structs list (typed (Array t (Some n)) q) = qualified_complete structs list t
qualified_complete structs list (typed (Struct s) q) = refl
qualified_complete structs list (typed (Function t ps v) q) = refl

qualified_length : (structs : List Structure) (list : List Qualifier) (t : CType) (n : Option ℕ) → length_fits structs (qualified list t) n ≡ length_fits structs t n
qualified_length structs list t None = refl
qualified_length structs list t (Some n) =
    ap (λ l. nat_lt 0 n && is_some (option_and_then (λ l. within_limit l.size) (option_map (repeated n) l))) (qualified_layout (layout_in structs) list t)

pub qualified_possible : (structs : List Structure) (list : List Qualifier) (t : CType) → is_possible structs (qualified list t) ≡ is_possible structs t
qualified_possible structs list (typed Void q) = refl
qualified_possible structs list (typed (Integer b) q) = refl
qualified_possible structs list (typed (Enum b d) q) = refl
qualified_possible structs list (typed (Pointer t) q) = refl
qualified_possible structs list (typed (Array t n) q) =
    let whole = qualified_possible structs list t in
    let complete = qualified_complete structs list t in
    let fits = qualified_length structs list t n in
    λ i. (whole i && complete i) && fits i
qualified_possible structs list (typed (Struct s) q) = refl
qualified_possible structs list (typed (Function t ps v) q) = refl

-- ---- keywords

abbrev are_all_possible : List Structure → List Named → Bool
are_all_possible structs ns = list_all (λ n. is_possible_form structs n.form) ns

-- a type, where there is one, is possible
abbrev pub PossibleIfAny : List Structure → Option CType → Type 0
PossibleIfAny structs None = true ≡ true
PossibleIfAny structs (Some type) = is_possible structs type ≡ true

found_by : (structs : List Structure) (f : Form) (rest : Option Form) (b : Bool) → is_possible_form structs f ≡ true → PossibleIfAny structs (option_map plain rest) →
    PossibleIfAny structs (option_map plain (if b then Some f else rest))
found_by structs f rest true h k = h
found_by structs f rest false h k = k

found_possible : (structs : List Structure) (words : List TypeWord) (ns : List Named) → are_all_possible structs ns ≡ true →
    PossibleIfAny structs (option_map plain (find_named words ns))
found_possible structs words [] h = refl
found_possible structs words (n ∷ ns) h =
    let parts = and_parts (is_possible_form structs n.form) (are_all_possible structs ns) h in
    found_by structs n.form (find_named words ns) (same_words words n.words) parts.0 (found_possible structs words ns parts.1)

words_possible : (structs : List Structure) (words : List TypeWord) → PossibleIfAny structs (option_map plain (type_by_words words))
words_possible structs words = found_possible structs words (small_types ++ long_types) refl

-- ---- a list of specifiers

abbrev pub SpecifiedPossible : List Structure → Specified → Type 0
SpecifiedPossible structs given = PossibleIfAny structs given.type

either_possible : (structs : List Structure) (type : Option CType) (words : List Word) → PossibleIfAny structs type → PossibleIfAny structs (type_or_words type words)
either_possible structs (Some type) words h = h
either_possible structs None words h = words_possible structs (type_words words)

specified_possible : (structs : List Structure) (words : List Word) (type : Option CType) → PossibleIfAny structs type → IfOk (specified_by words type) (SpecifiedPossible structs)
specified_possible structs words None h = refl
specified_possible structs words (Some type) h =
    after_unless (SpecifiedPossible structs) (qualifier_fault (qualifiers_of words) type)
    (Ok (record { type = Some (qualified (qualifiers_of words) type); storage = storage_of words })) (λ n. qualified_possible structs (qualifiers_of words) type ∙ h)

pub specifiers_sound : (context : Context) (specs : syntax.Specs) (s : State) (parts : Answer (Option CType)) → GivesSound s PossibleIfAny parts →
    GivesSound s SpecifiedPossible (specifiers context specs parts)
specifiers_sound context specs s parts h =
    after_fault _ (words_fault context specs) _ (λ n.
    after PossibleIfAny SpecifiedPossible s parts _ h (λ type t behind p.
    by_rule SpecifiedPossible t t (specified type (words_of specs)) (behind_here t behind.sound)
    (specified_possible t.scopes.structs (words_of specs) (type_or_words type (words_of specs)) (either_possible t.scopes.structs type (words_of specs) p))))

-- ---- single specifiers

typedef_by : (name : Name) (b : Bool) (type : CType) (s : State) → are_sound s.scopes ≡ true → is_possible s.scopes.structs type ≡ true →
    GivesSound s PossibleType (type_if_typedef name b type s)
typedef_by name true type s h k = given PossibleType s type h k
typedef_by name false type s h k = tt

typedef_of : (name : Name) (id : Option ℕ) (o : Option Declared) (s : State) → are_sound s.scopes ≡ true → declared_as id s.scopes ≡ o →
    GivesSound s PossibleType (type_of_declared name o s)
typedef_of name id None s h e = tt
typedef_of name id (Some d) s h e =
    typedef_by name (is_typedef d.latest.kind) d.latest.ty s h
    (and_parts (is_possible s.scopes.structs d.latest.ty) (is_of_kind d.latest.kind (form_of_type d.latest.ty) d.latest.value) (declared_sound id s.scopes d h e)).0

pub typedef_sound : (name : Name) (s : State) → are_sound s.scopes ≡ true → GivesSound s PossibleType (typedef_type name s)
typedef_sound name s h = typedef_of name (look false name.text s.scopes) (declared_as (look false name.text s.scopes) s.scopes) s h refl

pub typeof_possible : (structs : List Structure) (word : TypeofWord) (type : CType) → is_possible structs type ≡ true → is_possible structs (typeof_type word type) ≡ true
typeof_possible structs Typeof type h = h
typeof_possible structs TypeofUnqual type h = unqualified_possible structs type ∙ h
