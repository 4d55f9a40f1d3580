-- What is declared stays sound: where a table grows, where a name is declared first, where a tag is declared again, and where
-- a use is noted.
use Rattle.std.proofs.Common.{◌≡◌, ◌∙◌, ap, sym, refl, ℕ, nat_eq, Bool, true, false, ◌&&◌, ◌||◌, not, List, [], ◌∷◌, ◌++◌, Option, Some, None, Ok, Err, if◌then◌else◌}
use Rattle.std.specs.List.{list_all}
use Rattle.std.proofs.lemmas.Bool.{and_parts, and_from, not-false}
use Rattle.std.proofs.lemmas.List.Folds.{list_all-append}
use Rattle.cake_base.specs.declared.places.Place.{Place}
use Rattle.model_types.specs.Types.{CType, Form, form_of_type}
use Rattle.model_types.specs.Structures.{Structure}
use Rattle.model_types.specs.Layout.{is_complete}
use Rattle.model_grammar.specs.declared.syntax.Name.{Name}
use Rattle.model_core.specs.PossibleTypes.{is_possible, length_fits, are_structures}
use Rattle.model_scopes.specs.declared.declarations.Kind.{Kind}
use Rattle.model_scopes.specs.declared.declarations.Kind.TheVariants.{Object, Function, TypeName, Enumerator, Tag}
use Rattle.model_scopes.specs.Declarations.{Value, Declaration, is_tag, is_typedef, has_linkage}
use Rattle.model_scopes.specs.Scopes.{Scopes, Declared, with_id, changed, with_struct, is_outermost}
use Rattle.model_scopes.specs.Binding.{here, declared_as}
use Rattle.model_scopes.specs.Declaring.{declare, declare_by, declare_first, declare_again, first_declared, redeclared}
use Rattle.model_scopes.specs.DeclarationRules.{has_prefix, clashes_with, may_repeat, broken_later, broken_rule}
use Rattle.model_scopes.specs.NotedUses.{used_at, note_use}
use Rattle.model_checking.specs.State.{State, in_scopes}
use Rattle.model_checking.specs.Tags.{tag_declaration, declared_unless, declared_tag}
use Rattle.typed_walk_laws.specs.SoundScopes.{is_of_kind, is_sound_declaration, are_sound}
use Rattle.typed_walk_laws.specs.Behind.{TypesKept, Behind, GivesSound}
use Rattle.typed_walk_laws.proofs.Tables.{kept_more, structures_more}

abbrev pub PossibleType : List Structure → CType → Type 0
PossibleType structs type = is_possible structs type ≡ true

-- ---- lists of what is declared

abbrev Entries : Type 0
Entries = List (ℕ × Declared)

abbrev is_sound_entry : List Structure → ℕ × Declared → Bool
is_sound_entry structs e = is_sound_declaration structs e.1.latest

pub declaration_kept : (a b : List Structure) (d : Declaration) → TypesKept a b → is_sound_declaration a d ≡ true → is_sound_declaration b d ≡ true
declaration_kept a b d k h =
    let parts = and_parts (is_possible a d.ty) (is_of_kind d.kind (form_of_type d.ty) d.value) h in
    and_from (is_possible b d.ty) (is_of_kind d.kind (form_of_type d.ty) d.value) (k.possible d.ty parts.0) parts.1

entries_kept : (a b : List Structure) (es : Entries) → TypesKept a b → list_all (is_sound_entry a) es ≡ true → list_all (is_sound_entry b) es ≡ true
entries_kept a b [] k h = refl
entries_kept a b (e ∷ es) k h =
    let parts = and_parts (is_sound_entry a e) (list_all (is_sound_entry a) es) h in
    and_from (is_sound_entry b e) (list_all (is_sound_entry b) es) (declaration_kept a b e.1.latest k parts.0) (entries_kept a b es k parts.1)

entry_by : (structs : List Structure) (id : ℕ) (e : ℕ × Declared) (es : Entries) (d : Declared) (b : Bool) → is_sound_entry structs e ≡ true →
    (with_id id es ≡ Some d → is_sound_declaration structs d.latest ≡ true) → (if b then Some e.1 else with_id id es) ≡ Some d → is_sound_declaration structs d.latest ≡ true
entry_by structs id e es d true h others q =
    let same : e.1 ≡ d = cc in
    ap (λ x. is_sound_declaration structs x.latest) (sym same) ∙ h
entry_by structs id e es d false h others q = others q

pub entry_of : (structs : List Structure) (id : ℕ) (es : Entries) (d : Declared) → list_all (is_sound_entry structs) es ≡ true → with_id id es ≡ Some d →
    is_sound_declaration structs d.latest ≡ true
entry_of structs id [] d h q = cc
entry_of structs id (e ∷ es) d h q =
    let parts = and_parts (is_sound_entry structs e) (list_all (is_sound_entry structs) es) h in
    entry_by structs id e es d (nat_eq id e.0) parts.0 (entry_of structs id es d parts.1) q

changed_at : (structs : List Structure) (f : Declared → Declared) (id : ℕ) (e : ℕ × Declared) (es : Entries) (b : Bool) → is_sound_entry structs e ≡ true →
    list_all (is_sound_entry structs) es ≡ true →
    ((d : Declared) → (if b then Some e.1 else with_id id es) ≡ Some d → is_sound_declaration structs (f d).latest ≡ true) →
    (((d : Declared) → with_id id es ≡ Some d → is_sound_declaration structs (f d).latest ≡ true) → list_all (is_sound_entry structs) (changed f id es) ≡ true) →
    list_all (is_sound_entry structs) (if b then (e.0, f e.1) ∷ es else e ∷ changed f id es) ≡ true
changed_at structs f id e es true h k new others = and_from (is_sound_declaration structs (f e.1).latest) (list_all (is_sound_entry structs) es) (new e.1 refl) k
changed_at structs f id e es false h k new others = and_from (is_sound_entry structs e) (list_all (is_sound_entry structs) (changed f id es)) h (others new)

pub changed_sound : (structs : List Structure) (f : Declared → Declared) (id : ℕ) (es : Entries) → list_all (is_sound_entry structs) es ≡ true →
    ((d : Declared) → with_id id es ≡ Some d → is_sound_declaration structs (f d).latest ≡ true) → list_all (is_sound_entry structs) (changed f id es) ≡ true
changed_sound structs f id [] h new = refl
changed_sound structs f id (e ∷ es) h new =
    let parts = and_parts (is_sound_entry structs e) (list_all (is_sound_entry structs) es) h in
    changed_at structs f id e es (nat_eq id e.0) parts.0 parts.1 new (changed_sound structs f id es parts.1)

appended : (structs : List Structure) (es : Entries) (e : ℕ × Declared) → list_all (is_sound_entry structs) es ≡ true → is_sound_entry structs e ≡ true →
    list_all (is_sound_entry structs) (es ++ e ∷ []) ≡ true
appended structs es e h k =
    list_all-append (is_sound_entry structs) es (e ∷ []) ∙
    and_from (list_all (is_sound_entry structs) es) (is_sound_entry structs e && true) h (and_from (is_sound_entry structs e) true k refl)

-- ---- scopes

pub record ScopesParts (s : Scopes) : Type 0 where
  pub structures : are_structures s.structs ≡ true
  pub entries : list_all (λ e. is_sound_declaration s.structs e.1.latest) s.declared ≡ true

pub scopes_parts : (s : Scopes) → are_sound s ≡ true → ScopesParts s
scopes_parts s h =
    let parts = and_parts (are_structures s.structs) (list_all (is_sound_entry s.structs) s.declared) h in
    record { structures = parts.0; entries = parts.1 }

scopes_from : (s : Scopes) → are_structures s.structs ≡ true → list_all (is_sound_entry s.structs) s.declared ≡ true → are_sound s ≡ true
scopes_from s h k = and_from (are_structures s.structs) (list_all (is_sound_entry s.structs) s.declared) h k

pub declared_sound : (id : Option ℕ) (s : Scopes) (d : Declared) → are_sound s ≡ true → declared_as id s ≡ Some d → is_sound_declaration s.structs d.latest ≡ true
declared_sound None s d h q = cc
declared_sound (Some id) s d h q = entry_of s.structs id s.declared d (scopes_parts s h).entries q

-- ---- one more structure

abbrev with_struct_added : Option (List ℕ) → Place → Scopes → Structure
with_struct_added tag place s = record { tag = tag; outer = is_outermost s.around; place = place; members = None }

pub with_struct_sound : (tag : Option (List ℕ)) (place : Place) (s : Scopes) → are_sound s ≡ true → are_sound (with_struct tag place s) ≡ true
with_struct_sound tag place s h =
    let parts = scopes_parts s h in
    let kept = kept_more s.structs (with_struct_added tag place s) refl in
    scopes_from (with_struct tag place s) (structures_more s.structs (with_struct_added tag place s) refl parts.structures)
    (entries_kept s.structs (with_struct tag place s).structs s.declared kept parts.entries)

-- ---- a use

pub note_use_sound : (id : ℕ) (place : Place) (s : Scopes) → are_sound s ≡ true → are_sound (note_use id place s) ≡ true
note_use_sound id place s h =
    let parts = scopes_parts s h in
    scopes_from (note_use id place s) parts.structures
    (changed_sound s.structs (used_at place) id s.declared parts.entries (λ d q. entry_of s.structs id s.declared d parts.entries q))

-- ---- names

pub declare_first_sound : (d : Declaration) (s : Scopes) → are_sound s ≡ true → is_sound_declaration s.structs d ≡ true → are_sound (declare_first d s) ≡ true
declare_first_sound d s h k =
    let parts = scopes_parts s h in
    scopes_from (declare_first d s) parts.structures (appended s.structs s.declared (s.ids, first_declared d s.innermost.number) parts.entries k)

-- ---- tags

-- what may be declared again by a tag is one
last_of : (a b c : Bool) → ((a && false) || (b && false) || (c && true)) ≡ true → c ≡ true
last_of a b true h = refl
last_of true true false h = h
last_of true false false h = h
last_of false true false h = h
last_of false false false h = h

tag_again_of_kind : (k : Kind) (form : Form) (value : Option Value) → is_tag k ≡ true → is_of_kind k form value ≡ true → is_of_kind Tag form None ≡ true
tag_again_of_kind Tag form value t h = h
tag_again_of_kind Object form value t h = cc
tag_again_of_kind Function form value t h = cc
tag_again_of_kind TypeName form value t h = cc
tag_again_of_kind Enumerator form value t h = cc

again_sound : (structs : List Structure) (scope : ℕ) (name : Name) (type : CType) (braces : Bool) (old : Declared) → is_sound_declaration structs old.latest ≡ true →
    clashes_with (tag_declaration name type braces) (Some old) ≡ false → is_sound_declaration structs (redeclared (tag_declaration name type braces) scope old).latest ≡ true
again_sound structs scope name type braces old h c =
    let d = tag_declaration name type braces in
    let parts = and_parts (is_possible structs old.latest.ty) (is_of_kind old.latest.kind (form_of_type old.latest.ty) old.latest.value) h in
    let tag = last_of (has_linkage old.latest) (is_typedef old.latest.kind) (is_tag old.latest.kind) (not-false (may_repeat old.latest d) c) in
    and_from (is_possible structs old.latest.ty) (is_of_kind Tag (form_of_type old.latest.ty) None) parts.0
    (tag_again_of_kind old.latest.kind (form_of_type old.latest.ty) old.latest.value tag parts.1)

tag_by : (name : Name) (type : CType) (braces : Bool) (shared : Option ℕ) (s : Scopes) → are_sound s ≡ true →
    is_sound_declaration s.structs (tag_declaration name type braces) ≡ true → clashes_with (tag_declaration name type braces) (declared_as shared s) ≡ false →
    are_sound (declare_by shared (tag_declaration name type braces) s) ≡ true
tag_by name type braces None s h k c = declare_first_sound (tag_declaration name type braces) s h k
tag_by name type braces (Some id) s h k c =
    let d = tag_declaration name type braces in
    let parts = scopes_parts s h in
    scopes_from (declare_again d id s) parts.structures
    (changed_sound s.structs (redeclared d s.innermost.number) id s.declared parts.entries (λ old q.
    again_sound s.structs s.innermost.number name type braces old (entry_of s.structs id s.declared old parts.entries q) (ap (clashes_with d) (sym q) ∙ c)))

-- a declaration leaves the structures as they are
declared_structs : (shared : Option ℕ) (d : Declaration) (s : Scopes) → (declare_by shared d s).structs ≡ s.structs
declared_structs None d s = refl
declared_structs (Some id) d s = refl

kept_same : (a b : List Structure) → b ≡ a → TypesKept a b
kept_same a b e = record {
  possible = λ t h. ap (λ structs. is_possible structs t) e ∙ h;
  complete = λ t h. ap (λ structs. is_complete structs t) e ∙ h;
  length = λ t n h. ap (λ structs. length_fits structs t n) e ∙ h;
}

-- a declaration that breaks nothing clashes with none
unclashing : (prefixed clashes : Bool) (later : Option ℕ) → (if prefixed then Some 1 else if clashes then Some 2 else later) ≡ None → clashes ≡ false
unclashing true clashes later h = cc
unclashing false true later h = cc
unclashing false false later h = refl

declared_by_rule : (name : Name) (type : CType) (braces : Bool) (s : State) (rule : Option ℕ) → are_sound s.scopes ≡ true →
    is_sound_declaration s.scopes.structs (tag_declaration name type braces) ≡ true → broken_rule (tag_declaration name type braces) s.scopes ≡ rule →
    GivesSound s PossibleType (declared_unless rule (tag_declaration name type braces) s)
declared_by_rule name type braces s (Some rule) h k r = tt
declared_by_rule name type braces s None h k r =
    let d = tag_declaration name type braces in
    let shared = here true name.text s.scopes in
    let free = unclashing (has_prefix name.text) (clashes_with d (declared_as shared s.scopes)) (broken_later d (declared_as shared s.scopes)) r in
    let same = declared_structs shared d s.scopes in (
      record { sound = tag_by name type braces shared s.scopes h k free; kept = kept_same s.scopes.structs (declare d s.scopes).structs same },
      ap (λ structs. is_possible structs type) same ∙ (and_parts (is_possible s.scopes.structs type) (is_of_kind Tag (form_of_type type) None) k).0,
    )

pub declared_tag_sound : (name : Name) (type : CType) (braces : Bool) (s : State) → are_sound s.scopes ≡ true →
    is_sound_declaration s.scopes.structs (tag_declaration name type braces) ≡ true → GivesSound s PossibleType (declared_tag (tag_declaration name type braces) s)
declared_tag_sound name type braces s h k = declared_by_rule name type braces s (broken_rule (tag_declaration name type braces) s.scopes) h k refl
