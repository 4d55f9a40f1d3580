-- The scopes after a declaration (ISO/IEC 9899:2024, 6.2.1, 6.2.2, 6.2.7).
use Rattle.std.specs.Prelude.{ℕ, ◌+◌, Bool, true, false, if◌then◌else◌, List, [], ◌∷◌, ◌++◌, Option, Some, None}
use Rattle.model_scopes.specs.declared.declarations.Kind.{Kind}
use Rattle.cake_base.specs.declared.places.Place.{Place}
use Rattle.model_types.specs.Types.{CType}
use Rattle.model_scopes.specs.CompositeTypes.{composite, with_length}
use Rattle.model_scopes.specs.Declarations.{Value, Declaration, is_tag, has_linkage}
use Rattle.model_scopes.specs.Scopes.{Declared, Level, Scopes, changed}
use Rattle.model_scopes.specs.Binding.{bound_in}
use Rattle.model_scopes.specs.DeclarationRules.{shared_id}

-- a scope with one more name
abbrev pub with_name : (tag : Bool) → List ℕ → (id : ℕ) → Level → Level
with_name true name id l = record l { tags = l.tags ++ (name, id) ∷ [] }
with_name false name id l = record l { names = l.names ++ (name, id) ∷ [] }

abbrev pub with_name_if_new : Option ℕ → (tag : Bool) → List ℕ → (id : ℕ) → Level → Level
with_name_if_new (Some old) tag name id l = l
with_name_if_new None tag name id l = with_name tag name id l

-- a scope in which the name is declared
abbrev pub naming : (tag : Bool) → List ℕ → (id : ℕ) → Level → Level
naming tag name id l = with_name_if_new (bound_in tag name l) tag name id l

-- ---- the first declaration of an id

-- the place of a definition
abbrev pub defined_at : Declaration → Option Place
defined_at d = if d.defines then Some d.place else None

abbrev pub first_declared : Declaration → (scope : ℕ) → Declared
first_declared d scope = record {
  latest = d;
  before = None;
  scope = scope;
  first = d.place;
  defining = defined_at d;
  initialized = None;
  used = None;
}

abbrev pub with_linked : Bool → List ℕ → (id : ℕ) → List (List ℕ × ℕ) → List (List ℕ × ℕ)
with_linked true name id linked = linked ++ (name, id) ∷ []
with_linked false name id linked = linked

abbrev pub declare_first : Declaration → Scopes → Scopes
declare_first d s = record s {
  innermost = naming (is_tag d.kind) d.name s.ids s.innermost;
  linked = with_linked (has_linkage d) d.name s.ids s.linked;
  declared = s.declared ++ (s.ids, first_declared d s.innermost.number) ∷ [];
  ids = s.ids + 1;
}

-- ---- a later declaration of an id

-- a tag keeps its type, and an array its length where the later declaration has none
abbrev pub kept_type : Kind → CType → CType → CType
kept_type kind old new = if is_tag kind then old else with_length old new

abbrev pub joined : Option CType → CType → CType
joined None t = t
joined (Some u) t = composite u t

abbrev pub types_before : Bool → Declared → Option CType
types_before true old = Some (joined old.before old.latest.ty)
types_before false old = old.before

-- of two places, where there are any, the former
abbrev pub or_place : Option Place → Option Place → Option Place
or_place (Some place) other = Some place
or_place None other = other

abbrev pub redeclared : Declaration → (scope : ℕ) → Declared → Declared
redeclared d scope old = record {
  latest = record d { ty = kept_type d.kind old.latest.ty d.ty };
  before = types_before (has_linkage d) old;
  scope = scope;
  first = old.first;
  defining = or_place old.defining (defined_at d);
  initialized = old.initialized;
  used = old.used;
}

abbrev pub declare_again : Declaration → (id : ℕ) → Scopes → Scopes
declare_again d id s = record s {
  innermost = naming (is_tag d.kind) d.name id s.innermost;
  declared = changed (redeclared d s.innermost.number) id s.declared;
}

-- ---- a declaration

abbrev pub id_by : Option ℕ → Scopes → ℕ
id_by (Some id) s = id
id_by None s = s.ids

-- the id of a declaration: the one that it shares, or a new one
abbrev pub id_of : Declaration → Scopes → ℕ
id_of d s = id_by (shared_id d s) s

abbrev pub declare_by : Option ℕ → Declaration → Scopes → Scopes
declare_by (Some id) d s = declare_again d id s
declare_by None d s = declare_first d s

-- the scopes after a declaration
abbrev pub declare : Declaration → Scopes → Scopes
declare d s = declare_by (shared_id d s) d s

-- ---- after an initializer

abbrev pub settled : CType → Option Value → Declared → Declared
settled ty value old = record old { latest = record old.latest { ty = ty; value = value } }

abbrev pub settle : (id : ℕ) → CType → Option Value → Scopes → Scopes
settle id ty value s = record s { declared = changed (settled ty value) id s.declared }

-- with the place of the name in the declaration that has its initializer or body
abbrev pub initialized_at : Place → Declared → Declared
initialized_at place old = record old { initialized = or_place old.initialized (Some place) }

abbrev pub note_initialized : (id : ℕ) → Place → Scopes → Scopes
note_initialized id place s = record s { declared = changed (initialized_at place) id s.declared }

-- ---- the place that counts for an external name where units are joined

abbrev pub place_or : Option Place → Place → Place
place_or (Some place) other = place
place_or None other = other

-- that of its definition, else of the first tentative one, else of its first declaration
abbrev pub joint_place : Declared → Place
joint_place d = place_or d.initialized (place_or d.defining d.first)
