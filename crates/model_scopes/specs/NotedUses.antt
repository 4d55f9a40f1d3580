-- Uses of internal functions that no declaration defines (ISO/IEC 9899:2024, 6.9.1).
use Rattle.std.specs.Prelude.{ℕ, nat_lt, Bool, true, false, ◌&&◌, not, if◌then◌else◌, List, [], ◌∷◌, Option, Some, None, option_map}
use Rattle.cake_base.specs.declared.places.Place.{Place}
use Rattle.cake_base.specs.declared.rules.Fault.{Fault}
use Rattle.model_scopes.specs.declared.declarations.Kind.{Kind}
use Rattle.model_scopes.specs.declared.declarations.Kind.TheVariants.{Object, Function, TypeName, Enumerator, Tag}
use Rattle.model_scopes.specs.declared.declarations.Linkage.{Linkage}
use Rattle.model_scopes.specs.declared.declarations.Linkage.TheVariants.{Absent, Internal, External}
use Rattle.model_scopes.specs.Scopes.{Declared, Scopes, changed, is_defined}
use Rattle.model_scopes.specs.DeclarationRules.{constraint_at}

-- of two places the one that comes before the other, or the former
abbrev pub first_place : Place → Place → Place
first_place p q = if nat_lt q.order p.order then q else p

abbrev pub first_of : Option Place → Option Place → Option Place
first_of None o = o
first_of (Some p) None = Some p
first_of (Some p) (Some q) = Some (first_place p q)

-- with one more use: of each id the first in place order is kept
abbrev pub used_at : Place → Declared → Declared
used_at place old = record old { used = first_of old.used (Some place) }

abbrev pub note_use : (id : ℕ) → Place → Scopes → Scopes
note_use id place s = record s { declared = changed (used_at place) id s.declared }

abbrev pub is_function_kind : Kind → Bool
is_function_kind Function = true
is_function_kind Object = false
is_function_kind TypeName = false
is_function_kind Enumerator = false
is_function_kind Tag = false

abbrev pub is_internal : Linkage → Bool
is_internal Internal = true
is_internal Absent = false
is_internal External = false

-- an internal function that no declaration defines
abbrev pub is_undefined : Declared → Bool
is_undefined d = is_function_kind d.latest.kind && is_internal d.latest.linkage && not (is_defined d)

-- the use that needs a definition that isn't there
abbrev pub unmet_use : Declared → Option Place
unmet_use d = if is_undefined d then d.used else None

-- the first of such uses in place order
abbrev pub first_undefined : List (ℕ × Declared) → Option Place
first_undefined [] = None
first_undefined (e ∷ es) = first_of (unmet_use e.1) (first_undefined es)

-- C08
abbrev pub unresolved : Scopes → Option Fault
unresolved s = option_map (λ p. constraint_at p 8) (first_undefined s.declared)
