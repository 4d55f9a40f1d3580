-- Qualifiers put on a type (ISO/IEC 9899:2024, 6.7.4.1), those of ownership among them. An array hands them to its
-- elements; a function type has none.
use Rattle.std.specs.Prelude.{Bool, true, false, ◌&&◌, ◌||◌, not, List, [], ◌∷◌, Option, Some, None, if◌then◌else◌}
use Rattle.cake_base.specs.declared.places.Place.{Place}
use Rattle.cake_base.specs.declared.rules.Fault.{Fault}
use Rattle.model_types.specs.declared.types.Quals.{Quals}
use Rattle.model_types.specs.Types.{CType, typed, Array, Function}
use Rattle.model_core.specs.CoreTypes.{no_quals}
use Rattle.model_core.specs.TypedParts.{is_object_pointer}
use Rattle.model_grammar.specs.declared.syntax.Qualifier.{Qualifier}
use Rattle.model_grammar.specs.declared.syntax.QualifierWord.{QualifierWord}
use Rattle.model_grammar.specs.declared.syntax.QualifierWord.TheVariants.{Const, Restrict, Owner, View, Opt}
use Rattle.model_checking.specs.FaultsBeside.{fault_at}

abbrev pub with_qualifier : QualifierWord → Quals → Quals
with_qualifier Const quals = record quals { has_const = true }
with_qualifier Restrict quals = record quals { has_restrict = true }
with_qualifier Owner quals = record quals { has_owner = true }
with_qualifier View quals = record quals { has_view = true }
with_qualifier Opt quals = record quals { has_opt = true }

-- these qualifiers and those of a list
abbrev pub with_all : List Qualifier → Quals → Quals
with_all [] quals = quals
with_all (q ∷ qs) quals = with_all qs (with_qualifier q.word quals)

abbrev pub qualified : List Qualifier → CType → CType
qualified list (typed (Array element count) quals) = typed (Array (qualified list element) count) quals
qualified list (typed (Function result parameters is_variadic) quals) = typed (Function result parameters is_variadic) quals
qualified list (typed form quals) = typed form (with_all list quals)

-- the type with `const` besides; of an array, its elements
abbrev pub made_const : CType → CType
made_const (typed (Array element count) quals) = typed (Array (made_const element) count) quals
made_const (typed form quals) = typed form (with_qualifier Const quals)

-- ---- C29: `_Owner` or `_Opt` qualifies no pointer to an object, or `_Owner` and `_View` meet

abbrev pub is_of_ownership : QualifierWord → Bool
is_of_ownership Const = false
is_of_ownership Restrict = false
is_of_ownership Owner = true
is_of_ownership View = true
is_of_ownership Opt = true

-- the place of the first qualifier of ownership in a list
abbrev pub ownership_place : List Qualifier → Option Place
ownership_place [] = None
ownership_place (q ∷ qs) = if is_of_ownership q.word then Some q.place else ownership_place qs

-- `_Owner` and `_View` are both there
abbrev pub do_meet : Quals → Bool
do_meet quals = quals.has_owner && quals.has_view

-- `_Owner` or `_Opt` is there, which qualify pointers to objects alone
abbrev pub wants_pointer : Quals → Bool
wants_pointer quals = quals.has_owner || quals.has_opt

-- a list of qualifiers can't qualify the type
abbrev pub is_misplaced : List Qualifier → CType → Bool
is_misplaced list (typed (Array element count) quals) = is_misplaced list element
is_misplaced list (typed form quals) =
    (wants_pointer (with_all list no_quals) && not (is_object_pointer form)) || do_meet (with_all list quals)

-- C29 at the first qualifier of ownership in the list
abbrev pub qualifier_fault : List Qualifier → CType → Option Fault
qualifier_fault list type = if is_misplaced list type then fault_at (ownership_place list) 29 else None

-- C29 by the words of the list alone, whatever it qualifies
abbrev pub meeting_fault : List Qualifier → Option Fault
meeting_fault list = if do_meet (with_all list no_quals) then fault_at (ownership_place list) 29 else None
