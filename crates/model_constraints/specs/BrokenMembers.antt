-- What `.` and `->` break (ISO/IEC 9899:2024, 6.5.3.4).
use Rattle.std.specs.Prelude.{ℕ, Bool, false, ◌&&◌, not, List, Option, Some, None}
use Rattle.std.specs.List.{list_any}
use Rattle.cake_base.specs.declared.places.Place.{Place}
use Rattle.model_types.specs.Types.{Form, form_of_type}
use Rattle.model_types.specs.Structures.{Member, Structure}
use Rattle.model_types.specs.Layout.{members_of_form}
use Rattle.model_types.specs.Texts.{same_text}
use Rattle.model_grammar.specs.declared.syntax.Name.{Name}
use Rattle.model_core.specs.CoreTypes.{pointee}
use Rattle.model_core.specs.TypedParts.{is_struct}
use Rattle.model_core.specs.TypedExpr.{form_of}
use Rattle.model_checking.specs.MadeCore.{meaning_type}
use Rattle.model_checking.specs.Meanings.{Meaning, Operand}
use Rattle.model_constraints.specs.Pairs.{Pairs, At, Beside}
use Rattle.model_constraints.specs.BrokenPointers.{points_to_complete}

-- a member of a name is among those of a structure, if that is complete
abbrev pub is_one_of : (name : List ℕ) → Option (List Member) → Bool
is_one_of name None = false
is_one_of name (Some members) = list_any (λ (m : Member). same_text m.name name) members

abbrev pub has_member : List Structure → Form → Name → Bool
has_member structs form name = is_one_of name.text (members_of_form structs form)

-- `.`: C09 at the operator where the left side is no structure; C13 at the name
abbrev pub broken_member : List Structure → (at : Place) → Meaning → Name → Pairs
broken_member structs at m name =
    Beside (At at 9 (not (is_struct (form_of_type (meaning_type m)))))
    (At name.place 13 (is_struct (form_of_type (meaning_type m)) && not (has_member structs (form_of_type (meaning_type m)) name)))

-- `->`: C12 at the left side, where it points to no complete object; C13 at the name
abbrev pub broken_arrow : List Structure → (pointer : Operand) → Name → Pairs
broken_arrow structs o name =
    Beside (At o.first 12 (not (points_to_complete structs (form_of o.value))))
    (At name.place 13 (points_to_complete structs (form_of o.value) && not (has_member structs (form_of_type (pointee (form_of o.value))) name)))
