-- Members of structures (ISO/IEC 9899:2024, 6.5.3.4): C09, C12 and C13.
use Rattle.std.specs.Prelude.{ℕ, ◌+◌, if◌then◌else◌, List, [], ◌∷◌, Option, Some, None, Result, Ok}
use Rattle.cake_base.specs.declared.rules.Fault.{Fault}
use Rattle.model_types.specs.declared.marks.Mark.{Mark}
use Rattle.model_types.specs.Types.{CType, Form, form_of_type, quals_of_type}
use Rattle.model_types.specs.Structures.{Member, Structure}
use Rattle.model_types.specs.Layout.{members_of_form}
use Rattle.model_types.specs.Texts.{same_text}
use Rattle.model_grammar.specs.declared.syntax.Name.{Name}
use Rattle.model_core.specs.CoreTypes.{pointee}
use Rattle.model_core.specs.TypedParts.{is_array, is_struct}
use Rattle.model_core.specs.MemberTypes.{member_type}
use Rattle.model_core.specs.Core as unit
use Rattle.model_checking.specs.State.{Use, State, Answer, gives, breaks, unless}
use Rattle.model_checking.specs.Meanings.{Meaning, a_place, a_value, a_function, a_target, Operand}
use Rattle.model_checking.specs.Faults.{wants}
use Rattle.model_checking.specs.MadeCore.{meaning_type, operand_form}
use Rattle.model_checking.specs.HeldValues.{held, with_held}
use Rattle.model_checking.specs.PointerRules.{points_to_object}

-- a member with its rank
pub record Ranked : Type 0 where
  pub rank : ℕ
  pub type : CType

abbrev pub ranked_from : (rank : ℕ) → (name : List ℕ) → List Member → Option Ranked
ranked_from rank name [] = None
ranked_from rank name (m ∷ ms) = if same_text m.name name then Some (record { rank = rank; type = m.ty }) else ranked_from (rank + 1) name ms

abbrev pub ranked_in : (name : List ℕ) → Option (List Member) → Option Ranked
ranked_in name None = None
ranked_in name (Some members) = ranked_from 0 name members

-- the member of a name of a complete structure
abbrev pub member_of : List Structure → Form → (name : List ℕ) → Option Ranked
member_of structs form name = ranked_in name (members_of_form structs form)

-- ---- `.`

abbrev pub field : unit.Lvalue → Name → Mark → Ranked → Meaning
field object name mark m =
    a_place (unit.Field object m.rank (member_type (quals_of_type (meaning_type (a_place object None))) m.type) name.place mark) None

-- an array of a structure's value is one of an object that holds the value for a while (6.2.4)
abbrev pub value_member : Use → unit.Expr → Name → Mark → Ranked → State → Answer Meaning
value_member usage e name mark m s =
    if is_array (form_of_type m.type) then gives (field (held s.scopes.ids e) name mark m) (with_held usage e s)
    else gives (a_value (unit.MemberValue e m.rank m.type name.place mark)) s

abbrev pub member_as : Use → Meaning → Name → Mark → Option Ranked → State → Answer Meaning
member_as usage (a_place object known) name mark (Some m) s = gives (field object name mark m) s
member_as usage (a_value e) name mark (Some m) s = value_member usage e name mark m s
member_as usage (a_function id type by_name at) name mark (Some m) s = breaks mark.at 9
member_as usage (a_target pointer) name mark (Some m) s = breaks mark.at 9
member_as usage structure name mark None s = breaks name.place 13

-- C09 where the left side is no structure; C13 where it has no such member, or isn't complete
abbrev pub member : Use → Meaning → Name → Mark → State → Answer Meaning
member usage structure name mark s =
    unless (wants (is_struct (form_of_type (meaning_type structure))) mark.at 9)
    (member_as usage structure name mark (member_of s.scopes.structs (form_of_type (meaning_type structure)) name.text) s)

-- ---- `->`

abbrev pub arrow_place : Operand → Name → Mark → Option Ranked → Result Meaning Fault
arrow_place o name mark None = breaks name.place 13
arrow_place o name mark (Some m) =
    Ok (a_place (unit.Arrow o.value m.rank (member_type (quals_of_type (pointee (operand_form o))) m.type) name.place mark) None)

-- C12 where the left side points to no complete object
abbrev pub arrow : List Structure → (pointer : Operand) → Name → Mark → Result Meaning Fault
arrow structs o name mark =
    unless (wants (points_to_object structs (operand_form o)) o.first 12)
    (arrow_place o name mark (member_of structs (form_of_type (pointee (operand_form o))) name.text))
