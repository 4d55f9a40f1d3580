-- Compound literals (ISO/IEC 9899:2024, 6.5.3.6): in a block an object of it that gets its values each time, at file scope
-- an object of static storage.
use Rattle.std.specs.Prelude.{Bool, true, false, ◌||◌, List, Option, Some, None}
use Rattle.cake_base.specs.declared.places.Place.{Place}
use Rattle.cake_base.specs.declared.rules.Fault.{Fault}
use Rattle.model_types.specs.declared.marks.Origin.TheVariants.{Written}
use Rattle.model_types.specs.declared.marks.Mark.{Mark}
use Rattle.model_types.specs.Types.{CType, form_of_type}
use Rattle.model_types.specs.Structures.{Structure}
use Rattle.model_types.specs.Layout.{is_complete}
use Rattle.model_scopes.specs.Scopes.{is_outermost}
use Rattle.model_core.specs.Core as unit
use Rattle.model_checking.specs.State.{Use, State, Answer, gives, then_do}
use Rattle.model_checking.specs.Meanings.{Meaning, a_place}
use Rattle.model_checking.specs.Parts.{GivenItems, in_braces}
use Rattle.model_checking.specs.Faults.{wants}
use Rattle.model_checking.specs.Literals.{with_made, made_object, with_automatic}
use Rattle.model_checking.specs.Initializing.{Initialized, initialized, is_without_length}

-- C22 at the first token of the type name: a complete type, or an array that gets its length from the braces
abbrev pub literal_fault : List Structure → (first : Place) → CType → Option Fault
literal_fault structs first type = wants (is_complete structs type || is_without_length (form_of_type type)) first 22

-- at file scope, or in a block
abbrev pub object_made : (is_static : Bool) → Use → Mark → Initialized → State → Answer Meaning
object_made true usage mark o s =
    gives (a_place (unit.Object s.scopes.ids o.type mark) None) (with_made (made_object usage s.scopes.ids mark o.type (Some o.values)) s)
object_made false usage mark o s =
    gives (a_place (unit.Literal Written s.scopes.ids o.type o.values mark) None)
    (with_automatic usage s.scopes.ids (with_made (made_object usage s.scopes.ids mark o.type None) s))

abbrev pub is_at_file_scope : State → Bool
is_at_file_scope s = is_outermost s.scopes.around

-- of a type that `literal_fault` lets pass, with the first token of its name, and the `{` of the values
abbrev pub compound_literal : Use → (first : Place) → Mark → CType → GivenItems → (brace : Place) → State → Answer Meaning
compound_literal usage first mark type items brace s =
    then_do (initialized (is_at_file_scope s) first mark.at type (in_braces items brace) s) (object_made (is_at_file_scope s) usage mark)
