-- `sizeof` and `alignof` (ISO/IEC 9899:2024, 6.5.4.5): C22 where the type isn't complete.
use Rattle.std.specs.Prelude.{ℕ, pos, List, Result, Ok}
use Rattle.std.specs.Option.{unwrap_or}
use Rattle.cake_base.specs.declared.places.Place.{Place}
use Rattle.cake_base.specs.declared.rules.Fault.{Fault}
use Rattle.model_types.specs.declared.marks.Mark.{Mark}
use Rattle.model_types.specs.Types.{CType}
use Rattle.model_types.specs.Structures.{Structure}
use Rattle.model_types.specs.Layout.{is_complete, align_of}
use Rattle.model_core.specs.CoreTypes.{size_in}
use Rattle.model_core.specs.BuiltinTypes.{size_type}
use Rattle.model_checking.specs.State.{unless}
use Rattle.model_checking.specs.Meanings.{Meaning, a_value}
use Rattle.model_checking.specs.Faults.{wants}
use Rattle.model_checking.specs.MadeCore.{meaning_type, constant}

-- a measure of a complete type, at the first token of what is measured
abbrev pub measured : List Structure → Mark → (first : Place) → CType → (measure : ℕ) → Result Meaning Fault
measured structs mark first type measure =
    unless (wants (is_complete structs type) first 22) (Ok (a_value (constant (pos measure) size_type mark)))

abbrev pub size_of_name : List Structure → Mark → (first : Place) → CType → Result Meaning Fault
size_of_name structs mark first type = measured structs mark first type (size_in structs type)

abbrev pub size_of_operand : List Structure → Mark → (first : Place) → Meaning → Result Meaning Fault
size_of_operand structs mark first m = size_of_name structs mark first (meaning_type m)

abbrev pub alignment_of_name : List Structure → Mark → (first : Place) → CType → Result Meaning Fault
alignment_of_name structs mark first type = measured structs mark first type (unwrap_or (align_of structs type) 1)
