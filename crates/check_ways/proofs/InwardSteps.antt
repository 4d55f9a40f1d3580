-- How far inward an object's subobjects lie, which the search counts down.
use Rattle.std.specs.Prelude.{ℕ, zero, suc, ◌+◌, List, Option, Some, None}
use Rattle.model_types.specs.declared.types.StructId.{StructId}
use Rattle.model_types.specs.Types.{CType, typed, Form, Array, Struct}
use Rattle.model_types.specs.Structures.{Structure}
use Rattle.model_checking.specs.Ways.{Step, step}

abbrev mutual
  pub inward_steps : (given : CType → StructId → ℕ) → CType → ℕ
  inward_steps given (typed form quals) = 2 + form_steps given (typed form quals) form

  pub form_steps : (given : CType → StructId → ℕ) → (whole : CType) → Form → ℕ
  form_steps given whole (Array type length) = inward_steps given type
  form_steps given whole (Struct id) = given whole id
  form_steps given whole form = 0

abbrev pub part_steps : (given : CType → StructId → ℕ) → Option Step → ℕ
part_steps given None = 0
part_steps given (Some last) = 1 + inward_steps given last.part

abbrev pub struct_steps : List Structure → (depth : ℕ) → (whole : CType) → StructId → ℕ
struct_steps structs zero whole id = 0
struct_steps structs (suc depth) whole id = part_steps (struct_steps structs depth) (step structs whole 0)
