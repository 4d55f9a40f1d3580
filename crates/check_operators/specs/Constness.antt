-- What a type's own parts say of whether it is const somewhere.
use Rattle.std.specs.Prelude.{Bool, true, false}
use Rattle.model_types.specs.declared.types.StructId.{StructId}
use Rattle.check_operators.specs.declared.constness.Constness.{Constness}
use Rattle.check_operators.specs.declared.constness.Constness.TheVariants.{Const, OfStructure, Variable}

-- by which structures are
abbrev pub is_const : (StructId → Bool) → Constness → Bool
is_const of_struct Const = true
is_const of_struct (OfStructure id) = of_struct id
is_const of_struct Variable = false
