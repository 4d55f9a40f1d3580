-- How an object is loaded and stored (ISO/IEC 9899:2024, 6.2.5, 6.3.3.1): as an integer, as a pointer, or
-- as a structure.
use Rattle.std.specs.Prelude.{ℕ}
use Rattle.model_types.specs.declared.numbers.Basic.{Basic}
use Rattle.model_types.specs.Layout.{basic_size}

pub data Shape : Type 0 where
  IntegerShape : (basic : Basic) → Shape
  PointerShape : Shape
  StructShape : (size : ℕ) → Shape

-- how many bytes an object of the shape has
abbrev pub shape_size : Shape → ℕ
shape_size (IntegerShape basic) = basic_size basic
shape_size PointerShape = 8
shape_size (StructShape size) = size
