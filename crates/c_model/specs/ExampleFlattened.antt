-- An expression with what it is flattened to.
use Rattle.model_types.specs.declared.numbers.BinOp.TheVariants.{Add}
use Rattle.model_core.specs.Core.{Expr}
use Rattle.model_core.specs.Program89 as text
use Rattle.c_model.specs.ExampleParts.{number, binary}
use Rattle.c_model.specs.ExampleTexts.{number89}

-- 1 + 2
abbrev pub sum : Expr
sum = binary Add (number 1) (number 2)

-- (1 + 2), behind no steps
abbrev pub sum89 : text.Expr
sum89 = text.Binary Add (number89 1) (number89 2)
