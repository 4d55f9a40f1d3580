-- The code's expressions and stages, as the reader's steps and the definitions have them.
use Rattle.std.specs.Prelude.{pos, List, Option, Some, None, map, reverse}
use Rattle.cake_cli.specs.declared.expression.Expr.{Expr}
use Rattle.cake_cli.specs.declared.expression.Expr.TheVariants.{Constant, Binary'}
use Rattle.cake_cli.specs.declared.expression.Waiting.{Waiting}
use Rattle.cake_cli.specs.declared.expression.Open.{Open}
use Rattle.cake_cli.specs.declared.expression.Enclosing.{Enclosing}
use Rattle.cake_cli.specs.declared.reader.Stage.{Stage}
use Rattle.cake_cli.specs.declared.reader.Stage.TheVariants.{Front, Operand, Operator, Tail, Whole}
use Rattle.cake_cli.specs.declared.reader.Reading.{Reading}
use Rattle.cake_cli.specs.declared.reader.Reading.TheVariants.{Stops, Reads}
use Rattle.model_core.specs.CoreTypes.{int_type}
use Rattle.model_core.specs.Core as source
use Rattle.model_core.specs.Program89 as target
use Rattle.cake_cli.specs.Reader as reader

abbrev pub expr_of : Expr → source.Expr
expr_of (Constant number mark) = source.Constant (pos number.value) int_type mark
expr_of (Binary' op p a q b mark) = source.Binary op (expr_of a) (expr_of b) mark

-- the expression of the text
abbrev pub target_of : Expr → target.Expr
target_of (Constant number mark) = target.Constant number.value target.Plain
target_of (Binary' op p a q b mark) = target.Binary op (target_of a) (target_of b)

abbrev pub waiting_of : Waiting → reader.Waiting
waiting_of w = record { op = w.op; left = expr_of w.left; place = w.place }

abbrev pub waiting_option : Option Waiting → Option reader.Waiting
waiting_option None = None
waiting_option (Some w) = Some (waiting_of w)

abbrev pub open_of : Open → reader.Open
open_of o = record { sum = waiting_option o.sum; product = waiting_option o.product }

abbrev pub enclosing_of : Enclosing → reader.Enclosing
enclosing_of around = record { here = open_of around.here; parenthesis = around.parenthesis }

-- the innermost is the last of the code's, and the first of the reader's
abbrev pub enclosings_of : List Enclosing → List reader.Enclosing
enclosings_of outer = reverse (map enclosing_of outer)

abbrev pub stage_of : Stage → reader.Stage
stage_of (Front count) = reader.Front count
stage_of (Operand here outer) = reader.Operand (open_of here) (enclosings_of outer.items)
stage_of (Operator e here outer) = reader.Operator (expr_of e) (open_of here) (enclosings_of outer.items)
stage_of (Tail e) = reader.Tail (expr_of e)
stage_of (Whole e) = reader.Whole (expr_of e)

abbrev pub stage_option : Option Stage → Option reader.Stage
stage_option None = None
stage_option (Some s) = Some (stage_of s)

abbrev pub reading_of : Reading → reader.Reading
reading_of (Stops place) = reader.Stops place
reading_of (Reads e) = reader.Reads (expr_of e)
