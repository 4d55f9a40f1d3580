use Rattle.typed_expression_laws.proofs.PublicLaws.{arguments_typed, arguments_fitting, arguments_counted}
use Rattle.typed_expression_laws.proofs.expressions.arguments_are_typed.Goals as goal

pub returns : goal.returns
returns c = record { typed = arguments_typed; fit = arguments_fitting; count = arguments_counted }
