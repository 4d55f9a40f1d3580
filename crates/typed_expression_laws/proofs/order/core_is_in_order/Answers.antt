use Rattle.typed_expression_laws.proofs.OrderedCores.{core_in_order}
use Rattle.typed_expression_laws.proofs.order.core_is_in_order.Goals as goal

pub returns : goal.returns
returns c = core_in_order
