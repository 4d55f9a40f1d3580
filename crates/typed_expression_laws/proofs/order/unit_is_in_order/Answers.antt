use Rattle.typed_expression_laws.proofs.OrderedCores.{unit_in_order}
use Rattle.typed_expression_laws.proofs.order.unit_is_in_order.Goals as goal

pub returns : goal.returns
returns c = unit_in_order
