use Rattle.c_parser.proofs.UnitValues.{unit_value, not_none}
use Rattle.c_parser.proofs.unit.parse_terminals.Goals as goal

pub returns : goal.returns
returns c = unit_value _ _ _ _ _ c.in_ok-values.ensures c.in-Some.ensures

pub unreachable-requires : goal.unreachable-requires
unreachable-requires c = not_none _ _ _ c.in_ok-values.ensures c.in-None.ensures.0
