use Rattle.std.proofs.Common.{ap, sym, subst, ◌∙◌}
use Rattle.syntax_actions.specs.Units.{unit_seen}
use Rattle.c_parser.specs.Parsing.{IsUnitValue}
use Rattle.c_parser.proofs.CallValues.{never_none}
use Rattle.c_parser.proofs.calls.parse.Goals as goal

pub unreachable-requires : goal.unreachable-requires
unreachable-requires c = never_none c.args.toks.now c.in-Ok.value (subst (λ ts. IsUnitValue c.args.toks.now ts c.in-Ok.value) (c.as_slice.ensures ∙ c.in_ok-tokens.ensures) c.in-Ok.ensures) (sym (ap unit_seen c.in-None.is) ∙ c.in_ok-tree-in-Ok.ensures)
