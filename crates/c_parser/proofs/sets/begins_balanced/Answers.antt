use Rattle.model_grammar.specs.declared.grammar.Rule.TheVariants as r
use Rattle.model_grammar.specs.Grammar.{others}
use Rattle.grammar_laws.specs.ParserSets.{firsts}
use Rattle.c_parser.proofs.FirstKinds.{balanced, in_first, in_second, grouping}
use Rattle.c_parser.proofs.sets.begins_balanced.Goals as goal

pub returns-then-is_one : goal.returns-then-is_one
returns-then-is_one c = in_first c.args.ahead (firsts r.Balanced) others grouping _ (balanced c.args.ahead) c.is_one.ensures c.if-is_one.true

pub returns-else-is_one : goal.returns-else-is_one
returns-else-is_one c = in_second c.args.ahead (firsts r.Balanced) others grouping _ _ (balanced c.args.ahead) c.is_one.ensures c.if-is_one.false c.is_one-else-is_one.ensures
