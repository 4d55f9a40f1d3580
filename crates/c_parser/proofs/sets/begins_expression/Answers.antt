use Rattle.model_grammar.specs.declared.grammar.Rule.TheVariants as r
use Rattle.grammar_laws.specs.ParserSets.{firsts}
use Rattle.c_parser.proofs.FirstKinds.{expression, in_first, in_second, unary_operators}
use Rattle.c_parser.proofs.sets.begins_expression.Goals as goal

pub returns-then-is_one : goal.returns-then-is_one
returns-then-is_one c = in_first c.args.ahead (firsts r.Expr) unary_operators (firsts r.Primary) _ (expression c.args.ahead) c.is_one.ensures c.if-is_one.true

pub returns-else-is_one : goal.returns-else-is_one
returns-else-is_one c = in_second c.args.ahead (firsts r.Expr) unary_operators (firsts r.Primary) _ _ (expression c.args.ahead) c.is_one.ensures c.if-is_one.false c.begins_primary.ensures
