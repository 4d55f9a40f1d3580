use Rattle.model_grammar.specs.declared.grammar.Rule.TheVariants as r
use Rattle.grammar_laws.specs.ParserSets.{firsts}
use Rattle.c_parser.proofs.FirstKinds.{statement, in_first, in_second, statement_starts}
use Rattle.c_parser.proofs.sets.begins_statement.Goals as goal

pub returns-then-is_one : goal.returns-then-is_one
returns-then-is_one c = in_first c.args.ahead (firsts r.Statement) statement_starts (firsts r.Expr) _ (statement c.args.ahead) c.is_one.ensures c.if-is_one.true

pub returns-else-is_one : goal.returns-else-is_one
returns-else-is_one c = in_second c.args.ahead (firsts r.Statement) statement_starts (firsts r.Expr) _ _ (statement c.args.ahead) c.is_one.ensures c.if-is_one.false c.begins_expression.ensures
