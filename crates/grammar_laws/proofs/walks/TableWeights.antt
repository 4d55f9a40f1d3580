-- Each nonterminal of the parser's table weighs more than its right side, and none is heavy.
use Rattle.std.proofs.Common.{◌≤◌, ◌<◌, arith}
use Rattle.model_grammar.specs.declared.grammar.Rule.{Rule}
use Rattle.model_grammar.specs.declared.grammar.Rule.TheVariants as r
use Rattle.grammar_laws.specs.FirstTokens.{nullable}
use Rattle.grammar_laws.specs.ParserSets.{hollow}
use Rattle.grammar_laws.specs.ParserTable.{table}
use Rattle.grammar_laws.specs.apparatus.LeftWeights.{rank, weight, heaviest}

pub lighter : (rule : Rule) → weight (table rule) < rank rule
unfolding weight rank table nullable hollow
lighter r.Unit = omega arith
lighter r.External = omega arith
lighter r.Function = omega arith
lighter r.Declaration = omega arith
lighter r.Sassert = omega arith
lighter r.Attrs = omega arith
lighter r.Attr = omega arith
lighter r.Specs = omega arith
lighter r.Spec = omega arith
lighter r.Storage = omega arith
lighter r.Typespec = omega arith
lighter r.Qual = omega arith
lighter r.Squals = omega arith
lighter r.Struct = omega arith
lighter r.Members = omega arith
lighter r.Member = omega arith
lighter r.Enum = omega arith
lighter r.Enumr = omega arith
lighter r.Declarator = omega arith
lighter r.Direct = omega arith
lighter r.Suffix = omega arith
lighter r.Params = omega arith
lighter r.Param = omega arith
lighter r.Typename = omega arith
lighter r.Abstract = omega arith
lighter r.Adirect = omega arith
lighter r.Initdecl = omega arith
lighter r.Init = omega arith
lighter r.Braces = omega arith
lighter r.Item = omega arith
lighter r.Desig = omega arith
lighter r.Block = omega arith
lighter r.Label = omega arith
lighter r.Statement = omega arith
lighter r.Expr = omega arith
lighter r.Assign = omega arith
lighter r.Cond = omega arith
lighter r.Oror = omega arith
lighter r.Andand = omega arith
lighter r.Bor = omega arith
lighter r.Bxor = omega arith
lighter r.Band = omega arith
lighter r.Equal = omega arith
lighter r.Rel = omega arith
lighter r.Shift = omega arith
lighter r.Sum = omega arith
lighter r.Product = omega arith
lighter r.Cast = omega arith
lighter r.Unary = omega arith
lighter r.Postfix = omega arith
lighter r.Primary = omega arith
lighter r.Literal = omega arith
lighter r.Balanced = omega arith
lighter r.Declared = omega arith
lighter r.ParamSpecs = omega arith
lighter r.Body = omega arith
lighter r.Typeof = omega arith
lighter r.If = omega arith
lighter r.For = omega arith

pub small : (rule : Rule) → heaviest (table rule) ≤ 255
unfolding heaviest weight rank table nullable hollow
small r.Unit = omega arith
small r.External = omega arith
small r.Function = omega arith
small r.Declaration = omega arith
small r.Sassert = omega arith
small r.Attrs = omega arith
small r.Attr = omega arith
small r.Specs = omega arith
small r.Spec = omega arith
small r.Storage = omega arith
small r.Typespec = omega arith
small r.Qual = omega arith
small r.Squals = omega arith
small r.Struct = omega arith
small r.Members = omega arith
small r.Member = omega arith
small r.Enum = omega arith
small r.Enumr = omega arith
small r.Declarator = omega arith
small r.Direct = omega arith
small r.Suffix = omega arith
small r.Params = omega arith
small r.Param = omega arith
small r.Typename = omega arith
small r.Abstract = omega arith
small r.Adirect = omega arith
small r.Initdecl = omega arith
small r.Init = omega arith
small r.Braces = omega arith
small r.Item = omega arith
small r.Desig = omega arith
small r.Block = omega arith
small r.Label = omega arith
small r.Statement = omega arith
small r.Expr = omega arith
small r.Assign = omega arith
small r.Cond = omega arith
small r.Oror = omega arith
small r.Andand = omega arith
small r.Bor = omega arith
small r.Bxor = omega arith
small r.Band = omega arith
small r.Equal = omega arith
small r.Rel = omega arith
small r.Shift = omega arith
small r.Sum = omega arith
small r.Product = omega arith
small r.Cast = omega arith
small r.Unary = omega arith
small r.Postfix = omega arith
small r.Primary = omega arith
small r.Literal = omega arith
small r.Balanced = omega arith
small r.Declared = omega arith
small r.ParamSpecs = omega arith
small r.Body = omega arith
small r.Typeof = omega arith
small r.If = omega arith
small r.For = omega arith
