-- What may follow each form of the grammar, and where no bracket is held open before a nonterminal.
use Rattle.std.proofs.Common.{◌≡◌, ℕ, Bool, true, not, ◌&&◌, ◌||◌, List, ◌++◌, refl}
use Rattle.model_grammar.specs.declared.grammar.Rule.{Rule}
use Rattle.model_grammar.specs.declared.grammar.Rule.TheVariants as r
use Rattle.model_grammar.specs.GrammarForm.{Form, word, rule, empty, ◌then◌, ◌or◌, maybe, many, when, loop, mem}
use Rattle.grammar_laws.specs.FirstTokens.{first, nullable}
use Rattle.grammar_laws.specs.apparatus.DecidedTable.{within, leads}
use Rattle.grammar_laws.specs.ParserTable.{table}
use Rattle.model_grammar.specs.Grammar.{grammar}
use Rattle.grammar_laws.specs.ParserSets.{tables, firsts, follows, hollow}
use Rattle.grammar_laws.proofs.derivations.ClearBrackets.{clear, is_balanced, holds}

-- of each nonterminal in the form its following tokens may follow; b says that no bracket is held open before the form
unfoldable pub flows : Form → List ℕ → Bool → Bool
flows (word ks a) F b = true
flows (rule n) F b = within tables F (follows n) && (b || is_balanced n)
flows empty F b = true
flows (f then g) F b = flows f (leads tables g F) b && flows g F (clear f b)
flows (f or g) F b = flows f F b && flows g F b
flows (maybe f) F b = flows f F b
flows (many f) F b = (not b || clear f b) && flows f (first tables f ++ F) b
flows (when p f g) F b = flows f F b && flows g F b
flows (loop p f) F b = (not b || clear f b) && flows f (first tables f ++ F) b

pub flow : (n : Rule) → flows (grammar n) (follows n) (not (is_balanced n)) ≡ true
unfolding flows clear holds is_balanced within mem first nullable leads table grammar firsts follows hollow
flow r.Unit = refl
flow r.External = refl
flow r.Function = refl
flow r.Declaration = refl
flow r.Sassert = refl
flow r.Attrs = refl
flow r.Attr = refl
flow r.Specs = refl
flow r.Spec = refl
flow r.Storage = refl
flow r.Typespec = refl
flow r.Qual = refl
flow r.Squals = refl
flow r.Struct = refl
flow r.Members = refl
flow r.Member = refl
flow r.Enum = refl
flow r.Enumr = refl
flow r.Declarator = refl
flow r.Direct = refl
flow r.Suffix = refl
flow r.Params = refl
flow r.Param = refl
flow r.Typename = refl
flow r.Abstract = refl
flow r.Adirect = refl
flow r.Initdecl = refl
flow r.Init = refl
flow r.Braces = refl
flow r.Item = refl
flow r.Desig = refl
flow r.Block = refl
flow r.Label = refl
flow r.Statement = refl
flow r.Expr = refl
flow r.Assign = refl
flow r.Cond = refl
flow r.Oror = refl
flow r.Andand = refl
flow r.Bor = refl
flow r.Bxor = refl
flow r.Band = refl
flow r.Equal = refl
flow r.Rel = refl
flow r.Shift = refl
flow r.Sum = refl
flow r.Product = refl
flow r.Cast = refl
flow r.Unary = refl
flow r.Postfix = refl
flow r.Primary = refl
flow r.Literal = refl
flow r.Balanced = refl
flow r.Declared = refl
flow r.ParamSpecs = refl
flow r.Body = refl
flow r.Typeof = refl
flow r.If = refl
flow r.For = refl
