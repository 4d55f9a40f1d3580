-- A measure for the recursion of a parser. No nonterminal of its table begins with itself, so each weighs more than its
-- right side, of which counts what may come before the first token.
use Rattle.std.specs.Prelude.{ℕ, ◌+◌, ◌≤◌, ◌≡◌, max, true, if◌then◌else◌, List}
use Rattle.model_grammar.specs.declared.grammar.Rule.{Rule}
use Rattle.model_grammar.specs.declared.grammar.Rule.TheVariants as r
use Rattle.model_grammar.specs.GrammarForm.{Form, word, rule, empty, ◌then◌, ◌or◌, maybe, many, when, loop}
use Rattle.grammar_laws.specs.FirstTokens.{nullable}
use Rattle.grammar_laws.specs.apparatus.DecidedTable.{decided}
use Rattle.grammar_laws.specs.ParserSets.{tables}

unfoldable pub rank : Rule → ℕ
rank r.Unit = 42
rank r.External = 37
rank r.Function = 31
rank r.Declaration = 32
rank r.Sassert = 6
rank r.Attrs = 11
rank r.Attr = 6
rank r.Specs = 25
rank r.Spec = 20
rank r.Storage = 6
rank r.Typespec = 14
rank r.Qual = 5
rank r.Squals = 20
rank r.Struct = 6
rank r.Members = 6
rank r.Member = 27
rank r.Enum = 6
rank r.Enumr = 6
rank r.Declarator = 13
rank r.Direct = 8
rank r.Suffix = 7
rank r.Params = 40
rank r.Param = 35
rank r.Typename = 25
rank r.Abstract = 18
rank r.Adirect = 13
rank r.Initdecl = 22
rank r.Init = 95
rank r.Braces = 6
rank r.Item = 100
rank r.Desig = 7
rank r.Block = 6
rank r.Label = 16
rank r.Statement = 104
rank r.Expr = 95
rank r.Assign = 90
rank r.Cond = 85
rank r.Oror = 80
rank r.Andand = 75
rank r.Bor = 70
rank r.Bxor = 65
rank r.Band = 60
rank r.Equal = 55
rank r.Rel = 50
rank r.Shift = 45
rank r.Sum = 40
rank r.Product = 35
rank r.Cast = 30
rank r.Unary = 25
rank r.Postfix = 20
rank r.Primary = 15
rank r.Literal = 6
rank r.Balanced = 8
rank r.Declared = 17
rank r.ParamSpecs = 29
rank r.Body = 10
rank r.Typeof = 6
rank r.If = 6
rank r.For = 6

unfoldable pub weight : Form → ℕ
weight (word ks a) = 1
weight (rule n) = rank n
weight empty = 1
weight (f then g) = (if nullable tables f then max (weight f) (weight g) else weight f) + 1
weight (f or g) = max (weight f) (weight g) + 1
weight (maybe f) = weight f + 1
weight (many f) = weight f + 1
weight (when p f g) = max (weight f) (weight g) + 1
weight (loop p f) = weight f + 1

-- what the heaviest form in it weighs
unfoldable pub heaviest : Form → ℕ
heaviest (word ks a) = 1
heaviest (rule n) = rank n
heaviest empty = 1
heaviest (f then g) = max (weight (f then g)) (max (heaviest f) (heaviest g))
heaviest (f or g) = max (weight (f or g)) (max (heaviest f) (heaviest g))
heaviest (maybe f) = max (weight f + 1) (heaviest f)
heaviest (many f) = max (weight f + 1) (heaviest f)
heaviest (when p f g) = max (weight (when p f g)) (max (heaviest f) (heaviest g))
heaviest (loop p f) = max (weight f + 1) (heaviest f)

-- one token, or a test, decides each choice in it, and no form in it weighs as much as a token does in the measure
abbrev pub IsWalkable : Form → Type 0
IsWalkable f = ((F : List ℕ) × (decided tables f F ≡ true)) × (heaviest f ≤ 255)
