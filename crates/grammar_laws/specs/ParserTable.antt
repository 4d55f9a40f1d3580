-- The parser's own table: the grammar with its choices decided by the next token, by the scopes, or by a test of the
-- tokens ahead.
-- Without the tests it is the grammar.
use Rattle.std.specs.Prelude.{[], ◌∷◌}
use Rattle.model_grammar.specs.declared.grammar.Rule.{Rule}
use Rattle.model_grammar.specs.declared.grammar.Rule.TheVariants as r
use Rattle.model_grammar.specs.declared.grammar.Act.TheVariants as act
use Rattle.model_grammar.specs.declared.grammar.Test.TheVariants as test
use Rattle.model_grammar.specs.GrammarForm.{Form, word, rule, empty, ◌then◌, ◌or◌, maybe, many, when, loop}
use Rattle.model_grammar.specs.Terminals as k
use Rattle.model_grammar.specs.Grammar.{token, others}

unfoldable pub table : Rule → Form
table r.Unit = rule r.External then many (rule r.External)
table r.External = when test.FunctionAhead (rule r.Function) (rule r.Declaration)
table r.Function = rule r.Attrs then rule r.Specs then rule r.Declared then rule r.Body
table r.Declaration = when test.SpecifiersAhead (rule r.Attrs then rule r.Specs then maybe (rule r.Initdecl then many (word (k.Comma ∷ []) act.NextDeclarator then rule r.Initdecl)) then word (k.Semicolon ∷ []) act.EndDeclaration) (rule r.Sassert or rule r.Attr then rule r.Attrs then token k.Semicolon)
table r.Sassert =
    word (k.StaticAssert ∷ k.OldStaticAssert ∷ []) act.Pass then token k.OpenParenthesis then rule r.Cond
    then maybe (token k.Comma then token k.StringLiteral) then token k.CloseParenthesis then token k.Semicolon
table r.Attrs = many (rule r.Attr)
table r.Attr =
    word (k.OpenBracket ∷ []) act.Keep then word (k.OpenBracket ∷ []) act.Keep then rule r.Balanced
    then word (k.CloseBracket ∷ []) act.Keep then word (k.CloseBracket ∷ []) act.Keep
table r.Specs = rule r.Spec then many (rule r.Spec)
table r.Spec =
    rule r.Storage
    or rule r.Typespec
    or rule r.Qual
    or word (k.Inline ∷ k.Noreturn ∷ []) act.Specifier
table r.Storage =
    word (k.Typedef ∷ []) act.Typedef
    or word (k.Extern ∷ k.Static ∷ k.Auto ∷ k.Register ∷ k.Constexpr ∷ []) act.Specifier
table r.Typespec =
    word (k.Void ∷ k.Char ∷ k.Short ∷ k.Int ∷ k.Long ∷ k.Signed ∷ k.Unsigned ∷ k.Bool ∷ k.OldBool ∷ []) act.TypeSpecifier
    or rule r.Struct
    or rule r.Enum
    or word (k.TypedefName ∷ []) act.TypeSpecifier
    or rule r.Typeof
table r.Qual = word (k.Const ∷ k.Restrict ∷ k.Owner ∷ k.View ∷ k.Opt ∷ []) act.Specifier
table r.Squals = (rule r.Typespec or rule r.Qual) then loop test.TypeAhead (rule r.Typespec or rule r.Qual)
table r.Struct =
    word (k.Struct ∷ []) act.OpenSpecifier then rule r.Attrs
    then (word (k.Name ∷ k.TypedefName ∷ []) act.TypeSpecifier then when test.BraceAhead (rule r.Members) empty or rule r.Members)
table r.Members =
    word (k.OpenBrace ∷ []) act.Enclose then rule r.Member then many (rule r.Member)
    then word (k.CloseBrace ∷ []) act.TypeSpecifier
table r.Member =
    rule r.Attrs then rule r.Squals then rule r.Declarator then many (word (k.Comma ∷ []) act.NextDeclarator then rule r.Declarator) then token k.Semicolon
    or rule r.Sassert
table r.Enum =
    word (k.Enum ∷ []) act.OpenSpecifier then rule r.Attrs
    then when test.EnumeratorsAhead (maybe (word (k.Name ∷ k.TypedefName ∷ []) act.TypeSpecifier) then maybe (word (k.Colon ∷ []) act.AwaitBraces then rule r.Squals) then word (k.OpenBrace ∷ []) act.Enclose then rule r.Enumr then loop test.EnumeratorAhead (token k.Comma then rule r.Enumr) then maybe (token k.Comma) then word (k.CloseBrace ∷ []) act.TypeSpecifier) (word (k.Name ∷ k.TypedefName ∷ []) act.TypeSpecifier then maybe (token k.Colon then rule r.Squals))
table r.Enumr = token k.Name then rule r.Attrs then maybe (token k.Equals then rule r.Cond)
table r.Declarator =
    many (word (k.Star ∷ []) act.Pointer then rule r.Attrs then many (rule r.Qual)) then rule r.Direct
table r.Direct =
    (word (k.Name ∷ k.DeclaredName ∷ []) act.DeclaratorName then loop test.AttributeAhead (rule r.Attr) or word (k.OpenParenthesis ∷ []) act.OpenDeclarator then rule r.Declarator then word (k.CloseParenthesis ∷ []) act.CloseDeclarator)
    then many (rule r.Suffix)
table r.Suffix =
    word (k.OpenBracket ∷ []) act.OpenArray then maybe (rule r.Cond) then word (k.CloseBracket ∷ []) act.CloseArray then loop test.AttributeAhead (rule r.Attr)
    or word (k.OpenParenthesis ∷ []) act.OpenParameters then maybe (rule r.Params) then word (k.CloseParenthesis ∷ []) act.CloseParameters then loop test.AttributeAhead (rule r.Attr)
table r.Params =
    rule r.Param then loop test.ParameterAhead (word (k.Comma ∷ []) act.NextParameter then rule r.Param)
    then maybe (token k.Comma then token k.Ellipsis)
table r.Param =
    rule r.Attrs then rule r.ParamSpecs
    then maybe (when test.DeclaratorAhead (rule r.Declared) (rule r.Abstract))
table r.Typename = rule r.Squals then maybe (rule r.Abstract)
table r.Abstract =
    word (k.Star ∷ []) act.Pointer then loop test.AttributeAhead (rule r.Attr) then many (rule r.Qual) then maybe (rule r.Abstract)
    or rule r.Adirect
table r.Adirect =
    when test.AbstractAhead (word (k.OpenParenthesis ∷ []) act.OpenDeclarator then rule r.Abstract then word (k.CloseParenthesis ∷ []) act.CloseDeclarator) (rule r.Suffix)
    then many (rule r.Suffix)
table r.Initdecl = rule r.Declared then maybe (token k.Equals then rule r.Init)
table r.Init = rule r.Assign or rule r.Braces
table r.Braces =
    token k.OpenBrace
    then maybe (rule r.Item then loop test.ItemAhead (token k.Comma then rule r.Item) then maybe (token k.Comma))
    then token k.CloseBrace
table r.Item = maybe (rule r.Desig then many (rule r.Desig) then token k.Equals) then rule r.Init
table r.Desig =
    token k.OpenBracket then rule r.Cond then token k.CloseBracket
    or token k.Dot then word (k.Name ∷ k.TypedefName ∷ []) act.Pass
table r.Block =
    word (k.OpenBrace ∷ []) act.OpenBlock
    then many (when test.DeclarationAhead (rule r.Declaration) (when test.LabelAhead (rule r.Label) (rule r.Statement)))
    then word (k.CloseBrace ∷ []) act.CloseBlock
table r.Label = rule r.Attrs then (token k.Case then rule r.Cond or token k.Default) then token k.Colon
table r.Statement =
    rule r.Attrs
    then (rule r.Block or maybe (rule r.Expr) then token k.Semicolon or rule r.If or token k.Switch then token k.OpenParenthesis then rule r.Expr then token k.CloseParenthesis then rule r.Statement or token k.While then token k.OpenParenthesis then rule r.Expr then token k.CloseParenthesis then rule r.Statement or token k.Do then rule r.Statement then token k.While then token k.OpenParenthesis then rule r.Expr then token k.CloseParenthesis then token k.Semicolon or rule r.For or token k.Break then token k.Semicolon or token k.Continue then token k.Semicolon or token k.Return then maybe (rule r.Expr) then token k.Semicolon or token k.Defer then rule r.Statement)
table r.Expr = rule r.Assign then many (token k.Comma then rule r.Assign)
table r.Assign =
    rule r.Cond
    then maybe (word (k.Equals ∷ k.StarEquals ∷ k.SlashEquals ∷ k.PercentEquals ∷ k.PlusEquals ∷ k.MinusEquals ∷ k.ShiftLeftEquals ∷ k.ShiftRightEquals ∷ k.AmpersandEquals ∷ k.CaretEquals ∷ k.BarEquals ∷ []) act.Pass then rule r.Assign)
table r.Cond = rule r.Oror then maybe (token k.Question then rule r.Expr then token k.Colon then rule r.Cond)
table r.Oror = rule r.Andand then many (token k.BarBar then rule r.Andand)
table r.Andand = rule r.Bor then many (token k.AmpersandAmpersand then rule r.Bor)
table r.Bor = rule r.Bxor then many (token k.Bar then rule r.Bxor)
table r.Bxor = rule r.Band then many (token k.Caret then rule r.Band)
table r.Band = rule r.Equal then many (token k.Ampersand then rule r.Equal)
table r.Equal = rule r.Rel then many (word (k.EqualsEquals ∷ k.ExclamationEquals ∷ []) act.Pass then rule r.Rel)
table r.Rel =
    rule r.Shift
    then many (word (k.Less ∷ k.Greater ∷ k.LessEquals ∷ k.GreaterEquals ∷ []) act.Pass then rule r.Shift)
table r.Shift = rule r.Sum then many (word (k.ShiftLeft ∷ k.ShiftRight ∷ []) act.Pass then rule r.Sum)
table r.Sum = rule r.Product then many (word (k.Plus ∷ k.Minus ∷ []) act.Pass then rule r.Product)
table r.Product = rule r.Cast then many (word (k.Star ∷ k.Slash ∷ k.Percent ∷ []) act.Pass then rule r.Cast)
table r.Cast = when test.CastAhead (token k.OpenParenthesis then rule r.Typename then token k.CloseParenthesis then rule r.Cast) (rule r.Unary)
table r.Unary =
    rule r.Postfix
    or word (k.PlusPlus ∷ k.MinusMinus ∷ []) act.Pass then rule r.Unary
    or word (k.Ampersand ∷ k.Star ∷ k.Plus ∷ k.Minus ∷ k.Tilde ∷ k.Exclamation ∷ []) act.Pass then rule r.Cast
    or token k.Sizeof then when test.OperandAhead (rule r.Unary) (token k.OpenParenthesis then rule r.Typename then token k.CloseParenthesis)
    or word (k.Alignof ∷ k.OldAlignof ∷ []) act.Pass then token k.OpenParenthesis then rule r.Typename then token k.CloseParenthesis
table r.Postfix =
    rule r.Primary
    then many (token k.OpenBracket then rule r.Expr then token k.CloseBracket or token k.OpenParenthesis then maybe (rule r.Assign then many (token k.Comma then rule r.Assign)) then token k.CloseParenthesis or token k.Dot then word (k.Name ∷ k.TypedefName ∷ []) act.Pass or token k.Arrow then word (k.Name ∷ k.TypedefName ∷ []) act.Pass or word (k.PlusPlus ∷ k.MinusMinus ∷ []) act.Pass)
table r.Primary =
    token k.Name
    or token k.Integer
    or token k.StringLiteral
    or word (k.True ∷ k.False ∷ k.Nullptr ∷ []) act.Pass
    or when test.ParenthesizedExpression (token k.OpenParenthesis then rule r.Expr then token k.CloseParenthesis) (rule r.Literal)
table r.Literal =
    token k.OpenParenthesis then rule r.Typename then word (k.CloseParenthesis ∷ []) act.Keep
    then when test.HasParameters (rule r.Block) (rule r.Braces)
table r.Balanced = many (word others act.Keep or word (k.OpenParenthesis ∷ k.OpenBracket ∷ k.OpenBrace ∷ []) act.OpenBalanced or word (k.Closing ∷ []) act.CloseBalanced)
table r.Declared = rule r.Declarator
table r.ParamSpecs = rule r.Specs
table r.Body = rule r.Block
table r.Typeof =
    word (k.Typeof ∷ k.TypeofUnqual ∷ []) act.OpenSpecifier then word (k.OpenParenthesis ∷ []) act.Enclose
    then (rule r.Expr or rule r.Typename) then word (k.CloseParenthesis ∷ []) act.TypeSpecifier
table r.If =
    token k.If then word (k.OpenParenthesis ∷ []) act.OpenScope then maybe (rule r.Declaration)
    then rule r.Expr then token k.CloseParenthesis then rule r.Statement
    then when test.ElseAhead (token k.Else then rule r.Statement) empty
table r.For =
    token k.For then word (k.OpenParenthesis ∷ []) act.OpenScope
    then (rule r.Declaration or maybe (rule r.Expr) then token k.Semicolon) then maybe (rule r.Expr)
    then token k.Semicolon then maybe (rule r.Expr) then token k.CloseParenthesis then rule r.Statement
