-- The grammar of a translation unit (ISO/IEC 9899:2024, annex A.3, and what the language adds and leaves out). No
-- production looks ahead at tokens but two: `else` belongs to the nearest `if` (6.8.5.2), so the statement of an `if` has
-- it wherever it comes next; and a list of type specifiers and qualifiers has each that comes next, so behind the `:` of
-- an enumeration they are those of its type (6.7.3.3, paragraph 5). The other test asks the scopes whether a function's parameters stand next to the missing
-- name of a type name. Where an array may follow attributes, they stand one by one, as `Attrs` has them.
use Rattle.std.specs.Prelude.{ℕ, Bool, true, false, List, [], ◌∷◌}
use Rattle.model_grammar.specs.declared.grammar.Rule.{Rule}
use Rattle.model_grammar.specs.declared.grammar.Rule.TheVariants as r
use Rattle.model_grammar.specs.declared.grammar.Act.TheVariants as act
use Rattle.model_grammar.specs.declared.grammar.Test.TheVariants as test
use Rattle.model_grammar.specs.GrammarForm.{Form, word, rule, empty, ◌then◌, ◌or◌, maybe, many, when, loop}
use Rattle.model_grammar.specs.Terminals as k

-- a token of one kind that is no part of specifiers or of a declarator
abbrev pub token : ℕ → Form
token kind = word (kind ∷ []) act.Pass

-- what a type specifier or a qualifier begins with
abbrev pub type_kinds : List ℕ
type_kinds =
    k.Void ∷ k.Char ∷ k.Short ∷ k.Int ∷ k.Long ∷ k.Signed ∷ k.Unsigned ∷ k.Bool ∷ k.OldBool ∷ k.Typeof ∷
    k.TypeofUnqual ∷ k.Const ∷ k.Restrict ∷ k.Owner ∷ k.View ∷ k.Opt ∷ k.Struct ∷ k.Enum ∷ k.TypedefName ∷ []

-- any token but a bracket
abbrev pub others : List ℕ
others =
    k.StaticAssert ∷ k.OldStaticAssert ∷ k.Inline ∷ k.Noreturn ∷ k.Typedef ∷ k.Extern ∷ k.Static ∷ k.Auto ∷
    k.Register ∷ k.Constexpr ∷ k.Void ∷ k.Char ∷ k.Short ∷ k.Int ∷ k.Long ∷ k.Signed ∷ k.Unsigned ∷ k.Bool ∷
    k.OldBool ∷ k.Typeof ∷ k.TypeofUnqual ∷ k.Const ∷ k.Restrict ∷ k.Owner ∷ k.View ∷ k.Opt ∷ k.Struct ∷ k.Enum ∷
    k.Case ∷ k.Default ∷ k.If ∷ k.Else ∷ k.Switch ∷ k.While ∷ k.Do ∷ k.For ∷ k.Break ∷ k.Continue ∷ k.Return ∷
    k.Defer ∷ k.Sizeof ∷ k.Alignof ∷ k.OldAlignof ∷ k.True ∷ k.False ∷ k.Nullptr ∷ k.Alignas ∷ k.OldAlignas ∷
    k.Atomic ∷ k.BitInt ∷ k.Complex ∷ k.Decimal32 ∷ k.Decimal64 ∷ k.Decimal128 ∷ k.Double ∷ k.Float ∷ k.Generic ∷
    k.Goto ∷ k.Imaginary ∷ k.ThreadLocal ∷ k.OldThreadLocal ∷ k.Union ∷ k.Volatile ∷ k.Comma ∷ k.Semicolon ∷
    k.Colon ∷ k.Equals ∷ k.Star ∷ k.Ellipsis ∷ k.Dot ∷ k.StarEquals ∷ k.SlashEquals ∷ k.PercentEquals ∷
    k.PlusEquals ∷ k.MinusEquals ∷ k.ShiftLeftEquals ∷ k.ShiftRightEquals ∷ k.AmpersandEquals ∷ k.CaretEquals ∷
    k.BarEquals ∷ k.Question ∷ k.BarBar ∷ k.AmpersandAmpersand ∷ k.Bar ∷ k.Caret ∷ k.Ampersand ∷ k.EqualsEquals ∷
    k.ExclamationEquals ∷ k.Less ∷ k.Greater ∷ k.LessEquals ∷ k.GreaterEquals ∷ k.ShiftLeft ∷ k.ShiftRight ∷
    k.Plus ∷ k.Minus ∷ k.Slash ∷ k.Percent ∷ k.PlusPlus ∷ k.MinusMinus ∷ k.Tilde ∷ k.Exclamation ∷ k.Arrow ∷
    k.ColonColon ∷ k.Name ∷ k.TypedefName ∷ k.DeclaredName ∷ k.Integer ∷ k.StringLiteral ∷ []

-- the productions
unfoldable pub grammar : Rule → Form
grammar r.Unit = rule r.External then many (rule r.External)
grammar r.External = rule r.Function or rule r.Declaration
grammar r.Function = rule r.Attrs then rule r.Specs then rule r.Declared then rule r.Body
grammar r.Declaration =
    rule r.Attrs then rule r.Specs then maybe (rule r.Initdecl then many (word (k.Comma ∷ []) act.NextDeclarator then rule r.Initdecl)) then word (k.Semicolon ∷ []) act.EndDeclaration
    or rule r.Sassert
    or rule r.Attr then rule r.Attrs then token k.Semicolon
grammar r.Sassert =
    word (k.StaticAssert ∷ k.OldStaticAssert ∷ []) act.Pass then token k.OpenParenthesis then rule r.Cond
    then maybe (token k.Comma then token k.StringLiteral) then token k.CloseParenthesis then token k.Semicolon
grammar r.Attrs = many (rule r.Attr)
grammar r.Attr =
    word (k.OpenBracket ∷ []) act.Keep then word (k.OpenBracket ∷ []) act.Keep then rule r.Balanced
    then word (k.CloseBracket ∷ []) act.Keep then word (k.CloseBracket ∷ []) act.Keep
grammar r.Specs = rule r.Spec then many (rule r.Spec)
grammar r.Spec =
    rule r.Storage
    or rule r.Typespec
    or rule r.Qual
    or word (k.Inline ∷ k.Noreturn ∷ []) act.Specifier
grammar r.Storage =
    word (k.Typedef ∷ []) act.Typedef
    or word (k.Extern ∷ k.Static ∷ k.Auto ∷ k.Register ∷ k.Constexpr ∷ []) act.Specifier
grammar r.Typespec =
    word (k.Void ∷ k.Char ∷ k.Short ∷ k.Int ∷ k.Long ∷ k.Signed ∷ k.Unsigned ∷ k.Bool ∷ k.OldBool ∷ []) act.TypeSpecifier
    or rule r.Struct
    or rule r.Enum
    or word (k.TypedefName ∷ []) act.TypeSpecifier
    or rule r.Typeof
grammar r.Qual = word (k.Const ∷ k.Restrict ∷ k.Owner ∷ k.View ∷ k.Opt ∷ []) act.Specifier
grammar r.Squals = (rule r.Typespec or rule r.Qual) then loop test.TypeAhead (rule r.Typespec or rule r.Qual)
grammar r.Struct =
    word (k.Struct ∷ []) act.OpenSpecifier then rule r.Attrs
    then (word (k.Name ∷ k.TypedefName ∷ []) act.TypeSpecifier then maybe (rule r.Members) or rule r.Members)
grammar r.Members =
    word (k.OpenBrace ∷ []) act.Enclose then rule r.Member then many (rule r.Member)
    then word (k.CloseBrace ∷ []) act.TypeSpecifier
grammar r.Member =
    rule r.Attrs then rule r.Squals then rule r.Declarator then many (word (k.Comma ∷ []) act.NextDeclarator then rule r.Declarator) then token k.Semicolon
    or rule r.Sassert
grammar r.Enum =
    word (k.Enum ∷ []) act.OpenSpecifier then rule r.Attrs
    then (maybe (word (k.Name ∷ k.TypedefName ∷ []) act.TypeSpecifier) then maybe (word (k.Colon ∷ []) act.AwaitBraces then rule r.Squals) then word (k.OpenBrace ∷ []) act.Enclose then rule r.Enumr then many (token k.Comma then rule r.Enumr) then maybe (token k.Comma) then word (k.CloseBrace ∷ []) act.TypeSpecifier or word (k.Name ∷ k.TypedefName ∷ []) act.TypeSpecifier then maybe (token k.Colon then rule r.Squals))
grammar r.Enumr = token k.Name then rule r.Attrs then maybe (token k.Equals then rule r.Cond)
grammar r.Declarator =
    many (word (k.Star ∷ []) act.Pointer then rule r.Attrs then many (rule r.Qual)) then rule r.Direct
grammar r.Direct =
    (word (k.Name ∷ k.DeclaredName ∷ []) act.DeclaratorName then many (rule r.Attr) or word (k.OpenParenthesis ∷ []) act.OpenDeclarator then rule r.Declarator then word (k.CloseParenthesis ∷ []) act.CloseDeclarator)
    then many (rule r.Suffix)
grammar r.Suffix =
    word (k.OpenBracket ∷ []) act.OpenArray then maybe (rule r.Cond) then word (k.CloseBracket ∷ []) act.CloseArray then many (rule r.Attr)
    or word (k.OpenParenthesis ∷ []) act.OpenParameters then maybe (rule r.Params) then word (k.CloseParenthesis ∷ []) act.CloseParameters then many (rule r.Attr)
grammar r.Params =
    rule r.Param then many (word (k.Comma ∷ []) act.NextParameter then rule r.Param)
    then maybe (token k.Comma then token k.Ellipsis)
grammar r.Param = rule r.Attrs then rule r.ParamSpecs then maybe (rule r.Declared or rule r.Abstract)
grammar r.Typename = rule r.Squals then maybe (rule r.Abstract)
grammar r.Abstract =
    word (k.Star ∷ []) act.Pointer then many (rule r.Attr) then many (rule r.Qual) then maybe (rule r.Abstract)
    or rule r.Adirect
grammar r.Adirect =
    (word (k.OpenParenthesis ∷ []) act.OpenDeclarator then rule r.Abstract then word (k.CloseParenthesis ∷ []) act.CloseDeclarator or rule r.Suffix)
    then many (rule r.Suffix)
grammar r.Initdecl = rule r.Declared then maybe (token k.Equals then rule r.Init)
grammar r.Init = rule r.Assign or rule r.Braces
grammar r.Braces =
    token k.OpenBrace
    then maybe (rule r.Item then many (token k.Comma then rule r.Item) then maybe (token k.Comma))
    then token k.CloseBrace
grammar r.Item = maybe (rule r.Desig then many (rule r.Desig) then token k.Equals) then rule r.Init
grammar r.Desig =
    token k.OpenBracket then rule r.Cond then token k.CloseBracket
    or token k.Dot then word (k.Name ∷ k.TypedefName ∷ []) act.Pass
grammar r.Block =
    word (k.OpenBrace ∷ []) act.OpenBlock then many (rule r.Declaration or rule r.Label or rule r.Statement)
    then word (k.CloseBrace ∷ []) act.CloseBlock
grammar r.Label = rule r.Attrs then (token k.Case then rule r.Cond or token k.Default) then token k.Colon
grammar r.Statement =
    rule r.Attrs
    then (rule r.Block or maybe (rule r.Expr) then token k.Semicolon or rule r.If or token k.Switch then token k.OpenParenthesis then rule r.Expr then token k.CloseParenthesis then rule r.Statement or token k.While then token k.OpenParenthesis then rule r.Expr then token k.CloseParenthesis then rule r.Statement or token k.Do then rule r.Statement then token k.While then token k.OpenParenthesis then rule r.Expr then token k.CloseParenthesis then token k.Semicolon or rule r.For or token k.Break then token k.Semicolon or token k.Continue then token k.Semicolon or token k.Return then maybe (rule r.Expr) then token k.Semicolon or token k.Defer then rule r.Statement)
grammar r.Expr = rule r.Assign then many (token k.Comma then rule r.Assign)
grammar r.Assign =
    rule r.Cond
    then maybe (word (k.Equals ∷ k.StarEquals ∷ k.SlashEquals ∷ k.PercentEquals ∷ k.PlusEquals ∷ k.MinusEquals ∷ k.ShiftLeftEquals ∷ k.ShiftRightEquals ∷ k.AmpersandEquals ∷ k.CaretEquals ∷ k.BarEquals ∷ []) act.Pass then rule r.Assign)
grammar r.Cond = rule r.Oror then maybe (token k.Question then rule r.Expr then token k.Colon then rule r.Cond)
grammar r.Oror = rule r.Andand then many (token k.BarBar then rule r.Andand)
grammar r.Andand = rule r.Bor then many (token k.AmpersandAmpersand then rule r.Bor)
grammar r.Bor = rule r.Bxor then many (token k.Bar then rule r.Bxor)
grammar r.Bxor = rule r.Band then many (token k.Caret then rule r.Band)
grammar r.Band = rule r.Equal then many (token k.Ampersand then rule r.Equal)
grammar r.Equal = rule r.Rel then many (word (k.EqualsEquals ∷ k.ExclamationEquals ∷ []) act.Pass then rule r.Rel)
grammar r.Rel =
    rule r.Shift
    then many (word (k.Less ∷ k.Greater ∷ k.LessEquals ∷ k.GreaterEquals ∷ []) act.Pass then rule r.Shift)
grammar r.Shift = rule r.Sum then many (word (k.ShiftLeft ∷ k.ShiftRight ∷ []) act.Pass then rule r.Sum)
grammar r.Sum = rule r.Product then many (word (k.Plus ∷ k.Minus ∷ []) act.Pass then rule r.Product)
grammar r.Product = rule r.Cast then many (word (k.Star ∷ k.Slash ∷ k.Percent ∷ []) act.Pass then rule r.Cast)
grammar r.Cast =
    token k.OpenParenthesis then rule r.Typename then token k.CloseParenthesis then rule r.Cast
    or rule r.Unary
grammar r.Unary =
    rule r.Postfix
    or word (k.PlusPlus ∷ k.MinusMinus ∷ []) act.Pass then rule r.Unary
    or word (k.Ampersand ∷ k.Star ∷ k.Plus ∷ k.Minus ∷ k.Tilde ∷ k.Exclamation ∷ []) act.Pass then rule r.Cast
    or token k.Sizeof then (rule r.Unary or token k.OpenParenthesis then rule r.Typename then token k.CloseParenthesis)
    or word (k.Alignof ∷ k.OldAlignof ∷ []) act.Pass then token k.OpenParenthesis then rule r.Typename then token k.CloseParenthesis
grammar r.Postfix =
    rule r.Primary
    then many (token k.OpenBracket then rule r.Expr then token k.CloseBracket or token k.OpenParenthesis then maybe (rule r.Assign then many (token k.Comma then rule r.Assign)) then token k.CloseParenthesis or token k.Dot then word (k.Name ∷ k.TypedefName ∷ []) act.Pass or token k.Arrow then word (k.Name ∷ k.TypedefName ∷ []) act.Pass or word (k.PlusPlus ∷ k.MinusMinus ∷ []) act.Pass)
grammar r.Primary =
    token k.Name
    or token k.Integer
    or token k.StringLiteral
    or word (k.True ∷ k.False ∷ k.Nullptr ∷ []) act.Pass
    or token k.OpenParenthesis then rule r.Expr then token k.CloseParenthesis
    or rule r.Literal
grammar r.Literal =
    token k.OpenParenthesis then rule r.Typename then word (k.CloseParenthesis ∷ []) act.Keep
    then when test.HasParameters (rule r.Block) (rule r.Braces)
grammar r.Balanced = many (word others act.Keep or word (k.OpenParenthesis ∷ k.OpenBracket ∷ k.OpenBrace ∷ []) act.OpenBalanced or word (k.Closing ∷ []) act.CloseBalanced)
grammar r.Declared = rule r.Declarator
grammar r.ParamSpecs = rule r.Specs
grammar r.Body = rule r.Block
grammar r.Typeof =
    word (k.Typeof ∷ k.TypeofUnqual ∷ []) act.OpenSpecifier then word (k.OpenParenthesis ∷ []) act.Enclose
    then (rule r.Expr or rule r.Typename) then word (k.CloseParenthesis ∷ []) act.TypeSpecifier
grammar r.If =
    token k.If then word (k.OpenParenthesis ∷ []) act.OpenScope then maybe (rule r.Declaration)
    then rule r.Expr then token k.CloseParenthesis then rule r.Statement
    then when test.ElseAhead (token k.Else then rule r.Statement) empty
grammar r.For =
    token k.For then word (k.OpenParenthesis ∷ []) act.OpenScope
    then (rule r.Declaration or maybe (rule r.Expr) then token k.Semicolon) then maybe (rule r.Expr)
    then token k.Semicolon then maybe (rule r.Expr) then token k.CloseParenthesis then rule r.Statement

-- the nonterminals whose nesting is limited
unfoldable pub is_part : Rule → Bool
is_part r.Struct = true
is_part r.Enum = true
is_part r.Declarator = true
is_part r.Abstract = true
is_part r.Braces = true
is_part r.Block = true
is_part r.Statement = true
is_part r.Expr = true
is_part r.Assign = true
is_part r.Cond = true
is_part r.Cast = true
is_part r.Unary = true
is_part r.Typeof = true
is_part _ = false
