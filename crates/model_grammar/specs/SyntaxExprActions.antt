-- What the productions of expressions make of their symbols (ISO/IEC 9899:2024, 6.5).
use Rattle.std.specs.Prelude.{ℕ, ◌==◌, true, false, if◌then◌else◌, List, [], ◌∷◌, ◌++◌}
use Rattle.cake_base.specs.declared.places.Place.{Place}
use Rattle.model_types.specs.declared.numbers.BinOp.TheVariants as bin
use Rattle.model_types.specs.declared.operators.LogicOp.TheVariants as logic
use Rattle.model_types.specs.declared.operators.StepOp.{StepOp}
use Rattle.model_types.specs.declared.operators.StepOp.TheVariants as step
use Rattle.model_types.specs.declared.operators.StepSide.TheVariants.{Prefix, Postfix}
use Rattle.model_grammar.specs.declared.syntax.PrefixOp.TheVariants as prefix
use Rattle.model_grammar.specs.declared.syntax.Name.{Name}
use Rattle.model_tokens.specs.declared.tokens.CKind.{CKind}
use Rattle.model_tokens.specs.declared.tokens.CKind.TheVariants as content_of
use Rattle.model_grammar.specs.SyntaxForms as syntax
use Rattle.model_grammar.specs.SyntaxValues.{Meaning, nothing, a_token, an_expr, a_type_name, some_braces, a_block, spelled}
use Rattle.model_grammar.specs.Terminals as k

-- two operands with the sign between them
abbrev pub binary : ℕ → (left right : syntax.Expr) → Place → syntax.Expr
binary sign left right place =
    if sign == k.Comma then syntax.Comma left right place
    else if sign == k.BarBar then syntax.Logic logic.Or left right place
    else if sign == k.AmpersandAmpersand then syntax.Logic logic.And left right place
    else if sign == k.Bar then syntax.Binary bin.BitOr left right place
    else if sign == k.Caret then syntax.Binary bin.BitXor left right place
    else if sign == k.Ampersand then syntax.Binary bin.BitAnd left right place
    else if sign == k.EqualsEquals then syntax.Binary bin.Equal left right place
    else if sign == k.ExclamationEquals then syntax.Binary bin.NotEqual left right place
    else if sign == k.Less then syntax.Binary bin.Less left right place
    else if sign == k.Greater then syntax.Binary bin.Greater left right place
    else if sign == k.LessEquals then syntax.Binary bin.LessEqual left right place
    else if sign == k.GreaterEquals then syntax.Binary bin.GreaterEqual left right place
    else if sign == k.ShiftLeft then syntax.Binary bin.ShiftLeft left right place
    else if sign == k.ShiftRight then syntax.Binary bin.ShiftRight left right place
    else if sign == k.Plus then syntax.Binary bin.Add left right place
    else if sign == k.Minus then syntax.Binary bin.Sub left right place
    else if sign == k.Star then syntax.Binary bin.Mul left right place
    else if sign == k.Slash then syntax.Binary bin.Div left right place
    else syntax.Binary bin.Rem left right place

-- an assignment by the sign between its sides
abbrev pub assignment : ℕ → (left right : syntax.Expr) → Place → syntax.Expr
assignment sign left right place =
    if sign == k.Equals then syntax.Assign left right place
    else if sign == k.StarEquals then syntax.AssignBy bin.Mul left right place
    else if sign == k.SlashEquals then syntax.AssignBy bin.Div left right place
    else if sign == k.PercentEquals then syntax.AssignBy bin.Rem left right place
    else if sign == k.PlusEquals then syntax.AssignBy bin.Add left right place
    else if sign == k.MinusEquals then syntax.AssignBy bin.Sub left right place
    else if sign == k.ShiftLeftEquals then syntax.AssignBy bin.ShiftLeft left right place
    else if sign == k.ShiftRightEquals then syntax.AssignBy bin.ShiftRight left right place
    else if sign == k.AmpersandEquals then syntax.AssignBy bin.BitAnd left right place
    else if sign == k.CaretEquals then syntax.AssignBy bin.BitXor left right place
    else syntax.AssignBy bin.BitOr left right place

abbrev pub step_of : ℕ → StepOp
step_of sign = if sign == k.PlusPlus then step.Increment else step.Decrement

-- a sign, or `sizeof`, before an operand
abbrev pub prefixed : ℕ → syntax.Expr → Place → syntax.Expr
prefixed sign operand place =
    if sign == k.Sizeof then syntax.SizeofExpr operand place
    else if sign == k.PlusPlus then syntax.Step step.Increment Prefix operand place
    else if sign == k.MinusMinus then syntax.Step step.Decrement Prefix operand place
    else if sign == k.Ampersand then syntax.Unary prefix.Address operand place
    else if sign == k.Star then syntax.Unary prefix.Indirection operand place
    else if sign == k.Plus then syntax.Unary prefix.Plus operand place
    else if sign == k.Minus then syntax.Unary prefix.Minus operand place
    else if sign == k.Tilde then syntax.Unary prefix.Complement operand place
    else syntax.Unary prefix.Not operand place

abbrev pub measured : ℕ → syntax.TypeName → Place → syntax.Expr
measured sign name place = if sign == k.Sizeof then syntax.SizeofType name place else syntax.Alignof name place

-- operands with signs between them, from the left
abbrev pub chain : syntax.Expr → List Meaning → syntax.Expr
chain left (a_token sign content place ∷ an_expr right ∷ rest) = chain (binary sign left right place) rest
chain left _ = left

abbrev pub chained : List Meaning → Meaning
chained (an_expr first ∷ rest) = an_expr (chain first rest)
chained _ = nothing

abbrev pub assigned : List Meaning → Meaning
assigned (an_expr left ∷ a_token sign content place ∷ an_expr right ∷ []) = an_expr (assignment sign left right place)
assigned (an_expr expr ∷ []) = an_expr expr
assigned _ = nothing

abbrev pub conditional : List Meaning → Meaning
conditional (an_expr condition ∷ a_token question content place ∷ an_expr first ∷ a_token colon _ _ ∷ an_expr second ∷ []) = an_expr (syntax.Conditional condition first second place)
conditional (an_expr expr ∷ []) = an_expr expr
conditional _ = nothing

abbrev pub cast : List Meaning → Meaning
cast (a_token opening content place ∷ a_type_name name ∷ a_token closing _ _ ∷ an_expr operand ∷ []) = an_expr (syntax.Cast name operand place)
cast (an_expr expr ∷ []) = an_expr expr
cast _ = nothing

abbrev pub unary : List Meaning → Meaning
unary (an_expr expr ∷ []) = an_expr expr
unary (a_token sign content place ∷ an_expr operand ∷ []) = an_expr (prefixed sign operand place)
unary (a_token sign content place ∷ a_token opening _ _ ∷ a_type_name name ∷ a_token closing _ _ ∷ []) = an_expr (measured sign name place)
unary _ = nothing

-- what stands behind a primary, from the left; of a call, the arguments read so far
abbrev mutual
  pub postfix : syntax.Expr → List Meaning → syntax.Expr
  postfix expr (a_token sign content place ∷ rest) =
      if sign == k.OpenParenthesis then call expr place [] rest
      else if sign == k.OpenBracket then index expr place rest
      else if sign == k.Dot then member syntax.Member expr place rest
      else if sign == k.Arrow then member syntax.Arrow expr place rest
      else postfix (syntax.Step (step_of sign) Postfix expr place) rest
  postfix expr _ = expr

  pub call : syntax.Expr → Place → List syntax.Expr → List Meaning → syntax.Expr
  call expr place arguments (an_expr argument ∷ rest) = call expr place (arguments ++ argument ∷ []) rest
  call expr place arguments (a_token sign content _ ∷ rest) = if sign == k.Comma then call expr place arguments rest else postfix (syntax.Call expr (syntax.exprs arguments) place) rest
  call expr place arguments _ = expr

  pub index : syntax.Expr → Place → List Meaning → syntax.Expr
  index expr place (an_expr inside ∷ rest) = close (syntax.Index expr inside place) rest
  index expr place _ = expr

  pub member : (syntax.Expr → Name → Place → syntax.Expr) → syntax.Expr → Place → List Meaning → syntax.Expr
  member form expr place (a_token kind content at ∷ rest) = postfix (form expr (spelled content at) place) rest
  member form expr place _ = expr

  -- behind a `]`
  pub close : syntax.Expr → List Meaning → syntax.Expr
  close expr (a_token kind content at ∷ rest) = postfix expr rest
  close expr _ = expr

abbrev pub postfixed : List Meaning → Meaning
postfixed (an_expr first ∷ rest) = an_expr (postfix first rest)
postfixed _ = nothing

-- a word that is a constant
abbrev pub word_constant : ℕ → Place → syntax.Expr
word_constant kind place =
    if kind == k.True then syntax.Truth true place
    else if kind == k.False then syntax.Truth false place
    else syntax.Nullptr place

abbrev pub token_expr : ℕ → CKind → Place → syntax.Expr
token_expr kind (content_of.Name text) place = syntax.Identifier (spelled (content_of.Name text) place)
token_expr kind (content_of.Integer constant) place = syntax.Constant constant.value constant.basic place
token_expr kind (content_of.Text bytes) place = syntax.Text bytes place
token_expr kind _ place = word_constant kind place

abbrev pub primary : List Meaning → Meaning
primary (an_expr expr ∷ []) = an_expr expr
primary (a_token kind content place ∷ []) = an_expr (token_expr kind content place)
primary (a_token opening content place ∷ an_expr inner ∷ a_token closing _ _ ∷ []) = an_expr (syntax.Parenthesized inner place)
primary _ = nothing

abbrev pub literal : List Meaning → Meaning
literal (a_token opening content place ∷ a_type_name name ∷ a_token closing _ _ ∷ some_braces values ∷ []) = an_expr (syntax.CompoundLiteral name values place)
literal (a_token opening content place ∷ a_type_name name ∷ a_token closing _ _ ∷ a_block body ∷ []) = an_expr (syntax.FunctionLiteral name body place)
literal _ = nothing
