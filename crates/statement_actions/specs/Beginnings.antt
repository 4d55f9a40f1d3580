-- What the parentheses of a `for` begin with, and what the statement behind them makes.
use Rattle.std.specs.Prelude.{List, [], ◌∷◌}
use Rattle.model_types.specs.declared.marks.Span.{Span}
use Rattle.model_grammar.specs.SyntaxForms as syntax
use Rattle.model_grammar.specs.SyntaxStatementActions as s
use Rattle.model_grammar.specs.SyntaxValues.{Meaning, nothing, a_statement}
use Rattle.c_tree.specs.SyntaxViews.{maybe_expr_of}
use Rattle.statement_actions.specs.declared.beginnings.Beginning.{Beginning}
use Rattle.statement_actions.specs.declared.beginnings.Beginning.TheVariants as beginning

-- the `for` that begins so
abbrev pub for_form : Span → Beginning → syntax.MaybeExpr → syntax.MaybeExpr → syntax.Statement → syntax.Statement
for_form span (beginning.Declaration d) condition step body = s.with_declaration span d condition step body
for_form span (beginning.Expr first) condition step body = s.with_span span (maybe_expr_of first) condition step body

-- behind the `)`
abbrev pub body_behind : (syntax.Statement → syntax.Statement) → List Meaning → Meaning
body_behind form (a_statement body ∷ []) = a_statement (form body)
body_behind form _ = nothing
