-- What stands behind the last expression of a `for`.
use Rattle.std.proofs.Common.{◌≡◌, refl, ℕ, List, [], ◌∷◌}
use Rattle.cake_base.specs.declared.places.Place.{Place}
use Rattle.model_tokens.specs.declared.tokens.CKind.{CKind}
use Rattle.model_grammar.specs.SyntaxForms as syntax
use Rattle.model_grammar.specs.SyntaxStatementActions as s
use Rattle.model_grammar.specs.SyntaxValues.{Meaning, a_token, an_expr, a_statement}
use Rattle.statement_actions.specs.Beginnings.{body_behind}

pub behind_step : (form : syntax.MaybeExpr → syntax.Statement → syntax.Statement) (step : syntax.Expr) (kind : ℕ) (content : CKind) (place : Place) (rest : List Meaning) → s.step_behind form (an_expr step ∷ a_token kind content place ∷ rest) ≡ body_behind (form (syntax.an_expr step)) rest
behind_step form step kind content place (a_statement body ∷ []) = refl
behind_step form step kind content place _ = refl

pub behind_no_step : (form : syntax.MaybeExpr → syntax.Statement → syntax.Statement) (kind : ℕ) (content : CKind) (place : Place) (rest : List Meaning) → s.step_behind form (a_token kind content place ∷ rest) ≡ body_behind (form syntax.no_expr) rest
behind_no_step form kind content place (a_statement body ∷ []) = refl
behind_no_step form kind content place _ = refl
