-- The objects and functions that the expressions and statements of a unit name, by their numbers.
use Rattle.std.specs.Prelude.{ℕ, List, [], ◌∷◌, ◌++◌}
use Rattle.model_core.specs.Core as unit

abbrev mutual
  pub in_expr : unit.Expr → List ℕ
  in_expr (unit.Constant value type mark) = []
  in_expr (unit.Load object mark) = in_lvalue object
  in_expr (unit.Address origin object mark) = in_lvalue object
  in_expr (unit.FunctionRef id type by_name mark) = id ∷ []
  in_expr (unit.Unary op e mark) = in_expr e
  in_expr (unit.Binary op a b mark) = in_expr a ++ in_expr b
  in_expr (unit.Logic op a b mark) = in_expr a ++ in_expr b
  in_expr (unit.Choice c a b mark) = in_expr c ++ (in_expr a ++ in_expr b)
  in_expr (unit.Convert origin type e mark) = in_expr e
  in_expr (unit.Call function arguments mark) = in_expr function ++ in_exprs arguments
  in_expr (unit.Assign assignment object value mark) = in_lvalue object ++ in_expr value
  in_expr (unit.Step op side type object mark) = in_lvalue object
  in_expr (unit.MemberValue structure rank type name mark) = in_expr structure
  in_expr (unit.Comma a b mark) = in_expr a ++ in_expr b

  pub in_lvalue : unit.Lvalue → List ℕ
  in_lvalue (unit.Object id type mark) = id ∷ []
  in_lvalue (unit.Deref pointer mark) = in_expr pointer
  in_lvalue (unit.Index is_second a b mark) = in_expr a ++ in_expr b
  in_lvalue (unit.Field structure rank type name mark) = in_lvalue structure
  in_lvalue (unit.Arrow pointer rank type name mark) = in_expr pointer
  in_lvalue (unit.Literal origin id type values mark) = id ∷ in_values values

  pub in_exprs : unit.Exprs → List ℕ
  in_exprs unit.no_exprs = []
  in_exprs (unit.more_exprs e es) = in_expr e ++ in_exprs es

  pub in_values : unit.Initials → List ℕ
  in_values unit.no_initials = []
  in_values (unit.more_initials path offset type e others) = in_expr e ++ in_values others

abbrev pub in_maybe : unit.MaybeExpr → List ℕ
in_maybe unit.no_expr = []
in_maybe (unit.an_expr e) = in_expr e

abbrev mutual
  pub in_stat : unit.Stat → List ℕ
  in_stat (unit.Evaluate e span) = in_expr e
  in_stat (unit.Start id type values mark) = id ∷ in_values values
  in_stat (unit.Block objects body span) = in_stats body
  in_stat (unit.If e first second span) = in_expr e ++ (in_stat first ++ in_maybe_stat second)
  in_stat (unit.Switch e objects body span) = in_expr e ++ in_cases body
  in_stat (unit.While e body span) = in_expr e ++ in_stat body
  in_stat (unit.DoWhile body e span) = in_stat body ++ in_expr e
  in_stat (unit.For first e step body span) = in_maybe first ++ (in_maybe e ++ (in_maybe step ++ in_stat body))
  in_stat (unit.Break place) = []
  in_stat (unit.Continue place) = []
  in_stat (unit.Return value place) = in_maybe value
  in_stat (unit.Defer body place span) = in_stat body

  pub in_maybe_stat : unit.MaybeStat → List ℕ
  in_maybe_stat unit.no_stat = []
  in_maybe_stat (unit.a_stat stat) = in_stat stat

  pub in_stats : unit.Stats → List ℕ
  in_stats unit.no_stats = []
  in_stats (unit.more_stats stat stats) = in_stat stat ++ in_stats stats

  pub in_cases : unit.Cases → List ℕ
  in_cases unit.no_cases = []
  in_cases (unit.a_case value place others) = in_cases others
  in_cases (unit.a_default place others) = in_cases others
  in_cases (unit.a_stat_then stat others) = in_stat stat ++ in_cases others

abbrev in_functions : List unit.Function → List ℕ
in_functions [] = []
in_functions (g ∷ gs) = in_maybe_stat g.body ++ in_functions gs

-- those that the values of an object name
abbrev pub in_storage : unit.Storage → List ℕ
in_storage (unit.Static values) = in_values values
in_storage unit.Automatic = []
in_storage unit.Parameter = []
in_storage unit.Declared = []
in_storage (unit.Text bytes) = []

abbrev in_objects : List unit.DeclaredObject → List ℕ
in_objects [] = []
in_objects (o ∷ os) = in_storage o.storage ++ in_objects os

-- those of a unit
abbrev pub used_in : unit.Core → List ℕ
used_in core = in_functions core.functions ++ in_objects core.objects
