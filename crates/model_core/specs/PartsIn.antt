-- The parts of a unit's functions that a run can fail at, each at its own place, at any depth of statements
-- and expressions (ISO/IEC 9899:2024, 6.3.3.1, 6.5, 6.8): lvalues and operations. And that these places tell
-- them apart.
use Rattle.std.specs.Prelude.{◌≡◌, Bool, true, false, List, [], ◌∷◌, ◌++◌, Contains, IsTrue}
use Rattle.model_types.specs.declared.marks.Origin.TheVariants.{Implied}
use Rattle.model_core.specs.SourceMarks.{expr_mark, lvalue_mark}
use Rattle.model_core.specs.Core as unit

-- an lvalue; or an operation: a binary one, a compound assignment, `++` or `--`, a call, and the member of a
-- structure's value
pub data Part : Type 0 where
  Designates : (object : unit.Lvalue) → Part
  Operates : (operation : unit.Expr) → Part

abbrev mutual
  pub in_expr : unit.Expr → List Part
  in_expr (unit.Constant value type mark) = []
  in_expr (unit.Load object mark) = in_lvalue object
  in_expr (unit.Address origin object mark) = in_lvalue object
  in_expr (unit.FunctionRef id type by_name mark) = []
  in_expr (unit.Unary op e mark) = in_expr e
  in_expr (unit.Binary op a b mark) = Operates (unit.Binary op a b mark) ∷ (in_expr a ++ in_expr b)
  in_expr (unit.Logic op a b mark) = in_expr a ++ in_expr b
  in_expr (unit.Choice c a b mark) = in_expr c ++ (in_expr a ++ in_expr b)
  in_expr (unit.Convert origin type e mark) = in_expr e
  in_expr (unit.Call function arguments mark) = Operates (unit.Call function arguments mark) ∷ (in_expr function ++ in_exprs arguments)
  in_expr (unit.Assign unit.Plain object value mark) = in_lvalue object ++ in_expr value
  in_expr (unit.Assign (unit.Compound op type) object value mark) =
      Operates (unit.Assign (unit.Compound op type) object value mark) ∷ (in_lvalue object ++ in_expr value)
  in_expr (unit.Step op side type object mark) = Operates (unit.Step op side type object mark) ∷ in_lvalue object
  in_expr (unit.MemberValue structure rank type name mark) = Operates (unit.MemberValue structure rank type name mark) ∷ in_expr structure
  in_expr (unit.Comma a b mark) = in_expr a ++ in_expr b

  -- itself, and those in it
  pub in_lvalue : unit.Lvalue → List Part
  in_lvalue (unit.Object id type mark) = Designates (unit.Object id type mark) ∷ []
  in_lvalue (unit.Deref pointer mark) = Designates (unit.Deref pointer mark) ∷ in_expr pointer
  in_lvalue (unit.Index is_second a b mark) = Designates (unit.Index is_second a b mark) ∷ (in_expr a ++ in_expr b)
  in_lvalue (unit.Field structure rank type name mark) = Designates (unit.Field structure rank type name mark) ∷ in_lvalue structure
  in_lvalue (unit.Arrow pointer rank type name mark) = Designates (unit.Arrow pointer rank type name mark) ∷ in_expr pointer
  in_lvalue (unit.Literal origin id type values mark) = Designates (unit.Literal origin id type values mark) ∷ in_values values

  pub in_exprs : unit.Exprs → List Part
  in_exprs unit.no_exprs = []
  in_exprs (unit.more_exprs e es) = in_expr e ++ in_exprs es

  pub in_values : unit.Initials → List Part
  in_values unit.no_initials = []
  in_values (unit.more_initials path offset type e others) = in_expr e ++ in_values others

abbrev pub in_maybe : unit.MaybeExpr → List Part
in_maybe unit.no_expr = []
in_maybe (unit.an_expr e) = in_expr e

abbrev mutual
  pub in_stat : unit.Stat → List Part
  in_stat (unit.Evaluate e span) = in_expr e
  in_stat (unit.Start id type values mark) = in_values values
  in_stat (unit.Block objects body span) = in_stats body
  in_stat (unit.If e first second span) = in_expr e ++ (in_stat first ++ in_maybe_stat second)
  in_stat (unit.Switch e objects body span) = in_expr e ++ in_cases body
  in_stat (unit.While e body span) = in_expr e ++ in_stat body
  in_stat (unit.DoWhile body e span) = in_stat body ++ in_expr e
  in_stat (unit.For first e step body span) = in_maybe first ++ (in_maybe e ++ (in_maybe step ++ in_stat body))
  in_stat (unit.Break place) = []
  in_stat (unit.Continue place) = []
  in_stat (unit.Return value place) = in_maybe value
  in_stat (unit.Defer body place span) = in_stat body

  pub in_maybe_stat : unit.MaybeStat → List Part
  in_maybe_stat unit.no_stat = []
  in_maybe_stat (unit.a_stat stat) = in_stat stat

  pub in_stats : unit.Stats → List Part
  in_stats unit.no_stats = []
  in_stats (unit.more_stats stat stats) = in_stat stat ++ in_stats stats

  pub in_cases : unit.Cases → List Part
  in_cases unit.no_cases = []
  in_cases (unit.a_case value place others) = in_cases others
  in_cases (unit.a_default place others) = in_cases others
  in_cases (unit.a_stat_then stat others) = in_stat stat ++ in_cases others

abbrev pub in_functions : List unit.Function → List Part
in_functions [] = []
in_functions (g ∷ gs) = in_maybe_stat g.body ++ in_functions gs

-- those of a unit
abbrev pub parts_in : unit.Core → List Part
parts_in core = in_functions core.functions

-- the object of a structure's value, which stands where the value does
abbrev pub is_implied : unit.Lvalue → Bool
is_implied (unit.Literal Implied id type values mark) = true
is_implied object = false

-- places tell the parts of a unit apart: two lvalues at one place are the same lvalue, as the copies of a
-- deferred statement are, and no operation stands where an lvalue does, but for the object of its value
pub record PlacesTell (core : unit.Core) : Type 0 where
  pub lvalues : (object other : unit.Lvalue) → Contains (parts_in core) (Designates object) → Contains (parts_in core) (Designates other) →
      (lvalue_mark object).at ≡ (lvalue_mark other).at → object ≡ other
  pub operations : (operation : unit.Expr) (object : unit.Lvalue) → Contains (parts_in core) (Operates operation) →
      Contains (parts_in core) (Designates object) → (expr_mark operation).at ≡ (lvalue_mark object).at → IsTrue (is_implied object)
