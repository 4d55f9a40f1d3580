-- The parts of a core that stand in its lists (ISO/IEC 9899:2024, 6.7.11, 6.8.2, 6.8.5), and when one of them is typed
-- by itself, whatever stands around it.
use Rattle.std.specs.Prelude.{ℕ, ℤ, Bool, List, [], ◌∷◌, Option, Some, None}
use Rattle.cake_base.specs.declared.places.Place.{Place}
use Rattle.model_types.specs.Types.{CType}
use Rattle.model_core.specs.TypedExpr.{are_typed_values}
use Rattle.model_core.specs.TypedStat.{are_typed_cases}
use Rattle.model_core.specs.Core as unit

-- an initial value: the ranks that lead to what it is for, its offset in bytes, its type, and the value
pub record Initial : Type 0 where
  pub path : List ℕ
  pub offset : ℕ
  pub type : CType
  pub value : unit.Expr

-- a label or a statement of the body of a switch
pub data Case : Type 0 where
  CaseLabel : (value : ℤ) (place : Place) → Case
  DefaultLabel : (place : Place) → Case
  Statement : (stat : unit.Stat) → Case

-- the initial values of a list
abbrev pub initials : List Initial → unit.Initials
initials [] = unit.no_initials
initials (first ∷ others) = unit.more_initials first.path first.offset first.type first.value (initials others)

-- the labels and statements of a list
abbrev pub cases : List Case → unit.Cases
cases [] = unit.no_cases
cases (CaseLabel value place ∷ others) = unit.a_case value place (cases others)
cases (DefaultLabel place ∷ others) = unit.a_default place (cases others)
cases (Statement stat ∷ others) = unit.a_stat_then stat (cases others)

abbrev pub maybe_expr : Option unit.Expr → unit.MaybeExpr
maybe_expr None = unit.no_expr
maybe_expr (Some value) = unit.an_expr value

abbrev pub maybe_stat : Option unit.Stat → unit.MaybeStat
maybe_stat None = unit.no_stat
maybe_stat (Some stat) = unit.a_stat stat

-- typed as the one item of a list
abbrev pub is_typed_initial : Initial → Bool
is_typed_initial i = are_typed_values (initials (i ∷ []))

abbrev pub is_typed_case : Case → Bool
is_typed_case c = are_typed_cases (cases (c ∷ []))
