-- When a statement of a core is typed by itself (ISO/IEC 9899:2024, 6.8): what it can say without what
-- stands round it.
use Rattle.std.specs.Prelude.{ℤ, Bool, true, false, ◌&&◌, not, if◌then◌else◌}
use Rattle.std.specs.Ordering.{int_eq}
use Rattle.model_types.specs.Operations.{fits}
use Rattle.model_types.specs.Types.{Form}
use Rattle.model_core.specs.CoreTypes.{basic_of}
use Rattle.model_core.specs.TypedParts.{is_scalar, is_promoted}
use Rattle.model_core.specs.TypedExpr.{is_typed, are_typed_values, form_of}
use Rattle.model_core.specs.Core as unit

abbrev pub is_condition : unit.Expr → Bool
is_condition e = is_typed e && is_scalar (form_of e)

abbrev pub is_typed_maybe : unit.MaybeExpr → Bool
is_typed_maybe unit.no_expr = true
is_typed_maybe (unit.an_expr e) = is_typed e

abbrev pub is_maybe_condition : unit.MaybeExpr → Bool
is_maybe_condition unit.no_expr = true
is_maybe_condition (unit.an_expr e) = is_condition e

-- the value is that of a label
abbrev pub labels : unit.Cases → ℤ → Bool
labels unit.no_cases value = false
labels (unit.a_case other place others) value = if int_eq other value then true else labels others value
labels (unit.a_default place others) value = labels others value
labels (unit.a_stat_then stat others) value = labels others value

abbrev pub has_default : unit.Cases → Bool
has_default unit.no_cases = false
has_default (unit.a_case other place others) = has_default others
has_default (unit.a_default place others) = true
has_default (unit.a_stat_then stat others) = has_default others

abbrev pub is_defer : unit.Stat → Bool
is_defer (unit.Defer body place span) = true
is_defer _ = false

-- labels have values of the type, no two the same, and there is one `default` at most; no statement of
-- the body itself is deferred
abbrev pub labels_fit : Form → unit.Cases → Bool
labels_fit form unit.no_cases = true
labels_fit form (unit.a_case value place others) = fits (basic_of form) value && not (labels others value) && labels_fit form others
labels_fit form (unit.a_default place others) = not (has_default others) && labels_fit form others
labels_fit form (unit.a_stat_then stat others) = not (is_defer stat) && labels_fit form others

abbrev mutual
  pub is_typed_stat : unit.Stat → Bool
  is_typed_stat (unit.Evaluate e span) = is_typed e
  is_typed_stat (unit.Start id type values mark) = are_typed_values values
  is_typed_stat (unit.Block objects body span) = are_typed_stats body
  is_typed_stat (unit.If e first second span) = is_condition e && is_typed_stat first && is_typed_maybe_stat second
  is_typed_stat (unit.Switch e objects body span) = is_typed e && is_promoted (form_of e) && labels_fit (form_of e) body && are_typed_cases body
  is_typed_stat (unit.While e body span) = is_condition e && is_typed_stat body
  is_typed_stat (unit.DoWhile body e span) = is_condition e && is_typed_stat body
  is_typed_stat (unit.For first e step body span) = is_typed_maybe first && is_maybe_condition e && is_typed_maybe step && is_typed_stat body
  is_typed_stat (unit.Break place) = true
  is_typed_stat (unit.Continue place) = true
  is_typed_stat (unit.Return value place) = is_typed_maybe value
  is_typed_stat (unit.Defer body place span) = is_typed_stat body

  pub is_typed_maybe_stat : unit.MaybeStat → Bool
  is_typed_maybe_stat unit.no_stat = true
  is_typed_maybe_stat (unit.a_stat stat) = is_typed_stat stat

  pub are_typed_stats : unit.Stats → Bool
  are_typed_stats unit.no_stats = true
  are_typed_stats (unit.more_stats stat stats) = is_typed_stat stat && are_typed_stats stats

  pub are_typed_cases : unit.Cases → Bool
  are_typed_cases unit.no_cases = true
  are_typed_cases (unit.a_case value place others) = are_typed_cases others
  are_typed_cases (unit.a_default place others) = are_typed_cases others
  are_typed_cases (unit.a_stat_then stat others) = is_typed_stat stat && are_typed_cases others
