-- The statements that the forms of the core's nodes stand for.
use Rattle.std.specs.Prelude.{ℕ, List, [], ◌∷◌}
use Rattle.model_types.specs.declared.marks.DeclId.{DeclId}
use Rattle.model_core.specs.Core as m
use Rattle.core_tree.specs.CoreNodes.{Case, CaseLabel, DefaultLabel, Statement, initials, cases, maybe_expr, maybe_stat}
use Rattle.core_tree.specs.declared.core_stats.CoreStatForm.{CoreStatForm}
use Rattle.core_tree.specs.declared.core_stats.CoreStatForm.TheVariants as s
use Rattle.core_tree.specs.declared.core_stats.CoreCaseForm.{CoreCaseForm}
use Rattle.core_tree.specs.declared.core_stats.CoreCaseForm.TheVariants as c

-- the numbers of declarations
abbrev pub ids : List DeclId → List ℕ
ids [] = []
ids (id ∷ others) = id.0 ∷ ids others

-- the statement of a form
abbrev pub stat_of : CoreStatForm → m.Stat
stat_of (s.Evaluate value span) = m.Evaluate value span
stat_of (s.Start id type values mark) = m.Start id.0 type (initials values) mark
stat_of (s.Block objects body span) = m.Block (ids objects) (m.stats body) span
stat_of (s.If condition first second span) = m.If condition first (maybe_stat second) span
stat_of (s.Switch value objects body span) = m.Switch value (ids objects) (cases body) span
stat_of (s.While condition body span) = m.While condition body span
stat_of (s.DoWhile body condition span) = m.DoWhile body condition span
stat_of (s.For first condition step body span) = m.For (maybe_expr first) (maybe_expr condition) (maybe_expr step) body span
stat_of (s.Break place) = m.Break place
stat_of (s.Continue place) = m.Continue place
stat_of (s.Return value place) = m.Return (maybe_expr value) place
stat_of (s.Defer body place span) = m.Defer body place span

-- the label or statement of a form
abbrev pub case_of : CoreCaseForm → Case
case_of (c.Case value place) = CaseLabel value place
case_of (c.Default place) = DefaultLabel place
case_of (c.Statement stat) = Statement stat
