-- Each statement in a form has fewer nodes than what the form stands for.
use Rattle.std.specs.Prelude.{◌+◌, ◌≤◌, max, List, [], ◌∷◌, Some, None}
use Rattle.std.proofs.Common.{arith}
use denote.Param.Weighed.{most}
use Rattle.model_core.specs.Core as m
use Rattle.core_tree.specs.CoreNodes.{Case, CaseLabel, DefaultLabel, Statement, cases}
use Rattle.core_tree.specs.declared.core_stats.CoreStatForm.{CoreStatForm}
use Rattle.core_tree.specs.declared.core_stats.CoreStatForm.TheVariants as s
use Rattle.core_tree.specs.declared.core_stats.CoreCaseForm.{CoreCaseForm}
use Rattle.core_tree.specs.declared.core_stats.CoreCaseForm.TheVariants as c
use Rattle.core_tree.specs.declared.core_stats.CoreCase.TheDeep.{deep-CoreStatForm, deep-CoreCaseForm}
use Rattle.core_tree.specs.CoreStatForms.{stat_of, case_of}
use Rattle.core_tree.specs.apparatus.CoreSizes.{stat_nodes, stats_nodes, cases_nodes, case_nodes}

most_stats : (ss : List m.Stat) → most (λ s. stat_nodes s + 1) ss ≤ stats_nodes (m.stats ss)
most_stats [] = omega arith
most_stats (s ∷ ss) = omega (arith, most_stats ss)

most_cases : (cs : List Case) → most (λ c. case_nodes c + 1) cs ≤ cases_nodes (cases cs)
most_cases [] = omega arith
most_cases (CaseLabel value place ∷ cs) = omega (arith, most_cases cs)
most_cases (DefaultLabel place ∷ cs) = omega (arith, most_cases cs)
most_cases (Statement stat ∷ cs) = omega (arith, most_cases cs)

pub stat_falls : (f : CoreStatForm) → max (deep-CoreStatForm f) 0 ≤ stat_nodes (stat_of f)
stat_falls (s.Evaluate value span) = omega arith
stat_falls (s.Start id type values mark) = omega arith
stat_falls (s.Block objects body span) = omega (arith, most_stats body)
stat_falls (s.If condition first None span) = omega arith
stat_falls (s.If condition first (Some second) span) = omega arith
stat_falls (s.Switch value objects body span) = omega (arith, most_cases body)
stat_falls (s.While condition body span) = omega arith
stat_falls (s.DoWhile body condition span) = omega arith
stat_falls (s.For first condition step body span) = omega arith
stat_falls (s.Break place) = omega arith
stat_falls (s.Continue place) = omega arith
stat_falls (s.Return value place) = omega arith
stat_falls (s.Defer body place span) = omega arith

pub case_falls : (f : CoreCaseForm) → max (deep-CoreCaseForm f) 0 ≤ case_nodes (case_of f)
case_falls (c.Case value place) = omega arith
case_falls (c.Default place) = omega arith
case_falls (c.Statement stat) = omega arith
