-- A list of typed parts with one more at its end is typed.
use Rattle.std.proofs.Common.{◌≡◌, Bool, true, ◌&&◌, List, [], ◌∷◌, ◌++◌, refl}
use Rattle.std.proofs.lemmas.Bool.{and_parts}
use Rattle.model_types.specs.Types.{form_of_type}
use Rattle.model_core.specs.CoreTypes.{type_of}
use Rattle.model_core.specs.SameTypes.{same_value_type}
use Rattle.model_core.specs.TypedParts.{is_storable}
use Rattle.model_core.specs.TypedExpr.{is_typed, are_typed, are_typed_values}
use Rattle.model_core.specs.TypedStat.{is_typed_stat, are_typed_stats, are_typed_cases}
use Rattle.core_tree.specs.CoreNodes.{Initial, Case, CaseLabel, DefaultLabel, Statement, initials, cases, is_typed_initial, is_typed_case}
use Rattle.model_core.specs.Core as m
use Rattle.core_tree.proofs.CoreParts.{both}

pub typed_exprs_push : (es : List m.Expr) (e : m.Expr) → are_typed (m.exprs es) ≡ true → is_typed e ≡ true → are_typed (m.exprs (es ++ e ∷ [])) ≡ true
typed_exprs_push [] e h k = both (is_typed e) true k refl
typed_exprs_push (x ∷ xs) e h k =
    let p = and_parts (is_typed x) (are_typed (m.exprs xs)) h in
    both (is_typed x) (are_typed (m.exprs (xs ++ e ∷ []))) p.0 (typed_exprs_push xs e p.1 k)

pub typed_stats_push : (ss : List m.Stat) (s : m.Stat) → are_typed_stats (m.stats ss) ≡ true → is_typed_stat s ≡ true → are_typed_stats (m.stats (ss ++ s ∷ [])) ≡ true
typed_stats_push [] s h k = both (is_typed_stat s) true k refl
typed_stats_push (x ∷ xs) s h k =
    let p = and_parts (is_typed_stat x) (are_typed_stats (m.stats xs)) h in
    both (is_typed_stat x) (are_typed_stats (m.stats (xs ++ s ∷ []))) p.0 (typed_stats_push xs s p.1 k)

-- an initial value has the type of the scalar or structure that it is for
abbrev fits : Initial → Bool
fits i = is_typed i.value && is_storable (form_of_type i.type) && same_value_type i.type (type_of i.value)

pub typed_initials_push : (is : List Initial) (i : Initial) → are_typed_values (initials is) ≡ true → is_typed_initial i ≡ true → are_typed_values (initials (is ++ i ∷ [])) ≡ true
typed_initials_push [] i h k = k
typed_initials_push (x ∷ xs) i h k =
    let p = and_parts (fits x) (are_typed_values (initials xs)) h in
    both (fits x) (are_typed_values (initials (xs ++ i ∷ []))) p.0 (typed_initials_push xs i p.1 k)

pub typed_cases_push : (cs : List Case) (c : Case) → are_typed_cases (cases cs) ≡ true → is_typed_case c ≡ true → are_typed_cases (cases (cs ++ c ∷ [])) ≡ true
typed_cases_push [] (CaseLabel value place) h k = refl
typed_cases_push [] (DefaultLabel place) h k = refl
typed_cases_push [] (Statement stat) h k = k
typed_cases_push (CaseLabel value place ∷ cs) c h k = typed_cases_push cs c h k
typed_cases_push (DefaultLabel place ∷ cs) c h k = typed_cases_push cs c h k
typed_cases_push (Statement stat ∷ cs) c h k =
    let p = and_parts (is_typed_stat stat) (are_typed_cases (cases cs)) h in
    both (is_typed_stat stat) (are_typed_cases (cases (cs ++ c ∷ []))) p.0 (typed_cases_push cs c p.1 k)
