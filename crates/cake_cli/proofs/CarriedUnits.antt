-- What answers carry of a unit, and when findings refuse it.
use Rattle.std.proofs.Common.{◌≡◌, ◌↔◌, Bool, true, false, if◌then◌else◌, Option, Some, None, Result, Ok, Err, IsTrue, refl, sym, ap, ◌∙◌, subst}
use Rattle.cake_cli.specs.declared.modes.Mode.{Mode}
use Rattle.cake_cli.specs.declared.modes.Mode.TheVariants.{Translate, Expand, Check}
use Rattle.model_preprocessing.specs.PreprocessedUnit.{Prepared, log_of}
use Rattle.model_preprocessing.specs.Processes.{Stop, broken, passed, unread, Log, Refusal}
use Rattle.model_findings.specs.Ownership.{is_refused}
use Rattle.cake_cli.specs.Accepted.{Accepted, accepted}
use Rattle.cake_cli.specs.Verdict.{Verdict, Stopped, NotBuilt, IsCore, IsVerdict}
use Rattle.cake_cli.specs.Answer.{Answer, RefusedByFindings, Written, answer_to_stop, answer_to, answer_on, delivery_of, marks_of, expanded, IsAnswerIn, carried, IsOfUnit}

stop_carries_none : (log : Log) (stop : Stop) → carried (answer_to_stop log stop) ≡ None
stop_carries_none log (broken fault) = refl
stop_carries_none log (passed hit) = refl
stop_carries_none log (unread file cause) = refl

none_carried : {A : Type 0} (unit : Accepted) (o : Option Accepted) → o ≡ None → o ≡ Some unit → A
none_carried unit o e k = absurd (let h : None ≡ Some unit = sym e ∙ k in cc)

core_carried : (mode : Mode) (log : Log) (unit : Accepted) → carried (Written log (delivery_of mode unit)) ≡ Some unit
core_carried Translate log unit = refl
core_carried Expand log unit = refl
core_carried Check log unit = refl

of_core : (done : Result Prepared Refusal) (unit made : Accepted) → Some made ≡ Some unit → IsOfUnit done made → IsOfUnit done unit
of_core done unit made e of = let same : made ≡ unit = cc in subst (IsOfUnit done) same of

of_verdict : (mode : Mode) (done : Result Prepared Refusal) (v : Verdict) (unit : Accepted) → IsVerdict done v → carried (answer_to mode (log_of done) (marks_of done) v) ≡ Some unit → IsOfUnit done unit
of_verdict mode done (Stopped stop) unit is e = none_carried unit _ (stop_carries_none (log_of done) stop) e
of_verdict mode done (NotBuilt forms place) unit is e = none_carried unit None refl e
of_verdict mode done (IsCore forms core) unit is e =
    of_core done unit (accepted core (marks_of done)) (sym (core_carried mode (log_of done) (accepted core (marks_of done))) ∙ e)
    (record { forms = forms; core = is; marks = refl; ownership = refl })

of_expanded : (done : Result Prepared Refusal) (unit : Accepted) → carried (expanded done) ≡ Some unit → IsOfUnit done unit
of_expanded (Ok prepared) unit e = none_carried unit None refl e
of_expanded (Err refusal) unit e = none_carried unit _ (stop_carries_none refusal.log refusal.stop) e

pub carries : (mode : Mode) (done : Result Prepared Refusal) (answer : Answer) (unit : Accepted) → IsAnswerIn mode done answer → carried answer ≡ Some unit → IsOfUnit done unit
carries Expand done answer unit is e = of_expanded done unit (ap carried (sym is) ∙ e)
carries Translate done answer unit (v, is, a) e = of_verdict Translate done v unit is (ap carried (sym a) ∙ e)
carries Check done answer unit (v, is, a) e = of_verdict Check done v unit is (ap carried (sym a) ∙ e)

by_test : (refuses : Bool) (mode : Mode) (log : Log) (unit : Accepted) → (refuses ≡ true) ↔ ((if refuses then RefusedByFindings log unit else Written log (delivery_of mode unit)) ≡ RefusedByFindings log unit)
by_test true mode log unit = (λ h. refl, λ e. refl)
by_test false mode log unit = (
  λ h. absurd (let k : false ≡ true = h in cc),
  λ e. absurd (let k : Written log (delivery_of mode unit) ≡ RefusedByFindings log unit = e in cc),
)

pub by_findings : (mode : Mode) (log : Log) (unit : Accepted) → IsTrue (is_refused unit.marks unit.ownership) ↔ (answer_on mode log unit ≡ RefusedByFindings log unit)
by_findings mode log unit = by_test (is_refused unit.marks unit.ownership) mode log unit
