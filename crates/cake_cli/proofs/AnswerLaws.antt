-- Words and files determine one answer.
use Rattle.std.proofs.Common.{◌≡◌, ℕ, List, Result, Ok, Err, refl, sym, ap, ◌∙◌, subst}
use Rattle.cake_base.specs.declared.rules.Mark.{Mark}
use Rattle.cake_base.specs.Outside.{Held}
use Rattle.cake_cli.specs.declared.modes.Mode.{Mode}
use Rattle.cake_cli.specs.declared.modes.Mode.TheVariants.{Translate, Expand, Check}
use Rattle.model_preprocessing.specs.PreprocessedUnit.{Prepared, preprocessed, log_of}
use Rattle.model_preprocessing.specs.Processes.{Log, Refusal}
use Rattle.cake_cli.specs.Verdict.{Verdict, Stopped, NotBuilt, IsCore}
use Rattle.cake_cli.specs.Words.{Plan}
use Rattle.cake_cli.specs.Answer.{Answer, Usage, err_text, answer_to, marks_of, IsAnswerIn, IsAnswer}
use Rattle.cake_cli.specs.Reports.{status_of}
use Rattle.cake_cli.proofs.DueReports.{answer_in}
use Rattle.cake_cli.proofs.UniqueVerdict.{one_verdict}

one_in : (mode : Mode) (done : Result Prepared Refusal) (a b : Answer) → IsAnswerIn mode done a → IsAnswerIn mode done b → a ≡ b
one_in Expand done a b p q = p ∙ sym q
one_in Translate done a b (v, is, p) (w, js, q) = p ∙ ap (answer_to Translate (log_of done) (marks_of done)) (one_verdict done v w is js) ∙ sym q
one_in Check done a b (v, is, p) (w, js, q) = p ∙ ap (answer_to Check (log_of done) (marks_of done)) (one_verdict done v w is js) ∙ sym q

pub one_answer : (plan : Result Plan ℕ) (held : Held) (a b : Answer) → IsAnswer plan held a → IsAnswer plan held b → a ≡ b
one_answer (Ok plan) held a b p q = one_in plan.mode (preprocessed held plan.options plan.file) a b p q
one_answer (Err number) held a b p q = p ∙ sym q

pub every_answer : (plan : Result Plan ℕ) (held : Held) → (a : Answer) × IsAnswer plan held a
every_answer (Ok plan) held = answer_in plan.mode (preprocessed held plan.options plan.file)
every_answer (Err number) held = (Usage number, refl)

abbrev SameReport : Answer → Answer → Type 0
SameReport a b = (status_of a ≡ status_of b) × (err_text a ≡ err_text b)

same_report : (log : Log) (marks : List Mark) (v : Verdict) → SameReport (answer_to Check log marks v) (answer_to Translate log marks v)
same_report log marks (Stopped stop) = (refl, refl)
same_report log marks (NotBuilt unit place) = (refl, refl)
same_report log marks (IsCore unit core) = (refl, refl)

pub check_reports : (done : Result Prepared Refusal) (a b : Answer) → IsAnswerIn Check done a → IsAnswerIn Translate done b → (status_of a ≡ status_of b) × (err_text a ≡ err_text b)
check_reports done a b (v, is, p) (w, js, q) =
    subst (λ x. SameReport x b) (sym p)
    (subst (λ x. SameReport (answer_to Check (log_of done) (marks_of done) v) x) (sym q)
    (subst (λ x. SameReport (answer_to Check (log_of done) (marks_of done) v) (answer_to Translate (log_of done) (marks_of done) x)) (one_verdict done v w is js) (same_report (log_of done) (marks_of done) v)))
