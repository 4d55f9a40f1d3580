-- How a call comes out, case by case.
use Rattle.std.specs.Prelude.{IsOk}
use Rattle.std.proofs.Common.{◌≡◌, ℕ, true, false, List, [], Result, Ok, Err, refl, sym, ◌∙◌, subst, inl, inr}
use Rattle.cake_cli.specs.ReportLines.{usage_line}
use Rattle.cake_cli.specs.Words.{Plan}
use Rattle.cake_cli.specs.Answer.{Answer, Usage, err_text}
use Rattle.cake_cli.specs.declared.report.Report.{Report}
use Rattle.cake_cli.specs.declared.status.Status.{Status}
use Rattle.cake_cli.specs.declared.status.Status.TheVariants as status
use Rattle.cake_cli.specs.Call.{Call, IsDue}
use Rattle.cake_cli.specs.Promise.{ForDue, NothingOnOut, NothingOnErr, ReadsAll}
use Rattle.cake_cli.specs.Reports.{IsReport, ReportsPlan, Sent, Outcome, as_due, no_memory, failed_read, status_of, unread_answer}
use Rattle.cake_cli.proofs.DueReports.{some_due}

abbrev pub ComesOut : Result Plan ℕ → Call → Status → Type 0
ComesOut plan c result = ForDue plan c (λ due. Outcome plan due c result)

pub usage_outcome : (plan : Result Plan ℕ) (number : ℕ) (line : List ℕ) (c : Call) (result : Status) → plan ≡ Err number → line ≡ usage_line number → Sent status.Usage [] line c result → ComesOut plan c result
usage_outcome plan number line c result e l sent =
    (Usage number, subst (λ p. IsDue p c (Usage number)) (sym e) refl, as_due [] refl (subst (λ p. ReadsAll p c) (sym e) tt) (subst (λ t. Sent status.Usage [] t c result) l sent))

-- the report of an answer is sent
sent_as : (due : Answer) (r : Report) (out_text err_text_ : List ℕ) (c : Call) (result : Status) → out_text ≡ r.out → err_text_ ≡ r.err → IsReport due r → Sent r.status out_text err_text_ c result → Sent (status_of due) r.out (err_text due) c result
sent_as due r out_text err_text_ c result eo ee report sent =
    subst (λ s. Sent s r.out (err_text due) c result) report.status
    (subst (λ t. Sent r.status t (err_text due) c result) eo
    (subst (λ t. Sent r.status out_text t c result) (ee ∙ report.err) sent))

pub report_outcome : (plan : Result Plan ℕ) (p : Plan) (r : Report) (out_text err_text_ : List ℕ) (c : Call) (result : Status) → plan ≡ Ok p → out_text ≡ r.out → err_text_ ≡ r.err → ReportsPlan p c r → Sent r.status out_text err_text_ c result → ComesOut plan c result
report_outcome plan p r out_text err_text_ c result e eo ee (inl (due, is_due, report, counts)) sent =
    (due, subst (λ x. IsDue x c due) (sym e) is_due, as_due r.out report.out (subst (λ x. ReadsAll x c) (sym e) counts) (sent_as due r out_text err_text_ c result eo ee report sent))
report_outcome plan p r out_text err_text_ c result e eo ee (inr (file, log, fails, report)) sent =
    let any = some_due plan c in (
      any.0,
      any.1,
      failed_read p e file log fails
          (subst (λ t. Sent status.ReadFault t (err_text (unread_answer log file)) c result) report.out
          (sent_as (unread_answer log file) r out_text err_text_ c result eo ee report sent)),
    )

pub memory_outcome : (plan : Result Plan ℕ) (p : Plan) (c : Call) → plan ≡ Ok p → NothingOnOut c → NothingOnErr c → ComesOut plan c status.NoMemory
memory_outcome plan p c e o r = let any = some_due plan c in (any.0, any.1, no_memory p e refl o r)

-- the same where the words have a reading
pub memory_comes_out : (plan : Result Plan ℕ) (c : Call) → IsOk plan → NothingOnOut c → NothingOnErr c → ComesOut plan c status.NoMemory
memory_comes_out (Ok p) c h o r = memory_outcome (Ok p) p c refl o r
memory_comes_out (Err number) c h o r = absurd (let e : false ≡ true = h in cc)
