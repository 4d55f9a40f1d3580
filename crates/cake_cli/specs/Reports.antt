-- What is put, before it is put, and how a call comes out.
use Rattle.std.specs.Prelude.{◌≡◌, ◌≢◌, ◌⊎◌, ℕ, List, [], Option, Some, None, Result, Ok}
use Rattle.model_tokens.specs.declared.tokens.CTok.{CTok}
use Rattle.cake_base.specs.declared.places.Place.{Place}
use Rattle.cake_base.specs.declared.rules.Mark.{Mark}
use Rattle.cake_cli.specs.declared.modes.Mode.{Mode}
use Rattle.model_preprocessing.specs.PreprocessedUnit.{Prepared}
use Rattle.model_preprocessing.specs.Processes.{Stop, broken, passed, unread, Log, Refusal}
use Rattle.cake_cli.specs.ReportLines.{name_in}
use Rattle.cake_cli.specs.Verdict.{Verdict, IsVerdictOn, IsVerdict}
use Rattle.cake_cli.specs.Words.{Plan}
use Rattle.cake_cli.specs.Answer.{Answer, Usage, Unreadable, Refused, Unbuilt, Limited, RefusedByFindings, Written, err_text, answer_to_stop, answer_to, IsAnswerIn}
use Rattle.pp_directives.specs.declared.errors.PrepError.{PrepError}
use Rattle.pp_directives.specs.declared.errors.PrepError.TheVariants as prep_error
use Rattle.pp_directives.specs.Promise.{FailsAt}
use Rattle.cake_cli.specs.declared.status.Status.{Status}
use Rattle.cake_cli.specs.declared.status.Status.TheVariants as status
use Rattle.cake_cli.specs.declared.report.Report.{Report}
use Rattle.cake_cli.specs.Call.{Call, IsDue}
use Rattle.cake_cli.specs.Promise.{OutFailed, ErrFailed, NothingOnOut, NothingOnErr, PutsOnOut, PutsOnErr, PutsPrefixOnOut, PutsPrefixOnErr, IsDelivered, ReadsEach, ReadsAll}

-- the status of an answer
abbrev pub status_of : Answer → Status
status_of (Usage number) = status.Usage
status_of (Unreadable log name) = status.ReadFault
status_of (Refused log fault) = status.Refused
status_of (Unbuilt log place) = status.Refused
status_of (Limited log hit) = status.Limit
status_of (RefusedByFindings log unit) = status.Refused
status_of (Written log delivery) = status.Written

-- what an answer puts on out
abbrev pub IsOutText : Answer → List ℕ → Type 0
IsOutText (Usage number) text = text ≡ []
IsOutText (Unreadable log name) text = text ≡ []
IsOutText (Refused log fault) text = text ≡ []
IsOutText (Unbuilt log place) text = text ≡ []
IsOutText (Limited log hit) text = text ≡ []
IsOutText (RefusedByFindings log unit) text = text ≡ []
IsOutText (Written log delivery) text = IsDelivered delivery text

-- the report of an answer
pub record IsReport (due : Answer) (r : Report) : Type 0 where
  pub status : r.status ≡ status_of due
  pub out : IsOutText due r.out
  pub err : r.err ≡ err_text due

-- the report on tokens of C, whatever the marks of their unit, and on a unit that is preprocessed
abbrev pub ReportsTokens : Mode → Log → List CTok → (end : Place) → Report → Type 0
ReportsTokens mode log tokens end r = (verdict : Verdict) × IsVerdictOn tokens end verdict × ((marks : List Mark) → IsReport (answer_to mode log marks verdict) r)

abbrev pub ReportsUnit : Mode → Log → Prepared → Report → Type 0
ReportsUnit mode log unit r = (verdict : Verdict) × IsVerdict (Ok unit) verdict × IsReport (answer_to mode log unit.marks verdict) r

abbrev pub ReportsDone : Mode → Result Prepared Refusal → Report → Type 0
ReportsDone mode done r = (due : Answer) × IsAnswerIn mode done due × IsReport due r

-- why preprocessing ended, where memory wasn't wanted
abbrev pub stop_of : PrepError → Option Stop
stop_of (prep_error.Fault fault) = Some (broken fault)
stop_of (prep_error.Limit hit) = Some (passed hit)
stop_of (prep_error.Read file why) = Some (unread file why)
stop_of prep_error.NoMemory = None

abbrev pub ReportsStop : PrepError → Log → Report → Type 0
ReportsStop error log r = (stop : Stop) × (stop_of error ≡ Some stop) × IsReport (answer_to_stop log stop) r

-- the report on a read that failed
abbrev pub unread_answer : Log → (file : ℕ) → Answer
unread_answer log file = Unreadable log (name_in log file)

-- the report of a plan: that of the answer that is due, or on a read that failed
abbrev pub ReportsPlan : Plan → Call → Report → Type 0
ReportsPlan plan c r =
    ((due : Answer) × IsDue (Ok plan) c due × IsReport due r × ReadsEach c.files.held plan c.files c.files')
    ⊎ ((file : ℕ) × (log : Log) × FailsAt c.files c.files' plan.options plan.file file log × IsReport (unread_answer log file) r)

-- both texts were put, err's first, or a put failed
pub data Sent (wanted : Status) (out_text err_text : List ℕ) (c : Call) (result : Status) : Type 0 where
  all_put : result ≡ wanted → PutsOnErr err_text c → PutsOnOut out_text c → Sent wanted out_text err_text c result
  err_failed : result ≡ status.WriteFault → ErrFailed c → PutsPrefixOnErr err_text c → NothingOnOut c → Sent wanted out_text err_text c result
  out_failed : result ≡ status.WriteFault → OutFailed c → PutsOnErr err_text c → PutsPrefixOnOut out_text c → out_text ≢ [] → Sent wanted out_text err_text c result

-- the answer that is due was sent, memory was wanted, or a read failed
pub data Outcome (plan : Result Plan ℕ) (due : Answer) (c : Call) (result : Status) : Type 0 where
  as_due : (text : List ℕ) → IsOutText due text → ReadsAll plan c → Sent (status_of due) text (err_text due) c result → Outcome plan due c result
  no_memory : (p : Plan) → plan ≡ Ok p → result ≡ status.NoMemory → NothingOnOut c → NothingOnErr c → Outcome plan due c result
  failed_read : (p : Plan) → plan ≡ Ok p → (file : ℕ) (log : Log) → FailsAt c.files c.files' p.options p.file file log → Sent status.ReadFault [] (err_text (unread_answer log file)) c result → Outcome plan due c result
