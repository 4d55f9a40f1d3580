-- Which answer is due, by what preprocessing gave, and its report.
use Rattle.std.proofs.Common.{◌≡◌, ℕ, List, [], ◌∷◌, Option, Some, None, Result, Ok, Err, refl, sym, ap, ◌∙◌, subst, ◌⊎◌, inl, inr}
use Rattle.cake_base.specs.declared.places.Place.{Place}
use Rattle.cake_base.specs.declared.rules.Family.TheVariants.{S}
use Rattle.cake_base.specs.declared.rules.Fault.{Fault}
use Rattle.cake_base.specs.Outside.{Held, FilesView}
use Rattle.model_preprocessing.specs.declared.directives.ReadCause.TheVariants as cause
use Rattle.model_tokens.specs.declared.tokens.CTok.{CTok}
use Rattle.cake_cli.specs.declared.modes.Mode.{Mode}
use Rattle.cake_cli.specs.declared.modes.Mode.TheVariants.{Translate, Expand, Check}
use Rattle.model_tokens.specs.CTokens.{c_tokens_of}
use Rattle.c_model.specs.FirstUnit.{returning, token_place}
use Rattle.model_grammar.specs.declared.grammar.Tree.{Tree}
use Rattle.model_grammar.specs.TerminalsOf.{terminals_of}
use Rattle.grammar_laws.specs.UnitSyntax.{IsUnit, IsFault, IsTooDeep}
use Rattle.model_preprocessing.specs.PreprocessedUnit.{Prepared, preprocessed, unit, log_of}
use Rattle.model_preprocessing.specs.Processes.{Stop, broken, passed, unread, Log, Refusal, Process, gives}
use Rattle.cake_cli.specs.Verdict.{Verdict, Stopped, NotBuilt, IsCore, HasForm, IsVerdictOn, IsVerdictOf, IsVerdict}
use Rattle.cake_cli.specs.Words.{Plan}
use Rattle.cake_cli.specs.Answer.{Answer, Usage, answer_to_stop, answer_to, marks_of, expanded, IsAnswerIn}
use Rattle.pp_directives.specs.declared.errors.PrepError.{PrepError}
use Rattle.pp_directives.specs.declared.errors.PrepError.TheVariants as prep_error
use Rattle.pp_directives.specs.Outcomes.{halted, Stops, Runs}
use Rattle.pp_directives.specs.Promise as pp
use Rattle.pp_directives.specs.Reads.{Reaches}
use Rattle.cake_cli.specs.declared.report.Report.{Report}
use Rattle.cake_cli.specs.Call.{Call, ComesOf, IsDueIn, IsDue}
use Rattle.cake_cli.specs.Promise.{ReadsEach}
use Rattle.cake_cli.specs.Reader as reader
use Rattle.cake_cli.specs.ReadsAs.{ReadsAs}
use Rattle.cake_cli.specs.Reports.{IsReport, ReportsDone, ReportsStop, ReportsPlan, stop_of}
use Rattle.cake_cli.proofs.ReadCounts.{IsOver, count_reached}
use Rattle.cake_cli.proofs.UnitForms.{unit_has_form}
use Rattle.cake_cli.proofs.UntoldReads.{reaches_comes, some_done}
use Rattle.grammar_laws.proofs.answers.AtLeastOneAnswer.{answered}
use Rattle.cake_cli.proofs.Verdicts.{reading_says}

-- the answer in a mode to what preprocessing gives is due
due_by : (told : Option Held) (c : Call) (plan : Plan) (done : Result Prepared Refusal) (due : Answer) → ((held : Held) → told ≡ Some held → preprocessed held plan.options plan.file ≡ done) → (told ≡ None → ComesOf c.files c.files' (unit plan.options plan.file) done) → IsAnswerIn plan.mode done due → IsDueIn told c.files c.files' plan due
due_by None c plan done due held comes is = (done, comes refl, is)
due_by (Some h) c plan done due held comes is = subst (λ d. IsAnswerIn plan.mode d due) (sym (held h refl)) is

-- ---- how many reads there were

each_read : (told : Option Held) (plan : Plan) (files files' : FilesView) (q : Process Prepared) → files.held ≡ told → Reaches files files' (unit plan.options plan.file) q → IsOver q → ReadsEach told plan files files'
each_read None plan files files' q e reaches over = tt
each_read (Some held) plan files files' q e reaches over = count_reached held files files' (unit plan.options plan.file) q e reaches over

-- ---- the report of a unit that is preprocessed

held_done : (told : Option Held) (plan : Plan) (prep : pp.Prep) (log : Log) → pp.IsDue told plan.options plan.file (Ok prep) log → (held : Held) → told ≡ Some held → preprocessed held plan.options plan.file ≡ Ok (pp.with_log log prep)
held_done None plan prep log due held e = absurd (let h : None ≡ Some held = e in cc)
held_done (Some h) plan prep log due held e = ap (λ x. preprocessed x plan.options plan.file) (sym (let same : h ≡ held = cc in same)) ∙ due

pub prepared_reported : (plan : Plan) (prep : pp.Prep) (log : Log) (c : Call) (r : Report) → pp.IsDue c.files.held plan.options plan.file (Ok prep) log → Runs c.files c.files' (unit plan.options plan.file) (Ok prep) (pp.with_log log) log → ReportsDone plan.mode (Ok (pp.with_log log prep)) r → ReportsPlan plan c r
prepared_reported plan prep log c r due answered (answer, is, report) =
    inl (answer, due_by c.files.held c plan (Ok (pp.with_log log prep)) answer (held_done c.files.held plan prep log due) (λ untold. reaches_comes c.files c.files' _ _ _ untold answered refl) is, report, each_read c.files.held plan c.files c.files' (gives (pp.with_log log prep)) refl answered tt)

-- ---- the report where it stops

stop_answer : (mode : Mode) (refusal : Refusal) → IsAnswerIn mode (Err refusal) (answer_to_stop refusal.log refusal.stop)
stop_answer Expand refusal = refl
stop_answer Translate refusal = (Stopped refusal.stop, refl, refl)
stop_answer Check refusal = (Stopped refusal.stop, refl, refl)

stopped_reported : (plan : Plan) (stop : Stop) (log : Log) (c : Call) (r : Report) → ((held : Held) → c.files.held ≡ Some held → preprocessed held plan.options plan.file ≡ pp.refused stop log) → Reaches c.files c.files' (unit plan.options plan.file) (halted stop log) → IsReport (answer_to_stop log stop) r → ReportsPlan plan c r
stopped_reported plan stop log c r held reaches report =
    inl (answer_to_stop log stop, due_by c.files.held c plan (pp.refused stop log) _ held (λ untold. reaches_comes c.files c.files' _ _ _ untold reaches refl) (stop_answer plan.mode (record { stop = stop; log = log })), report, each_read c.files.held plan c.files c.files' (halted stop log) refl reaches tt)

held_stop : (told : Option Held) (plan : Plan) (error : PrepError) (stop : Stop) (log : Log) → ((held : Held) → pp.IsDueStop (preprocessed held plan.options plan.file) error log → preprocessed held plan.options plan.file ≡ pp.refused stop log) → pp.IsDue told plan.options plan.file (Err error) log → (held : Held) → told ≡ Some held → preprocessed held plan.options plan.file ≡ pp.refused stop log
held_stop None plan error stop log by due held e = absurd (let h : None ≡ Some held = e in cc)
held_stop (Some h) plan error stop log by due held e = by held (subst (λ x. pp.IsDueStop (preprocessed x plan.options plan.file) error log) (let same : h ≡ held = cc in same) due)

of_stop : (error : PrepError) (stop : Stop) (log : Log) (r : Report) → stop_of error ≡ Some stop → ReportsStop error log r → IsReport (answer_to_stop log stop) r
of_stop error stop log r e (other, is, report) = subst (λ s. IsReport (answer_to_stop log s) r) (let both : Some other ≡ Some stop = sym is ∙ e in cc) report

pub stop_reported : (plan : Plan) (error : PrepError) (log : Log) (c : Call) (r : Report) → pp.IsDue c.files.held plan.options plan.file (Err error) log → pp.FailedRead c.files c.files' plan.options plan.file (Err error) log → pp.AnswersStop c.files c.files' plan.options plan.file error log → ReportsStop error log r → ReportsPlan plan c r
stop_reported plan (prep_error.Fault fault) log c r due failed stops report =
    stopped_reported plan (broken fault) log c r (held_stop c.files.held plan (prep_error.Fault fault) (broken fault) log (λ held is. is) due) stops (of_stop (prep_error.Fault fault) (broken fault) log r refl report)
stop_reported plan (prep_error.Limit hit) log c r due failed stops report =
    stopped_reported plan (passed hit) log c r (held_stop c.files.held plan (prep_error.Limit hit) (passed hit) log (λ held is. is) due) stops (of_stop (prep_error.Limit hit) (passed hit) log r refl report)
stop_reported plan (prep_error.Read file cause.MainMissing) log c r due failed stops report =
    stopped_reported plan (unread file cause.MainMissing) log c r (held_stop c.files.held plan (prep_error.Read file cause.MainMissing) (unread file cause.MainMissing) log (λ held is. is) due) stops.0 (of_stop (prep_error.Read file cause.MainMissing) (unread file cause.MainMissing) log r refl report)
stop_reported plan (prep_error.Read file cause.TooLarge) log c r due failed stops report =
    stopped_reported plan (unread file cause.TooLarge) log c r (held_stop c.files.held plan (prep_error.Read file cause.TooLarge) (unread file cause.TooLarge) log (λ held is. is) due) stops (of_stop (prep_error.Read file cause.TooLarge) (unread file cause.TooLarge) log r refl report)
stop_reported plan (prep_error.Read file cause.Failed) log c r due failed stops report =
    inr (file, log, failed, of_stop (prep_error.Read file cause.Failed) (unread file cause.Failed) log r refl report)
stop_reported plan prep_error.NoMemory log c r due failed stops (stop, is, report) = absurd (let h : None ≡ Some stop = is in cc)

-- ---- each unit has a verdict, and each call an answer

form_verdict : (tokens : List CTok) (end : Place) (r : reader.Reading) → HasForm tokens → ReadsAs tokens end r → (v : Verdict) × IsVerdictOn tokens end v
form_verdict tokens end (reader.Stops place) form is = (NotBuilt form.0 place, (form.1, is.0, is.1, is.2))
form_verdict tokens end (reader.Reads value) form is = (IsCore form.0 (returning value is.0), (form.1, is.1))

tokens_verdict : (tokens : List CTok) (end : Place) → ((xs : List Tree) × IsUnit (terminals_of tokens) xs) ⊎ ((k : ℕ) × IsFault (terminals_of tokens) k) ⊎ ((k : ℕ) × IsTooDeep (terminals_of tokens) k) → (v : Verdict) × IsVerdictOn tokens end v
tokens_verdict tokens end (inl (xs, is)) = form_verdict tokens end (reader.read_unit tokens end) (unit_has_form tokens xs is) (reading_says tokens end)
tokens_verdict tokens end (inr (inl (k, is))) = (Stopped (broken (record { place = token_place tokens end k; rule = record { family = S; number = 1 } })), (k, is, refl))
tokens_verdict tokens end (inr (inr (k, is))) = (Stopped (passed (record { place = token_place tokens end k; limit = record { number = 6 } })), (k, is, refl))

converted_verdict : (converted : Result (List CTok) Fault) (end : Place) → (v : Verdict) × IsVerdictOf converted end v
converted_verdict (Ok tokens) end = tokens_verdict tokens end (answered (terminals_of tokens))
converted_verdict (Err fault) end = (Stopped (broken fault), refl)

pub every_verdict : (done : Result Prepared Refusal) → (v : Verdict) × IsVerdict done v
every_verdict (Ok unit) = converted_verdict (c_tokens_of unit.tokens) unit.end
every_verdict (Err refusal) = (Stopped refusal.stop, refl)

pub answer_in : (mode : Mode) (done : Result Prepared Refusal) → (due : Answer) × IsAnswerIn mode done due
answer_in Expand done = (expanded done, refl)
answer_in Translate done = let v = every_verdict done in (answer_to Translate (log_of done) (marks_of done) v.0, (v.0, v.1, refl))
answer_in Check done = let v = every_verdict done in (answer_to Check (log_of done) (marks_of done) v.0, (v.0, v.1, refl))

due_in : (told : Option Held) (c : Call) (plan : Plan) → (due : Answer) × IsDueIn told c.files c.files' plan due
due_in (Some held) c plan = answer_in plan.mode (preprocessed held plan.options plan.file)
due_in None c plan = let done = some_done c.files c.files' (unit plan.options plan.file) in let a = answer_in plan.mode done.0 in (a.0, (done.0, done.1, a.1))

pub some_due : (plan : Result Plan ℕ) (c : Call) → (due : Answer) × IsDue plan c due
some_due (Ok plan) c = due_in c.files.held c plan
some_due (Err number) c = (Usage number, refl)
