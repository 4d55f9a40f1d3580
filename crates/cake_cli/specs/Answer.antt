-- What the command answers, and the text that it puts on err.
use Rattle.std.specs.Prelude.{◌≡◌, ℕ, if◌then◌else◌, List, [], ◌++◌, Option, Some, None, Result, Ok, Err}
use Rattle.cake_base.specs.declared.places.Place.{Place}
use Rattle.cake_base.specs.declared.rules.Fault.{Fault}
use Rattle.cake_base.specs.declared.rules.LimitHit.{LimitHit}
use Rattle.cake_base.specs.declared.rules.Mark.{Mark}
use Rattle.cake_base.specs.Outside.{Held}
use Rattle.cake_cli.specs.declared.modes.Mode.{Mode}
use Rattle.cake_cli.specs.declared.modes.Mode.TheVariants.{Translate, Expand, Check}
use Rattle.model_findings.specs.Ownership.{is_refused}
use Rattle.model_tokens.specs.PpTokens.{PpToken}
use Rattle.model_preprocessing.specs.PreprocessedUnit.{Prepared, preprocessed, log_of}
use Rattle.model_preprocessing.specs.Processes.{Stop, broken, passed, unread, Log, Refusal}
use Rattle.model_grammar.specs.SyntaxForms.{External}
use Rattle.cake_cli.specs.Accepted.{Accepted, accepted, ownership_of}
use Rattle.cake_cli.specs.ReportLines.{name_in, fault_line, limit_line, not_built_line, cannot_read_line, usage_line, notes_text, ownership_text}
use Rattle.cake_cli.specs.Verdict.{Verdict, Stopped, NotBuilt, IsCore, IsVerdict}
use Rattle.cake_cli.specs.Words.{Plan}

-- what goes to out: a C89 text of a unit, nothing of it, or preprocessed tokens
pub data Delivery : Type 0 where
  AText : (unit : Accepted) → Delivery
  NoText : (unit : Accepted) → Delivery
  Tokens : (tokens : List PpToken) → Delivery

pub data Answer : Type 0 where
  Usage : (number : ℕ) → Answer
  Unreadable : (log : Log) (name : List ℕ) → Answer
  Refused : (log : Log) (fault : Fault) → Answer
  Unbuilt : (log : Log) (place : Place) → Answer
  Limited : (log : Log) (hit : LimitHit) → Answer
  RefusedByFindings : (log : Log) (unit : Accepted) → Answer
  Written : (log : Log) (delivery : Delivery) → Answer

-- what is reported beside what goes to out
abbrev pub delivery_text : Log → Delivery → List ℕ
delivery_text log (AText unit) = ownership_text log unit.marks unit.ownership
delivery_text log (NoText unit) = ownership_text log unit.marks unit.ownership
delivery_text log (Tokens tokens) = notes_text log

-- the notes come first
abbrev pub err_text : Answer → List ℕ
err_text (Usage number) = usage_line number
err_text (Unreadable log name) = notes_text log ++ cannot_read_line name
err_text (Refused log fault) = notes_text log ++ fault_line log fault
err_text (Unbuilt log place) = notes_text log ++ not_built_line log place
err_text (Limited log hit) = notes_text log ++ limit_line log hit
err_text (RefusedByFindings log unit) = ownership_text log unit.marks unit.ownership
err_text (Written log delivery) = delivery_text log delivery

-- the answer where a unit isn't translated to its end
abbrev pub answer_to_stop : Log → Stop → Answer
answer_to_stop log (broken fault) = Refused log fault
answer_to_stop log (passed hit) = Limited log hit
answer_to_stop log (unread file cause) = Unreadable log (name_in log file)

-- with `--check` nothing goes to out
abbrev pub delivery_of : Mode → Accepted → Delivery
delivery_of Translate unit = AText unit
delivery_of Expand unit = NoText unit
delivery_of Check unit = NoText unit

-- a unit that has a core is refused for its findings, or written
abbrev pub answer_on : Mode → Log → Accepted → Answer
answer_on mode log unit = if is_refused unit.marks unit.ownership then RefusedByFindings log unit else Written log (delivery_of mode unit)

-- the marks are those of the unit's pragmas
abbrev pub answer_to : Mode → Log → List Mark → Verdict → Answer
answer_to mode log marks (Stopped stop) = answer_to_stop log stop
answer_to mode log marks (NotBuilt forms place) = Unbuilt log place
answer_to mode log marks (IsCore forms core) = answer_on mode log (accepted core marks)

-- with `-E` preprocessing alone decides
abbrev pub expanded : Result Prepared Refusal → Answer
expanded (Ok unit) = Written unit.log (Tokens unit.tokens)
expanded (Err refusal) = answer_to_stop refusal.log refusal.stop

abbrev pub marks_of : Result Prepared Refusal → List Mark
marks_of (Ok unit) = unit.marks
marks_of (Err refusal) = []

-- the answer where preprocessing gives this
abbrev pub IsAnswerIn : Mode → Result Prepared Refusal → Answer → Type 0
IsAnswerIn Expand done answer = answer ≡ expanded done
IsAnswerIn Translate done answer = (verdict : Verdict) × IsVerdict done verdict × (answer ≡ answer_to Translate (log_of done) (marks_of done) verdict)
IsAnswerIn Check done answer = (verdict : Verdict) × IsVerdict done verdict × (answer ≡ answer_to Check (log_of done) (marks_of done) verdict)

-- the answer that words and files determine
abbrev pub IsAnswer : Result Plan ℕ → Held → Answer → Type 0
IsAnswer (Err number) held answer = answer ≡ Usage number
IsAnswer (Ok plan) held answer = IsAnswerIn plan.mode (preprocessed held plan.options plan.file) answer

-- what an answer carries of a unit
abbrev pub carried : Answer → Option Accepted
carried (RefusedByFindings log unit) = Some unit
carried (Written log (AText unit)) = Some unit
carried (Written log (NoText unit)) = Some unit
carried (Written log (Tokens tokens)) = None
carried (Usage number) = None
carried (Unreadable log name) = None
carried (Refused log fault) = None
carried (Unbuilt log place) = None
carried (Limited log hit) = None

-- that is the core of what was preprocessed, with its marks
pub record IsOfUnit (done : Result Prepared Refusal) (unit : Accepted) : Type 0 where
  pub forms : List External
  pub core : IsVerdict done (IsCore forms unit.core)
  pub marks : unit.marks ≡ marks_of done
  pub ownership : unit.ownership ≡ ownership_of unit.core
