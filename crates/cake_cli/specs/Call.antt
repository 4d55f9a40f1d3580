-- A call of the command, and the answer that is due there.
use Rattle.std.specs.Prelude.{◌≡◌, ℕ, ◌≤◌, length, Option, Some, None, Result, Ok, Err}
use Rattle.cake_base.specs.Counts.{Rose}
use Rattle.cake_base.specs.Outside.{Held, FilesView, SinkView, max_file}
use Rattle.model_preprocessing.specs.Processes.{ReadAnswer, NotHeld, Contents, TooLarge, Failed, Refusal, Process, gives, refuses, asks}
use Rattle.model_preprocessing.specs.PreprocessedUnit.{Prepared, unit}
use Rattle.cake_cli.specs.Words.{Plan}
use Rattle.cake_cli.specs.Answer.{Answer, Usage, IsAnswerIn, IsAnswer}

-- what files and sinks show before a call and after it
pub record Call : Type 0 where
  pub files : FilesView
  pub files' : FilesView
  pub out : SinkView
  pub out' : SinkView
  pub err : SinkView
  pub err' : SinkView

abbrev pub call_of : (files files' : FilesView) → (out out' err err' : SinkView) → Call
call_of files files' out out' err err' = record { files = files; files' = files'; out = out; out' = out'; err = err; err' = err' }

-- What a read may have answered where the files don't tell what they hold: that it failed only where the count of
-- faults rose in the call, and that no file has the name only where that of misses did.
abbrev pub MayAnswer : (old new : FilesView) → ReadAnswer → Type 0
MayAnswer old new NotHeld = Rose old.misses new.misses
MayAnswer old new (Contents bytes) = length bytes ≤ max_file
MayAnswer old new TooLarge = Unit {0}
MayAnswer old new Failed = Rose old.faults new.faults

-- what some such answers lead preprocessing to
abbrev pub ComesOf : (old new : FilesView) → Process Prepared → Result Prepared Refusal → Type 0
ComesOf old new (gives unit) done = done ≡ Ok unit
ComesOf old new (refuses refusal) done = done ≡ Err refusal
ComesOf old new (asks name next) done = (answer : ReadAnswer) × MayAnswer old new answer × ComesOf old new (next answer) done

-- The answer that a plan and files determine; where the files don't tell what they hold, one that some
-- answers of theirs lead to.
abbrev pub IsDueIn : Option Held → (old new : FilesView) → Plan → Answer → Type 0
IsDueIn (Some held) old new plan due = IsAnswer (Ok plan) held due
IsDueIn None old new plan due = (done : Result Prepared Refusal) × ComesOf old new (unit plan.options plan.file) done × IsAnswerIn plan.mode done due

abbrev pub IsDue : Result Plan ℕ → Call → Answer → Type 0
IsDue (Err number) c due = due ≡ Usage number
IsDue (Ok plan) c due = IsDueIn c.files.held c.files c.files' plan due
