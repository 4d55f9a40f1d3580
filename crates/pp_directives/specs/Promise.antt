-- What preprocessing of a unit promises, in the terms that its clauses cite.
use Rattle.std.specs.Prelude.{◌≡◌, ℕ, ◌+◌, ◌≤◌, List, Option, Some, None, Result, Ok, Err}
use Rattle.cake_base.specs.declared.places.Place.{Place}
use Rattle.cake_base.specs.declared.rules.Mark.{Mark}
use Rattle.cake_base.specs.Counts.{Rose}
use Rattle.cake_base.specs.Outside.{Held, FilesView, ReadKeeps}
use Rattle.model_preprocessing.specs.declared.directives.ReadCause.{ReadCause}
use Rattle.model_preprocessing.specs.declared.directives.ReadCause.TheVariants as cause
use Rattle.model_tokens.specs.PpTokens.{PpToken}
use Rattle.model_preprocessing.specs.Processes.{NotHeld, TooLarge, Stop, broken, passed, unread, Log, Refusal, gives}
use Rattle.model_preprocessing.specs.PreprocessedUnit.{Options, Prepared, unit, preprocessed, preprocessed_up_to}
use Rattle.pp_directives.specs.Reads.{Answers, Reaches}
use Rattle.pp_directives.specs.Outcomes.{Refuses, Stops}
use Rattle.pp_directives.specs.declared.errors.PrepError.{PrepError}
use Rattle.pp_directives.specs.declared.errors.PrepError.TheVariants as prep_error

-- a unit that is preprocessed: its tokens, its marks, and the place after the last byte of the main file
pub record Prep : Type 0 where
  pub tokens : List PpToken
  pub marks : List Mark
  pub end : Place

abbrev pub with_log : Log → Prep → Prepared
with_log log p = record { tokens = p.tokens; marks = p.marks; end = p.end; log = log }

abbrev pub refused : Stop → Log → Result Prepared Refusal
refused stop log = Err (record { stop = stop; log = log })

-- ---- where the files tell what they hold

-- The answer is the one that is due, with its names and notes; the want of memory and failed reads are told
-- apart.
abbrev pub IsDueStop : Result Prepared Refusal → PrepError → Log → Type 0
IsDueStop due (prep_error.Fault fault) log = due ≡ refused (broken fault) log
IsDueStop due (prep_error.Limit hit) log = due ≡ refused (passed hit) log
IsDueStop due (prep_error.Read file cause.MainMissing) log = due ≡ refused (unread file cause.MainMissing) log
IsDueStop due (prep_error.Read file cause.TooLarge) log = due ≡ refused (unread file cause.TooLarge) log
IsDueStop due (prep_error.Read file cause.Failed) log = Unit {0}
IsDueStop due prep_error.NoMemory log = Unit {0}

abbrev pub IsDueAnswer : Result Prepared Refusal → Result Prep PrepError → Log → Type 0
IsDueAnswer due (Ok p) log = due ≡ Ok (with_log log p)
IsDueAnswer due (Err error) log = IsDueStop due error log

abbrev pub IsDue : Option Held → Options → (name : List ℕ) → Result Prep PrepError → Log → Type 0
IsDue None options name result log = Unit {0}
IsDue (Some held) options name result log = IsDueAnswer (preprocessed held options name) result log

-- ---- a failed read

-- the number of reads rose by so many, where it is told
abbrev pub RoseBy : ℕ → Option ℕ → Option ℕ → Type 0
RoseBy k None new = Unit {0}
RoseBy k (Some old) None = Unit {0}
RoseBy k (Some old) (Some new) = new ≡ old + k

-- this is what stands where the k-th read fails
abbrev pub StandsUpTo : Option Held → Options → (name : List ℕ) → (k file : ℕ) → Log → Type 0
StandsUpTo None options name k file log = Unit {0}
StandsUpTo (Some held) options name k file log = preprocessed_up_to held options name k ≡ Some (refused (unread file cause.Failed) log)

-- the count of faults rose, and the file and the log are those that stand where one of the reads fails, the last
-- that was asked for
pub record FailsAt (old new : FilesView) (options : Options) (name : List ℕ) (file : ℕ) (log : Log) : Type 0 where
  pub k : ℕ
  pub rose : Rose old.faults new.faults
  pub reads : RoseBy k old.calls new.calls
  pub stands : StandsUpTo old.held options name k file log

abbrev pub FailedRead : FilesView → FilesView → Options → (name : List ℕ) → Result Prep PrepError → Log → Type 0
FailedRead old new options name (Ok p) log = Unit {0}
FailedRead old new options name (Err (prep_error.Fault fault)) log = Unit {0}
FailedRead old new options name (Err (prep_error.Limit hit)) log = Unit {0}
FailedRead old new options name (Err (prep_error.Read file cause.MainMissing)) log = Unit {0}
FailedRead old new options name (Err (prep_error.Read file cause.TooLarge)) log = Unit {0}
FailedRead old new options name (Err (prep_error.Read file cause.Failed)) log = FailsAt old new options name file log
FailedRead old new options name (Err prep_error.NoMemory) log = Unit {0}

-- ---- whatever the files tell

-- no read changes what the files hold, and no count falls
pub record Kept (old new : FilesView) : Type 0 where
  pub held : new.held ≡ old.held
  pub faults : old.faults ≤ new.faults
  pub misses : old.misses ≤ new.misses

-- the count of misses rose, where nothing is told of what the files hold
abbrev pub MissesRose : Option Held → ℕ → ℕ → Type 0
MissesRose None before now = Rose before now
MissesRose (Some held) before now = Unit {0}

abbrev pub MissedMain : FilesView → FilesView → Result Prep PrepError → Type 0
MissedMain old new (Ok p) = Unit {0}
MissedMain old new (Err (prep_error.Fault fault)) = Unit {0}
MissedMain old new (Err (prep_error.Limit hit)) = Unit {0}
MissedMain old new (Err (prep_error.Read file cause.MainMissing)) = MissesRose old.held old.misses new.misses
MissedMain old new (Err (prep_error.Read file cause.TooLarge)) = Unit {0}
MissedMain old new (Err (prep_error.Read file cause.Failed)) = Unit {0}
MissedMain old new (Err prep_error.NoMemory) = Unit {0}

-- ---- what was answered

-- As `Stops` has it; the main file is missing where it was asked for and isn't held.
abbrev pub AnswersStop : FilesView → FilesView → Options → (name : List ℕ) → PrepError → Log → Type 0
AnswersStop old new options name (prep_error.Read file cause.MainMissing) log =
    Refuses old new (unit options name) (unread file cause.MainMissing) log × MissesRose old.held old.misses new.misses
AnswersStop old new options name (prep_error.Read file cause.TooLarge) log = Stops old new (unit options name) (prep_error.Read file cause.TooLarge) log
AnswersStop old new options name (prep_error.Read file cause.Failed) log = Stops old new (unit options name) (prep_error.Read file cause.Failed) log
AnswersStop old new options name (prep_error.Fault fault) log = Stops old new (unit options name) (prep_error.Fault fault) log
AnswersStop old new options name (prep_error.Limit hit) log = Stops old new (unit options name) (prep_error.Limit hit) log
AnswersStop old new options name prep_error.NoMemory log = Stops old new (unit options name) prep_error.NoMemory log

-- After the reads of this call, each with an answer as far as the files tell of it, the process of the unit gives
-- what is answered.
abbrev pub IsAnswered : FilesView → FilesView → Options → (name : List ℕ) → Result Prep PrepError → Log → Type 0
IsAnswered old new options name (Ok p) log = Reaches old new (unit options name) (gives (with_log log p))
IsAnswered old new options name (Err error) log = AnswersStop old new options name error log

-- ---- the main file

-- what the read of the main file says where it is refused
abbrev pub MainCause : FilesView → FilesView → (name : List ℕ) → ReadCause → Type 0
MainCause old new name cause.MainMissing = Answers old new name NotHeld
MainCause old new name cause.TooLarge = Answers old new name TooLarge
MainCause old new name cause.Failed = Rose old.faults new.faults

abbrev pub MainUnread : FilesView → FilesView → (name : List ℕ) → PrepError → Type 0
MainUnread old new name (prep_error.Read file why) = (file ≡ 0) × MainCause old new name why
MainUnread old new name (prep_error.Fault fault) = ⊥
MainUnread old new name (prep_error.Limit hit) = ⊥
MainUnread old new name prep_error.NoMemory = Unit {0}
