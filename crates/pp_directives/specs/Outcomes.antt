-- What a call answers, as the process that defines it has it.
use Rattle.std.specs.Prelude.{◌≡◌, ℕ, suc, List, Result, Ok, Err}
use Rattle.cake_base.specs.Counts.{Rose}
use Rattle.cake_base.specs.Outside.{FilesView, ReadKeeps}
use Rattle.model_preprocessing.specs.declared.directives.ReadCause.{ReadCause}
use Rattle.model_preprocessing.specs.declared.directives.ReadCause.TheVariants as cause
use Rattle.model_preprocessing.specs.Processes.{ReadAnswer, Failed, Stop, broken, passed, unread, Log, Process, gives, refuses, asks}
use Rattle.pp_directives.specs.declared.errors.PrepError.{PrepError}
use Rattle.pp_directives.specs.declared.errors.PrepError.TheVariants as prep_error
use Rattle.pp_directives.specs.Reads.{Asked, Reads, ReadsKeep, After, Reaches}

-- ---- calls that ask for nothing

abbrev pub halted : {A : Type 0} → Stop → Log → Process A
halted stop log = refuses (record { stop = stop; log = log })

-- the process refuses for this reason; the want of memory is free
abbrev pub Halts : {A : Type 0} → Process A → PrepError → Log → Type 0
Halts p (prep_error.Fault fault) log = p ≡ halted (broken fault) log
Halts p (prep_error.Limit hit) log = p ≡ halted (passed hit) log
Halts p (prep_error.Read file why) log = ⊥
Halts p prep_error.NoMemory log = Unit {0}

-- The process gives what the call answers with what it leaves; after an error, with this log.
abbrev pub Does : {A T : Type 0} → Process A → Result T PrepError → (T → A) → Log → Type 0
Does p (Ok value) done log = p ≡ gives (done value)
Does p (Err error) done log = Halts p error log

-- ---- calls that ask the files

-- after some reads that were answered, the process refuses
abbrev pub Refuses : {A : Type 0} → FilesView → FilesView → Process A → Stop → Log → Type 0
Refuses old new p stop log = Reaches old new p (halted stop log)

-- After some reads that were answered, a read fails, for which the count of faults rose, and the process
-- refuses for that.
pub record FailsRead {A : Type 0} (old new : FilesView) (p : Process A) (file : ℕ) (log : Log) : Type 0 where
  pub reads : List Asked
  pub mid : FilesView
  pub answered : Reads old reads mid
  pub keeps : ReadKeeps mid new
  pub rose : Rose mid.faults new.faults
  pub name : List ℕ
  pub next : ReadAnswer → Process A
  pub after : After p reads (asks name next)
  pub stops : next Failed ≡ halted (unread file cause.Failed) log

-- only the main file can be missing, which is told apart
abbrev pub StopsUnread : {A : Type 0} → FilesView → FilesView → Process A → ℕ → ReadCause → Log → Type 0
StopsUnread old new p file cause.Failed log = FailsRead old new p file log
StopsUnread old new p file cause.MainMissing log = ⊥
StopsUnread old new p file cause.TooLarge log = Refuses old new p (unread file cause.TooLarge) log

abbrev pub Stops : {A : Type 0} → FilesView → FilesView → Process A → PrepError → Log → Type 0
Stops old new p (prep_error.Fault fault) log = Refuses old new p (broken fault) log
Stops old new p (prep_error.Limit hit) log = Refuses old new p (passed hit) log
Stops old new p (prep_error.Read file why) log = StopsUnread old new p file why log
Stops old new p prep_error.NoMemory log = (n : ℕ) × ReadsKeep old n new

-- the same as `Does`, of a call that may read files
abbrev pub Runs : {A T : Type 0} → FilesView → FilesView → Process A → Result T PrepError → (T → A) → Log → Type 0
Runs old new p (Ok value) done log = Reaches old new p (gives (done value))
Runs old new p (Err error) done log = Stops old new p error log
