-- What the command promises, in the terms that its clauses cite.
use Rattle.std.specs.Prelude.{◌≡◌, ◌⊎◌, ℕ, List, [], length, Option, Some, None, Result, Ok, Err}
use Rattle.cake_base.specs.Counts.{Rose}
use Rattle.cake_base.specs.Outside.{Held, FilesView, Appends, AppendsPrefix}
use Rattle.model_core.specs.Core.{Core}
use Rattle.model_core.specs.Program89.{Program}
use Rattle.model_c89.specs.Reading89.{Reads89}
use Rattle.model_c89.specs.Flat89.{Flat}
use Rattle.c_model.specs.Translation.{Exports, Same}
use Rattle.cake_cli.specs.ExpandedText.{expanded_text}
use Rattle.model_preprocessing.specs.Processes.{Log}
use Rattle.cake_cli.specs.ReportLines.{name_in}
use Rattle.cake_cli.specs.Words.{Plan}
use Rattle.cake_cli.specs.Answer.{Delivery, AText, NoText, Tokens, Answer, Usage, Unreadable, Refused, Unbuilt, Limited, RefusedByFindings, Written, err_text}
use Rattle.model_preprocessing.specs.PreprocessedUnit.{asked}
use Rattle.pp_directives.specs.Promise.{Kept, RoseBy, FailsAt}
use Rattle.cake_cli.specs.Call.{Call, IsDue}
use Rattle.cake_cli.specs.declared.status.Status.{Status}
use Rattle.cake_cli.specs.declared.status.Status.TheVariants as status

-- counts of faults that rose in the call
abbrev pub ReadFailed : Call → Type 0
ReadFailed c = Rose c.files.faults c.files'.faults

abbrev pub OutFailed : Call → Type 0
OutFailed c = Rose c.out.faults c.out'.faults

abbrev pub ErrFailed : Call → Type 0
ErrFailed c = Rose c.err.faults c.err'.faults

-- what was put on out and on err: nothing, a whole text, or a prefix of one
abbrev pub NothingOnOut : Call → Type 0
NothingOnOut c = c.out'.content ≡ c.out.content

abbrev pub NothingOnErr : Call → Type 0
NothingOnErr c = c.err'.content ≡ c.err.content

abbrev pub PutsOnOut : List ℕ → Call → Type 0
PutsOnOut text c = Appends text c.out c.out'

abbrev pub PutsOnErr : List ℕ → Call → Type 0
PutsOnErr text c = Appends text c.err c.err'

abbrev pub PutsPrefixOnOut : List ℕ → Call → Type 0
PutsPrefixOnOut text c = AppendsPrefix text c.out c.out'

abbrev pub PutsPrefixOnErr : List ℕ → Call → Type 0
PutsPrefixOnErr text c = AppendsPrefix text c.err c.err'

-- the answer that words and files determine has this
abbrev pub ForDue : Result Plan ℕ → Call → (Answer → Type 0) → Type 0
ForDue plan c P = (due : Answer) × IsDue plan c due × P due

-- the words have a reading, or none
abbrev pub AreRead : Result Plan ℕ → Type 0
AreRead (Ok plan) = Unit {0}
AreRead (Err number) = ⊥

abbrev pub AreBad : Result Plan ℕ → Type 0
AreBad (Ok plan) = ⊥
AreBad (Err number) = Unit {0}

-- kinds of answers
abbrev pub IsWritten : Answer → Type 0
IsWritten due = (log : Log) × (delivery : Delivery) × (due ≡ Written log delivery)

abbrev pub IsRefused : Answer → Type 0
IsRefused (Refused log fault) = Unit {0}
IsRefused (Unbuilt log place) = Unit {0}
IsRefused (RefusedByFindings log unit) = Unit {0}
IsRefused (Usage number) = ⊥
IsRefused (Unreadable log name) = ⊥
IsRefused (Limited log hit) = ⊥
IsRefused (Written log delivery) = ⊥

abbrev pub IsUnreadable : Answer → Type 0
IsUnreadable (Unreadable log name) = Unit {0}
IsUnreadable (Usage number) = ⊥
IsUnreadable (Refused log fault) = ⊥
IsUnreadable (Unbuilt log place) = ⊥
IsUnreadable (Limited log hit) = ⊥
IsUnreadable (RefusedByFindings log unit) = ⊥
IsUnreadable (Written log delivery) = ⊥

abbrev pub IsLimited : Answer → Type 0
IsLimited (Limited log hit) = Unit {0}
IsLimited (Usage number) = ⊥
IsLimited (Unreadable log name) = ⊥
IsLimited (Refused log fault) = ⊥
IsLimited (Unbuilt log place) = ⊥
IsLimited (RefusedByFindings log unit) = ⊥
IsLimited (Written log delivery) = ⊥

-- a read that preprocessing asks for failed in this call, and its count of faults rose
abbrev pub IsFailedRead : Result Plan ℕ → Call → Type 0
IsFailedRead (Ok plan) c = (file : ℕ) × (log : Log) × FailsAt c.files c.files' plan.options plan.file file log
IsFailedRead (Err number) c = ⊥

-- a status that may come in place of the one that is due: memory is free where the words have a reading,
-- and a fault where its count rose
abbrev pub IsExcused : Status → Result Plan ℕ → Call → Type 0
IsExcused status.NoMemory plan c = AreRead plan
IsExcused status.ReadFault plan c = IsFailedRead plan c
IsExcused status.WriteFault plan c = ErrFailed c ⊎ OutFailed c
IsExcused status.Written plan c = ⊥
IsExcused status.Refused plan c = ⊥
IsExcused status.Usage plan c = ⊥
IsExcused status.Limit plan c = ⊥

-- an answer comes exactly where its cause holds, but for excuses
abbrev pub Exactly : (answer cause excuse : Type 0) → Type 0
Exactly answer cause excuse = (answer → cause) × (cause → answer ⊎ excuse)

-- the text reads as a flat C89 program that exports what the unit defines and has the same runs
pub record Delivers (core : Core) (text : List ℕ) : Type 0 where
  pub program : Program
  pub reads : Reads89 text program
  pub flat : Flat program
  pub exports : Exports core program
  pub same : Same core program

-- a text that out may get
abbrev pub IsDelivered : Delivery → List ℕ → Type 0
IsDelivered (AText unit) text = Delivers unit.core text
IsDelivered (NoText unit) text = text ≡ []
IsDelivered (Tokens tokens) text = text ≡ expanded_text tokens

-- a text of what is written was put on out
abbrev pub PutsText : Answer → Call → Type 0
PutsText due c = (log : Log) × (delivery : Delivery) × (due ≡ Written log delivery) × (text : List ℕ) × IsDelivered delivery text × PutsOnOut text c

-- the text on a read that failed: the notes that stand where it fails, and the line with the name of its file
abbrev pub IsFailedText : Result Plan ℕ → Call → List ℕ → Type 0
IsFailedText (Ok plan) c text = (file : ℕ) × (log : Log) × FailsAt c.files c.files' plan.options plan.file file log × (text ≡ err_text (Unreadable log (name_in log file)))
IsFailedText (Err number) c text = ⊥

-- what err gets
abbrev pub ErrGets : Status → Result Plan ℕ → Answer → Call → Type 0
ErrGets status.Written plan due c = PutsOnErr (err_text due) c
ErrGets status.Refused plan due c = PutsOnErr (err_text due) c
ErrGets status.Usage plan due c = PutsOnErr (err_text due) c
ErrGets status.Limit plan due c = PutsOnErr (err_text due) c
ErrGets status.ReadFault plan due c = (IsUnreadable due × PutsOnErr (err_text due) c) ⊎ ((text : List ℕ) × IsFailedText plan c text × PutsOnErr text c)
ErrGets status.WriteFault plan due c = (text : List ℕ) × ((text ≡ err_text due) ⊎ IsFailedText plan c text) × PutsPrefixOnErr text c
ErrGets status.NoMemory plan due c = NothingOnErr c

-- a put failed: that on err, and out got nothing; or that on out, of what is written, and err got its whole text
abbrev pub PutFailed : Answer → Call → Type 0
PutFailed due c =
    (ErrFailed c × NothingOnOut c)
    ⊎ (OutFailed c × PutsOnErr (err_text due) c × (log : Log) × (delivery : Delivery) × (due ≡ Written log delivery) × (text : List ℕ) × IsDelivered delivery text × PutsPrefixOnOut text c)

-- no count of faults rose
pub record NoFault (c : Call) : Type 0 where
  pub read : ReadFailed c → ⊥
  pub out : OutFailed c → ⊥
  pub err : ErrFailed c → ⊥

-- what a call owes to the answer that is due: by its status, and by what out and err got
pub record Meets (result : Status) (plan : Result Plan ℕ) (due : Answer) (c : Call) : Type 0 where
  pub written : result ≡ status.Written → PutsText due c
  pub err : ErrGets result plan due c
  pub refused : Exactly (result ≡ status.Refused) (IsRefused due) (IsExcused result plan c)
  pub read_fault : (result ≡ status.ReadFault → IsUnreadable due ⊎ IsFailedRead plan c) × (IsUnreadable due → (result ≡ status.ReadFault) ⊎ IsExcused result plan c)
  pub write_fault : result ≡ status.WriteFault → PutFailed due c
  pub limit : Exactly (result ≡ status.Limit) (IsLimited due) (IsExcused result plan c)
  pub complete : IsWritten due → NoFault c → (result ≡ status.Written) ⊎ (result ≡ status.NoMemory)

-- the files hold what they held, where the words have a reading, and else weren't asked
abbrev pub Reads : Result Plan ℕ → Call → Type 0
Reads (Ok plan) c = Kept c.files c.files'
Reads (Err number) c = c.files' ≡ c.files

-- there was a read for each name that preprocessing asks for, where the files tell what they hold and how
-- many reads there were
abbrev pub ReadsEach : Option Held → Plan → FilesView → FilesView → Type 0
ReadsEach None plan files files' = Unit {0}
ReadsEach (Some held) plan files files' = RoseBy (length (asked held plan.options plan.file)) files.calls files'.calls

abbrev pub ReadsAll : Result Plan ℕ → Call → Type 0
ReadsAll (Ok plan) c = ReadsEach c.files.held plan c.files c.files'
ReadsAll (Err number) c = Unit {0}
