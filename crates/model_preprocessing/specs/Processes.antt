-- What preprocessing asks of the files, and what comes of their answers. A process gives something, or
-- refuses, or asks for a file by its name and goes on with the answer.
use Rattle.std.specs.Prelude.{ℕ, zero, suc, nat_lt, if◌then◌else◌, List, [], ◌∷◌, length, Option, Some, None, Result, Ok, Err}
use Rattle.cake_base.specs.declared.rules.Fault.{Fault}
use Rattle.cake_base.specs.declared.rules.LimitHit.{LimitHit}
use Rattle.cake_base.specs.declared.rules.Note.{Note}
use Rattle.cake_base.specs.Outside.{Held, bytes_under, max_file}
use Rattle.model_preprocessing.specs.declared.directives.ReadCause.{ReadCause}

-- what a read answers
pub data ReadAnswer : Type 0 where
  NotHeld : ReadAnswer
  Contents : (bytes : List ℕ) → ReadAnswer
  TooLarge : ReadAnswer
  Failed : ReadAnswer

-- why preprocessing ends without a list: a broken rule, a limit that is passed, or a file, by its
-- number, that isn't read
pub data Stop : Type 0 where
  broken : Fault → Stop
  passed : LimitHit → Stop
  unread : (file : ℕ) → ReadCause → Stop

-- the names of files by their numbers, and the notes
pub record Log : Type 0 where
  pub names : List (List ℕ)
  pub notes : List Note

-- why it ends, with the names and notes met before
pub record Refusal : Type 0 where
  pub stop : Stop
  pub log : Log

pub data Process (A : Type 0) : Type 0 where
  gives : A → Process A
  refuses : Refusal → Process A
  asks : (name : List ℕ) → (ReadAnswer → Process A) → Process A

-- the one process, and then the other with what the first gives
abbrev pub and_then : {A B : Type 0} → Process A → (A → Process B) → Process B
and_then (gives a) f = f a
and_then (refuses r) f = refuses r
and_then (asks name g) f = asks name (λ answer. and_then (g answer) f)

-- ---- a process among files

-- what a read answers of these bytes under its name
abbrev pub answer_of : Option (List ℕ) → ReadAnswer
answer_of None = NotHeld
answer_of (Some bytes) = if nat_lt max_file (length bytes) then TooLarge else Contents bytes

-- what comes of a process where every read answers what is held
abbrev pub among : {A : Type 0} → Held → Process A → Result A Refusal
among held (gives a) = Ok a
among held (refuses r) = Err r
among held (asks name f) = among held (f (answer_of (bytes_under held name)))

-- the names that it asks for then, in order
abbrev pub reads : {A : Type 0} → Held → Process A → List (List ℕ)
reads held (gives a) = []
reads held (refuses r) = []
reads held (asks name f) = name ∷ reads held (f (answer_of (bytes_under held name)))

-- What comes of it where the reads before the k-th, counted from 1, answer what is held, and the k-th
-- fails; none where it doesn't ask so often.
abbrev pub where_read_fails : {A : Type 0} → Held → ℕ → Process A → Option (Result A Refusal)
where_read_fails held k (gives a) = None
where_read_fails held k (refuses r) = None
where_read_fails held zero (asks name f) = None
where_read_fails held (suc zero) (asks name f) = Some (among held (f Failed))
where_read_fails held (suc (suc k)) (asks name f) = where_read_fails held (suc k) (f (answer_of (bytes_under held name)))
