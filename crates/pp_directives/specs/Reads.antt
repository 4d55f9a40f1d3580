-- The reads of a call, one after another, with what each answered.
use Rattle.std.specs.Prelude.{◌≡◌, ℕ, zero, suc, ◌<◌, ◌≤◌, List, [], ◌∷◌, length, Some}
use Rattle.cake_base.specs.Counts.{Rose}
use Rattle.cake_base.specs.Outside.{FilesView, ReadKeeps, StandsUnder, IsMissing, IsTooLarge, max_file}
use Rattle.model_preprocessing.specs.Processes.{ReadAnswer, NotHeld, Contents, TooLarge, Failed, Process, gives, refuses, asks}

-- a read that was asked for, with its answer
pub record Asked : Type 0 where
  pub name : List ℕ
  pub answer : ReadAnswer

-- What an answer says of the files before the read and after it, as far as they tell; a read that fails
-- answers nothing.
abbrev pub Answers : (old new : FilesView) → List ℕ → ReadAnswer → Type 0
Answers old new name NotHeld = IsMissing old.held name old.misses new.misses
Answers old new name (Contents bytes) = (length bytes ≤ max_file) × StandsUnder old.held name (Some bytes)
Answers old new name TooLarge = IsTooLarge old.held name
Answers old new name Failed = ⊥

-- the files after these reads
abbrev pub Reads : FilesView → List Asked → FilesView → Type 0
Reads old [] new = new ≡ old
Reads old (a ∷ more) new = (mid : FilesView) × ReadKeeps old mid × Answers old mid a.name a.answer × Reads mid more new

-- the files after so many reads
abbrev pub ReadsKeep : FilesView → ℕ → FilesView → Type 0
ReadsKeep old zero new = new ≡ old
ReadsKeep old (suc n) new = (mid : FilesView) × ReadKeeps old mid × ReadsKeep mid n new

-- what is left of a process after these reads
abbrev pub After : {A : Type 0} → Process A → List Asked → Process A → Type 0
After p [] q = p ≡ q
After (gives a) (r ∷ rs) q = ⊥
After (refuses e) (r ∷ rs) q = ⊥
After (asks name f) (r ∷ rs) q = (r.name ≡ name) × After (f r.answer) rs q

-- these reads lead from the one process to the other
abbrev pub Reaches : {A : Type 0} → FilesView → FilesView → Process A → Process A → Type 0
Reaches old new p q = (reads : List Asked) × Reads old reads new × After p reads q
