-- What reads and puts answer, and what they leave.
use Rattle.std.specs.Prelude.{◌≡◌, ◌≢◌, ℕ, ◌+◌, ◌<◌, ◌≤◌, List, [], ◌∷◌, ◌++◌, length, take, Option, Some, None, Result, Ok, Err, if◌then◌else◌}
use Rattle.std.specs.Str.{bytes_eq}
use Rattle.cake_base.specs.Counts.{Rose}
use Rattle.cake_base.specs.declared.outside.ReadFault.{ReadFault}
use Rattle.cake_base.specs.declared.outside.ReadFault.TheVariants.{Missing, Failed, TooLarge, NoMemory}
use Rattle.cake_base.specs.declared.outside.WriteFault.{WriteFault}

-- the greatest number of bytes that a read takes of one file
abbrev pub max_file : ℕ
max_file = 16777216

-- names with their bytes
abbrev pub Held : Type 0
Held = List (List ℕ × List ℕ)

-- the bytes under a name, or none where it isn't held
abbrev pub bytes_under : Held → List ℕ → Option (List ℕ)
bytes_under [] name = None
bytes_under (file ∷ held) name = if bytes_eq file.0 name then Some file.1 else bytes_under held name

-- no two files have one name
abbrev pub AreDistinct : Held → Type 0
AreDistinct [] = Unit {0}
AreDistinct (file ∷ held) = (bytes_under held file.0 ≡ None) × AreDistinct held

-- what files show: what they hold and how many reads there were, each where that is told, and two counts
pub record FilesView : Type 0 where
  pub held : Option Held
  pub calls : Option ℕ
  pub faults : ℕ
  pub misses : ℕ

-- what a sink shows: its content, where that is told, and its count of faults
pub record SinkView : Type 0 where
  pub content : Option (List ℕ)
  pub faults : ℕ

-- what is told to be held has distinct names
abbrev pub HasDistinctNames : Option Held → Type 0
HasDistinctNames None = Unit {0}
HasDistinctNames (Some held) = AreDistinct held

-- one call more, where the number is told before and after; where it isn't told before, it isn't after
abbrev pub OneMore : Option ℕ → Option ℕ → Type 0
OneMore None after = after ≡ None
OneMore (Some before) None = Unit {0}
OneMore (Some before) (Some after) = after ≡ before + 1

-- what a read leaves as it was, or counts
pub record ReadKeeps (old new : FilesView) : Type 0 where
  pub held : new.held ≡ old.held
  pub calls : OneMore old.calls new.calls
  pub faults : old.faults ≤ new.faults
  pub misses : old.misses ≤ new.misses

-- this is what stands under the name, where the files tell what they hold
abbrev pub StandsUnder : Option Held → List ℕ → Option (List ℕ) → Type 0
StandsUnder None name found = Unit {0}
StandsUnder (Some held) name found = bytes_under held name ≡ found

-- the name isn't held; where nothing is told, the count of misses rose
abbrev pub IsMissing : Option Held → List ℕ → (before now : ℕ) → Type 0
IsMissing None name before now = Rose before now
IsMissing (Some held) name before now = bytes_under held name ≡ None

-- more bytes stand under the name than a read takes
abbrev pub IsTooLarge : Option Held → List ℕ → Type 0
IsTooLarge None name = Unit {0}
IsTooLarge (Some held) name = (bytes : List ℕ) × (bytes_under held name ≡ Some bytes) × (max_file < length bytes)

-- why a read is refused
abbrev pub RefusesRead : FilesView → FilesView → List ℕ → ReadFault → Type 0
RefusesRead old new name Missing = IsMissing old.held name old.misses new.misses
RefusesRead old new name Failed = Rose old.faults new.faults
RefusesRead old new name TooLarge = IsTooLarge old.held name
RefusesRead old new name NoMemory = Unit {0}

-- what a read gives: the bytes under the name, or a refusal that leaves the list as it was
abbrev pub ReadGives : {T : Type 0} → FilesView → FilesView → List ℕ → (before after : List ℕ) → Result T ReadFault → Type 0
ReadGives old new name before after (Ok done) =
    (bytes : List ℕ) × (after ≡ before ++ bytes) × (length bytes ≤ max_file) × StandsUnder old.held name (Some bytes)
ReadGives old new name before after (Err fault) = (after ≡ before) × RefusesRead old new name fault

-- the content with these bytes after it, where it is told
abbrev pub appended : Option (List ℕ) → List ℕ → Option (List ℕ)
appended None bytes = None
appended (Some content) bytes = Some (content ++ bytes)

-- all the bytes were appended
abbrev pub Appends : List ℕ → SinkView → SinkView → Type 0
Appends bytes old new = new.content ≡ appended old.content bytes

-- a prefix of the bytes was appended
abbrev pub AppendsPrefix : List ℕ → SinkView → SinkView → Type 0
AppendsPrefix bytes old new = (n : ℕ) × (n ≤ length bytes) × (new.content ≡ appended old.content (take n bytes))

-- what a put gives: all the bytes, or a prefix of them and a count that rose
abbrev pub PutGives : {T : Type 0} → SinkView → SinkView → List ℕ → Result T WriteFault → Type 0
PutGives old new bytes (Ok done) = Appends bytes old new
PutGives old new bytes (Err fault) = AppendsPrefix bytes old new × Rose old.faults new.faults
