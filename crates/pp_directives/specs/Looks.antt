-- What the steps of the search answer.
use Rattle.std.specs.Prelude.{◌≡◌, ◌⊎◌, ℕ, ◌+◌, false, true, nat_lt, List, length, Option, Result, Ok, Err}
use Rattle.cake_base.specs.declared.places.Place.{Place}
use Rattle.cake_base.specs.Outside.{FilesView}
use Rattle.model_preprocessing.specs.declared.directives.ReadCause.{ReadCause}
use Rattle.model_preprocessing.specs.Processes.{Log, Process, gives}
use Rattle.model_preprocessing.specs.Sources.{State, next_file, named}
use Rattle.model_preprocessing.specs.FileSearch.{Found, MOST_FILES, MOST_BYTES}
use Rattle.pp_directives.specs.declared.errors.PrepError.{PrepError}
use Rattle.pp_directives.specs.declared.errors.PrepError.TheVariants as prep_error
use Rattle.pp_directives.specs.declared.search.Looked as looked
use Rattle.pp_directives.specs.declared.search.Looked.TheVariants as looks
use Rattle.pp_directives.specs.Reads.{Reaches}
use Rattle.pp_directives.specs.Outcomes.{Stops}

-- what the search for one name gives, where it goes on like this if the name isn't held
abbrev pub Looks : FilesView → FilesView → Process Found → Process Found → Result looked.Looked PrepError → State → State → Type 0
Looks old new p onward (Ok looks.Absent) s s' = Reaches old new p onward × (s' ≡ s)
Looks old new p onward (Ok (looks.Found file)) s s' = Reaches old new p (gives (file, s'))
Looks old new p onward (Err error) s s' = Stops old new p error s'.log

-- a file isn't read, and gets the next number
abbrev pub Unread : State → List ℕ → ReadCause → PrepError → State → Type 0
Unread s name cause (prep_error.Read file why) s' = (file ≡ next_file s) × (why ≡ cause) × (s' ≡ named name s)
Unread s name cause (prep_error.Fault fault) s' = ⊥
Unread s name cause (prep_error.Limit hit) s' = ⊥
Unread s name cause prep_error.NoMemory s' = Unit {0}

-- a limit at a place
abbrev pub LimitIs : Place → ℕ → PrepError → Type 0
LimitIs place number error = error ≡ prep_error.Limit (record { place = place; limit = record { number = number } })

-- one file more, or its bytes, are too many
abbrev pub Crowded : State → Place → ℕ → PrepError → Type 0
Crowded s at size error =
    ((nat_lt MOST_FILES (length s.held + 1) ≡ true) × LimitIs at 2 error)
    ⊎ ((nat_lt MOST_FILES (length s.held + 1) ≡ false) × (nat_lt MOST_BYTES (s.bytes + size) ≡ true) × LimitIs at 1 error)

-- the bytes of all files with one more of this size, if it may be read
abbrev pub HasRoom : State → Place → ℕ → Result ℕ PrepError → Type 0
HasRoom s at size (Ok total) = (total ≡ s.bytes + size) × (nat_lt MOST_FILES (length s.held + 1) ≡ false) × (nat_lt MOST_BYTES (s.bytes + size) ≡ false)
HasRoom s at size (Err error) = Crowded s at size error
