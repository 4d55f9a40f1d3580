-- The search for a file to be included (ISO/IEC 9899:2024, 6.10.3): among the files that were taken, the files
-- that are held, and the built-in headers.
use Rattle.std.specs.Prelude.{ℕ, ◌+◌, nat_lt, if◌then◌else◌, List, [], ◌∷◌, ◌++◌, length, slice_get, Option, Some, None}
use Rattle.std.specs.Str.{is_utf8}
use Rattle.cake_base.specs.declared.places.Place.{Place}
use Rattle.model_preprocessing.specs.declared.directives.ReadCause.TheVariants as cause
use Rattle.model_preprocessing.specs.Headers.{built_in_text}
use Rattle.model_preprocessing.specs.Processes.{ReadAnswer, NotHeld, Contents, TooLarge, Failed, unread, Process, gives, asks}
use Rattle.model_preprocessing.specs.Sources.{State, Source, stops, faults, limits, source, number_of, next_file, named}

-- ---- a file that is found

-- the file whose lines stand in place of the directive, if any do, and the state before them
abbrev pub Found : Type 0
Found = Option ℕ × State

abbrev pub unless_once : (file : ℕ) → State → Option Source → Process Found
unless_once file s None = gives (None, s)
unless_once file s (Some f) = gives ((if f.once then None else Some file), s)

-- a file that was taken before
abbrev pub again : (file : ℕ) → State → Process Found
again file s = unless_once file s (slice_get s.sources file)

unfoldable pub MOST_FILES : ℕ
MOST_FILES = 1024

unfoldable pub MOST_BYTES : ℕ
MOST_BYTES = 67108864

-- a file of these bytes that was not read before gets its number, and counts among the files
abbrev pub kept : List ℕ → List ℕ → State → State
kept name text s = record (named name s) {
  held = s.held ++ (name, next_file s) ∷ [];
  sources = s.sources ++ source (next_file s) text ∷ [];
  bytes = s.bytes + length text;
}

abbrev pub taken : Place → List ℕ → List ℕ → State → Process Found
taken at name text s =
    if nat_lt MOST_FILES (length s.held + 1) then limits (named name s) at 2
    else if nat_lt MOST_BYTES (s.bytes + length text) then limits (named name s) at 1
    else gives (Some (next_file s), kept name text s)

-- the name of a built-in header in reports
abbrev pub shown : List ℕ → List ℕ
shown name = 60 ∷ (name ++ 62 ∷ [])

-- a built-in header of this text gets its number
abbrev pub with_built_in : List ℕ → List ℕ → State → State
with_built_in name text s = record (named (shown name) s) {
  built_in = s.built_in ++ (name, next_file s) ∷ [];
  sources = s.sources ++ source (next_file s) text ∷ [];
}

-- ---- the search

-- among the built-in headers, last
abbrev pub new_built_in : Place → List ℕ → State → Option (List ℕ) → Process Found
new_built_in at name s None = faults s at 10
new_built_in at name s (Some text) = gives (Some (next_file s), with_built_in name text s)

abbrev pub built_in_header : Place → List ℕ → State → Option ℕ → Process Found
built_in_header at name s (Some file) = again file s
built_in_header at name s None = new_built_in at name s (built_in_text name)

-- what a read gives, where the search goes on like this if the name isn't held
abbrev pub read_file : Place → List ℕ → State → Process Found → ReadAnswer → Process Found
read_file at full s onward NotHeld = onward
read_file at full s onward (Contents text) = taken at full text s
read_file at full s onward TooLarge = stops (named full s) (unread (next_file s) cause.TooLarge)
read_file at full s onward Failed = stops (named full s) (unread (next_file s) cause.Failed)

-- a name that isn't UTF-8 isn't asked of the files
abbrev pub looked_up : Place → List ℕ → State → Process Found → Option ℕ → Process Found
looked_up at full s onward (Some file) = again file s
looked_up at full s onward None = if is_utf8 full then asks full (read_file at full s onward) else onward

-- each of these names in turn, and then the built-in headers
abbrev pub searched : Place → List ℕ → List (List ℕ) → State → Process Found
searched at name [] s = built_in_header at name s (number_of name s.built_in)
searched at name (full ∷ fulls) s = looked_up at full s (searched at name fulls s) (number_of full s.held)
