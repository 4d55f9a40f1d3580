-- Preprocessing of a unit with its headers (ISO/IEC 9899:2024, 5.1.1.2 phases 1 to 4, 6.10).
use Rattle.std.specs.Prelude.{ℕ, List, [], ◌∷◌, ◌++◌, length, Option, Result, codes, Ok, Err}
use Rattle.std.specs.List.{flat_map}
use Rattle.cake_base.specs.declared.places.Place.{Place}
use Rattle.cake_base.specs.declared.rules.Mark.{Mark}
use Rattle.cake_base.specs.Outside.{Held}
use Rattle.model_preprocessing.specs.declared.directives.ReadCause.TheVariants as cause
use Rattle.model_preprocessing.specs.Place.{first_position, behind_all, main_place}
use Rattle.model_tokens.specs.PpTokens.{PpToken}
use Rattle.model_macros.specs.Macros.{first_table, with_file}
use Rattle.model_preprocessing.specs.Processes.{ReadAnswer, NotHeld, Contents, TooLarge, Failed, Stop, unread, Log, Refusal, Process, gives, refuses, asks, and_then, among, reads, where_read_fails}
use Rattle.model_preprocessing.specs.Sources.{State, source}
use Rattle.model_preprocessing.specs.Included.{levels, translated, Deeper}

-- names and values of macros that the command defines, and the directories in which it looks
pub record Options : Type 0 where
  pub defines : List (List ℕ × List ℕ)
  pub dirs : List (List ℕ)

-- the most includes within one another
unfoldable pub MOST_LEVELS : ℕ
MOST_LEVELS = 200

-- ---- the files 0 and 1

abbrev pub COMMAND_LINE : List ℕ
COMMAND_LINE = codes "<command line>"

-- the line that defines a macro of the command
abbrev pub define_text : List ℕ × List ℕ → List ℕ
define_text d = codes "#define " ++ (d.0 ++ 32 ∷ (d.1 ++ 10 ∷ []))

abbrev pub command_lines : List (List ℕ × List ℕ) → List ℕ
command_lines defines = flat_map define_text defines

-- the names of the files 0 and 1, which are there from the start
abbrev pub first_log : (name : List ℕ) → Log
first_log name = record { names = name ∷ COMMAND_LINE ∷ []; notes = [] }

-- the state after the main file was read
abbrev pub beginning : Options → (name text : List ℕ) → State
beginning options name text = record {
  table = record first_table { files = with_file 1 COMMAND_LINE (with_file 0 name first_table.files) };
  log = first_log name;
  held = (name, 0) ∷ [];
  built_in = [];
  sources = source 0 text ∷ source 1 (command_lines options.defines) ∷ [];
  marks = [];
  tokens = [];
  made = 0;
  bytes = length text;
}

-- ---- the unit

-- the list of tokens, the marks, the place after the last byte of the main file, and the log
pub record Prepared : Type 0 where
  pub tokens : List PpToken
  pub marks : List Mark
  pub end : Place
  pub log : Log

abbrev pub prepared : List ℕ → State → Prepared
prepared text s = record {
  tokens = s.tokens;
  marks = s.marks;
  end = main_place (behind_all first_position text) (length s.tokens);
  log = s.log;
}

-- the definitions of the command, and then the main file
abbrev pub both_files : Options → State → Process State
both_files options s =
    let deeper : Deeper = levels options.dirs MOST_LEVELS in
    and_then (translated deeper options.dirs 1 s) (translated deeper options.dirs 0)

abbrev pub whole : Options → (name text : List ℕ) → Process Prepared
whole options name text = and_then (both_files options (beginning options name text)) (λ s. gives (prepared text s))

abbrev pub main_refused : (name : List ℕ) → Stop → Process Prepared
main_refused name stop = refuses (record { stop = stop; log = first_log name })

abbrev pub main_read : Options → (name : List ℕ) → ReadAnswer → Process Prepared
main_read options name NotHeld = main_refused name (unread 0 cause.MainMissing)
main_read options name (Contents text) = whole options name text
main_read options name TooLarge = main_refused name (unread 0 cause.TooLarge)
main_read options name Failed = main_refused name (unread 0 cause.Failed)

-- the main file is asked for first
unfoldable pub unit : Options → (name : List ℕ) → Process Prepared
unit options name = asks name (main_read options name)

-- what preprocessing gives among these files: the list, or the first fault, limit or file that isn't read,
-- in the order of translation
abbrev pub preprocessed : Held → Options → (name : List ℕ) → Result Prepared Refusal
preprocessed held options name = among held (unit options name)

-- the names that it asks of them, in order
abbrev pub asked : Held → Options → (name : List ℕ) → List (List ℕ)
asked held options name = reads held (unit options name)

-- what stands where the k-th read fails
abbrev pub preprocessed_up_to : Held → Options → (name : List ℕ) → (k : ℕ) → Option (Result Prepared Refusal)
preprocessed_up_to held options name k = where_read_fails held k (unit options name)

abbrev pub log_of : Result Prepared Refusal → Log
log_of (Ok unit) = unit.log
log_of (Err refusal) = refusal.log
