-- What the laws of preprocessing say (ISO/IEC 9899:2024, 6.10).
use Rattle.std.specs.Prelude.{◌≡◌, ℕ, suc, Bool, false, ◌≤◌, List, [], ◌∷◌, length, map, slice_get, Some, Ok, Err}
use Rattle.cake_base.specs.Outside.{Held, bytes_under, max_file}
use Rattle.model_preprocessing.specs.declared.directives.ReadCause.TheVariants as cause
use Rattle.model_preprocessing.specs.Place.{first_position, behind_all, main_place}
use Rattle.model_tokens.specs.PpTokens.{PpToken, tokens_of}
use Rattle.model_macros.specs.Macros.{Macros, spells, first_table, with_file}
use Rattle.model_macros.specs.MacroArguments.{Run}
use Rattle.model_macros.specs.ReplacementLists.{HASH}
use Rattle.model_macros.specs.Pasting.{fresh}
use Rattle.model_preprocessing.specs.Directives.{lines}
use Rattle.model_macros.specs.Expansion as expansion
use Rattle.model_macros.specs.Expansion.{Expands}
use Rattle.model_preprocessing.specs.Processes.{Log, unread}
use Rattle.model_preprocessing.specs.Sources.{standing_all, ranked_from}
use Rattle.model_preprocessing.specs.PreprocessedUnit.{Options, COMMAND_LINE, first_log, Prepared, asked, preprocessed_up_to}

-- ---- reads and names

-- the names of the files 0 and 1 are that of the main file and that of the command's definitions
abbrev pub NamesFirst : (name : List ℕ) → Log → Type 0
NamesFirst name log = (others : List (List ℕ)) × (log.names ≡ name ∷ COMMAND_LINE ∷ others)

-- preprocessing ends where this read of it fails, counted from 0, with the file that was asked for, by its number
abbrev pub EndsAtRead : Held → Options → (name : List ℕ) → (k : ℕ) → Type 0
EndsAtRead held options name k =
    (file : ℕ) × (log : Log)
    × (preprocessed_up_to held options name (suc k) ≡ Some (Err (record { stop = unread file cause.Failed; log = log })))
    × (slice_get log.names file ≡ slice_get (asked held options name) k)

-- ---- units without directives

abbrev pub begins_with_hash : List PpToken → Bool
begins_with_hash [] = false
begins_with_hash (t ∷ ts) = spells HASH t

-- none of the lines begins with #
abbrev pub NoDirective : List (List PpToken) → Type 0
NoDirective [] = Unit {0}
NoDirective (l ∷ ls) = (begins_with_hash l ≡ false) × NoDirective ls

-- the main file holds these tokens without a directive, and the command defines no macro
pub record IsPlain (held : Held) (options : Options) (name text : List ℕ) (tokens : List PpToken) : Type 0 where
  pub holds : bytes_under held name ≡ Some text
  pub size : length text ≤ max_file
  pub undefined : options.defines ≡ []
  pub reads : tokens_of 0 text ≡ Ok tokens
  pub plain : NoDirective (lines tokens)

-- the predefined macros, where the main file has this name
abbrev pub predefined_macros : (name : List ℕ) → Macros
predefined_macros name = record first_table { files = with_file 1 COMMAND_LINE (with_file 0 name first_table.files) }

-- what replacement makes of these tokens of the main file
abbrev pub IsReplaced : (name : List ℕ) → List PpToken → expansion.Answer → Type 0
IsReplaced name tokens answer = Expands (predefined_macros name) (map fresh (standing_all 0 tokens)) 0 answer

-- these tokens as a unit, each with its rank
abbrev pub unit_of : (name text : List ℕ) → Run → Prepared
unit_of name text run = record {
  tokens = ranked_from 0 (map (λ p. p.tok) run);
  marks = [];
  end = main_place (behind_all first_position text) (length run);
  log = first_log name;
}
