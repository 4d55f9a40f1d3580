-- The code's words, as their reading has them.
use Rattle.std.specs.Prelude.{◌≡◌, ◌++◌, Result, Ok, Err, IsOk, ℕ, ◌==◌, if◌then◌else◌, List, [], ◌∷◌, Option, Some, None, option_copied, codes}
use Rattle.cake_cli.specs.declared.meanings.Expected.{Expected}
use Rattle.cake_cli.specs.declared.meanings.Expected.TheVariants as expected
use Rattle.cake_cli.specs.declared.meanings.Meaning.{Meaning}
use Rattle.cake_cli.specs.declared.meanings.Meaning.TheVariants as said
use Rattle.cake_cli.specs.declared.meanings.Met.{Met}
use Rattle.cake_cli.specs.declared.words.Plan.{Plan}
use Rattle.cake_cli.specs.declared.words.WordsError.{WordsError}
use Rattle.cake_cli.specs.declared.words.WordsError.TheVariants as words_error
use Rattle.model_preprocessing.specs.PreprocessedUnit.{Options}
use Rattle.cake_cli.specs.Words as words
use Rattle.cake_cli.specs.Words.{is_good, meaning, behind}

abbrev pub expected_of : Expected → words.Expected
expected_of expected.AnyWord = words.AnyWord
expected_of expected.Definition = words.Definition
expected_of expected.Directory = words.Directory

abbrev pub meaning_of : Meaning → words.Meaning
meaning_of (said.Asks mode) = words.Asks mode
meaning_of (said.Defines name value) = words.Defines name.now value.now
meaning_of (said.Searches directory) = words.Searches directory.now
meaning_of (said.Names file) = words.Names file.now
meaning_of (said.Expects next) = words.Expects (expected_of next)
meaning_of said.EndsOptions = words.EndsOptions
meaning_of said.Nothing = words.Nothing

abbrev pub met_of : Met → words.Met
met_of met = record { expected = expected_of met.expected; options_ended = met.options_ended; mode = met.mode; file = option_copied met.file; room = met.room }

-- what follows a byte that a text begins with
abbrev pub behind_byte : ℕ → List ℕ → Option (List ℕ)
behind_byte byte [] = None
behind_byte byte (first ∷ bytes) = if first == byte then Some bytes else None

-- the value that a definition has behind its name
abbrev pub value_behind : List ℕ → List ℕ
value_behind [] = codes "1"
value_behind (byte ∷ bytes) = bytes

-- what a word says and what is met behind it, where it is good
abbrev pub step : words.Met → List ℕ → Option (words.Meaning × words.Met)
step met word = if is_good met word then Some (meaning met word, behind met word) else None

abbrev pub IsStep : words.Met → List ℕ → Option Meaning → words.Met → Type 0
IsStep met word None next = step met word ≡ None
IsStep met word (Some said) next = step met word ≡ Some (meaning_of said, next)

-- what a whole reading is, where the rest of it is this
abbrev pub Leads : Result words.Plan ℕ → Result words.Plan ℕ → Type 0
Leads (Ok rest) whole = IsOk whole
Leads (Err number) whole = whole ≡ Err number

-- options, and others behind them
abbrev pub both : Options → Options → Options
both front options = record { defines = front.defines ++ options.defines; dirs = front.dirs ++ options.dirs }

-- a reading with options in front
abbrev pub prefixed : Options → Result words.Plan ℕ → Result words.Plan ℕ
prefixed front (Ok plan) = Ok (record plan { options = both front plan.options })
prefixed front (Err number) = Err number

-- what a plan asks for, with its file
abbrev pub plan_as : Plan → (file : List ℕ) → words.Plan
plan_as p file = record { mode = p.mode; options = p.options; file = file }

-- what a call answers, where the words are read like this
abbrev pub Answers : Result Plan WordsError → Result words.Plan ℕ → Type 0
Answers (Ok p) due = (file : List ℕ) × (p.file ≡ Some file) × (due ≡ Ok (plan_as p file))
Answers (Err (words_error.Bad number)) due = due ≡ Err number
Answers (Err words_error.NoMemory) due = Unit {0}

abbrev pub IsMemory : WordsError → Type 0
IsMemory (words_error.Bad number) = ⊥
IsMemory words_error.NoMemory = Unit {0}

-- the options with what a word says at their ends
abbrev pub with_meaning : words.Meaning → Options → Options
with_meaning (words.Defines name value) o = record { defines = o.defines ++ (name, value) ∷ []; dirs = o.dirs }
with_meaning (words.Searches directory) o = record { defines = o.defines; dirs = o.dirs ++ directory ∷ [] }
with_meaning (words.Asks mode) o = o
with_meaning (words.Names file) o = o
with_meaning (words.Expects next) o = o
with_meaning words.EndsOptions o = o
with_meaning words.Nothing o = o
