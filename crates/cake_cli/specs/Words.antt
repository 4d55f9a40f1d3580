-- The reading of the command's words, `cake [-E | --check] [-D name[=value]].. [-I dir].. FILE`: from
-- left to right, options also behind FILE. The first word that breaks a rule is bad.
use Rattle.std.specs.Prelude.{ℕ, ◌+◌, ◌-◌, Bool, true, false, ◌&&◌, ◌||◌, ◌==◌, not, nat_le, if◌then◌else◌, List, [], ◌∷◌, length, Option, Some, None, is_none, unwrap_or, Result, Ok, Err, codes}
use Rattle.std.specs.Str.{bytes_eq}
use Rattle.model_tokens.specs.CTokens.{is_identifier}
use Rattle.cake_cli.specs.declared.modes.Mode.{Mode}
use Rattle.cake_cli.specs.declared.modes.Mode.TheVariants.{Translate, Expand, Check}
use Rattle.model_preprocessing.specs.PreprocessedUnit.{Options}

-- what the words ask for: the pairs of `-D` and the names of `-I`, each in their order, and the file
pub record Plan : Type 0 where
  pub mode : Mode
  pub options : Options
  pub file : List ℕ

-- what the next word is read as: any word, or what a `-D` or an `-I` alone wants behind it
pub data Expected : Type 0 where
  AnyWord : Expected
  Definition : Expected
  Directory : Expected

-- what a word says
pub data Meaning : Type 0 where
  Asks : (mode : Mode) → Meaning
  Defines : (name value : List ℕ) → Meaning
  Searches : (directory : List ℕ) → Meaning
  Names : (file : List ℕ) → Meaning
  Expects : (next : Expected) → Meaning
  EndsOptions : Meaning
  Nothing : Meaning

-- the bytes before the first `=`, and those behind it; the value is 1 where there is none
abbrev pub defined_name : List ℕ → List ℕ
defined_name [] = []
defined_name (byte ∷ bytes) = if byte == 61 then [] else byte ∷ defined_name bytes

abbrev pub defined_value : List ℕ → List ℕ
defined_value [] = codes "1"
defined_value (byte ∷ bytes) = if byte == 61 then bytes else defined_value bytes

abbrev pub has_line_feed : List ℕ → Bool
has_line_feed [] = false
has_line_feed (byte ∷ bytes) = byte == 10 || has_line_feed bytes

-- name[=value], where the name is an identifier and the value holds no line feed
abbrev pub definition : List ℕ → Meaning
definition text =
    if is_identifier (defined_name text) && not (has_line_feed (defined_value text)) then Defines (defined_name text) (defined_value text)
    else Nothing

-- the name of a directory isn't empty
abbrev pub directory : List ℕ → Meaning
directory [] = Nothing
directory (byte ∷ bytes) = Searches (byte ∷ bytes)

-- behind -D and -I stands their text, or the next word is it
abbrev pub behind_define : List ℕ → Meaning
behind_define [] = Expects Definition
behind_define (byte ∷ bytes) = definition (byte ∷ bytes)

abbrev pub behind_search : List ℕ → Meaning
behind_search [] = Expects Directory
behind_search (byte ∷ bytes) = directory (byte ∷ bytes)

abbrev pub long_option : List ℕ → Meaning
long_option text =
    if bytes_eq text (codes "E") then Asks Expand
    else (if bytes_eq text (codes "-check") then Asks Check
    else (if bytes_eq text (codes "-") then EndsOptions else Nothing))

-- behind a first `-`; that byte alone is the file of standard input
abbrev pub behind_dash : List ℕ → Meaning
behind_dash [] = Names (codes "-")
behind_dash (byte ∷ bytes) =
    if byte == 68 then behind_define bytes
    else (if byte == 73 then behind_search bytes else long_option (byte ∷ bytes))

-- a word where options may stand
abbrev pub any_word : List ℕ → Meaning
any_word [] = Names []
any_word (byte ∷ bytes) = if byte == 45 then behind_dash bytes else Names (byte ∷ bytes)

-- what the words before say of the next one
pub record Met : Type 0 where
  pub expected : Expected
  pub options_ended : Bool
  pub mode : Option Mode
  pub file : Option (List ℕ)
  pub room : ℕ  -- how many bytes all further words may have

-- behind `--` every word is a file
abbrev pub meaning_as : Expected → Bool → List ℕ → Meaning
meaning_as AnyWord false word = any_word word
meaning_as AnyWord true word = Names word
meaning_as Definition ended word = definition word
meaning_as Directory ended word = directory word

abbrev pub meaning : Met → List ℕ → Meaning
meaning met word = meaning_as met.expected met.options_ended word

-- one mode word and one file may stand
abbrev pub may_stand : Met → Meaning → Bool
may_stand met (Asks mode) = is_none met.mode
may_stand met (Names file) = is_none met.file
may_stand met Nothing = false
may_stand met (Defines name value) = true
may_stand met (Searches directory) = true
may_stand met (Expects next) = true
may_stand met EndsOptions = true

abbrev pub is_good : Met → List ℕ → Bool
is_good met word = nat_le (length word) met.room && may_stand met (meaning met word)

-- what is met behind a word that says this
abbrev pub said : Meaning → Met → Met
said (Asks mode) met = record met { mode = Some mode }
said (Names file) met = record met { file = Some file }
said (Expects next) met = record met { expected = next }
said EndsOptions met = record met { options_ended = true }
said (Defines name value) met = met
said (Searches directory) met = met
said Nothing met = met

abbrev pub behind : Met → List ℕ → Met
behind met word = said (meaning met word) (record met { expected = AnyWord; room = met.room - length word })

-- a word's part of the options, before what the words behind it say
abbrev pub with_option : Meaning → Options → Options
with_option (Defines name value) options = record options { defines = (name, value) ∷ options.defines }
with_option (Searches directory) options = record options { dirs = directory ∷ options.dirs }
with_option (Asks mode) options = options
with_option (Names file) options = options
with_option (Expects next) options = options
with_option EndsOptions options = options
with_option Nothing options = options

abbrev pub adds : Meaning → Result Plan ℕ → Result Plan ℕ
adds meaning (Ok plan) = Ok (record plan { options = with_option meaning plan.options })
adds meaning (Err number) = Err number

-- the file that was named, where no -D or -I wants a word
abbrev pub named : Expected → Option (List ℕ) → Option (List ℕ)
named AnyWord file = file
named Definition file = None
named Directory file = None

-- at the end of the words
abbrev pub at_end : Option (List ℕ) → Option Mode → ℕ → Result Plan ℕ
at_end (Some file) mode number = Ok (record { mode = unwrap_or mode Translate; options = record { defines = []; dirs = [] }; file = file })
at_end None mode number = Err number

abbrev pub plan_from : Met → ℕ → List (List ℕ) → Result Plan ℕ
plan_from met number [] = at_end (named met.expected met.file) met.mode number
plan_from met number (word ∷ words) =
    if is_good met word then adds (meaning met word) (plan_from (behind met word) (number + 1) words) else Err number

abbrev pub nothing_met : Met
nothing_met = record { expected = AnyWord; options_ended = false; mode = None; file = None; room = 16777216 }

-- what the words ask for, or the number of the first bad word, counted from 1; a missing word has the
-- number after the last
abbrev pub plan : List (List ℕ) → Result Plan ℕ
plan words = plan_from nothing_met 1 words
