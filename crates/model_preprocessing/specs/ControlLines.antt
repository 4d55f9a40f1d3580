-- What a line does that is text or no conditional's (ISO/IEC 9899:2024, 6.10.1, 6.10.5 to 6.10.9); includes
-- are told apart.
use Rattle.std.specs.Prelude.{ℕ, ◌-◌, if◌then◌else◌, List, [], ◌∷◌, ◌++◌, length, map, drop, Result, Ok, Err}
use Rattle.cake_base.specs.declared.places.Place.{Place}
use Rattle.cake_base.specs.declared.rules.Act.{Act}
use Rattle.model_preprocessing.specs.declared.directives.Pragma.{Pragma}
use Rattle.model_preprocessing.specs.declared.directives.Pragma.TheVariants as pragma
use Rattle.model_tokens.specs.PpTokens.{PpToken}
use Rattle.model_macros.specs.Macros.{Macro, found, without, with_macro, clashes}
use Rattle.model_macros.specs.MacroDefinitions.{is_name, reserved, definition}
use Rattle.model_macros.specs.Pasting.{fresh}
use Rattle.model_macros.specs.Expansion as expansion
use Rattle.model_macros.specs.ExpansionFunction.{expand}
use Rattle.model_preprocessing.specs.Directives.{Part}
use Rattle.model_preprocessing.specs.Pragmas.{pragma_of, open_pushes, pops_nothing}
use Rattle.model_preprocessing.specs.Processes.{Stop, Process, gives}
use Rattle.model_preprocessing.specs.Processes as process
use Rattle.model_preprocessing.specs.Sources.{State, here, tokens_here, ranked_from, stops, faults, limits, marked_once}

-- ---- text

-- the most tokens of a unit
unfoldable pub MOST_TOKENS : ℕ
MOST_TOKENS = 1000000

-- the tokens with these after them, unless there are too many; then the first past the limit is told
abbrev pub appended : State → List PpToken → List PpToken → Process State
appended s new [] = gives (record s { tokens = s.tokens ++ new })
appended s new (t ∷ past) = limits s t.place 5

abbrev pub with_tokens : State → List PpToken → Process State
with_tokens s new = appended s new (drop (MOST_TOKENS - length s.tokens) new)

abbrev pub stop_of : expansion.Stop → Stop
stop_of (expansion.broken fault) = process.broken fault
stop_of (expansion.passed hit) = process.passed hit

abbrev pub counted : State → ℕ → State
counted s made = record s { made = made }

-- what becomes of tokens that are replaced
abbrev pub after_expansion : {A : Type 0} → State → expansion.Answer → (List PpToken → State → Process A) → Process A
after_expansion s (Ok v) f = f (map (λ p. p.tok) v.0) (counted s v.1)
after_expansion s (Err e) f = stops (counted s e.1) (stop_of e.0)

abbrev pub replaced : {A : Type 0} → State → List PpToken → (List PpToken → State → Process A) → Process A
replaced s ts f = after_expansion s (expand s.table (map fresh (tokens_here s ts)) s.made) f

-- a run of text lines: its tokens are replaced, and come after the tokens so far
abbrev pub text_run : Part → State → Process State
text_run p s = replaced s p.tokens (λ ts s'. with_tokens s' (ranked_from (length s.tokens) ts))

-- ---- macros (6.10.5, 6.10.5.6)

abbrev pub defined_as : State → Macro → Process State
defined_as s m =
    if clashes m (found m.name s.table.entries) then faults s m.at 1
    else gives (record s { table = record s.table { entries = with_macro m s.table.entries } })

abbrev pub define_as : State → Place → Result Macro ℕ → Process State
define_as s at (Ok m) = defined_as s m
define_as s at (Err number) = faults s at number

abbrev pub define_line : Part → State → Process State
define_line p s = define_as s (here s p.at) (definition (here s p.at) (tokens_here s p.tokens))

-- what a directive does with the macro name that has to follow it
abbrev pub with_name : {A : Type 0} → State → Place → List PpToken → (List ℕ → Process A) → Process A
with_name s at [] f = faults s at 19
with_name s at (t ∷ ts) f = if is_name t then f t.spelling else faults s at 19

abbrev pub undefined : State → Place → List ℕ → Process State
undefined s at name =
    if reserved name then faults s at 9
    else gives (record s { table = record s.table { entries = without name s.table.entries } })

abbrev pub undef_line : Part → State → Process State
undef_line p s = with_name s (here s p.at) p.tokens (undefined s (here s p.at))

-- ---- notes (6.10.7)

abbrev pub parted : List PpToken → List ℕ
parted [] = []
parted (t ∷ ts) = 32 ∷ (t.spelling ++ parted ts)

-- the spellings of the tokens, parted by one space
abbrev pub note_text : List PpToken → List ℕ
note_text [] = []
note_text (t ∷ ts) = t.spelling ++ parted ts

abbrev pub noted : Part → State → State
noted p s = record s { log = record s.log { notes = s.log.notes ++ record { place = here s p.at; text = note_text p.tokens } ∷ [] } }

abbrev pub error_line : Part → State → Process State
error_line p s = faults (noted p s) (here s p.at) 11

-- ---- pragmas (6.10.8)

abbrev pub marked : State → Place → Act → Process State
marked s at act =
    if pops_nothing act (open_pushes 0 s.marks) then faults s at 18
    else gives (record s { marks = s.marks ++ record { before = length s.tokens; act = act } ∷ [] })

abbrev pub pragma_line_of : (file : ℕ) → State → Place → Pragma → Process State
pragma_line_of file s at pragma.Once = gives (record s { sources = marked_once file s.sources })
pragma_line_of file s at (pragma.Marks act) = marked s at act
pragma_line_of file s at pragma.Malformed = faults s at 18
pragma_line_of file s at pragma.Dropped = gives s

abbrev pub pragma_line : (file : ℕ) → Part → State → Process State
pragma_line file p s = pragma_line_of file s (here s p.at) (pragma_of p.tokens)
