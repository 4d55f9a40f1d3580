-- What preprocessing knows at a line: the state that the directives change.
use Rattle.std.specs.Prelude.{ℕ, zero, suc, Bool, true, false, if◌then◌else◌, List, [], ◌∷◌, ◌++◌, length, Option, Some, None, Result, Ok, Err}
use Rattle.cake_base.specs.declared.places.Place.{Place}
use Rattle.cake_base.specs.declared.rules.Fault.{Fault}
use Rattle.cake_base.specs.declared.rules.Family.TheVariants.{P}
use Rattle.cake_base.specs.declared.rules.Mark.{Mark}
use Rattle.model_tokens.specs.PpTokens.{PpToken, tokens_of}
use Rattle.model_macros.specs.Macros.{Macros, with_file}
use Rattle.model_preprocessing.specs.Directives.{Part, parts}
use Rattle.model_preprocessing.specs.Processes.{Stop, broken, passed, Log, Process, refuses}
use Rattle.model_types.specs.Texts.{same_text}

-- a file: its lines, or L01 at its first comment that isn't ended, and whether `#pragma once` was met in it
pub record Source : Type 0 where
  pub lines : Result (List Part) Fault
  pub once : Bool

-- the macros; the names of files and the notes; the numbers of the files that were read and of the
-- built-in headers that were taken, by their names; the files by their numbers; the marks; the tokens so
-- far; the count of tokens that replacement made; the bytes of all files read
pub record State : Type 0 where
  pub table : Macros
  pub log : Log
  pub held : List (List ℕ × ℕ)
  pub built_in : List (List ℕ × ℕ)
  pub sources : List Source
  pub marks : List Mark
  pub tokens : List PpToken
  pub made : ℕ
  pub bytes : ℕ

-- ---- places

-- A place that is no token's of the list has the number of tokens before it.
abbrev pub standing : ℕ → Place → Place
standing n place = record place { order = n }

abbrev pub standing_token : ℕ → PpToken → PpToken
standing_token n t = record t { place = standing n t.place }

abbrev pub standing_all : ℕ → List PpToken → List PpToken
standing_all n [] = []
standing_all n (t ∷ ts) = standing_token n t ∷ standing_all n ts

-- the tokens with their ranks, from this one on
abbrev pub ranked_from : ℕ → List PpToken → List PpToken
ranked_from n [] = []
ranked_from n (t ∷ ts) = standing_token n t ∷ ranked_from (suc n) ts

-- the place where a line stands among the tokens so far, and its tokens there
abbrev pub here : State → Place → Place
here s place = standing (length s.tokens) place

abbrev pub tokens_here : State → List PpToken → List PpToken
tokens_here s ts = standing_all (length s.tokens) ts

-- ---- refusals

abbrev pub stops : {A : Type 0} → State → Stop → Process A
stops s stop = refuses (record { stop = stop; log = s.log })

-- a rule of the family P is broken
abbrev pub faults : {A : Type 0} → State → Place → ℕ → Process A
faults s place number = stops s (broken (record { place = place; rule = record { family = P; number = number } }))

abbrev pub limits : {A : Type 0} → State → Place → ℕ → Process A
limits s place number = stops s (passed (record { place = place; limit = record { number = number } }))

-- ---- files

-- the file of this text, which has this number
abbrev pub source_lines : Result (List PpToken) Fault → Result (List Part) Fault
source_lines (Ok ts) = Ok (parts ts)
source_lines (Err fault) = Err fault

abbrev pub source : (file : ℕ) → List ℕ → Source
source file text = record { lines = source_lines (tokens_of file text); once = false }

-- the number of the file of that name
abbrev pub number_of : List ℕ → List (List ℕ × ℕ) → Option ℕ
number_of name [] = None
number_of name (e ∷ es) = if same_text name e.0 then Some e.1 else number_of name es

-- the next number is given to a file of this name
abbrev pub next_file : State → ℕ
next_file s = length s.log.names

abbrev pub named : List ℕ → State → State
named name s = record s {
  table = record s.table { files = with_file (next_file s) name s.table.files };
  log = record s.log { names = s.log.names ++ name ∷ [] };
}

-- `#pragma once` was met in the file of this number
abbrev pub marked_once : ℕ → List Source → List Source
marked_once n [] = []
marked_once zero (f ∷ fs) = record f { once = true } ∷ fs
marked_once (suc n) (f ∷ fs) = f ∷ marked_once n fs
