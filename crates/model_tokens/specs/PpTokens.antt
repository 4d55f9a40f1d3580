-- The preprocessing tokens of a text (ISO/IEC 9899:2024, 5.1.1.2 phases 1 to 3, 6.4).
use Rattle.std.specs.Prelude.{ℕ, zero, suc, ◌+◌, ◌-◌, Bool, true, false, List, [], ◌∷◌, ◌++◌, take, if◌then◌else◌, Result, Ok, Err, codes}
use Rattle.std.specs.Str.{bytes_eq}
use Rattle.cake_base.specs.declared.places.Place.{Place}
use Rattle.cake_base.specs.declared.rules.Family.TheVariants.{L}
use Rattle.cake_base.specs.declared.rules.Fault.{Fault}
use Rattle.model_tokens.specs.declared.steps.Cell.{Cell}
use Rattle.model_tokens.specs.declared.steps.LinePart.{LinePart}
use Rattle.model_tokens.specs.declared.steps.LinePart.TheVariants.{Start, Hash, Include, Rest}
use Rattle.model_tokens.specs.declared.steps.Step.TheVariants.{LineEnd, Blank, Token, OpenComment}
use Rattle.model_tokens.specs.declared.tokens.PpKind.{PpKind}
use Rattle.model_tokens.specs.JoinedLines.{bytes, cells_from}
use Rattle.model_tokens.specs.PpSteps.{step_at}

-- a token with its spelling: whether it begins a line, and whether a blank, a comment or a line end
-- stands directly before it
pub record PpToken : Type 0 where
  pub kind : PpKind
  pub place : Place
  pub first : Bool
  pub space : Bool
  pub spelling : List ℕ

-- the place of a byte, with the number of tokens before it
abbrev pub place_at : ℕ → Cell → ℕ → Place
place_at file c order = record { file = file; line = c.line; column = c.column; order = order }

-- the rule of the family L with this number is broken here
abbrev pub token_fault : ℕ → Place → Fault
token_fault number place = record { place = place; rule = record { family = L; number = number } }

abbrev pub begins_line : LinePart → Bool
begins_line Start = true
begins_line Hash = false
begins_line Include = false
begins_line Rest = false

-- the part of the line after one more token
abbrev pub line_after : LinePart → List ℕ → LinePart
line_after Start spelling = if bytes_eq spelling (codes "#") then Hash else Rest
line_after Hash spelling = if bytes_eq spelling (codes "include") then Include else Rest
line_after Include spelling = Rest
line_after Rest spelling = Rest

-- tokens that stand before the tokens of the rest
abbrev pub before_rest : List PpToken → Result (List PpToken) Fault → Result (List PpToken) Fault
before_rest front (Ok rest) = Ok (front ++ rest)
before_rest front (Err fault) = Err fault

-- The tokens of the cells that are left. The first number counts the cells of the token, the blanks or the comment before,
-- which are passed over; `space` says that something but a token stands directly before; `order` counts the tokens before.
abbrev pub tokens_from : ℕ → ℕ → LinePart → Bool → ℕ → List Cell → Result (List PpToken) Fault
tokens_from file skip line space order [] = Ok []
tokens_from file (suc skip) line space order (c ∷ cells) = tokens_from file skip line space order cells
tokens_from file zero line space order (c ∷ cells) =
    elim (step_at line (bytes (c ∷ cells))) [
      | LineEnd ↦ tokens_from file 0 Start true order cells
      | Blank n ↦ tokens_from file (n - 1) line true order cells
      | Token kind n ↦
          let spelling : List ℕ = take n (bytes (c ∷ cells)) in
          before_rest
          (record { kind = kind; place = place_at file c order; first = begins_line line; space = space; spelling = spelling } ∷ [])
          (tokens_from file (n - 1) (line_after line spelling) false (order + 1) cells)
      | OpenComment ↦ Err (token_fault 1 (place_at file c order))
    ]

-- the tokens of the text of a file, or L01 at its first comment that isn't ended
unfoldable pub tokens_of : ℕ → List ℕ → Result (List PpToken) Fault
tokens_of file text = tokens_from file 0 Start false 0 (cells_from 1 1 text)
