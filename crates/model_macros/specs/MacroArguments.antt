-- The arguments of a macro call (ISO/IEC 9899:2024, 6.10.5, 6.10.5.1).
use Rattle.std.specs.Prelude.{ℕ, ◌-◌, Bool, true, false, ◌&&◌, ◌==◌, nat_lt, if◌then◌else◌, List, [], ◌∷◌, ◌++◌, length, map, Option, Some, None}
use Rattle.cake_base.specs.declared.places.Place.{Place}
use Rattle.model_tokens.specs.PpTokens.{PpToken}
use Rattle.model_macros.specs.Macros.{Macro, spells}
use Rattle.model_macros.specs.ReplacementLists.{LEFT, RIGHT, deeper}
use Rattle.model_macros.specs.MacroDefinitions.{COMMA, names_of}

-- a token with its hide set
pub record Painted : Type 0 where
  pub tok : PpToken
  pub hides : List ℕ

abbrev pub Run : Type 0
Run = List Painted

-- what follows an opening parenthesis: the tokens before the closing one, that one, and the rest
pub record Inside : Type 0 where
  pub tokens : Run
  pub close : Painted
  pub rest : Run

abbrev pub in_front : Painted → Option Inside → Option Inside
in_front p None = None
in_front p (Some i) = Some (record i { tokens = p ∷ i.tokens })

-- what stands within parentheses of which `depth` more are open, if they are closed
abbrev pub inside : ℕ → Run → Option Inside
inside depth [] = None
inside depth (p ∷ ps) =
    if spells RIGHT p.tok && depth == 0 then Some (record { tokens = []; close = p; rest = ps })
    else in_front p (inside (deeper depth p.tok) ps)

-- a token of an argument stands at the outermost name of a macro
abbrev pub at_place : Place → Painted → Painted
at_place place p = record p { tok = record p.tok { place = place } }

abbrev pub placed : Place → Option Inside → Option Inside
placed place None = None
placed place (Some i) = Some (record i { tokens = map (at_place place) i.tokens })

abbrev pub onto : Painted → List Run → List Run
onto p [] = (p ∷ []) ∷ []
onto p (r ∷ rs) = (p ∷ r) ∷ rs

-- what the first commas outside of inner parentheses part, at most `commas` of them
abbrev pub parts : ℕ → ℕ → Run → List Run
parts commas depth [] = [] ∷ []
parts commas depth (p ∷ ps) =
    if spells COMMA p.tok && depth == 0 && nat_lt 0 commas then [] ∷ parts (commas - 1) depth ps
    else onto p (parts commas (deeper depth p.tok) ps)

abbrev pub is_nil : {A : Type 0} → List A → Bool
is_nil [] = true
is_nil (x ∷ xs) = false

-- as many arguments as parameters; a macro without parameters has no argument
abbrev pub exact_arguments : ℕ → Run → Option (List Run)
exact_arguments names run =
    if names == 0 then (if is_nil run then Some [] else None)
    else (let ps : List Run = parts (length run) 0 run in if length ps == names then Some ps else None)

-- The variable arguments are one, with the commas between them; they may be left out.
abbrev pub variable_arguments : ℕ → Run → Option (List Run)
variable_arguments names run =
    let ps : List Run = parts names 0 run in
    if length ps == names then Some (ps ++ [] ∷ [])
    else if nat_lt names (length ps) then Some ps else None

-- the arguments of a call, the variable ones last, if their number is right
abbrev pub arguments : Macro → Run → Option (List Run)
arguments m run =
    if m.variadic then variable_arguments (length (names_of m.params)) run
    else exact_arguments (length (names_of m.params)) run

abbrev pub opens : Run → Bool
opens [] = false
opens (p ∷ ps) = spells LEFT p.tok
