-- What replacement does to the tokens of a line and to the state.
use Rattle.std.specs.Prelude.{◌≡◌, ℕ, List, map, Result, Ok, Err}
use Rattle.model_tokens.specs.PpTokens.{PpToken}
use Rattle.model_macros.specs.MacroArguments.{Run}
use Rattle.model_macros.specs.Pasting.{fresh}
use Rattle.model_macros.specs.Expansion.{Answer, broken, passed}
use Rattle.model_macros.specs.ExpansionFunction.{expand}
use Rattle.model_preprocessing.specs.Sources.{State, tokens_here}
use Rattle.model_preprocessing.specs.ControlLines.{counted}
use Rattle.pp_directives.specs.declared.errors.PrepError.{PrepError}
use Rattle.pp_directives.specs.declared.errors.PrepError.TheVariants as prep_error

-- what the definition has for the tokens of a line
abbrev pub expansion : State → List PpToken → Answer
expansion s ts = expand s.table (map fresh (tokens_here s ts)) s.made

abbrev pub Replaced : State → List PpToken → Result (List PpToken) PrepError → State → Type 0
Replaced s ts (Ok list) s' = (v : Run × ℕ) × (expansion s ts ≡ Ok v) × (list ≡ map (λ p. p.tok) v.0) × (s' ≡ counted s v.1)
Replaced s ts (Err (prep_error.Fault fault)) s' = (made : ℕ) × (expansion s ts ≡ Err (broken fault, made)) × (s' ≡ counted s made)
Replaced s ts (Err (prep_error.Limit hit)) s' = (made : ℕ) × (expansion s ts ≡ Err (passed hit, made)) × (s' ≡ counted s made)
Replaced s ts (Err (prep_error.Read file cause)) s' = ⊥
Replaced s ts (Err prep_error.NoMemory) s' = Unit {0}
