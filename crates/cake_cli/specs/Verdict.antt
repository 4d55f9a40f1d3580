-- What becomes of a unit: the first that there is of preprocessing's answer, a fault of a token, the first syntax
-- error or the limit on nesting, and a token with which no unit that is translated today can go on; else its core.
-- Where tokens that aren't translated yet are no unit of the grammar either, that is what is told.
use Rattle.std.specs.Prelude.{◌≡◌, ℕ, List, [], ◌∷◌, Some, Result, Ok, Err}
use Rattle.cake_base.specs.declared.places.Place.{Place}
use Rattle.cake_base.specs.declared.rules.Family.TheVariants.{S}
use Rattle.cake_base.specs.declared.rules.Fault.{Fault}
use Rattle.model_grammar.specs.declared.grammar.Tree.{Tree}
use Rattle.model_tokens.specs.declared.tokens.CTok.{CTok}
use Rattle.model_core.specs.Core.{Core}
use Rattle.model_tokens.specs.CTokens.{c_tokens_of}
use Rattle.c_model.specs.FirstUnit.{IsUnit, StopsAt, token_place}
use Rattle.model_preprocessing.specs.PreprocessedUnit.{Prepared}
use Rattle.model_preprocessing.specs.Processes.{Stop, broken, passed, unread, Refusal}
use Rattle.model_grammar.specs.SyntaxActions.{tree_of}
use Rattle.model_grammar.specs.SyntaxForms.{External}
use Rattle.model_grammar.specs.TerminalsOf.{terminals_of}
use Rattle.grammar_laws.specs.UnitSyntax as syntax

-- a broken rule, a limit that is passed or a file that isn't read; or the unit by its forms, which isn't built yet, at
-- a place, or has a core
pub data Verdict : Type 0 where
  Stopped : (stop : Stop) → Verdict
  NotBuilt : (unit : List External) (place : Place) → Verdict
  IsCore : (unit : List External) (core : Core) → Verdict

-- the external declarations that the tree of the tokens stands for (ISO/IEC 9899:2024, 6.9)
pub record IsForm (tokens : List CTok) (unit : List External) : Type 0 where
  pub tree : Tree
  pub derived : syntax.IsUnit (terminals_of tokens) (tree ∷ [])
  pub stands : tree_of tokens tree ≡ Some unit

-- there are such
abbrev pub HasForm : List CTok → Type 0
HasForm tokens = (unit : List External) × IsForm tokens unit

-- why there is none: S01 at the first faulty token, or at the end; or M06 at the token that is met in too many parts
abbrev pub IsSyntaxStop : List CTok → (end : Place) → Stop → Type 0
IsSyntaxStop tokens end (broken fault) = (rank : ℕ) × syntax.IsFault (terminals_of tokens) rank × (fault ≡ record { place = token_place tokens end rank; rule = record { family = S; number = 1 } })
IsSyntaxStop tokens end (passed hit) = (rank : ℕ) × syntax.IsTooDeep (terminals_of tokens) rank × (hit ≡ record { place = token_place tokens end rank; limit = record { number = 6 } })
IsSyntaxStop tokens end (unread file cause) = ⊥

-- of tokens of C, with the place where they end
abbrev pub IsVerdictOn : List CTok → (end : Place) → Verdict → Type 0
IsVerdictOn tokens end (Stopped stop) = IsSyntaxStop tokens end stop
IsVerdictOn tokens end (NotBuilt unit place) = IsForm tokens unit × (rank : ℕ) × StopsAt tokens rank × (place ≡ token_place tokens end rank)
IsVerdictOn tokens end (IsCore unit core) = IsForm tokens unit × IsUnit tokens core

-- of preprocessed tokens that are converted
abbrev pub IsVerdictOf : Result (List CTok) Fault → (end : Place) → Verdict → Type 0
IsVerdictOf (Err fault) end verdict = verdict ≡ Stopped (broken fault)
IsVerdictOf (Ok tokens) end verdict = IsVerdictOn tokens end verdict

-- of what preprocessing gives
abbrev pub IsVerdict : Result Prepared Refusal → Verdict → Type 0
IsVerdict (Err refusal) verdict = verdict ≡ Stopped refusal.stop
IsVerdict (Ok unit) verdict = IsVerdictOf (c_tokens_of unit.tokens) unit.end verdict
