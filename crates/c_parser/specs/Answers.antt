-- What the public call answers of a list of tokens of C.
use Rattle.std.specs.Prelude.{ℕ, ◌≡◌, List, [], ◌∷◌, slice_get, Option, Some, None, Result, Ok, Err}
use Rattle.cake_base.specs.declared.places.Place.{Place}
use Rattle.cake_base.specs.declared.rules.Fault.{Fault}
use Rattle.cake_base.specs.declared.rules.LimitHit.{LimitHit}
use Rattle.cake_base.specs.declared.rules.Family.TheVariants.{S}
use Rattle.model_tokens.specs.declared.tokens.CTok.{CTok}
use Rattle.model_grammar.specs.declared.grammar.Tree.{Tree}
use Rattle.model_grammar.specs.TerminalsOf.{terminals_of}
use Rattle.c_parser.specs.declared.errors.ParseError.{ParseError}
use Rattle.c_parser.specs.declared.errors.ParseError.TheVariants as parse_error
use Rattle.model_grammar.specs.SyntaxActions.{tree_of}
use Rattle.model_grammar.specs.SyntaxForms.{External}
use Rattle.c_tree.specs.SyntaxTrees.{unit_of}
use Rattle.grammar_laws.specs.UnitSyntax.{IsUnit, IsFault, IsTooDeep}

-- the place of a token, or the end of the list where there is none
abbrev pub place_of : Option CTok → Place → Place
place_of (Some t) end = t.place
place_of None end = end

-- S01 at the first token with which no unit can go on, or at the end of a list that is the front of a unit and no unit
pub record IsSyntaxError (tokens : List CTok) (end : Place) (fault : Fault) : Type 0 where
  pub at : ℕ
  pub faulty : IsFault (terminals_of tokens) at
  pub named : fault ≡ record { place = place_of (slice_get tokens at) end; rule = record { family = S; number = 1 } }

-- M06 at a token that is met in too many parts
pub record IsDepthLimit (tokens : List CTok) (hit : LimitHit) : Type 0 where
  pub at : ℕ
  pub token : CTok
  pub there : slice_get tokens at ≡ Some token
  pub deep : IsTooDeep (terminals_of tokens) at
  pub named : hit ≡ record { place = token.place; limit = record { number = 6 } }

-- the unit that the one tree of the tokens stands for
pub record IsTree (tokens : List CTok) (externals : List External) : Type 0 where
  pub tree : Tree
  pub derived : IsUnit (terminals_of tokens) (tree ∷ [])
  pub stands : tree_of tokens tree ≡ Some externals

abbrev pub Answers : List CTok → Place → Result (List External) ParseError → Type 0
Answers tokens end (Ok tree) = IsTree tokens (unit_of tree)
Answers tokens end (Err (parse_error.Fault fault)) = IsSyntaxError tokens end fault
Answers tokens end (Err (parse_error.Limit hit)) = IsDepthLimit tokens hit
Answers tokens end (Err parse_error.NoMemory) = Unit {0}
