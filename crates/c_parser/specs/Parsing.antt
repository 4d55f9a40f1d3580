-- What `parse` answers of the tokens of a list as the grammar sees them.
use Rattle.std.specs.Prelude.{◌≡◌, Bool, List, [], ◌∷◌, Result, Ok, Err}
use Rattle.c_parser.specs.declared.unit.UnitRefusal.{UnitRefusal}
use Rattle.c_parser.specs.declared.unit.UnitRefusal.TheVariants as refusal
use Rattle.model_grammar.specs.declared.grammar.Terminal.{Terminal}
use Rattle.model_grammar.specs.declared.grammar.Tree.{Tree}
use Rattle.model_tokens.specs.declared.tokens.CTok.{CTok}
use Rattle.model_grammar.specs.SyntaxActions.{value_of}
use Rattle.grammar_laws.specs.UnitSyntax.{IsUnit, IsFault, IsTooDeep}
use Rattle.syntax_meanings.specs.declared.meanings.Value.{Value}
use Rattle.syntax_meanings.specs.Meanings.{value_seen, values_seen}
use Rattle.c_parser.specs.TreeValues.{built}

-- what the tree of a unit stands for
pub record IsUnitValue (tokens : List CTok) (ts : List Terminal) (value : Value) : Type 0 where
  pub tree : Tree
  pub derived : IsUnit ts (tree ∷ [])
  pub stands : value_seen value ≡ value_of tokens tree

-- why there is none
abbrev pub Refused : List Terminal → UnitRefusal → Type 0
Refused ts (refusal.Fault k) = IsFault ts k
Refused ts (refusal.Deep k) = IsTooDeep ts k
Refused ts refusal.Memory = Unit {0}

abbrev pub Parsed : List CTok → List Terminal → Result Value UnitRefusal → Type 0
Parsed tokens ts (Ok value) = IsUnitValue tokens ts value
Parsed tokens ts (Err why) = Refused ts why

-- what is built of the tree of a unit
pub record IsUnitRead (tokens : List CTok) (ts : List Terminal) (builds : Bool) (made : List Value) : Type 0 where
  pub tree : Tree
  pub derived : IsUnit ts (tree ∷ [])
  pub put : values_seen made ≡ built builds tokens (tree ∷ [])

abbrev pub UnitRead : List CTok → List Terminal → Bool → Result (List Value) UnitRefusal → Type 0
UnitRead tokens ts builds (Ok made) = IsUnitRead tokens ts builds made
UnitRead tokens ts builds (Err why) = Refused ts why
