-- What the grammar says of a list of tokens: they are a unit, they have a first faulty token, or a token is met in too
-- many parts. A unit, its tree and its parts, and a fault are the grammar's; only the parts of an unfinished unit are
-- those of the walk through the parser's table to the fault.
use Rattle.std.specs.Prelude.{ℕ, ◌≡◌, ◌<◌, List, ◌∷◌, drop}
use Rattle.model_grammar.specs.declared.grammar.Rule.TheVariants as r
use Rattle.model_grammar.specs.declared.grammar.Terminal.{Terminal}
use Rattle.model_grammar.specs.declared.grammar.Tree.{Tree}
use Rattle.model_grammar.specs.GrammarForm.{Form, rule}
use Rattle.model_grammar.specs.NameScopes.{Scopes, start}
use Rattle.grammar_laws.specs.FaultPlace.{FaultsAt}
use Rattle.grammar_laws.specs.Preferences.{IsPreferred}
use Rattle.grammar_laws.specs.DepthPlace.{Mark, marks, marks_so_far, AreShallow, IsFirstDeep}
use Rattle.model_grammar.specs.SyntaxTree.{c_language}
use Rattle.grammar_laws.specs.ParserWalk.{Reads, Fails}
use Rattle.grammar_laws.specs.WalkedDerivation.{derivation, front}
use Rattle.grammar_laws.specs.ParserSets.{tables}
use Rattle.grammar_laws.specs.ParserTests.{parsed}

abbrev pub unit : Form
unit = rule r.Unit

-- the grammar derives all tokens, by the preferred choices, as these trees and with these marks
pub record HasParts (ts : List Terminal) (xs : List Tree) (ms : List Mark) : Type 0 where
  pub preferred : IsPreferred c_language unit start ts xs
  pub parts : marks c_language preferred.derived ≡ ms

-- the grammar derives all tokens, by the preferred choices, as these trees, and none of them is met in too many parts
pub record IsUnit (ts : List Terminal) (xs : List Tree) : Type 0 where
  pub preferred : IsPreferred c_language unit start ts xs
  pub shallow : AreShallow (marks c_language preferred.derived)

-- the walk to the first token with which the parser's table can't go on: it finds no word for it, or is at its end
pub data Walk : List Terminal → List Terminal → Type 0 where
  stuck : {ts rest : List Terminal} → Fails tables parsed unit start ts rest → Walk ts rest
  ended : {ts rest : List Terminal} {t : Terminal} {xs : List Tree} {new : Scopes} → Reads tables parsed unit start ts xs new (t ∷ rest) → Walk ts (t ∷ rest)

abbrev pub walked : {ts rest : List Terminal} → Walk ts rest → List Mark
walked (stuck p) = marks_so_far parsed (front tables parsed p)
walked (ended p) = marks parsed (derivation tables parsed p)

-- the grammar begins a unit by the tokens before k and by no more, and derives none; none before it is met in too
-- many parts
pub record IsFault (ts : List Terminal) (k : ℕ) : Type 0 where
  pub first : FaultsAt c_language unit start ts k
  pub walk : Walk ts (drop k ts)
  pub shallow : AreShallow (walked walk)

-- the token k is the first that is met in too many parts: in a unit, or before the first fault
pub data IsTooDeep : List Terminal → ℕ → Type 0 where
  in_unit : {ts : List Terminal} {k : ℕ} {xs : List Tree} (preferred : IsPreferred c_language unit start ts xs) → IsFirstDeep (marks c_language preferred.derived) k → IsTooDeep ts k
  before_fault : {ts : List Terminal} {j k : ℕ} (walk : Walk ts (drop j ts)) → FaultsAt c_language unit start ts j → k < j → IsFirstDeep (walked walk) k → IsTooDeep ts k
