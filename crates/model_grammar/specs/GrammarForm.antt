-- The right sides of a grammar's productions as data (ISO/IEC 9899:2024, 6.1 and annex A).
use Rattle.std.specs.Prelude.{ℕ, Bool, false, ◌||◌, ◌==◌, List, [], ◌∷◌}
use Rattle.model_grammar.specs.declared.grammar.Rule.{Rule}
use Rattle.model_grammar.specs.declared.grammar.Act.{Act}
use Rattle.model_grammar.specs.declared.grammar.Test.{Test}

pub data Form : Type 0 where
  -- a token of one of these kinds, and what the scopes do at it
  word : List ℕ → Act → Form
  rule : Rule → Form
  empty : Form
  ◌then◌ : Form → Form → Form
  ◌or◌ : Form → Form → Form
  -- one or none
  maybe : Form → Form
  -- any number
  many : Form → Form
  -- the first where the test holds, the second elsewhere
  when : Test → Form → Form → Form
  -- any number, each where the test holds
  loop : Test → Form → Form

infixr 30 ◌then◌
infixr 20 ◌or◌
-- the kind is one of these
unfoldable pub mem : ℕ → List ℕ → Bool
mem k [] = false
mem k (x ∷ xs) = k == x || mem k xs
