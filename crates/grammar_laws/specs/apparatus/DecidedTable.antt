-- When one token decides each choice of a table: the sets of first and following kinds are apart (the condition of
-- LL(1) grammars); where a test chooses, nothing is asked.
use Rattle.std.specs.Prelude.{ℕ, Bool, true, not, ◌&&◌, ◌||◌, if◌then◌else◌, List, [], ◌∷◌, ◌++◌}
use Rattle.model_grammar.specs.declared.grammar.Rule.{Rule}
use Rattle.model_grammar.specs.GrammarForm.{Form, word, rule, empty, ◌then◌, ◌or◌, maybe, many, when, loop, mem}
use Rattle.grammar_laws.specs.FirstTokens.{Tables, nullable, first}

module _ (T : Tables) where
  -- what may come next where the form stands before what begins with F
  unfoldable pub leads : Form → List ℕ → List ℕ
  leads f F = first T f ++ (if nullable T f then F else [])

  unfoldable pub within : List ℕ → List ℕ → Bool
  within [] F = true
  within (k ∷ ks) F = mem k F && within ks F

  unfoldable pub apart : List ℕ → List ℕ → Bool
  apart [] F = true
  apart (k ∷ ks) F = not (mem k F) && apart ks F

  -- one token decides each choice of the form, where F may follow
  unfoldable pub decided : Form → List ℕ → Bool
  decided (word ks a) F = true
  decided (rule r) F = within F (T.follows r)
  decided empty F = true
  decided (f then g) F = decided f (leads g F) && decided g F
  decided (f or g) F = apart (leads f F) (leads g F) && decided f F && decided g F
  decided (maybe f) F = not (nullable T f) && apart (first T f) F && decided f F
  decided (many f) F = not (nullable T f) && apart (first T f) F && decided f (first T f ++ F)
  decided (when p f g) F = decided f F && decided g F
  decided (loop p f) F = not (nullable T f) && decided f (first T f ++ F)

  -- what the table must be for this
  unfoldable pub table_decided : Rule → Form → Bool
  table_decided r f = within (first T f) (T.firsts r) && (not (nullable T f) || T.hollow r) && decided f (T.follows r)
