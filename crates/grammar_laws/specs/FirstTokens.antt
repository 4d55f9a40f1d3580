-- For each nonterminal of a table, and each form, the kinds of its first tokens, and whether it may derive none.
use Rattle.std.specs.Prelude.{ℕ, Bool, true, false, ◌&&◌, ◌||◌, if◌then◌else◌, List, [], ◌++◌}
use Rattle.model_grammar.specs.declared.grammar.Rule.{Rule}
use Rattle.model_grammar.specs.GrammarForm.{Form, word, rule, empty, ◌then◌, ◌or◌, maybe, many, when, loop}

-- For each rule: whether it derives nothing, what its first word may be, and what may follow it. The end of the tokens is 0.
pub record Tables : Type 0 where
  pub hollow : Rule → Bool
  pub firsts : Rule → List ℕ
  pub follows : Rule → List ℕ

module _ (T : Tables) where
  unfoldable pub nullable : Form → Bool
  nullable (word ks a) = false
  nullable (rule r) = T.hollow r
  nullable empty = true
  nullable (f then g) = nullable f && nullable g
  nullable (f or g) = nullable f || nullable g
  nullable (maybe f) = true
  nullable (many f) = true
  nullable (when p f g) = nullable f || nullable g
  nullable (loop p f) = true

  unfoldable pub first : Form → List ℕ
  first (word ks a) = ks
  first (rule r) = T.firsts r
  first empty = []
  first (f then g) = first f ++ (if nullable f then first g else [])
  first (f or g) = first f ++ first g
  first (maybe f) = first f
  first (many f) = first f
  first (when p f g) = first f ++ first g
  first (loop p f) = first f
