-- The place of the first syntax error: the first token with which no derivation can go on. It is stated of any language;
-- the one that is meant is the grammar's.
use Rattle.std.specs.Prelude.{ℕ, ◌≤◌, ◌+◌, List, [], length, drop}
use Rattle.model_grammar.specs.GrammarForm.{Form}
use Rattle.model_grammar.specs.Derivation.{Language, Derives, Begins}

-- the form is begun by the first k tokens and by no more, and is not derived by all
pub record FaultsAt (L : Language) (f : Form) (s : L.State) (ts : List L.Token) (k : ℕ) : Type 0 where
  pub within : k ≤ length ts
  pub begun : Begins L f s ts (drop k ts)
  pub no_more : (rest : List L.Token) → Begins L f s ts rest → length ts ≤ k + length rest
  pub not_whole : (xs : List L.Tree) (new : L.State) → Derives L f s ts xs new [] → ⊥
