-- When the end of a nonterminal changes nothing of what decides whether it has ended.
use Rattle.std.specs.Prelude.{◌≡◌, true}
use Rattle.model_grammar.specs.declared.grammar.Rule.{Rule}
use Rattle.model_grammar.specs.GrammarForm.{mem}
use Rattle.model_grammar.specs.Derivation.{Language}
use Rattle.grammar_laws.specs.FirstTokens.{Tables}

module _ (T : Tables) (L : Language) where
  -- the end of a nonterminal changes the kind of no word that decides whether it has ended, and nothing where it may be empty
  pub record IsQuiet : Type 0 where
    pub keeps : (r : Rule) (s : L.State) (t : L.Token) → mem (L.kind (L.close r s) t) (T.follows r) ≡ true → mem (L.kind s t) (T.follows r) ≡ true
    pub still : (r : Rule) (s : L.State) → T.hollow r ≡ true → L.close r s ≡ s
