-- Which of several derivations of the same tokens is meant: the one that takes, from the left, each optional part and
-- the alternative that is written first. So attributes with nothing but `;` behind them are a declaration in a block, and
-- no statement (ISO/IEC 9899:2024, 6.8.3). Of two derivations of a form from the same place one comes earlier, or their
-- trees are the same, so there is at most one preferred tree. It is stated of any language.
use Rattle.std.specs.Prelude.{Bool, true, false, List, [], ◌∷◌, ◌++◌}
use Rattle.model_grammar.specs.GrammarForm.{Form}
use Rattle.model_grammar.specs.Derivation.{Language, Derives, Begins}

-- what a choice took: the first alternative, an optional part or one more turn; or the second, none, or no more
abbrev pub took : Bool
took = true

abbrev pub left_out : Bool
left_out = false

module _ (L : Language) where
  abbrev Token : Type 0
  Token = L.Token

  abbrev State : Type 0
  State = L.State

  abbrev Tree : Type 0
  Tree = L.Tree

  -- the choices of a derivation from the left; a test makes none
  unfoldable pub choices : {f : Form} {s new : State} {ts rest : List Token} {xs : List Tree} → Derives L f s ts xs new rest → List Bool
  choices (Derives.a_word e) = []
  choices (Derives.a_rule d) = choices d
  choices Derives.nothing = []
  choices (Derives.both d e h) = choices d ++ choices e
  choices (Derives.left d) = took ∷ choices d
  choices (Derives.right d) = left_out ∷ choices d
  choices Derives.skip = left_out ∷ []
  choices (Derives.take d) = took ∷ choices d
  choices Derives.stop = left_out ∷ []
  choices (Derives.turn d e h) = took ∷ choices d ++ choices e
  choices (Derives.chosen b d) = choices d
  choices (Derives.other b d) = choices d
  choices (Derives.done b) = []
  choices (Derives.again b d e h) = choices d ++ choices e

  -- likewise those of an unfinished derivation
  unfoldable pub choices_so_far : {f : Form} {s : State} {ts rest : List Token} → Begins L f s ts rest → List Bool
  choices_so_far Begins.yet = []
  choices_so_far (Begins.in_word e) = []
  choices_so_far (Begins.in_rule d) = choices_so_far d
  choices_so_far (Begins.in_first d) = choices_so_far d
  choices_so_far (Begins.in_then d e) = choices d ++ choices_so_far e
  choices_so_far (Begins.in_left d) = took ∷ choices_so_far d
  choices_so_far (Begins.in_right d) = left_out ∷ choices_so_far d
  choices_so_far (Begins.in_maybe d) = took ∷ choices_so_far d
  choices_so_far (Begins.in_turn d) = took ∷ choices_so_far d
  choices_so_far (Begins.in_later d e) = took ∷ choices d ++ choices_so_far e
  choices_so_far (Begins.in_chosen b d) = choices_so_far d
  choices_so_far (Begins.in_other b d) = choices_so_far d
  choices_so_far (Begins.in_again b d) = choices_so_far d
  choices_so_far (Begins.in_further b d e) = choices d ++ choices_so_far e

-- the choices come earlier: at the first place where they differ they took what the others left out
abbrev pub Earlier : List Bool → List Bool → Type 0
Earlier [] ys = ⊥
Earlier (x ∷ xs) [] = ⊥
Earlier (true ∷ xs) (false ∷ ys) = Unit {0}
Earlier (false ∷ xs) (true ∷ ys) = ⊥
Earlier (true ∷ xs) (true ∷ ys) = Earlier xs ys
Earlier (false ∷ xs) (false ∷ ys) = Earlier xs ys

-- no other derivation of all tokens has choices that come earlier
pub record IsPreferred (L : Language) (f : Form) (s : L.State) (ts : List L.Token) (xs : List L.Tree) : Type 0 where
  pub scopes : L.State
  pub derived : Derives L f s ts xs scopes []
  pub first : (ys : List L.Tree) (new : L.State) (other : Derives L f s ts ys new []) → Earlier (choices L other) (choices L derived) → ⊥
