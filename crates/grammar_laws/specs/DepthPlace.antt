-- The place at which the nesting of parts passes its limit. A token lies in the parts that are open at it; a part is one
-- higher than its highest piece; and a chain of operators, of commas or of what follows an operand grows by one at each. It
-- is stated of the derivations of any language.
use Rattle.std.specs.Prelude.{ℕ, ◌+◌, ◌<◌, ◌≡◌, max, Bool, true, false, if◌then◌else◌, List, [], ◌∷◌, ◌++◌, length, drop}
use mathlib.Core.Logic.{◌⊎◌}
use Rattle.model_grammar.specs.declared.grammar.Rule.{Rule}
use Rattle.model_grammar.specs.declared.grammar.Rule.TheVariants as r
use Rattle.model_grammar.specs.GrammarForm.{Form}
use Rattle.model_grammar.specs.Derivation.{Language, Derives, Begins}
use Rattle.grammar_laws.specs.Preferences.{choices, choices_so_far, Earlier}

-- the productions whose repetition is a chain that is read from the left
abbrev pub is_chain : Rule → Bool
is_chain r.Oror = true
is_chain r.Andand = true
is_chain r.Bor = true
is_chain r.Bxor = true
is_chain r.Band = true
is_chain r.Equal = true
is_chain r.Rel = true
is_chain r.Shift = true
is_chain r.Sum = true
is_chain r.Product = true
is_chain r.Expr = true
is_chain r.Postfix = true
is_chain _ = false

-- what is known before each token: how many parts are open at it, and the height of the highest part that ended
-- directly before it
pub record Mark : Type 0 where
  pub inside : ℕ
  pub ended : ℕ

-- a piece: its marks, its height, and the height of the highest part that ended at its end and that the next token is
-- still to show
pub record Piece : Type 0 where
  pub marks : List Mark
  pub height : ℕ
  pub ending : ℕ

-- the parts that ended before the piece are shown by its first token, if it has one
abbrev pub shown : ℕ → List Mark → List Mark
shown ending [] = []
shown ending (mark ∷ marks) = record mark { ended = max ending mark.ended } ∷ marks

abbrev pub carried : ℕ → List Mark → ℕ → ℕ
carried before [] after = max before after
carried before (mark ∷ marks) after = after

abbrev pub behind : ℕ → Piece → Piece
behind ending p = record { marks = shown ending p.marks; height = p.height; ending = carried ending p.marks p.ending }

-- one piece behind another
abbrev pub joined : Piece → Piece → Piece
joined p q = record { marks = p.marks ++ shown p.ending q.marks; height = max p.height q.height; ending = carried p.ending q.marks q.ending }

-- one more operator of a chain, with what it adds
abbrev pub chained : Piece → Piece → Piece
chained p q = record (joined p q) { height = max p.height q.height + 1 }

-- the end of a nonterminal: where it is a part, it is one higher than its pieces
abbrev pub ends : Bool → Piece → Piece
ends true p = record p { height = p.height + 1; ending = max p.ending (p.height + 1) }
ends false p = p

abbrev pub nothing_read : Piece
nothing_read = record { marks = []; height = 0; ending = 0 }

abbrev pub one_token : ℕ → Piece
one_token inside = record { marks = record { inside = inside; ended = 0 } ∷ []; height = 0; ending = 0 }

abbrev pub deeper : Bool → ℕ → ℕ
deeper true inside = inside + 1
deeper false inside = inside

module _ (L : Language) where
  abbrev Token : Type 0
  Token = L.Token

  abbrev State : Type 0
  State = L.State

  abbrev Tree : Type 0
  Tree = L.Tree

  -- grown chain inside d before: what has been read, `before`, and then what the derivation reads inside so many open
  -- parts; each turn of a chain makes it higher
  unfoldable pub grown : {f : Form} {s new : State} {ts rest : List Token} {xs : List Tree} → Bool → ℕ → Derives L f s ts xs new rest → Piece → Piece
  grown chain inside (Derives.a_word e) before = joined before (one_token inside)
  grown chain inside (Derives.a_rule {r = r} d) before = joined before (ends (L.is_part r) (grown (is_chain r) (deeper (L.is_part r) inside) d nothing_read))
  grown chain inside Derives.nothing before = before
  grown chain inside (Derives.both d e h) before = grown chain inside e (grown chain inside d before)
  grown chain inside (Derives.left d) before = grown chain inside d before
  grown chain inside (Derives.right d) before = grown chain inside d before
  grown chain inside Derives.skip before = before
  grown chain inside (Derives.take d) before = grown chain inside d before
  grown chain inside Derives.stop before = before
  grown chain inside (Derives.turn d e h) before = grown chain inside e (if chain then chained before (grown false inside d nothing_read) else grown false inside d before)
  grown chain inside (Derives.chosen b d) before = grown chain inside d before
  grown chain inside (Derives.other b d) before = grown chain inside d before
  grown chain inside (Derives.done b) before = before
  grown chain inside (Derives.again b d e h) before = grown chain inside e (if chain then chained before (grown false inside d nothing_read) else grown false inside d before)

  -- likewise an unfinished derivation, whose unfinished parts are open at its end
  unfoldable pub grown_so_far : {f : Form} {s : State} {ts rest : List Token} → Bool → ℕ → Begins L f s ts rest → Piece → Piece
  grown_so_far chain inside Begins.yet before = before
  grown_so_far chain inside (Begins.in_word e) before = joined before (one_token inside)
  grown_so_far chain inside (Begins.in_rule {r = r} d) before = joined before (grown_so_far (is_chain r) (deeper (L.is_part r) inside) d nothing_read)
  grown_so_far chain inside (Begins.in_first d) before = grown_so_far chain inside d before
  grown_so_far chain inside (Begins.in_then d e) before = grown_so_far chain inside e (grown chain inside d before)
  grown_so_far chain inside (Begins.in_left d) before = grown_so_far chain inside d before
  grown_so_far chain inside (Begins.in_right d) before = grown_so_far chain inside d before
  grown_so_far chain inside (Begins.in_maybe d) before = grown_so_far chain inside d before
  grown_so_far chain inside (Begins.in_turn d) before = if chain then joined before (grown_so_far false inside d nothing_read) else grown_so_far false inside d before
  grown_so_far chain inside (Begins.in_later d e) before = grown_so_far chain inside e (if chain then chained before (grown false inside d nothing_read) else grown false inside d before)
  grown_so_far chain inside (Begins.in_chosen b d) before = grown_so_far chain inside d before
  grown_so_far chain inside (Begins.in_other b d) before = grown_so_far chain inside d before
  grown_so_far chain inside (Begins.in_again b d) before = if chain then joined before (grown_so_far false inside d nothing_read) else grown_so_far false inside d before
  grown_so_far chain inside (Begins.in_further b d e) before = grown_so_far chain inside e (if chain then chained before (grown false inside d nothing_read) else grown false inside d before)

  -- the marks of the tokens that are derived, or begun, where no part is open before them
  abbrev pub marks : {f : Form} {s new : State} {ts rest : List Token} {xs : List Tree} → Derives L f s ts xs new rest → List Mark
  marks d = (grown false 0 d nothing_read).marks

  abbrev pub marks_so_far : {f : Form} {s : State} {ts rest : List Token} → Begins L f s ts rest → List Mark
  marks_so_far d = (grown_so_far false 0 d nothing_read).marks

-- how many parts may stand inside each other
abbrev pub max_parts : ℕ
max_parts = 1000

abbrev pub PassesLimit : Mark → Type 0
PassesLimit mark = (max_parts < mark.inside) ⊎ (max_parts < mark.ended)

-- none of them passes the limit
abbrev pub AreShallow : List Mark → Type 0
AreShallow [] = Unit {0}
AreShallow (mark ∷ marks) = (PassesLimit mark → ⊥) × AreShallow marks

-- the mark of the token k is the first that passes the limit
pub record IsFirstDeep (marks : List Mark) (k : ℕ) : Type 0 where
  pub before : List Mark
  pub mark : Mark
  pub later : List Mark
  pub split : marks ≡ before ++ mark ∷ later
  pub place : k ≡ length before
  pub shallow : AreShallow before
  pub deep : PassesLimit mark

-- the last mark is the first that passes it
pub record EndsDeep (marks : List Mark) : Type 0 where
  pub before : List Mark
  pub mark : Mark
  pub split : marks ≡ before ++ mark ∷ []
  pub shallow : AreShallow before
  pub deep : PassesLimit mark

-- of all derivations the one whose choices come first
pub record DeepInWhole (L : Language) (f : Form) (s : L.State) (ts : List L.Token) (k : ℕ) : Type 0 where
  pub trees : List L.Tree
  pub scopes : L.State
  pub derived : Derives L f s ts trees scopes []
  pub first : (ys : List L.Tree) (new : L.State) (other : Derives L f s ts ys new []) → Earlier (choices L other) (choices L derived) → ⊥
  pub deep : IsFirstDeep (marks L derived) k

-- where the tokens are derived by none: of all unfinished derivations of those before the fault, at j
pub record DeepBefore (L : Language) (f : Form) (s : L.State) (ts : List L.Token) (j k : ℕ) : Type 0 where
  pub begun : Begins L f s ts (drop j ts)
  pub first : (other : Begins L f s ts (drop j ts)) → Earlier (choices_so_far L other) (choices_so_far L begun) → ⊥
  pub before : k < j
  pub deep : IsFirstDeep (marks_so_far L begun) k
