-- A list of specifiers with the lists behind `enum :` in it, piece by piece: which enumeration has which braces is
-- told by the order of the pieces alone. A piece stands in any list, since all that it reads of the scopes is whether
-- a type specifier stands before it.
use Rattle.std.proofs.Common.{◌≡◌, ℕ, suc, Bool, true, false, ◌||◌, List, [], ◌∷◌, None, length}
use Rattle.std.specs.Prelude.{◌==◌}
use mathlib.Core.Logic.{◌⊎◌}
use Rattle.model_grammar.specs.declared.grammar.Rule.TheVariants as r
use Rattle.model_grammar.specs.declared.grammar.Act.TheVariants as act
use Rattle.model_grammar.specs.declared.grammar.Test.TheVariants as test
use Rattle.model_grammar.specs.declared.grammar.Terminal.{Terminal}
use Rattle.model_grammar.specs.declared.grammar.Entry.{Entry}
use Rattle.model_grammar.specs.declared.grammar.Reading.{Reading}
use Rattle.model_grammar.specs.declared.grammar.Frame.{Frame}
use Rattle.model_grammar.specs.declared.grammar.Within.TheVariants.{BehindTag}
use Rattle.model_grammar.specs.GrammarForm.{Form, word, rule, ◌then◌, ◌or◌, maybe, when, loop, empty}
use Rattle.model_grammar.specs.Grammar.{token}
use Rattle.model_grammar.specs.Terminals as k
use Rattle.model_grammar.specs.NameScopes.{Scopes, fresh, specified}
use Rattle.model_grammar.specs.Derivation.{Begins}
use Rattle.model_grammar.specs.SyntaxTree.{sees_type}
use Rattle.grammar_laws.specs.ParserTests.{parsed, passes, sees, sees_name, lacks_enumeration}
use Rattle.grammar_laws.proofs.tests_lose_nothing.LosesNothing.{IsDerived}
use Rattle.grammar_laws.proofs.scans.PastSpecifiers.{listed}
use Rattle.grammar_laws.proofs.specifier_lists.WhatRemains.{Item, Continues}

-- one of a list of type specifiers and qualifiers
abbrev pub element : Form
element = rule r.Typespec or rule r.Qual

abbrev pub elements : Form
elements = loop test.TypeAhead element

-- what stands behind `enum` and its attributes
abbrev pub tag : Form
tag = word (k.Name ∷ k.TypedefName ∷ []) act.TypeSpecifier

abbrev pub braced : Form
braced =
    word (k.OpenBrace ∷ []) act.Enclose then rule r.Enumr then loop test.EnumeratorAhead (token k.Comma then rule r.Enumr) then maybe (token k.Comma) then word (k.CloseBrace ∷ []) act.TypeSpecifier

abbrev pub based : Form
based = maybe (word (k.Colon ∷ []) act.AwaitBraces then rule r.Squals)

abbrev pub silently : Form
silently = tag then maybe (token k.Colon then rule r.Squals)

abbrev pub enumerated : Form
enumerated = when test.EnumeratorsAhead (maybe tag then based then braced) silently

-- and behind the tag of a structure
abbrev pub membered : Form
membered = when test.BraceAhead (rule r.Members) empty

-- the scopes inside a list
abbrev pub at : List Entry → Reading → List Frame → Scopes
at es reading fs = record { entries = es; reading = reading; frames = fs; brackets = [] }

abbrev pub here : List Entry → Bool → Scopes
here es typed = at es (record fresh { typed = typed }) []

-- the scan for braces that no enumeration takes, where w wait for theirs
abbrev pub lacks : List Entry → ℕ → Bool → List Terminal → Bool
lacks es w typed ts = lacks_enumeration w (listed true typed) (here es false) ts

-- behind a type specifier or a qualifier
abbrev pub qualified : Reading → Reading
qualified reading = record reading { near = true; held = None }

abbrev pub behind : Bool → Reading → Reading
behind true reading = specified reading
behind false reading = qualified reading

-- the frame of a specifier
abbrev pub frame_of : List Entry → Reading → Frame
frame_of es reading = record { count = length es; reading = reading }

-- behind the word of a specifier, and behind its tag
abbrev pub begun : Reading → Reading
begun reading = record fresh { waiting = reading.waiting }

-- the list that is meant: the names, the frames before it, its form and what is to be done behind it
pub record Run : Type 0 where
  pub names : List Entry
  pub below : List Frame
  pub list : Form
  pub after : List Item
  pub end : Scopes
  pub rest : List Terminal
  pub whole : Bool
  pub more : (s : Scopes) (ts : List Terminal) → passes test.TypeAhead s ts ≡ true → Continues end rest whole (Item.form element ∷ Item.form list ∷ after) s ts
      → Continues end rest whole (Item.form list ∷ after) s ts

module _ (es : List Entry) where
  -- a type specifier or a qualifier that holds no choice
  pub record IsPiece (c y : Bool) (ts later : List Terminal) : Type 0 where
    pub derived : (reading : Reading) (fs : List Frame) → reading.typed ≡ y → IsDerived element (at es reading fs) ts (at es (behind c reading) fs) later
    pub lacking : (w : ℕ) → lacks es w y ts ≡ lacks es w (c || y) later
    pub type : sees_type (here es y) ts ≡ true

  -- `enum` or `struct` and its attributes
  pub record IsHead (word : ℕ) (ts later : List Terminal) : Type 0 where
    pub first : Terminal
    pub others : List Terminal
    pub tokens : ts ≡ first ∷ others
    pub is : (first.kind == word) ≡ true
    pub attributes : (s : Scopes) → s.brackets ≡ [] → IsDerived (rule r.Attrs) s others s later

  -- `enum` with a tag, and with `:` and no tag; `struct` with a tag
  pub record IsTag (y : Bool) (t : Terminal) (ts later : List Terminal) : Type 0 where
    pub head : IsHead k.Enum ts (t ∷ later)
    pub named : (t.kind == k.Name) ≡ true
    pub lacking : (w : ℕ) → lacks es w y ts ≡ lacks es w true later

  pub record IsOpening (y : Bool) (t : Terminal) (ts later : List Terminal) : Type 0 where
    pub head : IsHead k.Enum ts (t ∷ later)
    pub colon : (t.kind == k.Colon) ≡ true
    pub lacking : (w : ℕ) → lacks es w y ts ≡ lacks es (suc w) false later

  pub record IsStructTag (y : Bool) (t : Terminal) (ts later : List Terminal) : Type 0 where
    pub head : IsHead k.Struct ts (t ∷ later)
    pub named : (t.kind == k.Name) ≡ true
    pub lacking : (w : ℕ) → lacks es w y ts ≡ lacks_enumeration w BehindTag (here es false) later

  -- enumerators in braces
  pub record IsGroup (t : Terminal) (ts later : List Terminal) : Type 0 where
    pub derived : (reading : Reading) (fs : List Frame) → (new : Reading) × IsDerived braced (at es reading fs) (t ∷ ts) (at es new fs) later
    pub brace : (t.kind == k.OpenBrace) ≡ true
    pub name : sees_name (here es false) ts ≡ true
    pub none : (y : Bool) → lacks es 0 y (t ∷ ts) ≡ true
    pub one : (w : ℕ) (y : Bool) → lacks es (suc w) y (t ∷ ts) ≡ lacks es w true later

  pub record IsBegunGroup (t : Terminal) (ts rest : List Terminal) : Type 0 where
    pub begins : (reading : Reading) (fs : List Frame) → Begins parsed braced (at es reading fs) (t ∷ ts) rest
    pub brace : (t.kind == k.OpenBrace) ≡ true
    pub name : (sees_name (here es false) ts ≡ true) ⊎ (ts ≡ rest)
    pub none : (y : Bool) → lacks es 0 y (t ∷ ts) ≡ true

  -- what no list goes on with
  pub record IsEnd (y : Bool) (ts : List Terminal) : Type 0 where
    pub type : sees_type (here es y) ts ≡ false
    pub brace : sees k.OpenBrace ts ≡ false
    pub colon : sees k.Colon ts ≡ false
    pub lacking : (w : ℕ) → lacks es w y ts ≡ false

module _ (R : Run) where
  -- an element comes, or the tokens that are meant end
  abbrev pub Comes : List Terminal → Type 0
  Comes ts = (sees_type (here R.names false) ts ≡ true) ⊎ ((R.whole ≡ false) × (ts ≡ R.rest))

  -- neither braces nor `:` come, or the tokens that are meant end
  pub data Plain (c : Bool) (ts : List Terminal) : Type 0 where
    free : sees k.OpenBrace ts ≡ false → sees k.Colon ts ≡ false → Plain c ts
    cut : R.whole ≡ false → c ≡ false → ts ≡ R.rest → Plain c ts

  mutual
    -- Flat c q y o ts: q enumerations wait for braces, a type specifier stands before in the list where y says so, the
    -- declaration goes on as told by o where all have ended, and c says that the list is derived to its end
    pub data Flat : Bool → ℕ → Bool → Reading → List Terminal → Type 0 where
      ends : {y : Bool} {o : Reading} {ts : List Terminal} → IsEnd R.names y ts → Continues R.end R.rest R.whole (Item.form R.list ∷ R.after) (at R.names o R.below) ts → Flat true 0 y o ts
      stops : {q : ℕ} {y : Bool} {o : Reading} → R.whole ≡ false → Flat false q y o R.rest
      begins : {q : ℕ} {y : Bool} {o : Reading} {ts : List Terminal} → R.whole ≡ false → sees_type (here R.names y) ts ≡ true
          → ((reading : Reading) (fs : List Frame) → reading.typed ≡ y → Begins parsed element (at R.names reading fs) ts R.rest) → Flat false q y o ts
      piece : {c b y : Bool} {q : ℕ} {o : Reading} {ts later : List Terminal} → IsPiece R.names b y ts later → Flat c q (b || y) (behind b o) later → Flat c q y o ts
      structure : {c y : Bool} {q : ℕ} {o : Reading} {t : Terminal} {ts later : List Terminal} → IsStructTag R.names y t ts later → Plain c later → Flat c q true (specified o) later → Flat c q y o ts
      structure_before : {c y : Bool} {q : ℕ} {o : Reading} {t : Terminal} {ts later : List Terminal} → IsStructTag R.names y t ts later → Tail c q (specified o) later → Flat c (suc q) y o ts
      structure_cut : {y : Bool} {q : ℕ} {o : Reading} {t u : Terminal} {ts : List Terminal} → IsStructTag R.names y t ts (u ∷ R.rest) → R.whole ≡ false
          → (u.kind == k.OpenBrace) ≡ true → Flat false q y o ts
      enumeration : {c y : Bool} {q : ℕ} {o : Reading} {t : Terminal} {ts later : List Terminal} → IsTag R.names y t ts later → Plain c later → Flat c q true (specified o) later → Flat c q y o ts
      enumeration_before : {c y : Bool} {q : ℕ} {o : Reading} {t : Terminal} {ts later : List Terminal} → IsTag R.names y t ts later → Tail c q (specified o) later → Flat c (suc q) y o ts
      braces : {c y : Bool} {q : ℕ} {o : Reading} {t : Terminal} {ts later : List Terminal} → IsTag R.names y t ts later → Tail c q (specified o) later → Flat c q y o ts
      silent : {c y : Bool} {q : ℕ} {o : Reading} {t u : Terminal} {ts later : List Terminal} → IsTag R.names y t ts (u ∷ later) → (u.kind == k.Colon) ≡ true
          → Comes later → Flat c q false (specified o) later → Flat c q y o ts
      taking : {c y : Bool} {q : ℕ} {o : Reading} {t u : Terminal} {ts later : List Terminal} → IsTag R.names y t ts (u ∷ later) → (u.kind == k.Colon) ≡ true
          → Comes later → Flat c (suc q) false (specified o) later → Flat c q y o ts
      opening : {c y : Bool} {q : ℕ} {o : Reading} {t : Terminal} {ts later : List Terminal} → IsOpening R.names y t ts later → Comes later → Flat c (suc q) false (specified o) later → Flat c q y o ts
      group : {c y : Bool} {q : ℕ} {o : Reading} {ts : List Terminal} → Tail c q o ts → Flat c (suc q) y o ts

    -- the braces of the innermost of those that wait, and what comes behind
    pub data Tail : Bool → ℕ → Reading → List Terminal → Type 0 where
      full : {c : Bool} {q : ℕ} {o : Reading} {t : Terminal} {ts later : List Terminal} → IsGroup R.names t ts later → Flat c q true o later → Tail c q o (t ∷ ts)
      part : {q : ℕ} {o : Reading} {t : Terminal} {ts : List Terminal} → R.whole ≡ false → IsBegunGroup R.names t ts R.rest → Tail false q o (t ∷ ts)
