-- A repetition with a test and one without, and what is begun by them.
use Rattle.std.proofs.Common.{◌≡◌, true, false, List, refl}
use Rattle.model_grammar.specs.declared.grammar.Test.{Test}
use Rattle.model_grammar.specs.declared.grammar.Terminal.{Terminal}
use Rattle.model_grammar.specs.declared.grammar.Tree.{Tree}
use Rattle.model_grammar.specs.GrammarForm.{Form, ◌then◌, many, loop}
use Rattle.model_grammar.specs.NameScopes.{Scopes}
use Rattle.model_grammar.specs.Derivation.{Derives, Begins}
use Rattle.grammar_laws.specs.ParserTests.{parsed, passes}

-- the test holds wherever the form derives what comes
abbrev pub Seen : Test → Form → Type 0
Seen p f = (s new : Scopes) (ts rest : List Terminal) (xs : List Tree) → Derives parsed f s ts xs new rest → passes p s ts ≡ true

pub looped : (p : Test) (f : Form) → Seen p f → {s new : Scopes} {ts rest : List Terminal} {xs : List Tree} → Derives parsed (many f) s ts xs new rest
    → passes p new rest ≡ false → Derives parsed (loop p f) s ts xs new rest
looped p f seen Derives.stop h = Derives.done h
looped p f seen {s = s} (Derives.turn {mid = mid} d e q) h = Derives.again (seen s mid _ _ _ d) d (looped p f seen e h) q

-- one more turn before what is begun
pub ahead_of : (p : Test) (f g : Form) → Seen p f → {s mid : Scopes} {ts later rest : List Terminal} {xs : List Tree} → Derives parsed f s ts xs mid later
    → Begins parsed (loop p f then g) mid later rest → Begins parsed (loop p f then g) s ts rest
ahead_of p f g seen {s = s} {mid = mid} d Begins.yet = Begins.in_first (Begins.in_further (seen s mid _ _ _ d) d Begins.yet)
ahead_of p f g seen {s = s} {mid = mid} d (Begins.in_first b) = Begins.in_first (Begins.in_further (seen s mid _ _ _ d) d b)
ahead_of p f g seen {s = s} {mid = mid} d (Begins.in_then l c) = Begins.in_then (Derives.again (seen s mid _ _ _ d) d l refl) c

-- where the repetition alone is begun
pub begun_turns : (p : Test) (f g : Form) → Seen p f → ((s : Scopes) (ts rest : List Terminal) → Begins parsed f s ts rest → Begins parsed (loop p f then g) s ts rest)
    → {s : Scopes} {ts rest : List Terminal} → Begins parsed (many f) s ts rest → Begins parsed (loop p f then g) s ts rest
begun_turns p f g seen edge Begins.yet = Begins.yet
begun_turns p f g seen edge {s = s} (Begins.in_turn b) = edge s _ _ b
begun_turns p f g seen edge (Begins.in_later d e) = ahead_of p f g seen d (begun_turns p f g seen edge e)

-- where what follows it is begun
pub begun_behind : (p : Test) (f g : Form) → Seen p f → ((s : Scopes) (ts rest : List Terminal) → Begins parsed g s ts rest → Begins parsed (loop p f then g) s ts rest)
    → {s mid : Scopes} {ts later rest : List Terminal} {xs : List Tree} → Derives parsed (many f) s ts xs mid later → Begins parsed g mid later rest → Begins parsed (loop p f then g) s ts rest
begun_behind p f g seen edge {s = s} Derives.stop b = edge s _ _ b
begun_behind p f g seen edge (Derives.turn d e q) b = ahead_of p f g seen d (begun_behind p f g seen edge e b)

-- both
pub begun_list : (p : Test) (f g : Form) → Seen p f
    → ((s : Scopes) (ts rest : List Terminal) → Begins parsed f s ts rest → Begins parsed (loop p f then g) s ts rest)
    → ((s : Scopes) (ts rest : List Terminal) → Begins parsed g s ts rest → Begins parsed (loop p f then g) s ts rest)
    → {s : Scopes} {ts rest : List Terminal} → Begins parsed (many f then g) s ts rest → Begins parsed (loop p f then g) s ts rest
begun_list p f g seen edge edge' Begins.yet = Begins.yet
begun_list p f g seen edge edge' (Begins.in_first b) = begun_turns p f g seen edge b
begun_list p f g seen edge edge' (Begins.in_then d b) = begun_behind p f g seen edge' d b

-- what is begun behind a form
pub then_begun : (f g g' : Form) → ((s : Scopes) (ts rest : List Terminal) → Begins parsed g s ts rest → Begins parsed g' s ts rest)
    → {s : Scopes} {ts rest : List Terminal} → Begins parsed (f then g) s ts rest → Begins parsed (f then g') s ts rest
then_begun f g g' h Begins.yet = Begins.yet
then_begun f g g' h (Begins.in_first d) = Begins.in_first d
then_begun f g g' h (Begins.in_then {mid = mid} d e) = Begins.in_then d (h mid _ _ e)
