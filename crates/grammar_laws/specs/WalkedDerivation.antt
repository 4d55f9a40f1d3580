-- What the walk of a parser derives, and what it has begun where it stops.
use Rattle.std.specs.Prelude.{List}
use Rattle.model_grammar.specs.GrammarForm.{Form}
use Rattle.model_grammar.specs.Derivation.{Language, Derives, Begins}
use Rattle.grammar_laws.specs.FirstTokens.{Tables}
use Rattle.grammar_laws.specs.ParserWalk.{Reads, Fails, Meets}

module _ (T : Tables) (L : Language) where
  abbrev Token : Type 0
  Token = L.Token

  abbrev State : Type 0
  State = L.State

  abbrev Tree : Type 0
  Tree = L.Tree

  -- what is read is derived
  unfoldable pub derivation : {f : Form} {s new : State} {ts rest : List Token} {xs : List Tree} → Reads T L f s ts xs new rest → Derives L f s ts xs new rest
  derivation (Reads.a_word e) = Derives.a_word e
  derivation (Reads.a_rule p) = Derives.a_rule (derivation p)
  derivation Reads.nothing = Derives.nothing
  derivation (Reads.both p q e) = Derives.both (derivation p) (derivation q) e
  derivation (Reads.left b p) = Derives.left (derivation p)
  derivation (Reads.right b p) = Derives.right (derivation p)
  derivation (Reads.skip b) = Derives.skip
  derivation (Reads.take b p) = Derives.take (derivation p)
  derivation (Reads.stop b) = Derives.stop
  derivation (Reads.turn b p q e) = Derives.turn (derivation p) (derivation q) e
  derivation (Reads.chosen b p) = Derives.chosen b (derivation p)
  derivation (Reads.other b p) = Derives.other b (derivation p)
  derivation (Reads.done b) = Derives.done b
  derivation (Reads.again b p q e) = Derives.again b (derivation p) (derivation q) e

  -- what comes before a fault is begun
  unfoldable pub front : {f : Form} {s : State} {ts rest : List Token} → Fails T L f s ts rest → Begins L f s ts rest
  front Fails.at_end = Begins.yet
  front (Fails.at_word _) = Begins.yet
  front (Fails.in_rule p) = Begins.in_rule (front p)
  front (Fails.in_first p) = Begins.in_first (front p)
  front (Fails.in_then p q) = Begins.in_then (derivation p) (front q)
  front (Fails.in_left b p) = Begins.in_left (front p)
  front (Fails.in_right b p) = Begins.in_right (front p)
  front (Fails.in_maybe b p) = Begins.in_maybe (front p)
  front (Fails.in_turn b p) = Begins.in_turn (front p)
  front (Fails.in_later b p q) = Begins.in_later (derivation p) (front q)
  front (Fails.in_chosen b p) = Begins.in_chosen b (front p)
  front (Fails.in_other b p) = Begins.in_other b (front p)
  front (Fails.in_again b p) = Begins.in_again b (front p)
  front (Fails.in_further b p q) = Begins.in_further b (derivation p) (front q)

  -- so is what ends with a token that the walk comes to
  unfoldable pub front_with : {f : Form} {s : State} {ts rest : List Token} → Meets T L f s ts rest → Begins L f s ts rest
  front_with (Meets.at_word e) = Begins.in_word e
  front_with (Meets.in_rule p) = Begins.in_rule (front_with p)
  front_with (Meets.in_first p) = Begins.in_first (front_with p)
  front_with (Meets.in_then p q) = Begins.in_then (derivation p) (front_with q)
  front_with (Meets.in_left b p) = Begins.in_left (front_with p)
  front_with (Meets.in_right b p) = Begins.in_right (front_with p)
  front_with (Meets.in_maybe b p) = Begins.in_maybe (front_with p)
  front_with (Meets.in_turn b p) = Begins.in_turn (front_with p)
  front_with (Meets.in_later b p q) = Begins.in_later (derivation p) (front_with q)
  front_with (Meets.in_chosen b p) = Begins.in_chosen b (front_with p)
  front_with (Meets.in_other b p) = Begins.in_other b (front_with p)
  front_with (Meets.in_again b p) = Begins.in_again b (front_with p)
  front_with (Meets.in_further b p q) = Begins.in_further b (derivation p) (front_with q)
