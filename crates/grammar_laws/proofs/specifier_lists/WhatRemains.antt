-- What a parser has still to do, as a list of forms and of nonterminals to end: it is done to the end of the tokens
-- that are meant, or is begun there.
use Rattle.std.proofs.Common.{◌≡◌, Bool, true, false, List, [], ◌∷◌, refl}
use Rattle.model_grammar.specs.declared.grammar.Rule.{Rule}
use Rattle.model_grammar.specs.declared.grammar.Test.{Test}
use Rattle.model_grammar.specs.declared.grammar.Terminal.{Terminal}
use Rattle.model_grammar.specs.declared.grammar.Tree.{Tree}
use Rattle.model_grammar.specs.GrammarForm.{Form, rule, ◌then◌, ◌or◌, maybe, many, when, loop}
use Rattle.model_grammar.specs.NameScopes.{Scopes}
use Rattle.model_grammar.specs.Derivation.{Derives, Begins}
use Rattle.grammar_laws.specs.ParserTable.{table}
use Rattle.grammar_laws.specs.ParserTests.{parsed, passes}
use Rattle.grammar_laws.proofs.tests_lose_nothing.LosesNothing.{IsDerived}

pub data Item : Type 0 where
  form : Form → Item
  shut : Rule → Item

module _ (end : Scopes) (rest : List Terminal) where
  -- all that is to be done derives the tokens before rest and leaves the scopes end, or begins with them
  pub data Continues : Bool → List Item → Scopes → List Terminal → Type 0 where
    stop : Continues true [] end rest
    halt : {f : Form} {k : List Item} {s : Scopes} {ts : List Terminal} → Begins parsed f s ts rest → Continues false (Item.form f ∷ k) s ts
    go : {m : Bool} {f : Form} {k : List Item} {s mid : Scopes} {ts later : List Terminal} {xs : List Tree} → Derives parsed f s ts xs mid later
        → Continues m k mid later → Continues m (Item.form f ∷ k) s ts
    ended : {m : Bool} {n : Rule} {k : List Item} {s : Scopes} {ts : List Terminal} → Continues m k (parsed.close n s) ts → Continues m (Item.shut n ∷ k) s ts

  pub all : {f : Form} {s : Scopes} {ts : List Terminal} → Continues true (Item.form f ∷ []) s ts → IsDerived f s ts end rest
  all (Continues.go d Continues.stop) = record { trees = _; is = d }

  pub some : {f : Form} {s : Scopes} {ts : List Terminal} → Continues false (Item.form f ∷ []) s ts → Begins parsed f s ts rest
  some (Continues.halt b) = b
  some (Continues.go d h) = elim h [ ]

  pub in_then : {m : Bool} {f g : Form} {k : List Item} {s : Scopes} {ts : List Terminal} → Continues m (Item.form f ∷ Item.form g ∷ k) s ts → Continues m (Item.form (f then g) ∷ k) s ts
  in_then (Continues.halt b) = Continues.halt (Begins.in_first b)
  in_then (Continues.go d (Continues.halt b)) = Continues.halt (Begins.in_then d b)
  in_then (Continues.go d (Continues.go e h)) = Continues.go (Derives.both d e refl) h

  pub in_rule : {m : Bool} {n : Rule} {k : List Item} {s : Scopes} {ts : List Terminal} → Continues m (Item.form (table n) ∷ Item.shut n ∷ k) s ts → Continues m (Item.form (rule n) ∷ k) s ts
  in_rule (Continues.halt b) = Continues.halt (Begins.in_rule b)
  in_rule (Continues.go d (Continues.ended h)) = Continues.go (Derives.a_rule d) h

  pub in_left : {m : Bool} {f g : Form} {k : List Item} {s : Scopes} {ts : List Terminal} → Continues m (Item.form f ∷ k) s ts → Continues m (Item.form (f or g) ∷ k) s ts
  in_left (Continues.halt b) = Continues.halt (Begins.in_left b)
  in_left (Continues.go d h) = Continues.go (Derives.left d) h

  pub in_right : {m : Bool} {f g : Form} {k : List Item} {s : Scopes} {ts : List Terminal} → Continues m (Item.form g ∷ k) s ts → Continues m (Item.form (f or g) ∷ k) s ts
  in_right (Continues.halt b) = Continues.halt (Begins.in_right b)
  in_right (Continues.go d h) = Continues.go (Derives.right d) h

  pub in_maybe : {m : Bool} {f : Form} {k : List Item} {s : Scopes} {ts : List Terminal} → Continues m (Item.form f ∷ k) s ts → Continues m (Item.form (maybe f) ∷ k) s ts
  in_maybe (Continues.halt b) = Continues.halt (Begins.in_maybe b)
  in_maybe (Continues.go d h) = Continues.go (Derives.take d) h

  pub in_chosen : {m : Bool} {p : Test} {f g : Form} {k : List Item} {s : Scopes} {ts : List Terminal} → passes p s ts ≡ true
      → Continues m (Item.form f ∷ k) s ts → Continues m (Item.form (when p f g) ∷ k) s ts
  in_chosen a (Continues.halt b) = Continues.halt (Begins.in_chosen a b)
  in_chosen a (Continues.go d h) = Continues.go (Derives.chosen a d) h

  pub in_other : {m : Bool} {p : Test} {f g : Form} {k : List Item} {s : Scopes} {ts : List Terminal} → passes p s ts ≡ false
      → Continues m (Item.form g ∷ k) s ts → Continues m (Item.form (when p f g) ∷ k) s ts
  in_other a (Continues.halt b) = Continues.halt (Begins.in_other a b)
  in_other a (Continues.go d h) = Continues.go (Derives.other a d) h

  pub in_again : {m : Bool} {p : Test} {f : Form} {k : List Item} {s : Scopes} {ts : List Terminal} → passes p s ts ≡ true
      → Continues m (Item.form f ∷ Item.form (loop p f) ∷ k) s ts → Continues m (Item.form (loop p f) ∷ k) s ts
  in_again a (Continues.halt b) = Continues.halt (Begins.in_again a b)
  in_again a (Continues.go d (Continues.halt b)) = Continues.halt (Begins.in_further a d b)
  in_again a (Continues.go d (Continues.go e h)) = Continues.go (Derives.again a d e refl) h

  pub in_turn : {m : Bool} {f : Form} {k : List Item} {s : Scopes} {ts : List Terminal} → Continues m (Item.form f ∷ Item.form (many f) ∷ k) s ts → Continues m (Item.form (many f) ∷ k) s ts
  in_turn (Continues.halt b) = Continues.halt (Begins.in_turn b)
  in_turn (Continues.go d (Continues.halt b)) = Continues.halt (Begins.in_later d b)
  in_turn (Continues.go d (Continues.go e h)) = Continues.go (Derives.turn d e refl) h

  -- where one more comes, it comes first
  pub first_of_loop : {m : Bool} {p : Test} {f : Form} {k : List Item} {s : Scopes} {ts : List Terminal} → (passes p s ts ≡ false → ⊥)
      → Continues m (Item.form (loop p f) ∷ k) s ts → Continues m (Item.form f ∷ Item.form (loop p f) ∷ k) s ts
  first_of_loop n (Continues.halt Begins.yet) = Continues.halt Begins.yet
  first_of_loop n (Continues.halt (Begins.in_again a b)) = Continues.halt b
  first_of_loop n (Continues.halt (Begins.in_further a d b)) = Continues.go d (Continues.halt b)
  first_of_loop n (Continues.go (Derives.done a) h) = absurd (n a)
  first_of_loop n (Continues.go (Derives.again a d e q) h) = Continues.go d (Continues.go e h)

  pub first_of_many : {m : Bool} {f : Form} {k : List Item} {s : Scopes} {ts : List Terminal} → (Continues m k s ts → ⊥)
      → Continues m (Item.form (many f) ∷ k) s ts → Continues m (Item.form f ∷ Item.form (many f) ∷ k) s ts
  first_of_many n (Continues.halt Begins.yet) = Continues.halt Begins.yet
  first_of_many n (Continues.halt (Begins.in_turn b)) = Continues.halt b
  first_of_many n (Continues.halt (Begins.in_later d b)) = Continues.go d (Continues.halt b)
  first_of_many n (Continues.go Derives.stop h) = absurd (n h)
  first_of_many n (Continues.go (Derives.turn d e q) h) = Continues.go d (Continues.go e h)
