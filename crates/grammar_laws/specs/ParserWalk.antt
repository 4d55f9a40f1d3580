-- The walk of a parser through a table: what it reads, where it fails, and how it comes to a token. It decides by the next
-- token and by the table's tests and never goes back.
use Rattle.std.specs.Prelude.{ℕ, ◌≡◌, Bool, true, false, not, ◌&&◌, ◌||◌, List, [], ◌∷◌, ◌++◌}
use Rattle.model_grammar.specs.declared.grammar.Rule.{Rule}
use Rattle.model_grammar.specs.declared.grammar.Act.{Act}
use Rattle.model_grammar.specs.declared.grammar.Test.{Test}
use Rattle.model_grammar.specs.GrammarForm.{Form, word, rule, empty, ◌then◌, ◌or◌, maybe, many, when, loop, mem}
use Rattle.model_grammar.specs.Derivation.{Language}
use Rattle.grammar_laws.specs.FirstTokens.{Tables, nullable, first}

module _ (T : Tables) (L : Language) where
  unfoldable pub ahead : L.State → List L.Token → ℕ
  ahead s [] = 0
  ahead s (t ∷ ts) = L.kind s t

  abbrev State : Type 0
  State = L.State

  abbrev Token : Type 0
  Token = L.Token

  abbrev Tree : Type 0
  Tree = L.Tree

  -- the choice of `f or g`
  unfoldable pub goes_left : Form → Form → ℕ → Bool
  goes_left f g k = mem k (first T f) || nullable T f && not (mem k (first T g))

  -- Reads f s ts xs new rest: the derivation that the next token decides on
  pub data Reads : Form → State → List Token → List Tree → State → List Token → Type 0 where
    a_word : {ks : List ℕ} {a : Act} {s : State} {t : Token} {ts : List Token} → mem (L.kind s t) ks ≡ true → Reads (word ks a) s (t ∷ ts) (L.leaf t ∷ []) (L.after a s t) ts
    a_rule : {r : Rule} {s new : State} {ts rest : List Token} {xs : List Tree} → Reads (L.body r) s ts xs new rest → Reads (rule r) s ts (L.node r xs ∷ []) (L.close r new) rest
    nothing : {s : State} {ts : List Token} → Reads empty s ts [] s ts
    both : {f g : Form} {s mid new : State} {ts later rest : List Token} {xs ys zs : List Tree} → Reads f s ts xs mid later → Reads g mid later ys new rest → zs ≡ xs ++ ys → Reads (f then g) s ts zs new rest
    left : {f g : Form} {s new : State} {ts rest : List Token} {xs : List Tree} → goes_left f g (ahead s ts) ≡ true → Reads f s ts xs new rest → Reads (f or g) s ts xs new rest
    right : {f g : Form} {s new : State} {ts rest : List Token} {xs : List Tree} → goes_left f g (ahead s ts) ≡ false → Reads g s ts xs new rest → Reads (f or g) s ts xs new rest
    skip : {f : Form} {s : State} {ts : List Token} → mem (ahead s ts) (first T f) ≡ false → Reads (maybe f) s ts [] s ts
    take : {f : Form} {s new : State} {ts rest : List Token} {xs : List Tree} → mem (ahead s ts) (first T f) ≡ true → Reads f s ts xs new rest → Reads (maybe f) s ts xs new rest
    stop : {f : Form} {s : State} {ts : List Token} → mem (ahead s ts) (first T f) ≡ false → Reads (many f) s ts [] s ts
    turn : {f : Form} {s mid new : State} {ts later rest : List Token} {xs ys zs : List Tree} → mem (ahead s ts) (first T f) ≡ true → Reads f s ts xs mid later → Reads (many f) mid later ys new rest → zs ≡ xs ++ ys → Reads (many f) s ts zs new rest
    chosen : {p : Test} {f g : Form} {s new : State} {ts rest : List Token} {xs : List Tree} → L.test p s ts ≡ true → Reads f s ts xs new rest → Reads (when p f g) s ts xs new rest
    other : {p : Test} {f g : Form} {s new : State} {ts rest : List Token} {xs : List Tree} → L.test p s ts ≡ false → Reads g s ts xs new rest → Reads (when p f g) s ts xs new rest
    done : {p : Test} {f : Form} {s : State} {ts : List Token} → L.test p s ts ≡ false → Reads (loop p f) s ts [] s ts
    again : {p : Test} {f : Form} {s mid new : State} {ts later rest : List Token} {xs ys zs : List Tree} → L.test p s ts ≡ true → Reads f s ts xs mid later → Reads (loop p f) mid later ys new rest → zs ≡ xs ++ ys → Reads (loop p f) s ts zs new rest

  -- Fails f s ts rest: the walk finds no derivation, and reads the tokens before rest
  pub data Fails : Form → State → List Token → List Token → Type 0 where
    at_end : {ks : List ℕ} {a : Act} {s : State} → Fails (word ks a) s [] []
    at_word : {ks : List ℕ} {a : Act} {s : State} {t : Token} {ts : List Token} → mem (L.kind s t) ks ≡ false → Fails (word ks a) s (t ∷ ts) (t ∷ ts)
    in_rule : {r : Rule} {s : State} {ts rest : List Token} → Fails (L.body r) s ts rest → Fails (rule r) s ts rest
    in_first : {f g : Form} {s : State} {ts rest : List Token} → Fails f s ts rest → Fails (f then g) s ts rest
    in_then : {f g : Form} {s mid : State} {ts later rest : List Token} {xs : List Tree} → Reads f s ts xs mid later → Fails g mid later rest → Fails (f then g) s ts rest
    in_left : {f g : Form} {s : State} {ts rest : List Token} → goes_left f g (ahead s ts) ≡ true → Fails f s ts rest → Fails (f or g) s ts rest
    in_right : {f g : Form} {s : State} {ts rest : List Token} → goes_left f g (ahead s ts) ≡ false → Fails g s ts rest → Fails (f or g) s ts rest
    in_maybe : {f : Form} {s : State} {ts rest : List Token} → mem (ahead s ts) (first T f) ≡ true → Fails f s ts rest → Fails (maybe f) s ts rest
    in_turn : {f : Form} {s : State} {ts rest : List Token} → mem (ahead s ts) (first T f) ≡ true → Fails f s ts rest → Fails (many f) s ts rest
    in_later : {f : Form} {s mid : State} {ts later rest : List Token} {xs : List Tree} → mem (ahead s ts) (first T f) ≡ true → Reads f s ts xs mid later → Fails (many f) mid later rest → Fails (many f) s ts rest
    in_chosen : {p : Test} {f g : Form} {s : State} {ts rest : List Token} → L.test p s ts ≡ true → Fails f s ts rest → Fails (when p f g) s ts rest
    in_other : {p : Test} {f g : Form} {s : State} {ts rest : List Token} → L.test p s ts ≡ false → Fails g s ts rest → Fails (when p f g) s ts rest
    in_again : {p : Test} {f : Form} {s : State} {ts rest : List Token} → L.test p s ts ≡ true → Fails f s ts rest → Fails (loop p f) s ts rest
    in_further : {p : Test} {f : Form} {s mid : State} {ts later rest : List Token} {xs : List Tree} → L.test p s ts ≡ true → Reads f s ts xs mid later → Fails (loop p f) mid later rest → Fails (loop p f) s ts rest

  -- Meets f s ts rest: the walk comes to the token before rest, and reads it
  pub data Meets : Form → State → List Token → List Token → Type 0 where
    at_word : {ks : List ℕ} {a : Act} {s : State} {t : Token} {ts : List Token} → mem (L.kind s t) ks ≡ true → Meets (word ks a) s (t ∷ ts) ts
    in_rule : {r : Rule} {s : State} {ts rest : List Token} → Meets (L.body r) s ts rest → Meets (rule r) s ts rest
    in_first : {f g : Form} {s : State} {ts rest : List Token} → Meets f s ts rest → Meets (f then g) s ts rest
    in_then : {f g : Form} {s mid : State} {ts later rest : List Token} {xs : List Tree} → Reads f s ts xs mid later → Meets g mid later rest → Meets (f then g) s ts rest
    in_left : {f g : Form} {s : State} {ts rest : List Token} → goes_left f g (ahead s ts) ≡ true → Meets f s ts rest → Meets (f or g) s ts rest
    in_right : {f g : Form} {s : State} {ts rest : List Token} → goes_left f g (ahead s ts) ≡ false → Meets g s ts rest → Meets (f or g) s ts rest
    in_maybe : {f : Form} {s : State} {ts rest : List Token} → mem (ahead s ts) (first T f) ≡ true → Meets f s ts rest → Meets (maybe f) s ts rest
    in_turn : {f : Form} {s : State} {ts rest : List Token} → mem (ahead s ts) (first T f) ≡ true → Meets f s ts rest → Meets (many f) s ts rest
    in_later : {f : Form} {s mid : State} {ts later rest : List Token} {xs : List Tree} → mem (ahead s ts) (first T f) ≡ true → Reads f s ts xs mid later → Meets (many f) mid later rest → Meets (many f) s ts rest
    in_chosen : {p : Test} {f g : Form} {s : State} {ts rest : List Token} → L.test p s ts ≡ true → Meets f s ts rest → Meets (when p f g) s ts rest
    in_other : {p : Test} {f g : Form} {s : State} {ts rest : List Token} → L.test p s ts ≡ false → Meets g s ts rest → Meets (when p f g) s ts rest
    in_again : {p : Test} {f : Form} {s : State} {ts rest : List Token} → L.test p s ts ≡ true → Meets f s ts rest → Meets (loop p f) s ts rest
    in_further : {p : Test} {f : Form} {s mid : State} {ts later rest : List Token} {xs : List Tree} → L.test p s ts ≡ true → Reads f s ts xs mid later → Meets (loop p f) mid later rest → Meets (loop p f) s ts rest
