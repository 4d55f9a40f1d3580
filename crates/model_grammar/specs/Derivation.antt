-- What a grammar derives, and what it begins: of any language, that of the grammar and that of the parser's table. The tokens are read from the left, and each reads the scopes that those
-- before it left.
use Rattle.std.specs.Prelude.{ℕ, ◌≡◌, Bool, true, false, List, [], ◌∷◌, ◌++◌}
use Rattle.model_grammar.specs.declared.grammar.Rule.{Rule}
use Rattle.model_grammar.specs.declared.grammar.Act.{Act}
use Rattle.model_grammar.specs.declared.grammar.Test.{Test}
use Rattle.model_grammar.specs.GrammarForm.{Form, word, rule, empty, ◌then◌, ◌or◌, maybe, many, when, loop, mem}

-- the scopes, tokens and trees of a language: the kind of a token in the scopes, what they are behind it and at the
-- end of a nonterminal, its tests, which nonterminals count as parts, and its table
pub record Language : Type 1 where
  pub State : Type 0
  pub Token : Type 0
  pub Tree : Type 0
  pub leaf : Token → Tree
  pub node : Rule → List Tree → Tree
  pub kind : State → Token → ℕ
  pub after : Act → State → Token → State
  pub close : Rule → State → State
  pub test : Test → State → List Token → Bool
  pub is_part : Rule → Bool
  pub body : Rule → Form

module _ (L : Language) where
  abbrev Token : Type 0
  Token = L.Token

  abbrev State : Type 0
  State = L.State

  abbrev Tree : Type 0
  Tree = L.Tree

  -- Derives f s ts xs new rest: from the scopes s the form derives the front of ts before rest, as the trees xs, and
  -- leaves the scopes new
  pub data Derives : Form → State → List Token → List Tree → State → List Token → Type 0 where
    a_word : {ks : List ℕ} {a : Act} {s : State} {t : Token} {ts : List Token} → mem (L.kind s t) ks ≡ true → Derives (word ks a) s (t ∷ ts) (L.leaf t ∷ []) (L.after a s t) ts
    a_rule : {r : Rule} {s new : State} {ts rest : List Token} {xs : List Tree} → Derives (L.body r) s ts xs new rest → Derives (rule r) s ts (L.node r xs ∷ []) (L.close r new) rest
    nothing : {s : State} {ts : List Token} → Derives empty s ts [] s ts
    both : {f g : Form} {s mid new : State} {ts later rest : List Token} {xs ys zs : List Tree} → Derives f s ts xs mid later → Derives g mid later ys new rest → zs ≡ xs ++ ys → Derives (f then g) s ts zs new rest
    left : {f g : Form} {s new : State} {ts rest : List Token} {xs : List Tree} → Derives f s ts xs new rest → Derives (f or g) s ts xs new rest
    right : {f g : Form} {s new : State} {ts rest : List Token} {xs : List Tree} → Derives g s ts xs new rest → Derives (f or g) s ts xs new rest
    skip : {f : Form} {s : State} {ts : List Token} → Derives (maybe f) s ts [] s ts
    take : {f : Form} {s new : State} {ts rest : List Token} {xs : List Tree} → Derives f s ts xs new rest → Derives (maybe f) s ts xs new rest
    stop : {f : Form} {s : State} {ts : List Token} → Derives (many f) s ts [] s ts
    turn : {f : Form} {s mid new : State} {ts later rest : List Token} {xs ys zs : List Tree} → Derives f s ts xs mid later → Derives (many f) mid later ys new rest → zs ≡ xs ++ ys → Derives (many f) s ts zs new rest
    chosen : {p : Test} {f g : Form} {s new : State} {ts rest : List Token} {xs : List Tree} → L.test p s ts ≡ true → Derives f s ts xs new rest → Derives (when p f g) s ts xs new rest
    other : {p : Test} {f g : Form} {s new : State} {ts rest : List Token} {xs : List Tree} → L.test p s ts ≡ false → Derives g s ts xs new rest → Derives (when p f g) s ts xs new rest
    done : {p : Test} {f : Form} {s : State} {ts : List Token} → L.test p s ts ≡ false → Derives (loop p f) s ts [] s ts
    again : {p : Test} {f : Form} {s mid new : State} {ts later rest : List Token} {xs ys zs : List Tree} → L.test p s ts ≡ true → Derives f s ts xs mid later → Derives (loop p f) mid later ys new rest → zs ≡ xs ++ ys → Derives (loop p f) s ts zs new rest

  -- Begins f s ts rest: from the scopes s the form is begun by the front of ts before rest
  pub data Begins : Form → State → List Token → List Token → Type 0 where
    yet : {f : Form} {s : State} {ts : List Token} → Begins f s ts ts
    in_word : {ks : List ℕ} {a : Act} {s : State} {t : Token} {ts : List Token} → mem (L.kind s t) ks ≡ true → Begins (word ks a) s (t ∷ ts) ts
    in_rule : {r : Rule} {s : State} {ts rest : List Token} → Begins (L.body r) s ts rest → Begins (rule r) s ts rest
    in_first : {f g : Form} {s : State} {ts rest : List Token} → Begins f s ts rest → Begins (f then g) s ts rest
    in_then : {f g : Form} {s mid : State} {ts later rest : List Token} {xs : List Tree} → Derives f s ts xs mid later → Begins g mid later rest → Begins (f then g) s ts rest
    in_left : {f g : Form} {s : State} {ts rest : List Token} → Begins f s ts rest → Begins (f or g) s ts rest
    in_right : {f g : Form} {s : State} {ts rest : List Token} → Begins g s ts rest → Begins (f or g) s ts rest
    in_maybe : {f : Form} {s : State} {ts rest : List Token} → Begins f s ts rest → Begins (maybe f) s ts rest
    in_turn : {f : Form} {s : State} {ts rest : List Token} → Begins f s ts rest → Begins (many f) s ts rest
    in_later : {f : Form} {s mid : State} {ts later rest : List Token} {xs : List Tree} → Derives f s ts xs mid later → Begins (many f) mid later rest → Begins (many f) s ts rest
    in_chosen : {p : Test} {f g : Form} {s : State} {ts rest : List Token} → L.test p s ts ≡ true → Begins f s ts rest → Begins (when p f g) s ts rest
    in_other : {p : Test} {f g : Form} {s : State} {ts rest : List Token} → L.test p s ts ≡ false → Begins g s ts rest → Begins (when p f g) s ts rest
    in_again : {p : Test} {f : Form} {s : State} {ts rest : List Token} → L.test p s ts ≡ true → Begins f s ts rest → Begins (loop p f) s ts rest
    in_further : {p : Test} {f : Form} {s mid : State} {ts later rest : List Token} {xs : List Tree} → L.test p s ts ≡ true → Derives f s ts xs mid later → Begins (loop p f) mid later rest → Begins (loop p f) s ts rest
