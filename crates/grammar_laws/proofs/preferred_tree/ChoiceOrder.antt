-- The order of derivations by their choices: of two derivations of a form from the same place one comes earlier, or they
-- are alike. So at most one tree is preferred.
use Rattle.std.proofs.Common.{◌≡◌, Bool, true, false, List, [], ◌∷◌, ◌++◌, refl, sym, subst}
use Rattle.model_grammar.specs.declared.grammar.Rule.{Rule}
use Rattle.model_grammar.specs.declared.grammar.Terminal.{Terminal}
use Rattle.model_grammar.specs.declared.grammar.Test.{Test}
use Rattle.model_grammar.specs.declared.grammar.Tree.{Tree}
use Rattle.model_grammar.specs.GrammarForm.{Form, rule}
use Rattle.model_grammar.specs.NameScopes.{Scopes}
use Rattle.model_grammar.specs.SyntaxTree.{c_language}
use Rattle.model_grammar.specs.Derivation.{Language, Derives}
use Rattle.grammar_laws.specs.Preferences.{Earlier, IsPreferred, choices}
use Rattle.grammar_laws.proofs.kinds.KindSets.{clash}

pub not_itself : (xs : List Bool) → Earlier xs xs → ⊥
not_itself [] h = h
not_itself (true ∷ xs) h = not_itself xs h
not_itself (false ∷ xs) h = not_itself xs h

pub not_both : (xs ys : List Bool) → Earlier xs ys → Earlier ys xs → ⊥
not_both [] ys h g = h
not_both (x ∷ xs) [] h g = g
not_both (true ∷ xs) (true ∷ ys) h g = not_both xs ys h g
not_both (true ∷ xs) (false ∷ ys) h g = g
not_both (false ∷ xs) (true ∷ ys) h g = h
not_both (false ∷ xs) (false ∷ ys) h g = not_both xs ys h g

-- whatever comes behind
pub earlier_front : (xs ys us vs : List Bool) → Earlier xs ys → Earlier (xs ++ us) (ys ++ vs)
earlier_front [] ys us vs h = absurd h
earlier_front (true ∷ xs) [] us vs h = absurd h
earlier_front (false ∷ xs) [] us vs h = absurd h
earlier_front (true ∷ xs) (true ∷ ys) us vs h = earlier_front xs ys us vs h
earlier_front (true ∷ xs) (false ∷ ys) us vs h = tt
earlier_front (false ∷ xs) (true ∷ ys) us vs h = absurd h
earlier_front (false ∷ xs) (false ∷ ys) us vs h = earlier_front xs ys us vs h

pub earlier_behind : (xs us vs : List Bool) → Earlier us vs → Earlier (xs ++ us) (xs ++ vs)
earlier_behind [] us vs h = h
earlier_behind (true ∷ xs) us vs h = earlier_behind xs us vs h
earlier_behind (false ∷ xs) us vs h = earlier_behind xs us vs h

pub earlier_join : (xs ys us vs : List Bool) → xs ≡ ys → Earlier us vs → Earlier (xs ++ us) (ys ++ vs)
earlier_join xs ys us vs q h = rw (sym q) (earlier_behind xs us vs h)

module _ (L : Language) where
  -- the first of two derivations comes earlier, or the second does, or they are alike
  pub data Ordered : List Bool → List L.Tree → L.State → List L.Token → List Bool → List L.Tree → L.State → List L.Token → Type 0 where
    before : {cs ds : List Bool} {xs ys : List L.Tree} {new new' : L.State} {rest rest' : List L.Token} → Earlier cs ds → Ordered cs xs new rest ds ys new' rest'
    after : {cs ds : List Bool} {xs ys : List L.Tree} {new new' : L.State} {rest rest' : List L.Token} → Earlier ds cs → Ordered cs xs new rest ds ys new' rest'
    alike : {cs ds : List Bool} {xs ys : List L.Tree} {new new' : L.State} {rest rest' : List L.Token} → cs ≡ ds → xs ≡ ys → new ≡ new' → rest ≡ rest' → Ordered cs xs new rest ds ys new' rest'

  -- a derivation that takes these choices
  pub record IsTaking (f : Form) (s : L.State) (ts : List L.Token) (xs : List L.Tree) (new : L.State) (rest : List L.Token) (cs : List Bool) : Type 0 where
    pub is : Derives L f s ts xs new rest
    pub takes : choices L is ≡ cs

  pub moved : {f : Form} {s s' new : L.State} {ts ts' rest : List L.Token} {xs : List L.Tree} → s ≡ s' → ts ≡ ts' → (d : Derives L f s ts xs new rest) → IsTaking f s' ts' xs new rest (choices L d)
  moved {f = f} {s' = s'} {new = new} {ts = ts} {rest = rest} {xs = xs} p q d =
      subst (λ z. IsTaking f s' z xs new rest (choices L d)) q (subst (λ z. IsTaking f z ts xs new rest (choices L d)) p (record { is = d; takes = refl }))

  -- behind what is alike
  behind : {cs ds es es' : List Bool} {xs ys xs' ys' zs zs' : List L.Tree} {new new' : L.State} {rest rest' : List L.Token} → cs ≡ ds → xs ≡ xs'
      → Ordered es ys new rest es' ys' new' rest' → zs ≡ xs ++ ys → zs' ≡ xs' ++ ys' → Ordered (cs ++ es) zs new rest (ds ++ es') zs' new' rest'
  behind {cs = cs} {ds = ds} {es = es} {es' = es'} p q (Ordered.before b) h h' = Ordered.before (earlier_join cs ds es es' p b)
  behind {cs = cs} {ds = ds} {es = es} {es' = es'} p q (Ordered.after b) h h' = Ordered.after (earlier_join ds cs es' es (sym p) b)
  behind p q (Ordered.alike a b c d) h h' = Ordered.alike (rw (p, a) refl) (rw (h, h', q, b) refl) c d

  retaken : {cs ds es : List Bool} {xs ys : List L.Tree} {new new' : L.State} {rest rest' : List L.Token} → ds ≡ es → Ordered cs xs new rest ds ys new' rest' → Ordered cs xs new rest es ys new' rest'
  retaken {cs = cs} {xs = xs} {ys = ys} {new = new} {new' = new'} {rest = rest} {rest' = rest'} q o = subst (λ z. Ordered cs xs new rest z ys new' rest') q o

  marked : (b : Bool) {cs ds : List Bool} {xs ys : List L.Tree} {new new' : L.State} {rest rest' : List L.Token} → Ordered cs xs new rest ds ys new' rest'
      → Ordered (b ∷ cs) xs new rest (b ∷ ds) ys new' rest'
  marked true (Ordered.before e) = Ordered.before e
  marked true (Ordered.after e) = Ordered.after e
  marked true (Ordered.alike p q r t) = Ordered.alike (rw p refl) q r t
  marked false (Ordered.before e) = Ordered.before e
  marked false (Ordered.after e) = Ordered.after e
  marked false (Ordered.alike p q r t) = Ordered.alike (rw p refl) q r t

  noded : (n : Rule) {cs ds : List Bool} {xs ys : List L.Tree} {new new' : L.State} {rest rest' : List L.Token} → Ordered cs xs new rest ds ys new' rest'
      → Ordered cs (L.node n xs ∷ []) (L.close n new) rest ds (L.node n ys ∷ []) (L.close n new') rest'
  noded n (Ordered.before e) = Ordered.before e
  noded n (Ordered.after e) = Ordered.after e
  noded n (Ordered.alike p q r t) = Ordered.alike p (rw q refl) (rw r refl) t

  -- two parts that stand one behind the other
  joined : {cs ds es es' : List Bool} {xs ys xs' ys' zs zs' : List L.Tree} {mid mid' new new' : L.State} {later later' rest rest' : List L.Token}
      → Ordered cs xs mid later ds xs' mid' later'
      → (xs ≡ xs' → mid ≡ mid' → later ≡ later' → Ordered es ys new rest es' ys' new' rest')
      → zs ≡ xs ++ ys → zs' ≡ xs' ++ ys' → Ordered (cs ++ es) zs new rest (ds ++ es') zs' new' rest'
  joined {cs = cs} {ds = ds} {es = es} {es' = es'} (Ordered.before e) k h h' = Ordered.before (earlier_front cs ds es es' e)
  joined {cs = cs} {ds = ds} {es = es} {es' = es'} (Ordered.after e) k h h' = Ordered.after (earlier_front ds cs es' es e)
  joined (Ordered.alike p q r t) k h h' = behind p q (k q r t) h h'

  pub ordered : {f : Form} {s new new' : L.State} {ts rest rest' : List L.Token} {xs ys : List L.Tree} → (d : Derives L f s ts xs new rest)
      → (e : Derives L f s ts ys new' rest') → Ordered (choices L d) xs new rest (choices L e) ys new' rest'
  unfolding choices
  ordered (Derives.a_word p) (Derives.a_word q) = Ordered.alike refl refl refl refl
  ordered {f = rule n} (Derives.a_rule d) (Derives.a_rule e) = noded n (ordered d e)
  ordered Derives.nothing Derives.nothing = Ordered.alike refl refl refl refl
  ordered (Derives.both d d' p) (Derives.both e e' q) = joined (ordered d e) (λ a b c. let m = moved (sym b) (sym c) e' in retaken m.takes (ordered d' m.is)) p q
  ordered (Derives.left d) (Derives.left e) = marked true (ordered d e)
  ordered (Derives.left d) (Derives.right e) = Ordered.before tt
  ordered (Derives.right d) (Derives.left e) = Ordered.after tt
  ordered (Derives.right d) (Derives.right e) = marked false (ordered d e)
  ordered Derives.skip Derives.skip = Ordered.alike refl refl refl refl
  ordered Derives.skip (Derives.take e) = Ordered.after tt
  ordered (Derives.take d) Derives.skip = Ordered.before tt
  ordered (Derives.take d) (Derives.take e) = marked true (ordered d e)
  ordered Derives.stop Derives.stop = Ordered.alike refl refl refl refl
  ordered Derives.stop (Derives.turn e e' q) = Ordered.after tt
  ordered (Derives.turn d d' p) Derives.stop = Ordered.before tt
  ordered (Derives.turn d d' p) (Derives.turn e e' q) = marked true (joined (ordered d e) (λ a b c. let m = moved (sym b) (sym c) e' in retaken m.takes (ordered d' m.is)) p q)
  ordered (Derives.chosen a d) (Derives.chosen b e) = ordered d e
  ordered (Derives.chosen a d) (Derives.other b e) = absurd (clash _ a b)
  ordered (Derives.other a d) (Derives.chosen b e) = absurd (clash _ b a)
  ordered (Derives.other a d) (Derives.other b e) = ordered d e
  ordered (Derives.done a) (Derives.done b) = Ordered.alike refl refl refl refl
  ordered (Derives.done a) (Derives.again b e e' q) = absurd (clash _ b a)
  ordered (Derives.again a d d' p) (Derives.done b) = absurd (clash _ a b)
  ordered (Derives.again a d d' p) (Derives.again b e e' q) = joined (ordered d e) (λ x y z. let m = moved (sym y) (sym z) e' in retaken m.takes (ordered d' m.is)) p q

  one_tree : {cs ds : List Bool} {xs ys : List L.Tree} {new new' : L.State} {rest rest' : List L.Token} → (Earlier cs ds → ⊥) → (Earlier ds cs → ⊥) → Ordered cs xs new rest ds ys new' rest' → xs ≡ ys
  one_tree n m (Ordered.before e) = absurd (n e)
  one_tree n m (Ordered.after e) = absurd (m e)
  one_tree n m (Ordered.alike p q r t) = q

  pub one : (f : Form) (s : L.State) (ts : List L.Token) (xs ys : List L.Tree) → IsPreferred L f s ts xs → IsPreferred L f s ts ys → xs ≡ ys
  one f s ts xs ys p q = one_tree (λ e. q.first xs p.scopes p.derived e) (λ e. p.first ys q.scopes q.derived e) (ordered p.derived q.derived)

pub one_preferred_tree : (body : Rule → Form) (test : Test → Scopes → List Terminal → Bool) (f : Form) (s : Scopes) (ts : List Terminal) (xs ys : List Tree)
    → IsPreferred (record c_language { body = body; test = test }) f s ts xs → IsPreferred (record c_language { body = body; test = test }) f s ts ys → xs ≡ ys
one_preferred_tree body test f s ts xs ys p q = one (record c_language { body = body; test = test }) f s ts xs ys p q
