-- Two derivations of a form from the same place, of which neither comes earlier by its choices, have the same parts.
use Rattle.std.proofs.Common.{◌≡◌, ℕ, Bool, true, false, List, ◌∷◌, ◌++◌, refl, ap, sym, subst, ◌∙◌}
use Rattle.std.specs.Prelude.{if◌then◌else◌}
use Rattle.model_grammar.specs.declared.grammar.Rule.{Rule}
use Rattle.model_grammar.specs.GrammarForm.{Form, rule, ◌then◌}
use Rattle.model_grammar.specs.Derivation.{Language, Derives}
use Rattle.grammar_laws.specs.DepthPlace.{Piece, nothing_read, joined, chained, ends, deeper, is_chain, grown, marks}
use Rattle.grammar_laws.specs.Preferences.{Earlier, IsPreferred, choices}
use Rattle.grammar_laws.proofs.kinds.KindSets.{clash}
use Rattle.grammar_laws.proofs.walks.OneWalk.{per_turn}
use Rattle.grammar_laws.proofs.preferred_tree.ChoiceOrder.{earlier_front, earlier_join}

abbrev Growth : Type 0
Growth = Bool → ℕ → Piece → Piece

module _ (L : Language) where
  -- the first of two derivations comes earlier, or the second does, or they make the same of what stands before
  data Grows : List Bool → L.State → List L.Token → Growth → List Bool → L.State → List L.Token → Growth → Type 0 where
    before : {cs ds : List Bool} {new new' : L.State} {rest rest' : List L.Token} {u v : Growth} → Earlier cs ds → Grows cs new rest u ds new' rest' v
    after : {cs ds : List Bool} {new new' : L.State} {rest rest' : List L.Token} {u v : Growth} → Earlier ds cs → Grows cs new rest u ds new' rest' v
    alike : {cs ds : List Bool} {new new' : L.State} {rest rest' : List L.Token} {u v : Growth} → cs ≡ ds → new ≡ new' → rest ≡ rest'
        → ((c : Bool) (n : ℕ) (p : Piece) → u c n p ≡ v c n p) → Grows cs new rest u ds new' rest' v

  -- a derivation by these choices that makes this of what stands before
  record Making (f : Form) (s : L.State) (ts : List L.Token) (new : L.State) (rest : List L.Token) (cs : List Bool) (u : Growth) : Type 0 where
    pub trees : List L.Tree
    pub is : Derives L f s ts trees new rest
    pub takes : choices L is ≡ cs
    pub makes : (c : Bool) (n : ℕ) (p : Piece) → grown L c n is p ≡ u c n p

  made : {f : Form} {s s' new : L.State} {ts ts' rest : List L.Token} {xs : List L.Tree} → s ≡ s' → ts ≡ ts' → (d : Derives L f s ts xs new rest)
      → Making f s' ts' new rest (choices L d) (λ c n p. grown L c n d p)
  made {f = f} {s' = s'} {new = new} {ts = ts} {rest = rest} p q d =
      subst (λ z. Making f s' z new rest (choices L d) (λ c n p. grown L c n d p)) q
      (subst (λ z. Making f z ts new rest (choices L d) (λ c n p. grown L c n d p)) p (record { trees = _; is = d; takes = refl; makes = λ c n p. refl }))

  remade : {cs ds es : List Bool} {new new' : L.State} {rest rest' : List L.Token} {u v w : Growth} → ds ≡ es
      → ((c : Bool) (n : ℕ) (p : Piece) → v c n p ≡ w c n p) → Grows cs new rest u ds new' rest' v → Grows cs new rest u es new' rest' w
  remade {cs = cs} q h (Grows.before e) = Grows.before (subst (λ z. Earlier cs z) q e)
  remade {cs = cs} q h (Grows.after e) = Grows.after (subst (λ z. Earlier z cs) q e)
  remade q h (Grows.alike a b c k) = Grows.alike (a ∙ q) b c (λ x n p. k x n p ∙ h x n p)

  marked : (b : Bool) {cs ds : List Bool} {new new' : L.State} {rest rest' : List L.Token} {u v : Growth} → Grows cs new rest u ds new' rest' v → Grows (b ∷ cs) new rest u (b ∷ ds) new' rest' v
  marked true (Grows.before e) = Grows.before e
  marked true (Grows.after e) = Grows.after e
  marked true (Grows.alike p q r k) = Grows.alike (rw p refl) q r k
  marked false (Grows.before e) = Grows.before e
  marked false (Grows.after e) = Grows.after e
  marked false (Grows.alike p q r k) = Grows.alike (rw p refl) q r k

  noded : (n : Rule) {cs ds : List Bool} {new new' : L.State} {rest rest' : List L.Token} {u v : Growth} → Grows cs new rest u ds new' rest' v
      → Grows cs (L.close n new) rest (λ c i p. joined p (ends (L.is_part n) (u (is_chain n) (deeper (L.is_part n) i) nothing_read))) ds (L.close n new') rest' (λ c i p. joined p (ends (L.is_part n) (v (is_chain n) (deeper (L.is_part n) i) nothing_read)))
  noded n (Grows.before e) = Grows.before e
  noded n (Grows.after e) = Grows.after e
  noded n (Grows.alike p q r k) = Grows.alike p (rw q refl) r (λ c i x. ap (λ z. joined x (ends (L.is_part n) z)) (k (is_chain n) (deeper (L.is_part n) i) nothing_read))

  -- one behind the other, where the second goes on with what m makes of the first
  behind : {cs ds es es' : List Bool} {mid mid' new new' : L.State} {later later' rest rest' : List L.Token} {u u' v v' : Growth} (m : Growth → Growth)
      → ((a b : Growth) → ((c : Bool) (n : ℕ) (p : Piece) → a c n p ≡ b c n p) → (c : Bool) (n : ℕ) (p : Piece) → m a c n p ≡ m b c n p)
      → Grows cs mid later u ds mid' later' u' → (mid ≡ mid' → later ≡ later' → Grows es new rest v es' new' rest' v')
      → Grows (cs ++ es) new rest (λ c n p. v c n (m u c n p)) (ds ++ es') new' rest' (λ c n p. v' c n (m u' c n p))
  behind {cs = cs} {ds = ds} {es = es} {es' = es'} m h (Grows.before e) k = Grows.before (earlier_front cs ds es es' e)
  behind {cs = cs} {ds = ds} {es = es} {es' = es'} m h (Grows.after e) k = Grows.after (earlier_front ds cs es' es e)
  behind {u = u} {u' = u'} {v' = v'} m h (Grows.alike p q r g) k = together (λ c n z. ap (λ w. v' c n w) (h u u' g c n z)) p (k q r)
    where
      together : {cs ds es es' : List Bool} {new new' : L.State} {rest rest' : List L.Token} {a a' v v' : Growth}
          → ((c : Bool) (n : ℕ) (z : Piece) → v' c n (a c n z) ≡ v' c n (a' c n z)) → cs ≡ ds → Grows es new rest v es' new' rest' v'
          → Grows (cs ++ es) new rest (λ c n z. v c n (a c n z)) (ds ++ es') new' rest' (λ c n z. v' c n (a' c n z))
      together {cs = cs} {ds = ds} {es = es} {es' = es'} w p (Grows.before e) = Grows.before (earlier_join cs ds es es' p e)
      together {cs = cs} {ds = ds} {es = es} {es' = es'} w p (Grows.after e) = Grows.after (earlier_join ds cs es' es (sym p) e)
      together {a = a} w p (Grows.alike x y z g) = Grows.alike (rw (p, x) refl) y z (λ c n t. g c n (a c n t) ∙ w c n t)

  turned : Growth → Growth
  turned u c n p = if c then chained p (u false n nothing_read) else u false n p

  turned_same : (a b : Growth) → ((c : Bool) (n : ℕ) (p : Piece) → a c n p ≡ b c n p) → (c : Bool) (n : ℕ) (p : Piece) → turned a c n p ≡ turned b c n p
  unfolding turned
  turned_same a b h c n p = per_turn c p _ _ _ _ (h false n nothing_read) (h false n p)

  grows : {f : Form} {s new new' : L.State} {ts rest rest' : List L.Token} {xs ys : List L.Tree} → (d : Derives L f s ts xs new rest)
      → (e : Derives L f s ts ys new' rest') → Grows (choices L d) new rest (λ c n p. grown L c n d p) (choices L e) new' rest' (λ c n p. grown L c n e p)
  unfolding choices grown turned
  grows (Derives.a_word p) (Derives.a_word q) = Grows.alike refl refl refl (λ c n z. refl)
  grows {f = rule n} (Derives.a_rule d) (Derives.a_rule e) = noded n (grows d e)
  grows Derives.nothing Derives.nothing = Grows.alike refl refl refl (λ c n z. refl)
  grows (Derives.both d d' p) (Derives.both e e' q) = behind (λ a. a) (λ a b h. h) (grows d e) (λ b c. let m = made (sym b) (sym c) e' in remade m.takes m.makes (grows d' m.is))
  grows (Derives.left d) (Derives.left e) = marked true (grows d e)
  grows (Derives.left d) (Derives.right e) = Grows.before tt
  grows (Derives.right d) (Derives.left e) = Grows.after tt
  grows (Derives.right d) (Derives.right e) = marked false (grows d e)
  grows Derives.skip Derives.skip = Grows.alike refl refl refl (λ c n z. refl)
  grows Derives.skip (Derives.take e) = Grows.after tt
  grows (Derives.take d) Derives.skip = Grows.before tt
  grows (Derives.take d) (Derives.take e) = marked true (grows d e)
  grows Derives.stop Derives.stop = Grows.alike refl refl refl (λ c n z. refl)
  grows Derives.stop (Derives.turn e e' q) = Grows.after tt
  grows (Derives.turn d d' p) Derives.stop = Grows.before tt
  grows (Derives.turn d d' p) (Derives.turn e e' q) = marked true (behind turned turned_same (grows d e) (λ b c. let m = made (sym b) (sym c) e' in remade m.takes m.makes (grows d' m.is)))
  grows (Derives.chosen a d) (Derives.chosen b e) = grows d e
  grows (Derives.chosen a d) (Derives.other b e) = absurd (clash _ a b)
  grows (Derives.other a d) (Derives.chosen b e) = absurd (clash _ b a)
  grows (Derives.other a d) (Derives.other b e) = grows d e
  grows (Derives.done a) (Derives.done b) = Grows.alike refl refl refl (λ c n z. refl)
  grows (Derives.done a) (Derives.again b e e' q) = absurd (clash _ b a)
  grows (Derives.again a d d' p) (Derives.done b) = absurd (clash _ a b)
  grows (Derives.again a d d' p) (Derives.again b e e' q) = behind turned turned_same (grows d e) (λ x y. let m = made (sym x) (sym y) e' in remade m.takes m.makes (grows d' m.is))

  same : {cs ds : List Bool} {new new' : L.State} {rest rest' : List L.Token} {u v : Growth} → (Earlier cs ds → ⊥) → (Earlier ds cs → ⊥)
      → Grows cs new rest u ds new' rest' v → (c : Bool) (n : ℕ) (p : Piece) → u c n p ≡ v c n p
  same n m (Grows.before e) = absurd (n e)
  same n m (Grows.after e) = absurd (m e)
  same n m (Grows.alike p q r k) = k

  pub one_marks : (f : Form) (s : L.State) (ts : List L.Token) (xs ys : List L.Tree) (p : IsPreferred L f s ts xs) (q : IsPreferred L f s ts ys) → marks L p.derived ≡ marks L q.derived
  one_marks f s ts xs ys p q = ap (λ z. z.marks) (same (λ e. q.first xs p.scopes p.derived e) (λ e. p.first ys q.scopes q.derived e) (grows p.derived q.derived) false 0 nothing_read)
