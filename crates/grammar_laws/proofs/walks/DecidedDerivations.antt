-- Where one token decides each choice, there is one derivation, and a fault is where the viable prefix ends.
use Rattle.std.proofs.Common.{◌≡◌, ℕ, ◌<◌, ◌≤◌, Bool, true, false, not, ◌&&◌, ◌||◌, List, [], ◌∷◌, ◌++◌, length, drop, ◌-◌, length-append, append_assoc, refl, ap, sym, ◌∙◌, arith}
use mathlib.Core.Logic.{◌⊎◌, inl, inr}
use Rattle.model_grammar.specs.declared.grammar.Rule.{Rule}
use Rattle.model_grammar.specs.declared.grammar.Test.{Test}
use Rattle.model_grammar.specs.GrammarForm.{Form, rule, ◌then◌, ◌or◌, maybe, many, when, loop, mem}
use Rattle.model_grammar.specs.Derivation.{Language, Derives, Begins}
use Rattle.grammar_laws.specs.FirstTokens.{Tables, nullable, first}
use Rattle.grammar_laws.specs.apparatus.DecidedTable.{leads, within, apart, decided, table_decided}
use Rattle.grammar_laws.specs.ParserWalk.{ahead, goes_left, Reads, Fails}
use Rattle.grammar_laws.specs.apparatus.QuietEnds.{IsQuiet}
use Rattle.grammar_laws.specs.WalkedDerivation.{derivation, front}
use Rattle.grammar_laws.proofs.kinds.KindSets.{mem_behind, mem_split, and_left, and_right, or_cases, or_right, not_true, clash, mem_left, mem_right, within_mem, apart_mem}

module _ (T : Tables) (L : Language) (quiet : IsQuiet T L) (ok : (r : Rule) → table_decided T r (L.body r) ≡ true) where
  pub record Moves (f : Form) (s : L.State) (ts rest : List L.Token) : Type 0 where
    pub shorter : length rest < length ts
    pub begun : mem (ahead T L s ts) (first T f) ≡ true

  pub record Stays (f : Form) (s : L.State) (ts : List L.Token) (new : L.State) (rest : List L.Token) : Type 0 where
    pub state : new ≡ s
    pub place : rest ≡ ts
    pub hollow : nullable T f ≡ true

  joined : (f g : Form) {s mid new : L.State} {ts later rest : List L.Token} → Moves f s ts later ⊎ Stays f s ts mid later
      → Moves g mid later rest ⊎ Stays g mid later new rest → Moves (f then g) s ts rest ⊎ Stays (f then g) s ts new rest
  unfolding first nullable
  joined f g (inl m) (inl n) = inl (record { shorter = omega arith; begun = mem_left _ _ _ m.begun })
  joined f g (inl m) (inr n) = inl (record { shorter = rw n.place m.shorter; begun = mem_left _ _ _ m.begun })
  joined f g (inr m) (inl n) = inl (record { shorter = rw m.place at n.shorter; begun = mem_behind _ _ _ _ m.hollow (rw (m.state, m.place) at n.begun) })
  joined f g (inr m) (inr n) = inr (record { state = n.state ∙ m.state; place = n.place ∙ m.place; hollow = rw m.hollow n.hollow })

  turned : (f : Form) {s mid new : L.State} {ts later rest : List L.Token} → Moves f s ts later ⊎ Stays f s ts mid later
      → Moves (many f) mid later rest ⊎ Stays (many f) mid later new rest → Moves (many f) s ts rest ⊎ Stays (many f) s ts new rest
  unfolding first nullable
  turned f (inl m) (inl n) = inl (record { shorter = omega arith; begun = m.begun })
  turned f (inl m) (inr n) = inl (record { shorter = rw n.place m.shorter; begun = m.begun })
  turned f (inr m) (inl n) = inl (record { shorter = rw m.place at n.shorter; begun = rw (m.state, m.place) at n.begun })
  turned f (inr m) (inr n) = inr (record { state = n.state ∙ m.state; place = n.place ∙ m.place; hollow = refl })

  fits : (r : Rule) → within T (first T (L.body r)) (T.firsts r) ≡ true
  unfolding table_decided
  fits r = and_left (within T (first T (L.body r)) (T.firsts r)) (not (nullable T (L.body r)) || T.hollow r) (and_left _ (decided T (L.body r) (T.follows r)) (ok r))

  hollow : (r : Rule) → nullable T (L.body r) ≡ true → T.hollow r ≡ true
  unfolding table_decided
  hollow r n = let e = and_right (within T (first T (L.body r)) (T.firsts r)) (not (nullable T (L.body r)) || T.hollow r) (and_left _ (decided T (L.body r) (T.follows r)) (ok r)) in rw n at e

  pub within_rule : (r : Rule) → decided T (L.body r) (T.follows r) ≡ true
  unfolding table_decided
  within_rule r = and_right (within T (first T (L.body r)) (T.firsts r) && (not (nullable T (L.body r)) || T.hollow r)) _ (ok r)

  as_loop : (p : Test) (f : Form) {s new : L.State} {ts rest : List L.Token} → Moves (many f) s ts rest ⊎ Stays (many f) s ts new rest → Moves (loop p f) s ts rest ⊎ Stays (loop p f) s ts new rest
  unfolding first nullable
  as_loop p f (inl m) = inl (record { shorter = m.shorter; begun = m.begun })
  as_loop p f (inr m) = inr (record { state = m.state; place = m.place; hollow = refl })

  as_many : (p : Test) (f : Form) {s new : L.State} {ts rest : List L.Token} → Moves (loop p f) s ts rest ⊎ Stays (loop p f) s ts new rest → Moves (many f) s ts rest ⊎ Stays (many f) s ts new rest
  unfolding first nullable
  as_many p f (inl m) = inl (record { shorter = m.shorter; begun = m.begun })
  as_many p f (inr m) = inr (record { state = m.state; place = m.place; hollow = refl })

  begun_loop : (p : Test) (f : Form) {s : L.State} {ts rest : List L.Token} → Moves (many f) s ts rest ⊎ (rest ≡ ts) → Moves (loop p f) s ts rest ⊎ (rest ≡ ts)
  unfolding first
  begun_loop p f (inl m) = inl (record { shorter = m.shorter; begun = m.begun })
  begun_loop p f (inr e) = inr e

  begun_many : (p : Test) (f : Form) {s : L.State} {ts rest : List L.Token} → Moves (loop p f) s ts rest ⊎ (rest ≡ ts) → Moves (many f) s ts rest ⊎ (rest ≡ ts)
  unfolding first
  begun_many p f (inl m) = inl (record { shorter = m.shorter; begun = m.begun })
  begun_many p f (inr e) = inr e

  -- a form that moves begins with one of its first words
  pub step : {f : Form} {s new : L.State} {ts rest : List L.Token} {xs : List L.Tree} → Derives L f s ts xs new rest → Moves f s ts rest ⊎ Stays f s ts new rest
  unfolding first nullable ahead
  step (Derives.a_word e) = inl (record { shorter = omega arith; begun = e })
  step {f = rule r} (Derives.a_rule {new = mid} {xs = xs} d) = elim (step d) [
    | inl m ↦ inl (record { shorter = m.shorter; begun = within_mem T _ _ _ (fits r) m.begun })
    | inr m ↦ inr (record { state = quiet.still r mid (hollow r m.hollow) ∙ m.state; place = m.place; hollow = hollow r m.hollow })
  ]
  step Derives.nothing = inr (record { state = refl; place = refl; hollow = refl })
  step {f = f then g} (Derives.both d e _) = joined f g (step d) (step e)
  step {f = f or g} (Derives.left d) = elim (step d) [
    | inl m ↦ inl (record { shorter = m.shorter; begun = mem_left _ _ _ m.begun })
    | inr m ↦ inr (record { state = m.state; place = m.place; hollow = rw m.hollow refl })
  ]
  step {f = f or g} (Derives.right d) = elim (step d) [
    | inl m ↦ inl (record { shorter = m.shorter; begun = mem_right _ (first T f) _ m.begun })
    | inr m ↦ inr (record { state = m.state; place = m.place; hollow = or_right (nullable T f) _ m.hollow })
  ]
  step Derives.skip = inr (record { state = refl; place = refl; hollow = refl })
  step (Derives.take d) = elim (step d) [
    | inl m ↦ inl (record { shorter = m.shorter; begun = m.begun })
    | inr m ↦ inr (record { state = m.state; place = m.place; hollow = refl })
  ]
  step Derives.stop = inr (record { state = refl; place = refl; hollow = refl })
  step {f = many f} (Derives.turn d e _) = turned f (step d) (step e)
  step {f = when p f g} (Derives.chosen _ d) = elim (step d) [
    | inl m ↦ inl (record { shorter = m.shorter; begun = mem_left _ _ _ m.begun })
    | inr m ↦ inr (record { state = m.state; place = m.place; hollow = rw m.hollow refl })
  ]
  step {f = when p f g} (Derives.other _ d) = elim (step d) [
    | inl m ↦ inl (record { shorter = m.shorter; begun = mem_right _ (first T f) _ m.begun })
    | inr m ↦ inr (record { state = m.state; place = m.place; hollow = or_right (nullable T f) _ m.hollow })
  ]
  step {f = loop p f} (Derives.done _) = inr (record { state = refl; place = refl; hollow = refl })
  step {f = loop p f} (Derives.again _ d e _) = as_loop p f (turned f (step d) (as_many p f (step e)))

  met : (f g : Form) {s mid : L.State} {ts later rest : List L.Token} → Moves f s ts later ⊎ Stays f s ts mid later → Moves g mid later rest ⊎ (rest ≡ later) → Moves (f then g) s ts rest ⊎ (rest ≡ ts)
  unfolding first nullable
  met f g (inl m) (inl n) = inl (record { shorter = omega arith; begun = mem_left _ _ _ m.begun })
  met f g (inl m) (inr e) = inl (record { shorter = rw e m.shorter; begun = mem_left _ _ _ m.begun })
  met f g (inr m) (inl n) = inl (record { shorter = rw m.place at n.shorter; begun = mem_behind _ _ _ _ m.hollow (rw (m.state, m.place) at n.begun) })
  met f g (inr m) (inr e) = inr (e ∙ m.place)

  met_again : (f : Form) {s mid : L.State} {ts later rest : List L.Token} → Moves f s ts later ⊎ Stays f s ts mid later
      → Moves (many f) mid later rest ⊎ (rest ≡ later) → Moves (many f) s ts rest ⊎ (rest ≡ ts)
  unfolding first nullable
  met_again f (inl m) (inl n) = inl (record { shorter = omega arith; begun = m.begun })
  met_again f (inl m) (inr e) = inl (record { shorter = rw e m.shorter; begun = m.begun })
  met_again f (inr m) (inl n) = inl (record { shorter = rw m.place at n.shorter; begun = rw (m.state, m.place) at n.begun })
  met_again f (inr m) (inr e) = inr (e ∙ m.place)

  -- where one that is begun stands: nothing is read yet, or its first word is
  pub entry : {f : Form} {s : L.State} {ts rest : List L.Token} → Begins L f s ts rest → Moves f s ts rest ⊎ (rest ≡ ts)
  unfolding first nullable ahead
  entry Begins.yet = inr refl
  entry (Begins.in_word e) = inl (record { shorter = omega arith; begun = e })
  entry {f = rule r} (Begins.in_rule d) = elim (entry d) [
    | inl m ↦ inl (record { shorter = m.shorter; begun = within_mem T _ _ _ (fits r) m.begun })
    | inr e ↦ inr e
  ]
  entry {f = f then g} (Begins.in_first d) = elim (entry d) [
    | inl m ↦ inl (record { shorter = m.shorter; begun = mem_left _ _ _ m.begun })
    | inr e ↦ inr e
  ]
  entry {f = f then g} (Begins.in_then d e) = met f g (step d) (entry e)
  entry {f = f or g} (Begins.in_left d) = elim (entry d) [
    | inl m ↦ inl (record { shorter = m.shorter; begun = mem_left _ _ _ m.begun })
    | inr e ↦ inr e
  ]
  entry {f = f or g} (Begins.in_right d) = elim (entry d) [
    | inl m ↦ inl (record { shorter = m.shorter; begun = mem_right _ (first T f) _ m.begun })
    | inr e ↦ inr e
  ]
  entry (Begins.in_maybe d) = elim (entry d) [
    | inl m ↦ inl (record { shorter = m.shorter; begun = m.begun })
    | inr e ↦ inr e
  ]
  entry (Begins.in_turn d) = elim (entry d) [
    | inl m ↦ inl (record { shorter = m.shorter; begun = m.begun })
    | inr e ↦ inr e
  ]
  entry {f = many f} (Begins.in_later d e) = met_again f (step d) (entry e)
  entry {f = when p f g} (Begins.in_chosen _ d) = elim (entry d) [
    | inl m ↦ inl (record { shorter = m.shorter; begun = mem_left _ _ _ m.begun })
    | inr e ↦ inr e
  ]
  entry {f = when p f g} (Begins.in_other _ d) = elim (entry d) [
    | inl m ↦ inl (record { shorter = m.shorter; begun = mem_right _ (first T f) _ m.begun })
    | inr e ↦ inr e
  ]
  entry {f = loop p f} (Begins.in_again _ d) = elim (entry d) [
    | inl m ↦ inl (record { shorter = m.shorter; begun = m.begun })
    | inr e ↦ inr e
  ]
  entry {f = loop p f} (Begins.in_further _ d e) = begun_loop p f (met_again f (step d) (begun_many p f (entry e)))

  -- what comes next before a form
  pub lead : (F : List ℕ) {f : Form} {s new : L.State} {ts rest : List L.Token} {xs : List L.Tree} → Derives L f s ts xs new rest
      → mem (ahead T L new rest) F ≡ true → mem (ahead T L s ts) (leads T f F) ≡ true
  unfolding leads
  lead F {f = f} d h = elim (step d) [
    | inl m ↦ mem_left _ _ _ m.begun
    | inr m ↦ mem_behind _ (nullable T f) _ _ m.hollow (rw (m.state, m.place) at h)
  ]

  pub record Same (xs : List L.Tree) (new : L.State) (rest : List L.Token) (ys : List L.Tree) (new' : L.State) (rest' : List L.Token) : Type 0 where
    pub trees : xs ≡ ys
    pub state : new ≡ new'
    pub place : rest ≡ rest'

  pub not_left : (f g : Form) (F : List ℕ) (k : ℕ) → apart T (leads T f F) (leads T g F) ≡ true → mem k (leads T g F) ≡ true → goes_left T L f g k ≡ true → ⊥
  unfolding leads goes_left
  not_left f g F k a h b = elim (or_cases (mem k (first T f)) _ b) [
    | inl m ↦ apart_mem T k _ _ a (mem_left k (first T f) _ m) h
    | inr n ↦ elim (mem_split k (nullable T g) (first T g) F h) [
      | inl m ↦ clash _ m (not_true _ (and_right (nullable T f) _ n))
      | inr m ↦ apart_mem T k _ _ a (mem_behind k (nullable T f) (first T f) F (and_left _ _ n) m.1) h
    ]
  ]

  pub not_right : (f g : Form) (F : List ℕ) (k : ℕ) → apart T (leads T f F) (leads T g F) ≡ true → mem k (leads T f F) ≡ true → goes_left T L f g k ≡ false → ⊥
  unfolding leads goes_left
  not_right f g F k a h b = elim (mem_split k (nullable T f) (first T f) F h) [
    | inl m ↦ clash _ (rw m refl) b
    | inr m ↦ apart_mem T k _ _ a h (mem_left k (first T g) _ (kept (mem k (first T f)) (nullable T f) (mem k (first T g)) m.0 b))
  ]
    where
      kept : (x y z : Bool) → y ≡ true → (x || (y && not z)) ≡ false → z ≡ true
      kept true y z e b = absurd (cc)
      kept false true true e b = refl
      kept false true false e b = absurd (cc)
      kept false false z e b = absurd (cc)

  paired : {new new' : L.State} {rest rest' : List L.Token} {xs ys zs us vs ws : List L.Tree} → xs ≡ us → Same ys new rest vs new' rest' → zs ≡ xs ++ ys
      → ws ≡ us ++ vs → Same zs new rest ws new' rest'
  paired p q e h = record { trees = rw (e, h, p, q.trees) refl; state = q.state; place = q.place }

  pub ahead_keeps : (r : Rule) (s : L.State) (rest : List L.Token) → mem (ahead T L (L.close r s) rest) (T.follows r) ≡ true → mem (ahead T L s rest) (T.follows r) ≡ true
  unfolding ahead
  ahead_keeps r s [] h = h
  ahead_keeps r s (t ∷ rest) h = quiet.keeps r s t h

  pub moved : (f : Form) {s new : L.State} {ts rest : List L.Token} → Moves f s ts rest ⊎ Stays f s ts new rest → nullable T f ≡ false → mem (ahead T L s ts) (first T f) ≡ true
  moved f (inl m) n = m.begun
  moved f (inr m) n = absurd (clash _ m.hollow n)

  -- the next tokens leave one derivation
  pub unique : {f : Form} {s new' : L.State} {ts rest' : List L.Token} {ys : List L.Tree} → Reads T L f s ts ys new' rest'
      → (F : List ℕ) → decided T f F ≡ true → {new : L.State} {rest : List L.Token} {xs : List L.Tree} → Derives L f s ts xs new rest → mem (ahead T L new rest) F ≡ true
      → Same xs new rest ys new' rest'
  unfolding decided leads first nullable
  unique (Reads.a_word _) F c (Derives.a_word _) h = record { trees = refl; state = refl; place = refl }
  unique {f = rule r} (Reads.a_rule p) F c (Derives.a_rule {new = mid} {xs = xs} d) h =
      let q = unique p (T.follows r) (within_rule r) d (ahead_keeps r mid _ (within_mem T _ F (T.follows r) c h)) in
      record { trees = ap (λ zs. L.node r zs ∷ []) q.trees; state = rw q.state refl; place = q.place }
  unique Reads.nothing F c Derives.nothing h = record { trees = refl; state = refl; place = refl }
  unique {f = f then g} (Reads.both p p' e') F c (Derives.both d d' e) h =
      let q = unique p (leads T g F) (and_left _ (decided T g F) c) d (lead F d' h) in
      paired q.trees (unique p' F (and_right (decided T f (leads T g F)) _ c) (rw (q.state, q.place) at d') h) e e'
  unique {f = f or g} (Reads.left b p) F c (Derives.left d) h = unique p F (and_right _ _ (and_left _ (decided T g F) c)) d h
  unique {f = f or g} (Reads.left b p) F c (Derives.right d) h = absurd (not_left f g F _ (and_left _ (decided T f F) (and_left _ (decided T g F) c)) (lead F d h) b)
  unique {f = f or g} (Reads.right b p) F c (Derives.left d) h = absurd (not_right f g F _ (and_left _ (decided T f F) (and_left _ (decided T g F) c)) (lead F d h) b)
  unique {f = f or g} (Reads.right b p) F c (Derives.right d) h = unique p F (and_right (apart T (leads T f F) (leads T g F) && decided T f F) _ c) d h
  unique {f = maybe f} (Reads.skip b) F c Derives.skip h = record { trees = refl; state = refl; place = refl }
  unique {f = maybe f} (Reads.skip b) F c (Derives.take d) h = absurd (clash _ (moved f (step d) (not_true _ (and_left _ (apart T (first T f) F) (and_left _ (decided T f F) c)))) b)
  unique {f = maybe f} (Reads.take b p) F c Derives.skip h = absurd (apart_mem T _ (first T f) F (and_right (not (nullable T f)) _ (and_left _ (decided T f F) c)) b h)
  unique {f = maybe f} (Reads.take b p) F c (Derives.take d) h = unique p F (and_right (not (nullable T f) && apart T (first T f) F) _ c) d h
  unique {f = many f} (Reads.stop b) F c Derives.stop h = record { trees = refl; state = refl; place = refl }
  unique {f = many f} (Reads.stop b) F c (Derives.turn d d' e) h = absurd (clash _ (moved f (step d) (not_true _ (and_left _ (apart T (first T f) F) (and_left _ (decided T f (first T f ++ F)) c)))) b)
  unique {f = many f} (Reads.turn b p p' e') F c Derives.stop h = absurd (apart_mem T _ (first T f) F (and_right (not (nullable T f)) _ (and_left _ (decided T f (first T f ++ F)) c)) b h)
  unique {f = many f} (Reads.turn b p p' e') F c (Derives.turn d d' e) h =
      let q = unique p (first T f ++ F) (and_right (not (nullable T f) && apart T (first T f) F) _ c) d (lead F d' h) in
      paired q.trees (unique p' F c (rw (q.state, q.place) at d') h) e e'
  unique {f = when p f g} (Reads.chosen b r) F c (Derives.chosen _ d) h = unique r F (and_left _ (decided T g F) c) d h
  unique {f = when p f g} (Reads.chosen b r) F c (Derives.other b' d) h = absurd (clash _ b b')
  unique {f = when p f g} (Reads.other b r) F c (Derives.chosen b' d) h = absurd (clash _ b' b)
  unique {f = when p f g} (Reads.other b r) F c (Derives.other _ d) h = unique r F (and_right (decided T f F) _ c) d h
  unique {f = loop p f} (Reads.done b) F c (Derives.done _) h = record { trees = refl; state = refl; place = refl }
  unique {f = loop p f} (Reads.done b) F c (Derives.again b' d d' e) h = absurd (clash _ b' b)
  unique {f = loop p f} (Reads.again b r r' e') F c (Derives.done b') h = absurd (clash _ b b')
  unique {f = loop p f} (Reads.again b r r' e') F c (Derives.again _ d d' e) h =
      let q = unique r (first T f ++ F) (and_right (not (nullable T f)) _ c) d (lead F d' h) in
      paired q.trees (unique r' F c (rw (q.state, q.place) at d') h) e e'

  -- what is read is derived
  pub sound : {f : Form} {s new : L.State} {ts rest : List L.Token} {xs : List L.Tree} → Reads T L f s ts xs new rest → Derives L f s ts xs new rest
  sound p = derivation T L p

  -- what is derived is begun
  pub begun : {f : Form} {s new : L.State} {ts rest : List L.Token} {xs : List L.Tree} → Derives L f s ts xs new rest → Begins L f s ts rest
  begun (Derives.a_word e) = Begins.in_word e
  begun (Derives.a_rule p) = Begins.in_rule (begun p)
  begun Derives.nothing = Begins.yet
  begun (Derives.both p q e) = Begins.in_then p (begun q)
  begun (Derives.left p) = Begins.in_left (begun p)
  begun (Derives.right p) = Begins.in_right (begun p)
  begun Derives.skip = Begins.yet
  begun (Derives.take p) = Begins.in_maybe (begun p)
  begun Derives.stop = Begins.yet
  begun (Derives.turn p q e) = Begins.in_later p (begun q)
  begun (Derives.chosen b p) = Begins.in_chosen b (begun p)
  begun (Derives.other b p) = Begins.in_other b (begun p)
  begun (Derives.done b) = Begins.yet
  begun (Derives.again b p q e) = Begins.in_further b p (begun q)

  -- what comes before a fault is begun
  pub read_so_far : {f : Form} {s : L.State} {ts rest : List L.Token} → Fails T L f s ts rest → Begins L f s ts rest
  read_so_far p = front T L p

  pub no_longer : {f : Form} {s : L.State} {ts rest : List L.Token} → Begins L f s ts rest → length rest ≤ length ts
  no_longer d = elim (entry d) [ inl m ↦ let h = m.shorter in omega arith | inr e ↦ let h = ap length e in omega arith ]

  -- where the form fails, it is not derived before what may follow
  pub refuted : {f : Form} {s : L.State} {ts rest' : List L.Token} → Fails T L f s ts rest'
      → (F : List ℕ) → decided T f F ≡ true → {new : L.State} {rest : List L.Token} {xs : List L.Tree} → Derives L f s ts xs new rest → mem (ahead T L new rest) F ≡ true → ⊥
  unfolding decided leads first nullable
  refuted Fails.at_end F c d h = elim d [ ]
  refuted (Fails.at_word n) F c (Derives.a_word e) h = clash _ e n
  refuted {f = rule r} (Fails.in_rule p) F c (Derives.a_rule d) h = refuted p (T.follows r) (within_rule r) d (ahead_keeps r _ _ (within_mem T _ F (T.follows r) c h))
  refuted {f = f then g} (Fails.in_first p) F c (Derives.both d d' e) h = refuted p (leads T g F) (and_left _ (decided T g F) c) d (lead F d' h)
  refuted {f = f then g} (Fails.in_then p p') F c (Derives.both d d' e) h =
      let q = unique p (leads T g F) (and_left _ (decided T g F) c) d (lead F d' h) in
      refuted p' F (and_right (decided T f (leads T g F)) _ c) (rw (q.state, q.place) at d') h
  refuted {f = f or g} (Fails.in_left b p) F c (Derives.left d) h = refuted p F (and_right _ _ (and_left _ (decided T g F) c)) d h
  refuted {f = f or g} (Fails.in_left b p) F c (Derives.right d) h = not_left f g F _ (and_left _ (decided T f F) (and_left _ (decided T g F) c)) (lead F d h) b
  refuted {f = f or g} (Fails.in_right b p) F c (Derives.left d) h = not_right f g F _ (and_left _ (decided T f F) (and_left _ (decided T g F) c)) (lead F d h) b
  refuted {f = f or g} (Fails.in_right b p) F c (Derives.right d) h = refuted p F (and_right (apart T (leads T f F) (leads T g F) && decided T f F) _ c) d h
  refuted {f = maybe f} (Fails.in_maybe b p) F c Derives.skip h = apart_mem T _ (first T f) F (and_right (not (nullable T f)) _ (and_left _ (decided T f F) c)) b h
  refuted {f = maybe f} (Fails.in_maybe b p) F c (Derives.take d) h = refuted p F (and_right (not (nullable T f) && apart T (first T f) F) _ c) d h
  refuted {f = many f} (Fails.in_turn b p) F c Derives.stop h = apart_mem T _ (first T f) F (and_right (not (nullable T f)) _ (and_left _ (decided T f (first T f ++ F)) c)) b h
  refuted {f = many f} (Fails.in_turn b p) F c (Derives.turn d d' e) h = refuted p (first T f ++ F) (and_right (not (nullable T f) && apart T (first T f) F) _ c) d (lead F d' h)
  refuted {f = many f} (Fails.in_later b p p') F c Derives.stop h = apart_mem T _ (first T f) F (and_right (not (nullable T f)) _ (and_left _ (decided T f (first T f ++ F)) c)) b h
  refuted {f = many f} (Fails.in_later b p p') F c (Derives.turn d d' e) h =
      let q = unique p (first T f ++ F) (and_right (not (nullable T f) && apart T (first T f) F) _ c) d (lead F d' h) in
      refuted p' F c (rw (q.state, q.place) at d') h
  refuted {f = when p f g} (Fails.in_chosen b r) F c (Derives.chosen _ d) h = refuted r F (and_left _ (decided T g F) c) d h
  refuted {f = when p f g} (Fails.in_chosen b r) F c (Derives.other b' d) h = clash _ b b'
  refuted {f = when p f g} (Fails.in_other b r) F c (Derives.chosen b' d) h = clash _ b' b
  refuted {f = when p f g} (Fails.in_other b r) F c (Derives.other _ d) h = refuted r F (and_right (decided T f F) _ c) d h
  refuted {f = loop p f} (Fails.in_again b r) F c (Derives.done b') h = clash _ b b'
  refuted {f = loop p f} (Fails.in_again b r) F c (Derives.again _ d d' e) h = refuted r (first T f ++ F) (and_right (not (nullable T f)) _ c) d (lead F d' h)
  refuted {f = loop p f} (Fails.in_further b r r') F c (Derives.done b') h = clash _ b b'
  refuted {f = loop p f} (Fails.in_further b r r') F c (Derives.again _ d d' e) h =
      let q = unique r (first T f ++ F) (and_right (not (nullable T f)) _ c) d (lead F d' h) in
      refuted r' F c (rw (q.state, q.place) at d') h

  -- behind what is read, the form goes no further
  pub ended : {f : Form} {s new : L.State} {ts rest : List L.Token} {xs : List L.Tree} → Reads T L f s ts xs new rest
      → (F : List ℕ) → decided T f F ≡ true → {r : List L.Token} → Begins L f s ts r → length r < length rest → ⊥
  unfolding decided leads first nullable
  ended p F c Begins.yet h = let k = no_longer (begun (sound p)) in omega arith
  ended (Reads.a_word e) F c (Begins.in_word d) h = omega arith
  ended {f = rule r} (Reads.a_rule p) F c (Begins.in_rule d) h = ended p (T.follows r) (within_rule r) d h
  ended {f = f then g} (Reads.both p p' e) F c (Begins.in_first d) h = let k = no_longer (begun (sound p')) in ended p (leads T g F) (and_left _ (decided T g F) c) d (omega arith)
  ended {f = f then g} (Reads.both p p' e) F c (Begins.in_then d d') h = elim (entry d') [
    | inl m ↦ let q = unique p (leads T g F) (and_left _ (decided T g F) c) d (mem_left _ _ _ m.begun) in
        ended p' F (and_right (decided T f (leads T g F)) _ c) (rw (q.state, q.place) at d') h
    | inr e ↦ let k = no_longer (begun (sound p')) in let z = rw e at h in ended p (leads T g F) (and_left _ (decided T g F) c) (begun d) (omega arith)
  ]
  ended {f = f or g} (Reads.left b p) F c (Begins.in_left d) h = ended p F (and_right _ _ (and_left _ (decided T g F) c)) d h
  ended {f = f or g} (Reads.left b p) F c (Begins.in_right d) h = elim (entry d) [
    | inl m ↦ not_left f g F _ (and_left _ (decided T f F) (and_left _ (decided T g F) c)) (mem_left _ _ _ m.begun) b
    | inr e ↦ let k = no_longer (begun (sound p)) in let z = ap length e in omega arith
  ]
  ended {f = f or g} (Reads.right b p) F c (Begins.in_left d) h = elim (entry d) [
    | inl m ↦ not_right f g F _ (and_left _ (decided T f F) (and_left _ (decided T g F) c)) (mem_left _ _ _ m.begun) b
    | inr e ↦ let k = no_longer (begun (sound p)) in let z = ap length e in omega arith
  ]
  ended {f = f or g} (Reads.right b p) F c (Begins.in_right d) h = ended p F (and_right (apart T (leads T f F) (leads T g F) && decided T f F) _ c) d h
  ended {f = maybe f} (Reads.skip b) F c (Begins.in_maybe d) h = elim (entry d) [
    | inl m ↦ clash _ m.begun b
    | inr e ↦ let z = ap length e in omega arith
  ]
  ended {f = maybe f} (Reads.take b p) F c (Begins.in_maybe d) h = ended p F (and_right (not (nullable T f) && apart T (first T f) F) _ c) d h
  ended {f = many f} (Reads.stop b) F c (Begins.in_turn d) h = elim (entry d) [
    | inl m ↦ clash _ m.begun b
    | inr e ↦ let z = ap length e in omega arith
  ]
  ended {f = many f} (Reads.stop b) F c (Begins.in_later d d') h = elim (entry (Begins.in_later d d')) [
    | inl m ↦ clash _ m.begun b
    | inr e ↦ let z = ap length e in omega arith
  ]
  ended {f = many f} (Reads.turn b p p' e) F c (Begins.in_turn d) h =
      let k = no_longer (begun (sound p')) in ended p (first T f ++ F) (and_right (not (nullable T f) && apart T (first T f) F) _ c) d (omega arith)
  ended {f = many f} (Reads.turn b p p' e) F c (Begins.in_later d d') h = elim (entry d') [
    | inl m ↦ let q = unique p (first T f ++ F) (and_right (not (nullable T f) && apart T (first T f) F) _ c) d (mem_left _ _ _ m.begun) in
        ended p' F c (rw (q.state, q.place) at d') h
    | inr e ↦ let k = no_longer (begun (sound p')) in let z = rw e at h in ended p (first T f ++ F) (and_right (not (nullable T f) && apart T (first T f) F) _ c) (begun d) (omega arith)
  ]
  ended {f = when p f g} (Reads.chosen b r) F c (Begins.in_chosen _ d) h = ended r F (and_left _ (decided T g F) c) d h
  ended {f = when p f g} (Reads.chosen b r) F c (Begins.in_other b' d) h = clash _ b b'
  ended {f = when p f g} (Reads.other b r) F c (Begins.in_chosen b' d) h = clash _ b' b
  ended {f = when p f g} (Reads.other b r) F c (Begins.in_other _ d) h = ended r F (and_right (decided T f F) _ c) d h
  ended {f = loop p f} (Reads.done b) F c (Begins.in_again b' d) h = clash _ b' b
  ended {f = loop p f} (Reads.done b) F c (Begins.in_further b' d d') h = clash _ b' b
  ended {f = loop p f} (Reads.again b r r' e) F c (Begins.in_again _ d) h = let k = no_longer (begun (sound r')) in ended r (first T f ++ F) (and_right (not (nullable T f)) _ c) d (omega arith)
  ended {f = loop p f} (Reads.again b r r' e) F c (Begins.in_further _ d d') h = elim (entry d') [
    | inl m ↦ let q = unique r (first T f ++ F) (and_right (not (nullable T f)) _ c) d (mem_left _ _ _ m.begun) in
        ended r' F c (rw (q.state, q.place) at d') h
    | inr e ↦ let k = no_longer (begun (sound r')) in let z = rw e at h in ended r (first T f ++ F) (and_right (not (nullable T f)) _ c) (begun d) (omega arith)
  ]

  -- no longer front than that before the fault is begun
  pub first_fault : {f : Form} {s : L.State} {ts rest : List L.Token} → Fails T L f s ts rest
      → (F : List ℕ) → decided T f F ≡ true → {r : List L.Token} → Begins L f s ts r → length r < length rest → ⊥
  unfolding decided leads first nullable
  first_fault p F c Begins.yet h = let k = no_longer (read_so_far p) in omega arith
  first_fault (Fails.at_word n) F c (Begins.in_word e) h = clash _ e n
  first_fault {f = rule r} (Fails.in_rule p) F c (Begins.in_rule d) h = first_fault p (T.follows r) (within_rule r) d h
  first_fault {f = f then g} (Fails.in_first p) F c (Begins.in_first d) h = first_fault p (leads T g F) (and_left _ (decided T g F) c) d h
  first_fault {f = f then g} (Fails.in_first p) F c (Begins.in_then d d') h = elim (entry d') [
    | inl m ↦ refuted p (leads T g F) (and_left _ (decided T g F) c) d (mem_left _ _ _ m.begun)
    | inr e ↦ let z = rw e at h in first_fault p (leads T g F) (and_left _ (decided T g F) c) (begun d) z
  ]
  first_fault {f = f then g} (Fails.in_then p p') F c (Begins.in_first d) h = let k = no_longer (read_so_far p') in ended p (leads T g F) (and_left _ (decided T g F) c) d (omega arith)
  first_fault {f = f then g} (Fails.in_then p p') F c (Begins.in_then d d') h = elim (entry d') [
    | inl m ↦ let q = unique p (leads T g F) (and_left _ (decided T g F) c) d (mem_left _ _ _ m.begun) in
        first_fault p' F (and_right (decided T f (leads T g F)) _ c) (rw (q.state, q.place) at d') h
    | inr e ↦ let k = no_longer (read_so_far p') in let z = rw e at h in ended p (leads T g F) (and_left _ (decided T g F) c) (begun d) (omega arith)
  ]
  first_fault {f = f or g} (Fails.in_left b p) F c (Begins.in_left d) h = first_fault p F (and_right _ _ (and_left _ (decided T g F) c)) d h
  first_fault {f = f or g} (Fails.in_left b p) F c (Begins.in_right d) h = elim (entry d) [
    | inl m ↦ not_left f g F _ (and_left _ (decided T f F) (and_left _ (decided T g F) c)) (mem_left _ _ _ m.begun) b
    | inr e ↦ let k = no_longer (read_so_far p) in let z = ap length e in omega arith
  ]
  first_fault {f = f or g} (Fails.in_right b p) F c (Begins.in_left d) h = elim (entry d) [
    | inl m ↦ not_right f g F _ (and_left _ (decided T f F) (and_left _ (decided T g F) c)) (mem_left _ _ _ m.begun) b
    | inr e ↦ let k = no_longer (read_so_far p) in let z = ap length e in omega arith
  ]
  first_fault {f = f or g} (Fails.in_right b p) F c (Begins.in_right d) h = first_fault p F (and_right (apart T (leads T f F) (leads T g F) && decided T f F) _ c) d h
  first_fault {f = maybe f} (Fails.in_maybe b p) F c (Begins.in_maybe d) h = first_fault p F (and_right (not (nullable T f) && apart T (first T f) F) _ c) d h
  first_fault {f = many f} (Fails.in_turn b p) F c (Begins.in_turn d) h = first_fault p (first T f ++ F) (and_right (not (nullable T f) && apart T (first T f) F) _ c) d h
  first_fault {f = many f} (Fails.in_turn b p) F c (Begins.in_later d d') h = elim (entry d') [
    | inl m ↦ refuted p (first T f ++ F) (and_right (not (nullable T f) && apart T (first T f) F) _ c) d (mem_left _ _ _ m.begun)
    | inr e ↦ let z = rw e at h in first_fault p (first T f ++ F) (and_right (not (nullable T f) && apart T (first T f) F) _ c) (begun d) z
  ]
  first_fault {f = many f} (Fails.in_later b p p') F c (Begins.in_turn d) h =
      let k = no_longer (read_so_far p') in ended p (first T f ++ F) (and_right (not (nullable T f) && apart T (first T f) F) _ c) d (omega arith)
  first_fault {f = many f} (Fails.in_later b p p') F c (Begins.in_later d d') h = elim (entry d') [
    | inl m ↦ let q = unique p (first T f ++ F) (and_right (not (nullable T f) && apart T (first T f) F) _ c) d (mem_left _ _ _ m.begun) in
        first_fault p' F c (rw (q.state, q.place) at d') h
    | inr e ↦ let k = no_longer (read_so_far p') in let z = rw e at h in ended p (first T f ++ F) (and_right (not (nullable T f) && apart T (first T f) F) _ c) (begun d) (omega arith)
  ]
  first_fault {f = when p f g} (Fails.in_chosen b r) F c (Begins.in_chosen _ d) h = first_fault r F (and_left _ (decided T g F) c) d h
  first_fault {f = when p f g} (Fails.in_chosen b r) F c (Begins.in_other b' d) h = clash _ b b'
  first_fault {f = when p f g} (Fails.in_other b r) F c (Begins.in_chosen b' d) h = clash _ b' b
  first_fault {f = when p f g} (Fails.in_other b r) F c (Begins.in_other _ d) h = first_fault r F (and_right (decided T f F) _ c) d h
  first_fault {f = loop p f} (Fails.in_again b r) F c (Begins.in_again _ d) h = first_fault r (first T f ++ F) (and_right (not (nullable T f)) _ c) d h
  first_fault {f = loop p f} (Fails.in_again b r) F c (Begins.in_further _ d d') h = elim (entry d') [
    | inl m ↦ refuted r (first T f ++ F) (and_right (not (nullable T f)) _ c) d (mem_left _ _ _ m.begun)
    | inr e ↦ let z = rw e at h in first_fault r (first T f ++ F) (and_right (not (nullable T f)) _ c) (begun d) z
  ]
  first_fault {f = loop p f} (Fails.in_further b r r') F c (Begins.in_again _ d) h = let k = no_longer (read_so_far r') in ended r (first T f ++ F) (and_right (not (nullable T f)) _ c) d (omega arith)
  first_fault {f = loop p f} (Fails.in_further b r r') F c (Begins.in_further _ d d') h = elim (entry d') [
    | inl m ↦ let q = unique r (first T f ++ F) (and_right (not (nullable T f)) _ c) d (mem_left _ _ _ m.begun) in
        first_fault r' F c (rw (q.state, q.place) at d') h
    | inr e ↦ let k = no_longer (read_so_far r') in let z = rw e at h in ended r (first T f ++ F) (and_right (not (nullable T f)) _ c) (begun d) (omega arith)
  ]

  -- what is left is the end of the tokens
  Ends : List L.Token → List L.Token → Type 0
  Ends ts rest = (front : List L.Token) × (ts ≡ front ++ rest)

  ends_join : (ts later rest : List L.Token) → Ends ts later → Ends later rest → Ends ts rest
  unfolding Ends
  ends_join ts later rest a b = (a.0 ++ b.0, a.1 ∙ (ap (λ z. a.0 ++ z) b.1 ∙ sym (append_assoc a.0 b.0 rest)))

  ends_derived : {f : Form} {s new : L.State} {ts rest : List L.Token} {xs : List L.Tree} → Derives L f s ts xs new rest → Ends ts rest
  unfolding Ends
  ends_derived (Derives.a_word {t = t} e) = (t ∷ [], refl)
  ends_derived (Derives.a_rule d) = ends_derived d
  ends_derived Derives.nothing = ([], refl)
  ends_derived (Derives.both d e _) = ends_join _ _ _ (ends_derived d) (ends_derived e)
  ends_derived (Derives.left d) = ends_derived d
  ends_derived (Derives.right d) = ends_derived d
  ends_derived Derives.skip = ([], refl)
  ends_derived (Derives.take d) = ends_derived d
  ends_derived Derives.stop = ([], refl)
  ends_derived (Derives.turn d e _) = ends_join _ _ _ (ends_derived d) (ends_derived e)
  ends_derived (Derives.chosen _ d) = ends_derived d
  ends_derived (Derives.other _ d) = ends_derived d
  ends_derived (Derives.done _) = ([], refl)
  ends_derived (Derives.again _ d e _) = ends_join _ _ _ (ends_derived d) (ends_derived e)

  ends_begun : {f : Form} {s : L.State} {ts rest : List L.Token} → Begins L f s ts rest → Ends ts rest
  unfolding Ends
  ends_begun Begins.yet = ([], refl)
  ends_begun (Begins.in_word {t = t} e) = (t ∷ [], refl)
  ends_begun (Begins.in_rule d) = ends_begun d
  ends_begun (Begins.in_first d) = ends_begun d
  ends_begun (Begins.in_then d e) = ends_join _ _ _ (ends_derived d) (ends_begun e)
  ends_begun (Begins.in_left d) = ends_begun d
  ends_begun (Begins.in_right d) = ends_begun d
  ends_begun (Begins.in_maybe d) = ends_begun d
  ends_begun (Begins.in_turn d) = ends_begun d
  ends_begun (Begins.in_later d e) = ends_join _ _ _ (ends_derived d) (ends_begun e)
  ends_begun (Begins.in_chosen _ d) = ends_begun d
  ends_begun (Begins.in_other _ d) = ends_begun d
  ends_begun (Begins.in_again _ d) = ends_begun d
  ends_begun (Begins.in_further _ d e) = ends_join _ _ _ (ends_derived d) (ends_begun e)

  drop_front : (xs ys : List L.Token) → drop (length xs) (xs ++ ys) ≡ ys
  drop_front [] ys = refl
  drop_front (x ∷ xs) ys = drop_front xs ys

  front_length : (xs ys : List L.Token) → length (xs ++ ys) - length ys ≡ length xs
  front_length xs ys = omega (arith, length-append xs ys)

  behind_at : (ts xs rest : List L.Token) → ts ≡ xs ++ rest → rest ≡ drop (length ts - length rest) ts
  behind_at ts xs rest h = rw (h, front_length xs rest) (sym (drop_front xs rest))

  pub behind : {f : Form} {s : L.State} {ts rest : List L.Token} → Begins L f s ts rest → rest ≡ drop (length ts - length rest) ts
  unfolding Ends
  behind d = let e = ends_begun d in behind_at _ e.0 _ e.1
