-- The walk through a table is one: two from the same place go the same way, and make the same marks.
use Rattle.std.proofs.Common.{◌≡◌, ℕ, Bool, true, false, List, [], ◌∷◌, ◌++◌, refl, ap, subst, ◌∙◌}
use Rattle.std.specs.Prelude.{if◌then◌else◌}
use Rattle.model_grammar.specs.GrammarForm.{Form, rule, ◌then◌}
use Rattle.model_grammar.specs.Derivation.{Language, Derives, Begins}
use Rattle.grammar_laws.specs.FirstTokens.{Tables}
use Rattle.grammar_laws.specs.ParserWalk.{Reads, Fails}
use Rattle.grammar_laws.specs.WalkedDerivation.{derivation, front}
use Rattle.grammar_laws.specs.DepthPlace.{Piece, nothing_read, joined, chained, ends, deeper, is_chain, grown, grown_so_far}
use Rattle.grammar_laws.proofs.kinds.KindSets.{clash}

-- one more turn, of a chain or not
pub per_turn : (c : Bool) (before x x' y y' : Piece) → x ≡ x' → y ≡ y' → (if c then chained before x else y) ≡ (if c then chained before x' else y')
per_turn true before x x' y y' p q = ap (chained before) p
per_turn false before x x' y y' p q = q

pub begun_turn : (c : Bool) (before x x' y y' : Piece) → x ≡ x' → y ≡ y' → (if c then joined before x else y) ≡ (if c then joined before x' else y')
begun_turn true before x x' y y' p q = ap (joined before) p
begun_turn false before x x' y y' p q = q

module _ (T : Tables) (L : Language) where
  -- what a derivation makes of the piece before it
  abbrev pub growth : {f : Form} {s new : L.State} {ts rest : List L.Token} {xs : List L.Tree} → Derives L f s ts xs new rest → Bool → ℕ → Piece → Piece
  growth d = λ c n before. grown L c n d before

  abbrev pub growth_so_far : {f : Form} {s : L.State} {ts rest : List L.Token} → Begins L f s ts rest → Bool → ℕ → Piece → Piece
  growth_so_far d = λ c n before. grown_so_far L c n d before

  pub record Alike (xs ys : List L.Tree) (new new' : L.State) (rest rest' : List L.Token) (u v : Bool → ℕ → Piece → Piece) : Type 0 where
    pub trees : xs ≡ ys
    pub state : new ≡ new'
    pub place : rest ≡ rest'
    pub grown : (c : Bool) (n : ℕ) (before : Piece) → u c n before ≡ v c n before

  pub record AlikeFronts (rest rest' : List L.Token) (u v : Bool → ℕ → Piece → Piece) : Type 0 where
    pub place : rest ≡ rest'
    pub grown : (c : Bool) (n : ℕ) (before : Piece) → u c n before ≡ v c n before

  -- a walk from the same place under another name
  carry : {g : Form} {mid mid' new new' : L.State} {later later' rest rest' : List L.Token} {xs ys : List L.Tree} (u : Bool → ℕ → Piece → Piece) → mid ≡ mid' → later ≡ later'
      → ((q : Reads T L g mid later ys new' rest') → Alike xs ys new new' rest rest' u (growth (derivation T L q)))
      → (q : Reads T L g mid' later' ys new' rest') → Alike xs ys new new' rest rest' u (growth (derivation T L q))
  carry {g = g} {mid' = mid'} {new = new} {new' = new'} {later = later} {rest = rest} {rest' = rest'} {xs = xs} {ys = ys} u e e' h =
      subst (λ l. (q : Reads T L g mid' l ys new' rest') → Alike xs ys new new' rest rest' u (growth (derivation T L q))) e'
      (subst (λ m. (q : Reads T L g m later ys new' rest') → Alike xs ys new new' rest rest' u (growth (derivation T L q))) e h)

  carry_front : {g : Form} {mid mid' : L.State} {later later' rest rest' : List L.Token} (u : Bool → ℕ → Piece → Piece) → mid ≡ mid' → later ≡ later'
      → ((q : Fails T L g mid later rest') → AlikeFronts rest rest' u (growth_so_far (front T L q)))
      → (q : Fails T L g mid' later' rest') → AlikeFronts rest rest' u (growth_so_far (front T L q))
  carry_front {g = g} {mid' = mid'} {later = later} {rest = rest} {rest' = rest'} u e e' h =
      subst (λ l. (q : Fails T L g mid' l rest') → AlikeFronts rest rest' u (growth_so_far (front T L q))) e'
      (subst (λ m. (q : Fails T L g m later rest') → AlikeFronts rest rest' u (growth_so_far (front T L q))) e h)

  carry_never : {g : Form} {mid mid' : L.State} {later later' rest' : List L.Token} → mid ≡ mid' → later ≡ later'
      → ((q : Fails T L g mid later rest') → ⊥) → (q : Fails T L g mid' later' rest') → ⊥
  carry_never {g = g} {mid' = mid'} {later = later} {rest' = rest'} e e' h = subst (λ l. (q : Fails T L g mid' l rest') → ⊥) e' (subst (λ m. (q : Fails T L g m later rest') → ⊥) e h)

  two : {xs ys us vs zs ws : List L.Tree} → zs ≡ xs ++ ys → ws ≡ us ++ vs → xs ≡ us → ys ≡ vs → zs ≡ ws
  two e e' p q = rw (e, e', p, q) refl

  pub alike : {f : Form} {s new new' : L.State} {ts rest rest' : List L.Token} {xs ys : List L.Tree} (p : Reads T L f s ts xs new rest) (q : Reads T L f s ts ys new' rest')
      → Alike xs ys new new' rest rest' (growth (derivation T L p)) (growth (derivation T L q))
  unfolding grown derivation
  alike (Reads.a_word b) (Reads.a_word b') = record { trees = refl; state = refl; place = refl; grown = λ c n before. refl }
  alike {f = rule r} (Reads.a_rule p) (Reads.a_rule q) = let a = alike p q in record {
    trees = ap (λ zs. L.node r zs ∷ []) a.trees;
    state = ap (L.close r) a.state;
    place = a.place;
    grown = λ c n before. ap (λ z. joined before (ends (L.is_part r) z)) (a.grown (is_chain r) (deeper (L.is_part r) n) nothing_read);
  }
  alike Reads.nothing Reads.nothing = record { trees = refl; state = refl; place = refl; grown = λ c n before. refl }
  alike {f = f then g} (Reads.both p p' e) (Reads.both q q' e') =
      let a = alike p q in
      let b = carry (growth (derivation T L p')) a.state a.place (λ q. alike p' q) q' in
      record { trees = two e e' a.trees b.trees; state = b.state; place = b.place; grown = λ c n before. ap (λ z. grown L c n (derivation T L p') z) (a.grown c n before) ∙ b.grown c n _ }
  alike (Reads.left _ p) (Reads.left _ q) = let a = alike p q in record { trees = a.trees; state = a.state; place = a.place; grown = λ c n before. a.grown c n before }
  alike (Reads.left b p) (Reads.right b' q) = absurd (clash _ b b')
  alike (Reads.right b p) (Reads.left b' q) = absurd (clash _ b' b)
  alike (Reads.right _ p) (Reads.right _ q) = let a = alike p q in record { trees = a.trees; state = a.state; place = a.place; grown = λ c n before. a.grown c n before }
  alike (Reads.skip _) (Reads.skip _) = record { trees = refl; state = refl; place = refl; grown = λ c n before. refl }
  alike (Reads.skip b) (Reads.take b' q) = absurd (clash _ b' b)
  alike (Reads.take b p) (Reads.skip b') = absurd (clash _ b b')
  alike (Reads.take _ p) (Reads.take _ q) = let a = alike p q in record { trees = a.trees; state = a.state; place = a.place; grown = λ c n before. a.grown c n before }
  alike (Reads.stop _) (Reads.stop _) = record { trees = refl; state = refl; place = refl; grown = λ c n before. refl }
  alike (Reads.stop b) (Reads.turn b' q q' e) = absurd (clash _ b' b)
  alike (Reads.turn b p p' e) (Reads.stop b') = absurd (clash _ b b')
  alike (Reads.turn _ p p' e) (Reads.turn _ q q' e') =
      let a = alike p q in
      let b = carry (growth (derivation T L p')) a.state a.place (λ q. alike p' q) q' in
      record { trees = two e e' a.trees b.trees; state = b.state; place = b.place; grown = λ c n before. ap (λ z. grown L c n (derivation T L p') z) (per_turn c before _ _ _ _ (a.grown false n nothing_read) (a.grown false n before)) ∙ b.grown c n _ }
  alike (Reads.chosen _ p) (Reads.chosen _ q) = let a = alike p q in record { trees = a.trees; state = a.state; place = a.place; grown = λ c n before. a.grown c n before }
  alike (Reads.chosen b p) (Reads.other b' q) = absurd (clash _ b b')
  alike (Reads.other b p) (Reads.chosen b' q) = absurd (clash _ b' b)
  alike (Reads.other _ p) (Reads.other _ q) = let a = alike p q in record { trees = a.trees; state = a.state; place = a.place; grown = λ c n before. a.grown c n before }
  alike (Reads.done _) (Reads.done _) = record { trees = refl; state = refl; place = refl; grown = λ c n before. refl }
  alike (Reads.done b) (Reads.again b' q q' e) = absurd (clash _ b' b)
  alike (Reads.again b p p' e) (Reads.done b') = absurd (clash _ b b')
  alike (Reads.again _ p p' e) (Reads.again _ q q' e') =
      let a = alike p q in
      let b = carry (growth (derivation T L p')) a.state a.place (λ q. alike p' q) q' in
      record { trees = two e e' a.trees b.trees; state = b.state; place = b.place; grown = λ c n before. ap (λ z. grown L c n (derivation T L p') z) (per_turn c before _ _ _ _ (a.grown false n nothing_read) (a.grown false n before)) ∙ b.grown c n _ }

  -- what is read doesn't fail
  pub never : {f : Form} {s new : L.State} {ts rest rest' : List L.Token} {xs : List L.Tree} → Reads T L f s ts xs new rest → Fails T L f s ts rest' → ⊥
  never (Reads.a_word b) (Fails.at_word b') = clash _ b b'
  never (Reads.a_rule p) (Fails.in_rule q) = never p q
  never Reads.nothing q = elim q [ ]
  never (Reads.both p p' e) (Fails.in_first q) = never p q
  never (Reads.both p p' e) (Fails.in_then q q') = let a = alike p q in carry_never a.state a.place (λ z. never p' z) q'
  never (Reads.left b p) (Fails.in_left b' q) = never p q
  never (Reads.left b p) (Fails.in_right b' q) = clash _ b b'
  never (Reads.right b p) (Fails.in_left b' q) = clash _ b' b
  never (Reads.right b p) (Fails.in_right b' q) = never p q
  never (Reads.skip b) (Fails.in_maybe b' q) = clash _ b' b
  never (Reads.take b p) (Fails.in_maybe b' q) = never p q
  never (Reads.stop b) (Fails.in_turn b' q) = clash _ b' b
  never (Reads.stop b) (Fails.in_later b' q q') = clash _ b' b
  never (Reads.turn b p p' e) (Fails.in_turn b' q) = never p q
  never (Reads.turn b p p' e) (Fails.in_later b' q q') = let a = alike p q in carry_never a.state a.place (λ z. never p' z) q'
  never (Reads.chosen b p) (Fails.in_chosen b' q) = never p q
  never (Reads.chosen b p) (Fails.in_other b' q) = clash _ b b'
  never (Reads.other b p) (Fails.in_chosen b' q) = clash _ b' b
  never (Reads.other b p) (Fails.in_other b' q) = never p q
  never (Reads.done b) (Fails.in_again b' q) = clash _ b' b
  never (Reads.done b) (Fails.in_further b' q q') = clash _ b' b
  never (Reads.again b p p' e) (Fails.in_again b' q) = never p q
  never (Reads.again b p p' e) (Fails.in_further b' q q') = let a = alike p q in carry_never a.state a.place (λ z. never p' z) q'

  pub alike_fronts : {f : Form} {s : L.State} {ts rest rest' : List L.Token} (p : Fails T L f s ts rest) (q : Fails T L f s ts rest')
      → AlikeFronts rest rest' (growth_so_far (front T L p)) (growth_so_far (front T L q))
  unfolding grown grown_so_far derivation front
  alike_fronts Fails.at_end Fails.at_end = record { place = refl; grown = λ c n before. refl }
  alike_fronts (Fails.at_word b) (Fails.at_word b') = record { place = refl; grown = λ c n before. refl }
  alike_fronts {f = rule r} (Fails.in_rule p) (Fails.in_rule q) =
      let a = alike_fronts p q in record { place = a.place; grown = λ c n before. ap (joined before) (a.grown (is_chain r) (deeper (L.is_part r) n) nothing_read) }
  alike_fronts (Fails.in_first p) (Fails.in_first q) = let a = alike_fronts p q in record { place = a.place; grown = λ c n before. a.grown c n before }
  alike_fronts (Fails.in_first p) (Fails.in_then q q') = absurd (never q p)
  alike_fronts (Fails.in_then p p') (Fails.in_first q) = absurd (never p q)
  alike_fronts (Fails.in_then p p') (Fails.in_then q q') =
      let a = alike p q in
      let b = carry_front (growth_so_far (front T L p')) a.state a.place (λ z. alike_fronts p' z) q' in
      record { place = b.place; grown = λ c n before. ap (λ z. grown_so_far L c n (front T L p') z) (a.grown c n before) ∙ b.grown c n _ }
  alike_fronts (Fails.in_left _ p) (Fails.in_left _ q) = let a = alike_fronts p q in record { place = a.place; grown = λ c n before. a.grown c n before }
  alike_fronts (Fails.in_left b p) (Fails.in_right b' q) = absurd (clash _ b b')
  alike_fronts (Fails.in_right b p) (Fails.in_left b' q) = absurd (clash _ b' b)
  alike_fronts (Fails.in_right _ p) (Fails.in_right _ q) = let a = alike_fronts p q in record { place = a.place; grown = λ c n before. a.grown c n before }
  alike_fronts (Fails.in_maybe _ p) (Fails.in_maybe _ q) = let a = alike_fronts p q in record { place = a.place; grown = λ c n before. a.grown c n before }
  alike_fronts (Fails.in_turn _ p) (Fails.in_turn _ q) =
      let a = alike_fronts p q in record { place = a.place; grown = λ c n before. begun_turn c before _ _ _ _ (a.grown false n nothing_read) (a.grown false n before) }
  alike_fronts (Fails.in_turn b p) (Fails.in_later b' q q') = absurd (never q p)
  alike_fronts (Fails.in_later b p p') (Fails.in_turn b' q) = absurd (never p q)
  alike_fronts (Fails.in_later _ p p') (Fails.in_later _ q q') =
      let a = alike p q in
      let b = carry_front (growth_so_far (front T L p')) a.state a.place (λ z. alike_fronts p' z) q' in
      record { place = b.place; grown = λ c n before. ap (λ z. grown_so_far L c n (front T L p') z) (per_turn c before _ _ _ _ (a.grown false n nothing_read) (a.grown false n before)) ∙ b.grown c n _ }
  alike_fronts (Fails.in_chosen _ p) (Fails.in_chosen _ q) = let a = alike_fronts p q in record { place = a.place; grown = λ c n before. a.grown c n before }
  alike_fronts (Fails.in_chosen b p) (Fails.in_other b' q) = absurd (clash _ b b')
  alike_fronts (Fails.in_other b p) (Fails.in_chosen b' q) = absurd (clash _ b' b)
  alike_fronts (Fails.in_other _ p) (Fails.in_other _ q) = let a = alike_fronts p q in record { place = a.place; grown = λ c n before. a.grown c n before }
  alike_fronts (Fails.in_again _ p) (Fails.in_again _ q) =
      let a = alike_fronts p q in record { place = a.place; grown = λ c n before. begun_turn c before _ _ _ _ (a.grown false n nothing_read) (a.grown false n before) }
  alike_fronts (Fails.in_again b p) (Fails.in_further b' q q') = absurd (never q p)
  alike_fronts (Fails.in_further b p p') (Fails.in_again b' q) = absurd (never p q)
  alike_fronts (Fails.in_further _ p p') (Fails.in_further _ q q') =
      let a = alike p q in
      let b = carry_front (growth_so_far (front T L p')) a.state a.place (λ z. alike_fronts p' z) q' in
      record { place = b.place; grown = λ c n before. ap (λ z. grown_so_far L c n (front T L p') z) (per_turn c before _ _ _ _ (a.grown false n nothing_read) (a.grown false n before)) ∙ b.grown c n _ }
