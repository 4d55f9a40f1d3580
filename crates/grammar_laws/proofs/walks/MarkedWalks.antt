-- A walk to a token makes the first marks of the whole walk; and there is a mark for each token that is read.
use Rattle.std.proofs.Common.{◌≡◌, ℕ, ◌+◌, Bool, true, false, List, [], ◌∷◌, ◌++◌, length, length-append, append_assoc, append-nil, refl, ap, sym, subst, ◌∙◌, arith}
use Rattle.std.specs.Prelude.{if◌then◌else◌}
use Rattle.model_grammar.specs.GrammarForm.{Form, ◌then◌}
use Rattle.model_grammar.specs.Derivation.{Language, Derives, Begins}
use Rattle.grammar_laws.specs.FirstTokens.{Tables}
use Rattle.grammar_laws.specs.ParserWalk.{Reads, Fails, Meets}
use Rattle.grammar_laws.specs.WalkedDerivation.{derivation, front, front_with}
use Rattle.grammar_laws.specs.DepthPlace.{Mark, Piece, nothing_read, one_token, joined, chained, ends, shown, deeper, is_chain, grown, grown_so_far}
use Rattle.grammar_laws.proofs.kinds.KindSets.{clash}
use Rattle.grammar_laws.proofs.walks.OneWalk.{alike, never, per_turn}

-- the marks begin with these
unfoldable pub Starts : List Mark → List Mark → Type 0
Starts xs ys = (more : List Mark) × (ys ≡ xs ++ more)

starts_self : (xs : List Mark) → Starts xs xs
unfolding Starts
starts_self xs = ([], sym (append-nil xs))

pub starts_on : (xs ys zs : List Mark) → Starts xs ys → Starts ys zs → Starts xs zs
unfolding Starts
starts_on xs ys zs a b = (a.0 ++ b.0, b.1 ∙ ap (λ z. z ++ b.0) a.1 ∙ append_assoc xs a.0 b.0)

adds : (xs ys : List Mark) → Starts xs (xs ++ ys)
unfolding Starts
adds xs ys = (ys, refl)

shown_starts : (e : ℕ) (xs ys : List Mark) → Starts xs ys → Starts (shown e xs) (shown e ys)
unfolding Starts
shown_starts e [] ys a = (shown e ys, refl)
shown_starts e (x ∷ xs) ys a = (a.0, ap (shown e) a.1)

behind_starts : (before xs ys : List Mark) → Starts xs ys → Starts (before ++ xs) (before ++ ys)
unfolding Starts
behind_starts before xs ys a = (a.0, ap (λ z. before ++ z) a.1 ∙ sym (append_assoc before xs a.0))

pub joined_starts : (before p q : Piece) → Starts p.marks q.marks → Starts (joined before p).marks (joined before q).marks
joined_starts before p q a = behind_starts before.marks _ _ (shown_starts before.ending p.marks q.marks a)

ended_marks : (b : Bool) (p : Piece) → (ends b p).marks ≡ p.marks
ended_marks true p = refl
ended_marks false p = refl

ended_starts : (b : Bool) (xs : List Mark) (p : Piece) → Starts xs p.marks → Starts xs (ends b p).marks
ended_starts b xs p a = subst (λ z. Starts xs z) (sym (ended_marks b p)) a

turn_adds : (c : Bool) (before p q : Piece) → Starts before.marks q.marks → Starts before.marks (if c then chained before p else q).marks
turn_adds true before p q a = adds before.marks _
turn_adds false before p q a = a

front_adds : (c : Bool) (before p q : Piece) → Starts before.marks q.marks → Starts before.marks (if c then joined before p else q).marks
front_adds true before p q a = adds before.marks _
front_adds false before p q a = a

turn_starts : (c : Bool) (before p p' q q' : Piece) → Starts p.marks p'.marks → Starts q.marks q'.marks → Starts (if c then joined before p else q).marks (if c then chained before p' else q').marks
turn_starts true before p p' q q' a b = joined_starts before p p' a
turn_starts false before p p' q q' a b = b

front_starts : (c : Bool) (before p p' q q' : Piece) → Starts p.marks p'.marks → Starts q.marks q'.marks → Starts (if c then joined before p else q).marks (if c then joined before p' else q').marks
front_starts true before p p' q q' a b = joined_starts before p p' a
front_starts false before p p' q q' a b = b

shown_length : (e : ℕ) (xs : List Mark) → length (shown e xs) ≡ length xs
shown_length e [] = refl
shown_length e (x ∷ xs) = refl

joined_length : (p q : Piece) → length (joined p q).marks ≡ length p.marks + length q.marks
joined_length p q = length-append p.marks (shown p.ending q.marks) ∙ ap (λ n. length p.marks + n) (shown_length p.ending q.marks)

ended_length : (b : Bool) (p : Piece) → length (ends b p).marks ≡ length p.marks
ended_length true p = refl
ended_length false p = refl

turn_length : (c : Bool) (before p q : Piece) (m n : ℕ) → length p.marks + m ≡ length nothing_read.marks + n → length q.marks + m ≡ length before.marks + n
    → length (if c then chained before p else q).marks + m ≡ length before.marks + n
turn_length true before p q m n a b = let l = joined_length before p in omega (arith, a, l)
turn_length false before p q m n a b = b

front_length : (c : Bool) (before p q : Piece) (m n : ℕ) → length p.marks + m ≡ length nothing_read.marks + n → length q.marks + m ≡ length before.marks + n
    → length (if c then joined before p else q).marks + m ≡ length before.marks + n
front_length true before p q m n a b = let l = joined_length before p in omega (arith, a, l)
front_length false before p q m n a b = b

module _ (L : Language) where
  -- what a derivation makes begins with what was there
  pub derived_adds : {f : Form} {s new : L.State} {ts rest : List L.Token} {xs : List L.Tree} (d : Derives L f s ts xs new rest) (c : Bool) (n : ℕ) (before : Piece)
      → Starts before.marks (grown L c n d before).marks
  unfolding grown
  derived_adds (Derives.a_word e) c n before = adds before.marks _
  derived_adds (Derives.a_rule d) c n before = adds before.marks _
  derived_adds Derives.nothing c n before = starts_self before.marks
  derived_adds (Derives.both d e h) c n before = starts_on _ _ _ (derived_adds d c n before) (derived_adds e c n _)
  derived_adds (Derives.left d) c n before = derived_adds d c n before
  derived_adds (Derives.right d) c n before = derived_adds d c n before
  derived_adds Derives.skip c n before = starts_self before.marks
  derived_adds (Derives.take d) c n before = derived_adds d c n before
  derived_adds Derives.stop c n before = starts_self before.marks
  derived_adds (Derives.turn d e h) c n before = starts_on _ _ _ (turn_adds c before (grown L false n d nothing_read) (grown L false n d before) (derived_adds d false n before)) (derived_adds e c n _)
  derived_adds (Derives.chosen b d) c n before = derived_adds d c n before
  derived_adds (Derives.other b d) c n before = derived_adds d c n before
  derived_adds (Derives.done b) c n before = starts_self before.marks
  derived_adds (Derives.again b d e h) c n before =
      starts_on _ _ _ (turn_adds c before (grown L false n d nothing_read) (grown L false n d before) (derived_adds d false n before)) (derived_adds e c n _)

  pub begun_adds : {f : Form} {s : L.State} {ts rest : List L.Token} (d : Begins L f s ts rest) (c : Bool) (n : ℕ) (before : Piece) → Starts before.marks (grown_so_far L c n d before).marks
  unfolding grown_so_far
  begun_adds Begins.yet c n before = starts_self before.marks
  begun_adds (Begins.in_word e) c n before = adds before.marks _
  begun_adds (Begins.in_rule d) c n before = adds before.marks _
  begun_adds (Begins.in_first d) c n before = begun_adds d c n before
  begun_adds (Begins.in_then d e) c n before = starts_on _ _ _ (derived_adds d c n before) (begun_adds e c n _)
  begun_adds (Begins.in_left d) c n before = begun_adds d c n before
  begun_adds (Begins.in_right d) c n before = begun_adds d c n before
  begun_adds (Begins.in_maybe d) c n before = begun_adds d c n before
  begun_adds (Begins.in_turn d) c n before = front_adds c before (grown_so_far L false n d nothing_read) (grown_so_far L false n d before) (begun_adds d false n before)
  begun_adds (Begins.in_later d e) c n before = starts_on _ _ _ (turn_adds c before (grown L false n d nothing_read) (grown L false n d before) (derived_adds d false n before)) (begun_adds e c n _)
  begun_adds (Begins.in_chosen b d) c n before = begun_adds d c n before
  begun_adds (Begins.in_other b d) c n before = begun_adds d c n before
  begun_adds (Begins.in_again b d) c n before = front_adds c before (grown_so_far L false n d nothing_read) (grown_so_far L false n d before) (begun_adds d false n before)
  begun_adds (Begins.in_further b d e) c n before =
      starts_on _ _ _ (turn_adds c before (grown L false n d nothing_read) (grown L false n d before) (derived_adds d false n before)) (begun_adds e c n _)

  -- a mark for each token
  pub derived_length : {f : Form} {s new : L.State} {ts rest : List L.Token} {xs : List L.Tree} (d : Derives L f s ts xs new rest) (c : Bool) (n : ℕ) (before : Piece)
      → length (grown L c n d before).marks + length rest ≡ length before.marks + length ts
  unfolding grown
  derived_length (Derives.a_word e) c n before = let l = joined_length before (one_token n) in omega (arith, l)
  derived_length (Derives.a_rule {r = r} d) c n before =
      let p = grown L (is_chain r) (deeper (L.is_part r) n) d nothing_read in let l = joined_length before (ends (L.is_part r) p) in let m = ended_length (L.is_part r) p in let k = derived_length d (is_chain r) (deeper (L.is_part r) n) nothing_read in omega (arith, l, m, k)
  derived_length Derives.nothing c n before = refl
  derived_length (Derives.both d e h) c n before = derived_length e c n _ ∙ derived_length d c n before
  derived_length (Derives.left d) c n before = derived_length d c n before
  derived_length (Derives.right d) c n before = derived_length d c n before
  derived_length Derives.skip c n before = refl
  derived_length (Derives.take d) c n before = derived_length d c n before
  derived_length Derives.stop c n before = refl
  derived_length (Derives.turn d e h) c n before =
      derived_length e c n _ ∙ turn_length c before (grown L false n d nothing_read) (grown L false n d before) _ _ (derived_length d false n nothing_read) (derived_length d false n before)
  derived_length (Derives.chosen b d) c n before = derived_length d c n before
  derived_length (Derives.other b d) c n before = derived_length d c n before
  derived_length (Derives.done b) c n before = refl
  derived_length (Derives.again b d e h) c n before =
      derived_length e c n _ ∙ turn_length c before (grown L false n d nothing_read) (grown L false n d before) _ _ (derived_length d false n nothing_read) (derived_length d false n before)

  pub begun_length : {f : Form} {s : L.State} {ts rest : List L.Token} (d : Begins L f s ts rest) (c : Bool) (n : ℕ) (before : Piece)
      → length (grown_so_far L c n d before).marks + length rest ≡ length before.marks + length ts
  unfolding grown_so_far
  begun_length Begins.yet c n before = refl
  begun_length (Begins.in_word e) c n before = let l = joined_length before (one_token n) in omega (arith, l)
  begun_length (Begins.in_rule {r = r} d) c n before =
      let l = joined_length before (grown_so_far L (is_chain r) (deeper (L.is_part r) n) d nothing_read) in let k = begun_length d (is_chain r) (deeper (L.is_part r) n) nothing_read in omega (arith, l, k)
  begun_length (Begins.in_first d) c n before = begun_length d c n before
  begun_length (Begins.in_then d e) c n before = begun_length e c n _ ∙ derived_length d c n before
  begun_length (Begins.in_left d) c n before = begun_length d c n before
  begun_length (Begins.in_right d) c n before = begun_length d c n before
  begun_length (Begins.in_maybe d) c n before = begun_length d c n before
  begun_length (Begins.in_turn d) c n before =
      front_length c before (grown_so_far L false n d nothing_read) (grown_so_far L false n d before) _ _ (begun_length d false n nothing_read) (begun_length d false n before)
  begun_length (Begins.in_later d e) c n before =
      begun_length e c n _ ∙ turn_length c before (grown L false n d nothing_read) (grown L false n d before) _ _ (derived_length d false n nothing_read) (derived_length d false n before)
  begun_length (Begins.in_chosen b d) c n before = begun_length d c n before
  begun_length (Begins.in_other b d) c n before = begun_length d c n before
  begun_length (Begins.in_again b d) c n before =
      front_length c before (grown_so_far L false n d nothing_read) (grown_so_far L false n d before) _ _ (begun_length d false n nothing_read) (begun_length d false n before)
  begun_length (Begins.in_further b d e) c n before =
      begun_length e c n _ ∙ turn_length c before (grown L false n d nothing_read) (grown L false n d before) _ _ (derived_length d false n nothing_read) (derived_length d false n before)

module _ (T : Tables) (L : Language) where
  -- what is read behind the same place under another name
  carry : {g : Form} {mid mid' new : L.State} {later later' rest : List L.Token} {xs : List L.Tree} (u : Piece → Piece) (c : Bool) (n : ℕ) (b b' : Piece) → mid ≡ mid' → later ≡ later' → b ≡ b'
      → ((q : Reads T L g mid later xs new rest) (b : Piece) → Starts (u b).marks (grown L c n (derivation T L q) b).marks)
      → (q : Reads T L g mid' later' xs new rest) → Starts (u b).marks (grown L c n (derivation T L q) b').marks
  carry {g = g} {mid' = mid'} {new = new} {later = later} {rest = rest} {xs = xs} u c n b b' e e' e'' h =
      subst (λ l. (q : Reads T L g mid' l xs new rest) → Starts (u b).marks (grown L c n (derivation T L q) b').marks) e'
      (subst (λ m. (q : Reads T L g m later xs new rest) → Starts (u b).marks (grown L c n (derivation T L q) b').marks) e
      (λ q. subst (λ z. Starts (u b).marks (grown L c n (derivation T L q) z).marks) e'' (h q b)))

  carry_front : {g : Form} {mid mid' : L.State} {later later' rest : List L.Token} (u : Piece → Piece) (c : Bool) (n : ℕ) (b b' : Piece) → mid ≡ mid' → later ≡ later' → b ≡ b'
      → ((q : Fails T L g mid later rest) (b : Piece) → Starts (u b).marks (grown_so_far L c n (front T L q) b).marks)
      → (q : Fails T L g mid' later' rest) → Starts (u b).marks (grown_so_far L c n (front T L q) b').marks
  carry_front {g = g} {mid' = mid'} {later = later} {rest = rest} u c n b b' e e' e'' h =
      subst (λ l. (q : Fails T L g mid' l rest) → Starts (u b).marks (grown_so_far L c n (front T L q) b').marks) e'
      (subst (λ m. (q : Fails T L g m later rest) → Starts (u b).marks (grown_so_far L c n (front T L q) b').marks) e
      (λ q. subst (λ z. Starts (u b).marks (grown_so_far L c n (front T L q) z).marks) e'' (h q b)))

  -- the walk to a token, and the whole
  pub met_read : {f : Form} {s new : L.State} {ts rest rest' : List L.Token} {xs : List L.Tree} (m : Meets T L f s ts rest) (p : Reads T L f s ts xs new rest') (c : Bool) (n : ℕ) (before : Piece)
      → Starts (grown_so_far L c n (front_with T L m) before).marks (grown L c n (derivation T L p) before).marks
  unfolding grown grown_so_far derivation front_with
  met_read (Meets.at_word _) (Reads.a_word _) c n before = starts_self _
  met_read (Meets.in_rule {r = r} m) (Reads.a_rule p) c n before =
      joined_starts before (grown_so_far L (is_chain r) (deeper (L.is_part r) n) (front_with T L m) nothing_read)
      (ends (L.is_part r) (grown L (is_chain r) (deeper (L.is_part r) n) (derivation T L p) nothing_read))
      (ended_starts (L.is_part r) _ _ (met_read m p (is_chain r) (deeper (L.is_part r) n) nothing_read))
  met_read (Meets.in_first m) (Reads.both p p' e) c n before = starts_on _ _ _ (met_read m p c n before) (derived_adds L (derivation T L p') c n _)
  met_read (Meets.in_then q m) (Reads.both p p' e) c n before =
      let a = alike T L q p in carry (λ z. grown_so_far L c n (front_with T L m) z) c n _ _ a.state a.place (a.grown c n before) (λ r b. met_read m r c n b) p'
  met_read (Meets.in_left _ m) (Reads.left _ p) c n before = met_read m p c n before
  met_read (Meets.in_left b m) (Reads.right b' p) c n before = absurd (clash _ b b')
  met_read (Meets.in_right b m) (Reads.left b' p) c n before = absurd (clash _ b' b)
  met_read (Meets.in_right _ m) (Reads.right _ p) c n before = met_read m p c n before
  met_read (Meets.in_maybe b m) (Reads.skip b') c n before = absurd (clash _ b b')
  met_read (Meets.in_maybe _ m) (Reads.take _ p) c n before = met_read m p c n before
  met_read (Meets.in_turn b m) (Reads.stop b') c n before = absurd (clash _ b b')
  met_read (Meets.in_turn _ m) (Reads.turn _ p p' e) c n before =
      starts_on _ _ _
      (turn_starts c before (grown_so_far L false n (front_with T L m) nothing_read) (grown L false n (derivation T L p) nothing_read) (grown_so_far L false n (front_with T L m) before) (grown L false n (derivation T L p) before) (met_read m p false n nothing_read) (met_read m p false n before))
      (derived_adds L (derivation T L p') c n _)
  met_read (Meets.in_later b q m) (Reads.stop b') c n before = absurd (clash _ b b')
  met_read (Meets.in_later _ q m) (Reads.turn _ p p' e) c n before =
      let a = alike T L q p in carry (λ z. grown_so_far L c n (front_with T L m) z) c n _ _ a.state a.place (per_turn c before _ _ _ _ (a.grown false n nothing_read) (a.grown false n before)) (λ r b. met_read m r c n b) p'
  met_read (Meets.in_chosen _ m) (Reads.chosen _ p) c n before = met_read m p c n before
  met_read (Meets.in_chosen b m) (Reads.other b' p) c n before = absurd (clash _ b b')
  met_read (Meets.in_other b m) (Reads.chosen b' p) c n before = absurd (clash _ b' b)
  met_read (Meets.in_other _ m) (Reads.other _ p) c n before = met_read m p c n before
  met_read (Meets.in_again b m) (Reads.done b') c n before = absurd (clash _ b b')
  met_read (Meets.in_again _ m) (Reads.again _ p p' e) c n before =
      starts_on _ _ _
      (turn_starts c before (grown_so_far L false n (front_with T L m) nothing_read) (grown L false n (derivation T L p) nothing_read) (grown_so_far L false n (front_with T L m) before) (grown L false n (derivation T L p) before) (met_read m p false n nothing_read) (met_read m p false n before))
      (derived_adds L (derivation T L p') c n _)
  met_read (Meets.in_further b q m) (Reads.done b') c n before = absurd (clash _ b b')
  met_read (Meets.in_further _ q m) (Reads.again _ p p' e) c n before =
      let a = alike T L q p in carry (λ z. grown_so_far L c n (front_with T L m) z) c n _ _ a.state a.place (per_turn c before _ _ _ _ (a.grown false n nothing_read) (a.grown false n before)) (λ r b. met_read m r c n b) p'

  -- likewise where the walk fails
  pub met_failed : {f : Form} {s : L.State} {ts rest rest' : List L.Token} (m : Meets T L f s ts rest) (p : Fails T L f s ts rest') (c : Bool) (n : ℕ) (before : Piece)
      → Starts (grown_so_far L c n (front_with T L m) before).marks (grown_so_far L c n (front T L p) before).marks
  unfolding grown grown_so_far derivation front front_with
  met_failed (Meets.at_word b) (Fails.at_word b') c n before = absurd (clash _ b b')
  met_failed (Meets.in_rule {r = r} m) (Fails.in_rule p) c n before =
      joined_starts before (grown_so_far L (is_chain r) (deeper (L.is_part r) n) (front_with T L m) nothing_read)
      (grown_so_far L (is_chain r) (deeper (L.is_part r) n) (front T L p) nothing_read) (met_failed m p (is_chain r) (deeper (L.is_part r) n) nothing_read)
  met_failed (Meets.in_first m) (Fails.in_first p) c n before = met_failed m p c n before
  met_failed (Meets.in_first m) (Fails.in_then p p') c n before = starts_on _ _ _ (met_read m p c n before) (begun_adds L (front T L p') c n _)
  met_failed (Meets.in_then q m) (Fails.in_first p) c n before = absurd (never T L q p)
  met_failed (Meets.in_then q m) (Fails.in_then p p') c n before =
      let a = alike T L q p in carry_front (λ z. grown_so_far L c n (front_with T L m) z) c n _ _ a.state a.place (a.grown c n before) (λ r b. met_failed m r c n b) p'
  met_failed (Meets.in_left _ m) (Fails.in_left _ p) c n before = met_failed m p c n before
  met_failed (Meets.in_left b m) (Fails.in_right b' p) c n before = absurd (clash _ b b')
  met_failed (Meets.in_right b m) (Fails.in_left b' p) c n before = absurd (clash _ b' b)
  met_failed (Meets.in_right _ m) (Fails.in_right _ p) c n before = met_failed m p c n before
  met_failed (Meets.in_maybe _ m) (Fails.in_maybe _ p) c n before = met_failed m p c n before
  met_failed (Meets.in_turn _ m) (Fails.in_turn _ p) c n before =
      front_starts c before (grown_so_far L false n (front_with T L m) nothing_read) (grown_so_far L false n (front T L p) nothing_read)
      (grown_so_far L false n (front_with T L m) before) (grown_so_far L false n (front T L p) before) (met_failed m p false n nothing_read)
      (met_failed m p false n before)
  met_failed (Meets.in_turn _ m) (Fails.in_later _ p p') c n before =
      starts_on _ _ _
      (turn_starts c before (grown_so_far L false n (front_with T L m) nothing_read) (grown L false n (derivation T L p) nothing_read) (grown_so_far L false n (front_with T L m) before) (grown L false n (derivation T L p) before) (met_read m p false n nothing_read) (met_read m p false n before))
      (begun_adds L (front T L p') c n _)
  met_failed (Meets.in_later _ q m) (Fails.in_turn _ p) c n before = absurd (never T L q p)
  met_failed (Meets.in_later _ q m) (Fails.in_later _ p p') c n before =
      let a = alike T L q p in carry_front (λ z. grown_so_far L c n (front_with T L m) z) c n _ _ a.state a.place (per_turn c before _ _ _ _ (a.grown false n nothing_read) (a.grown false n before)) (λ r b. met_failed m r c n b) p'
  met_failed (Meets.in_chosen _ m) (Fails.in_chosen _ p) c n before = met_failed m p c n before
  met_failed (Meets.in_chosen b m) (Fails.in_other b' p) c n before = absurd (clash _ b b')
  met_failed (Meets.in_other b m) (Fails.in_chosen b' p) c n before = absurd (clash _ b' b)
  met_failed (Meets.in_other _ m) (Fails.in_other _ p) c n before = met_failed m p c n before
  met_failed (Meets.in_again _ m) (Fails.in_again _ p) c n before =
      front_starts c before (grown_so_far L false n (front_with T L m) nothing_read) (grown_so_far L false n (front T L p) nothing_read)
      (grown_so_far L false n (front_with T L m) before) (grown_so_far L false n (front T L p) before) (met_failed m p false n nothing_read)
      (met_failed m p false n before)
  met_failed (Meets.in_again _ m) (Fails.in_further _ p p') c n before =
      starts_on _ _ _
      (turn_starts c before (grown_so_far L false n (front_with T L m) nothing_read) (grown L false n (derivation T L p) nothing_read) (grown_so_far L false n (front_with T L m) before) (grown L false n (derivation T L p) before) (met_read m p false n nothing_read) (met_read m p false n before))
      (begun_adds L (front T L p') c n _)
  met_failed (Meets.in_further _ q m) (Fails.in_again _ p) c n before = absurd (never T L q p)
  met_failed (Meets.in_further _ q m) (Fails.in_further _ p p') c n before =
      let a = alike T L q p in carry_front (λ z. grown_so_far L c n (front_with T L m) z) c n _ _ a.state a.place (per_turn c before _ _ _ _ (a.grown false n nothing_read) (a.grown false n before)) (λ r b. met_failed m r c n b) p'
