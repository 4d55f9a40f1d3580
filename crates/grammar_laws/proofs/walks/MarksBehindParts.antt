-- What is read behind parts that ended, and that no token has shown yet, makes the same piece, and its first token shows
-- them. So a parser needs no list of marks.
use Rattle.std.proofs.Common.{◌≡◌, ℕ, Bool, true, false, List, [], ◌∷◌, ◌++◌, refl, ap, ◌∙◌, arith}
use Rattle.std.specs.Prelude.{max, if◌then◌else◌}
use Rattle.model_grammar.specs.GrammarForm.{Form}
use Rattle.model_grammar.specs.Derivation.{Language, Derives, Begins}
use Rattle.grammar_laws.specs.DepthPlace.{Mark, Piece, nothing_read, one_token, joined, behind, chained, ends, shown, carried, deeper, is_chain, grown, grown_so_far}

piece : (m m' : List Mark) (h h' e e' : ℕ) → m ≡ m' → h ≡ h' → e ≡ e'
    → (let p : Piece = record { marks = m; height = h; ending = e } in p) ≡ (let p : Piece = record { marks = m'; height = h'; ending = e' } in p)
piece m m' h h' e e' p q r = rw (p, q, r) refl

max_max : (a b c : ℕ) → max (max a b) c ≡ max a (max b c)
max_max a b c = omega arith

shown_twice : (a b : ℕ) (ms : List Mark) → shown (max a b) ms ≡ shown a (shown b ms)
shown_twice a b [] = refl
shown_twice a b (m ∷ ms) = ap (λ z. let n : Mark = record { inside = m.inside; ended = z } in n ∷ ms) (max_max a b m.ended)

carried_twice : (a b : ℕ) (ms : List Mark) (c : ℕ) → carried (max a b) ms c ≡ carried a (shown b ms) (carried b ms c)
carried_twice a b [] c = max_max a b c
carried_twice a b (m ∷ ms) c = refl

marks_behind : (e b : ℕ) (xs ys : List Mark) → shown e xs ++ shown (carried e xs b) ys ≡ shown e (xs ++ shown b ys)
marks_behind e b [] ys = shown_twice e b ys
marks_behind e b (x ∷ xs) ys = refl

ending_behind : (e b : ℕ) (xs ys : List Mark) (c : ℕ) → carried (carried e xs b) ys c ≡ carried e (xs ++ shown b ys) (carried b ys c)
ending_behind e b [] ys c = carried_twice e b ys c
ending_behind e b (x ∷ xs) ys c = refl

joined_behind : (e : ℕ) (b p : Piece) → joined (behind e b) p ≡ behind e (joined b p)
joined_behind e b p = piece _ _ _ _ _ _ (marks_behind e b.ending b.marks p.marks) refl (ending_behind e b.ending b.marks p.marks p.ending)

chained_behind : (e : ℕ) (b p : Piece) → chained (behind e b) p ≡ behind e (chained b p)
chained_behind e b p = piece _ _ _ _ _ _ (marks_behind e b.ending b.marks p.marks) refl (ending_behind e b.ending b.marks p.marks p.ending)

turn_behind : (c : Bool) (e : ℕ) (b p q r : Piece) → q ≡ behind e r → (if c then chained (behind e b) p else q) ≡ behind e (if c then chained b p else r)
turn_behind true e b p q r h = chained_behind e b p
turn_behind false e b p q r h = h

front_behind : (c : Bool) (e : ℕ) (b p q r : Piece) → q ≡ behind e r → (if c then joined (behind e b) p else q) ≡ behind e (if c then joined b p else r)
front_behind true e b p q r h = joined_behind e b p
front_behind false e b p q r h = h

module _ (L : Language) where
  pub derived_behind : {f : Form} {s new : L.State} {ts rest : List L.Token} {xs : List L.Tree} (d : Derives L f s ts xs new rest) (c : Bool) (n e : ℕ) (b : Piece)
      → grown L c n d (behind e b) ≡ behind e (grown L c n d b)
  unfolding grown
  derived_behind (Derives.a_word h) c n e b = joined_behind e b (one_token n)
  derived_behind (Derives.a_rule {r = r} d) c n e b = joined_behind e b (ends (L.is_part r) (grown L (is_chain r) (deeper (L.is_part r) n) d nothing_read))
  derived_behind Derives.nothing c n e b = refl
  derived_behind (Derives.both d d' h) c n e b = ap (λ z. grown L c n d' z) (derived_behind d c n e b) ∙ derived_behind d' c n e _
  derived_behind (Derives.left d) c n e b = derived_behind d c n e b
  derived_behind (Derives.right d) c n e b = derived_behind d c n e b
  derived_behind Derives.skip c n e b = refl
  derived_behind (Derives.take d) c n e b = derived_behind d c n e b
  derived_behind Derives.stop c n e b = refl
  derived_behind (Derives.turn d d' h) c n e b =
      ap (λ z. grown L c n d' z) (turn_behind c e b (grown L false n d nothing_read) _ (grown L false n d b) (derived_behind d false n e b)) ∙ derived_behind d' c n e _
  derived_behind (Derives.chosen h d) c n e b = derived_behind d c n e b
  derived_behind (Derives.other h d) c n e b = derived_behind d c n e b
  derived_behind (Derives.done h) c n e b = refl
  derived_behind (Derives.again h d d' q) c n e b =
      ap (λ z. grown L c n d' z) (turn_behind c e b (grown L false n d nothing_read) _ (grown L false n d b) (derived_behind d false n e b)) ∙ derived_behind d' c n e _

  pub begun_behind : {f : Form} {s : L.State} {ts rest : List L.Token} (d : Begins L f s ts rest) (c : Bool) (n e : ℕ) (b : Piece)
      → grown_so_far L c n d (behind e b) ≡ behind e (grown_so_far L c n d b)
  unfolding grown_so_far
  begun_behind Begins.yet c n e b = refl
  begun_behind (Begins.in_word h) c n e b = joined_behind e b (one_token n)
  begun_behind (Begins.in_rule {r = r} d) c n e b = joined_behind e b (grown_so_far L (is_chain r) (deeper (L.is_part r) n) d nothing_read)
  begun_behind (Begins.in_first d) c n e b = begun_behind d c n e b
  begun_behind (Begins.in_then d d') c n e b = ap (λ z. grown_so_far L c n d' z) (derived_behind d c n e b) ∙ begun_behind d' c n e _
  begun_behind (Begins.in_left d) c n e b = begun_behind d c n e b
  begun_behind (Begins.in_right d) c n e b = begun_behind d c n e b
  begun_behind (Begins.in_maybe d) c n e b = begun_behind d c n e b
  begun_behind (Begins.in_turn d) c n e b = front_behind c e b (grown_so_far L false n d nothing_read) _ (grown_so_far L false n d b) (begun_behind d false n e b)
  begun_behind (Begins.in_later d d') c n e b =
      ap (λ z. grown_so_far L c n d' z) (turn_behind c e b (grown L false n d nothing_read) _ (grown L false n d b) (derived_behind d false n e b)) ∙ begun_behind d' c n e _
  begun_behind (Begins.in_chosen h d) c n e b = begun_behind d c n e b
  begun_behind (Begins.in_other h d) c n e b = begun_behind d c n e b
  begun_behind (Begins.in_again h d) c n e b = front_behind c e b (grown_so_far L false n d nothing_read) _ (grown_so_far L false n d b) (begun_behind d false n e b)
  begun_behind (Begins.in_further h d d') c n e b =
      ap (λ z. grown_so_far L c n d' z) (turn_behind c e b (grown L false n d nothing_read) _ (grown L false n d b) (derived_behind d false n e b)) ∙ begun_behind d' c n e _
