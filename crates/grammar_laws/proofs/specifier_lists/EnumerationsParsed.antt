-- How the parser goes on at an enumeration with a tag, as its test decides, and at braces.
use Rattle.std.proofs.Common.{arith, ◌≡◌, ◌≤◌, ℕ, zero, suc, ◌+◌, Bool, true, false, ◌&&◌, ◌||◌, List, [], ◌∷◌, length, refl, sym, ap, subst, ◌∙◌}
use Rattle.std.specs.Prelude.{◌==◌}
use Rattle.model_grammar.specs.declared.grammar.Rule.TheVariants as r
use Rattle.model_grammar.specs.declared.grammar.Test.TheVariants as test
use Rattle.model_grammar.specs.declared.grammar.Terminal.{Terminal}
use Rattle.model_grammar.specs.declared.grammar.Entry.{Entry}
use Rattle.model_grammar.specs.declared.grammar.Reading.{Reading}
use Rattle.model_grammar.specs.declared.grammar.Frame.{Frame}
use Rattle.model_grammar.specs.declared.grammar.Within.TheVariants.{Between}
use Rattle.model_grammar.specs.GrammarForm.{rule, ◌then◌, maybe, mem}
use Rattle.model_grammar.specs.Grammar.{token}
use Rattle.model_grammar.specs.Terminals as k
use Rattle.model_grammar.specs.NameScopes.{Scopes, kind, fresh, specified}
use Rattle.model_grammar.specs.Derivation.{Derives}
use Rattle.grammar_laws.specs.ParserTable.{table}
use Rattle.model_grammar.specs.SyntaxTree.{sees_type}
use Rattle.grammar_laws.specs.ParserTests.{passes, sees}
use Rattle.grammar_laws.proofs.kinds.KindSets.{clash}
use Rattle.grammar_laws.proofs.kinds.TokenKinds.{shown}
use Rattle.grammar_laws.proofs.scans.ScansReadNames.{lacks_alike}
use Rattle.grammar_laws.proofs.specifier_lists.WhatRemains.{Item, Continues, in_then, in_maybe, in_chosen, in_other}
use Rattle.grammar_laws.proofs.specifier_lists.ListInPieces.{braced, based, enumerated, at, here, lacks, frame_of, begun, Run, IsTag, Comes}
use Rattle.grammar_laws.proofs.specifier_lists.OpenLists.{count, sees_alike, tag_word, Done, items, At, typed_at, left, prepended, to_braces, enum_first, head_first, squals_first}
use Rattle.grammar_laws.proofs.specifier_lists.TestsOnPieces.{enum_type}

-- as many wait as the pieces say, or there are braces to spare
pub data Within (es : List Entry) (q p : ℕ) (y : Bool) (ts : List Terminal) : Type 0 where
  fits : q ≤ p → Within es q p y ts
  spare : lacks es p y ts ≡ false → Within es q p y ts

-- each that waits is owed braces, where the list is derived to its end
abbrev pub Owes : List Entry → Bool → ℕ → Bool → List Terminal → Type 0
Owes es c p y ts = c ≡ true → (w : ℕ) → p ≡ suc w → lacks es w y ts ≡ true

pub within_moved : (es : List Entry) (q p : ℕ) (y y' : Bool) (ts later : List Terminal) → lacks es p y ts ≡ lacks es p y' later → Within es q p y ts → Within es q p y' later
within_moved es q p y y' ts later e (Within.fits l) = Within.fits l
within_moved es q p y y' ts later e (Within.spare h) = Within.spare (sym e ∙ h)

pub within_taken : (es : List Entry) (q p : ℕ) (y : Bool) (ts : List Terminal) → Within es q p y ts → lacks es p y ts ≡ true → q ≤ p
within_taken es q p y ts (Within.fits l) h = l
within_taken es q p y ts (Within.spare e) h = absurd (clash _ h e)

-- the same before the braces of one more
pub data Left (es : List Entry) (q p : ℕ) (y : Bool) (ts : List Terminal) : Type 0 where
  fits : q ≤ p → Left es q p y ts
  spare : lacks es (suc p) y ts ≡ false → Left es q p y ts

abbrev pub Owed : List Entry → Bool → ℕ → Bool → List Terminal → Type 0
Owed es c p y ts = c ≡ true → (w : ℕ) → p ≡ suc w → lacks es p y ts ≡ true

module _ (R : Run) where
  -- what takes the braces that come
  abbrev pub Takes : Bool → ℕ → Bool → Reading → List Terminal → Type 0
  Takes c q y o ts =
      (ls : List Bool) (reading : Reading) (f : Frame) (fs : List Frame) → f.count ≡ length R.names → At R ls (specified f.reading) fs true o → Left R.names q (count ls) y ts → Owed R.names c (count ls) y ts → Done R (Item.form braced ∷ Item.shut r.Enum ∷ Item.shut r.Typespec ∷ items R ls) (at R.names reading (f ∷ fs)) ts

  -- braces that come where enumerations wait for them
  pub waiting_group : (c : Bool) (q p : ℕ) (y : Bool) (o : Reading) (ts : List Terminal) → sees_type (here R.names y) ts ≡ false → Takes c q y o ts
      → {ls : List Bool} {reading : Reading} {fs : List Frame} → At R ls reading fs y o → count ls ≡ suc p → Left R.names q p y ts → Owed R.names c p y ts → Done R (items R ls) (at R.names reading fs) ts
  waiting_group c q p y o ts e takes a n w d =
      to_braces R a p n e (λ ls reading f fs m i b. takes ls reading f fs i b (subst (λ z. Left R.names q z y ts) (sym m) w) (subst (λ z. Owed R.names c z y ts) (sym m) d))

  pub at_group : (c : Bool) (q n : ℕ) (y : Bool) (o : Reading) (ts : List Terminal) → sees_type (here R.names y) ts ≡ false → lacks R.names 0 y ts ≡ true → Takes c q y o ts
      → {ls : List Bool} {reading : Reading} {fs : List Frame} → At R ls reading fs y o → count ls ≡ n → Within R.names (suc q) n y ts → Owes R.names c n y ts → Done R (items R ls) (at R.names reading fs) ts
  at_group c q zero y o ts e z takes a m (Within.fits l) d = absurd (omega (arith, l))
  at_group c q zero y o ts e z takes a m (Within.spare h) d = absurd (clash _ z h)
  at_group c q (suc p) y o ts e z takes a m (Within.fits l) d = waiting_group c q p y o ts e takes a m (Left.fits (omega (arith, l))) (λ v w i. d v p refl)
  at_group c q (suc p) y o ts e z takes a m (Within.spare h) d = waiting_group c q p y o ts e takes a m (Left.spare h) (λ v w i. d v p refl)

  -- the test of enumerators behind a tag
  abbrev pub test_of : List Frame → Reading → Terminal → List Terminal → Bool
  test_of fs reading t later = passes test.EnumeratorsAhead (at R.names (begun reading) (frame_of R.names reading ∷ fs)) (t ∷ later)

  pub tested : (fs : List Frame) (reading : Reading) (t : Terminal) (later : List Terminal) → (t.kind == k.Name) ≡ true
      → test_of fs reading t later ≡ ((sees k.OpenBrace later || sees k.Colon later) && lacks R.names reading.waiting true later)
  tested fs reading t later h =
      rw h
      (ap (λ z. (sees k.OpenBrace later || sees k.Colon later) && z) (lacks_alike later reading.waiting (Between true) (here R.names false) (at R.names (begun reading) (frame_of R.names reading ∷ fs)) refl))

  pub enum_at : {y : Bool} {t : Terminal} {ts later : List Terminal} {ls : List Bool} {reading o : Reading} {fs : List Frame} → IsTag R.names y t ts later → At R ls reading fs y o
      → Done R (Item.form enumerated ∷ Item.shut r.Enum ∷ Item.shut r.Typespec ∷ items R ls) (at R.names (begun reading) (frame_of R.names reading ∷ fs)) (t ∷ later) → Done R (items R ls) (at R.names reading fs) ts
  unfolding table
  enum_at {y = y} {ts = ts} {ls = ls} {reading = reading} {fs = fs} i a h =
      prepended R ls (at R.names reading fs) ts (sees_alike R.names reading fs y ts (typed_at R a) ∙ enum_type R.names y i.head) (enum_first R (head_first R k.Enum enumerated refl refl refl i.head h))

  with_tag : (reading : Reading) (F : List Frame) (t : Terminal) (later : List Terminal) (k' : List Item) → (t.kind == k.Name) ≡ true
      → passes test.EnumeratorsAhead (at R.names (begun reading) F) (t ∷ later) ≡ true
      → Done R (Item.form (based then braced) ∷ k') (at R.names (specified (begun reading)) F) later
      → Done R (Item.form enumerated ∷ k') (at R.names (begun reading) F) (t ∷ later)
  with_tag reading F t later k' n e h = in_chosen _ _ e (in_then _ _ (Continues.go (Derives.take (Derives.a_word (tag_word R.names (begun reading) F t refl n))) h))

  without : (reading : Reading) (F : List Frame) (t : Terminal) (later : List Terminal) (k' : List Item) → (t.kind == k.Name) ≡ true
      → passes test.EnumeratorsAhead (at R.names (begun reading) F) (t ∷ later) ≡ false
      → Done R (Item.form (maybe (token k.Colon then rule r.Squals)) ∷ k') (at R.names (specified (begun reading)) F) later
      → Done R (Item.form enumerated ∷ k') (at R.names (begun reading) F) (t ∷ later)
  without reading F t later k' n e h = in_other _ _ e (in_then _ _ (Continues.go (Derives.a_word (tag_word R.names (begun reading) F t refl n)) h))

  -- an enumeration by its tag alone, and one with braces
  pub tag_alone : {y : Bool} {t : Terminal} {ts later : List Terminal} {ls : List Bool} {reading o : Reading} {fs : List Frame} → IsTag R.names y t ts later
      → At R ls reading fs y o → test_of fs reading t later ≡ false
      → Done R (items R ls) (at R.names (specified reading) fs) later → Done R (items R ls) (at R.names reading fs) ts
  tag_alone {t = t} {later = later} {reading = reading} {fs = fs} i a e h =
      enum_at i a (without reading (frame_of R.names reading ∷ fs) t later _ i.named e (Continues.go Derives.skip (left R refl h)))

  pub tag_braces : {y : Bool} {t : Terminal} {ts later : List Terminal} {ls : List Bool} {reading o : Reading} {fs : List Frame} → IsTag R.names y t ts later
      → At R ls reading fs y o → test_of fs reading t later ≡ true
      → Done R (Item.form braced ∷ Item.shut r.Enum ∷ Item.shut r.Typespec ∷ items R ls) (at R.names (specified (begun reading)) (frame_of R.names reading ∷ fs)) later → Done R (items R ls) (at R.names reading fs) ts
  tag_braces {t = t} {later = later} {reading = reading} {fs = fs} i a e h =
      enum_at i a (with_tag reading (frame_of R.names reading ∷ fs) t later _ i.named e (in_then _ _ (Continues.go Derives.skip h)))

  pub one_more : (p w : ℕ) → p ≡ w → p + 1 ≡ suc w
  one_more p w q = omega (arith, q)

  pub colon_word : (s : Scopes) (t : Terminal) → (t.kind == k.Colon) ≡ true → mem (kind s t) (k.Colon ∷ []) ≡ true
  colon_word s t h = shown k.Colon refl refl refl s t h

  -- with `:`, where it takes braces and where it doesn't
  pub tag_colon_takes : {y : Bool} {t u : Terminal} {ts later : List Terminal} {ls : List Bool} {reading o : Reading} {fs : List Frame}
      → IsTag R.names y t ts (u ∷ later) → (u.kind == k.Colon) ≡ true → Comes R later → At R ls reading fs y o → test_of fs reading t (u ∷ later) ≡ true
      → Done R (items R (true ∷ ls)) (at R.names (record fresh { waiting = reading.waiting + 1 }) (frame_of R.names reading ∷ fs)) later → Done R (items R ls) (at R.names reading fs) ts
  tag_colon_takes {t = t} {u = u} {later = later} {reading = reading} {fs = fs} i v m a e h =
      let F = frame_of R.names reading ∷ fs in
      enum_at i a
      (with_tag reading F t (u ∷ later) _ i.named e (in_then _ _ (in_maybe _ _ (in_then _ _ (Continues.go (Derives.a_word (colon_word (at R.names (specified (begun reading)) F) u v)) (squals_first R refl m h))))))

  pub tag_colon_silent : {y : Bool} {t u : Terminal} {ts later : List Terminal} {ls : List Bool} {reading o : Reading} {fs : List Frame}
      → IsTag R.names y t ts (u ∷ later) → (u.kind == k.Colon) ≡ true → Comes R later → At R ls reading fs y o → test_of fs reading t (u ∷ later) ≡ false
      → Done R (items R (false ∷ ls)) (at R.names (begun reading) (frame_of R.names reading ∷ fs)) later → Done R (items R ls) (at R.names reading fs) ts
  tag_colon_silent {t = t} {u = u} {later = later} {reading = reading} {fs = fs} i v m a e h =
      let F = frame_of R.names reading ∷ fs in
      enum_at i a
      (without reading F t (u ∷ later) _ i.named e (in_maybe _ _ (in_then _ _ (Continues.go (Derives.a_word (colon_word (at R.names (specified (begun reading)) F) u v)) (squals_first R refl m h)))))
