-- The parser's derivation of a list that is known by its pieces: it is done, or begun, wherever the pieces are.
use Rattle.std.proofs.Common.{arith, ◌≡◌, ◌≤◌, ℕ, zero, suc, ◌+◌, Bool, true, false, not, ◌&&◌, ◌||◌, List, [], ◌∷◌, length, refl, sym, ap, subst, ◌∙◌}
use Rattle.std.specs.Prelude.{◌==◌}
use Rattle.std.proofs.lemmas.Bool.{eqb-true}
use Rattle.model_grammar.specs.declared.grammar.Rule.TheVariants as r
use Rattle.model_grammar.specs.declared.grammar.Test.TheVariants as test
use Rattle.model_grammar.specs.declared.grammar.Terminal.{Terminal}
use Rattle.model_grammar.specs.declared.grammar.Entry.{Entry}
use Rattle.model_grammar.specs.declared.grammar.Reading.{Reading}
use Rattle.model_grammar.specs.declared.grammar.Frame.{Frame}
use Rattle.model_grammar.specs.GrammarForm.{Form, rule, ◌then◌, ◌or◌, mem}
use Rattle.model_grammar.specs.NameScopes.{Scopes, kind, fresh, specified}
use Rattle.model_grammar.specs.Derivation.{Derives, Begins}
use Rattle.grammar_laws.specs.ParserTable.{table}
use Rattle.model_grammar.specs.SyntaxTree.{sees_type}
use Rattle.model_grammar.specs.Terminals as k
use Rattle.grammar_laws.specs.ParserTests.{parsed, passes, sees, sees_name}
use Rattle.grammar_laws.proofs.kinds.KindSets.{clash}
use Rattle.grammar_laws.proofs.kinds.TokenKinds.{shown}
use Rattle.grammar_laws.proofs.scans.ScansReadNames.{name_alike}
use Rattle.grammar_laws.proofs.enumerations.BracesScanStep.{tag_colon}
use Rattle.grammar_laws.proofs.specifier_lists.WhatRemains.{Item, Continues, in_then, in_left, in_maybe, in_chosen, in_other}
use Rattle.grammar_laws.proofs.specifier_lists.ListInPieces.{tag, braced, enumerated, membered, at, here, lacks, behind, frame_of, begun, Run, IsTag, IsStructTag, IsOpening, Comes, Plain, Flat, Tail}
use Rattle.grammar_laws.proofs.specifier_lists.OpenLists.{count, sees_alike, tag_word, kept, Done, halted, items, At, typed_at, waiting_at, specify, settle, push, left, prepended, cut, all_end, to_braces, enum_first, struct_first, head_first, squals_first}
use Rattle.grammar_laws.proofs.specifier_lists.TestsOnPieces.{tail_lacks, enum_type, struct_type, tag_of_braces, tag_of_word, Braces, tail_braces, tail_ends, braces_end, owed}
use Rattle.grammar_laws.proofs.specifier_lists.EnumerationsParsed.{Within, Owes, within_moved, within_taken, Left, Owed, Takes, waiting_group, at_group, test_of, tested, tag_alone, tag_braces, one_more, colon_word, tag_colon_takes, tag_colon_silent}

none_of : (a b c : Bool) → a ≡ false → b ≡ false → ((a || b) && c) ≡ false
none_of a b c p q = rw (p, q) refl

last_of : (a b c : Bool) → (a || b) ≡ true → ((a || b) && c) ≡ c
last_of a b c h = rw h refl

or_left : (a b : Bool) → a ≡ true → (a || b) ≡ true
or_left true b h = refl
or_left false b h = absurd (cc)

or_last : (a b : Bool) → b ≡ true → (a || b) ≡ true
or_last true b h = refl
or_last false b h = h

either_true : (a b : Bool) → (a || not b) ≡ false → (a ≡ false) × (b ≡ true)
either_true true b h = absurd (cc)
either_true false true h = (refl, refl)
either_true false false h = absurd (cc)

named_zero : (p : ℕ) (b : Bool) → ((p == 0) || not b) ≡ true → b ≡ true → p ≡ 0
named_zero p true h n = by (p == 0) refl h
  where
    by : (x : Bool) → (p == 0) ≡ x → (x || false) ≡ true → p ≡ 0
    by true q h = eqb-true p 0 q
    by false q h = absurd (cc)
named_zero p false h n = absurd (cc)

module _ (R : Run) where
  -- `:` and no tag
  opening_takes : {y : Bool} {t : Terminal} {ts later : List Terminal} {ls : List Bool} {reading o : Reading} {fs : List Frame} → IsOpening R.names y t ts later
      → Comes R later → At R ls reading fs y o
      → Done R (items R (true ∷ ls)) (at R.names (record fresh { waiting = reading.waiting + 1 }) (frame_of R.names reading ∷ fs)) later → Done R (items R ls) (at R.names reading fs) ts
  unfolding table
  opening_takes {y = y} {t = t} {ts = ts} {later = later} {ls = ls} {reading = reading} {fs = fs} i m a h =
      let F = frame_of R.names reading ∷ fs in
      let s = at R.names (begun reading) F in
      let p : t.kind ≡ k.Colon = eqb-true t.kind k.Colon i.colon in
      let e : passes test.EnumeratorsAhead s (t ∷ later) ≡ true = rw p refl in
      prepended R ls (at R.names reading fs) ts (sees_alike R.names reading fs y ts (typed_at R a) ∙ enum_type R.names y i.head)
      (enum_first R (head_first R k.Enum enumerated refl refl refl i.head (in_chosen _ _ e (in_then _ _ (Continues.go Derives.skip (in_then _ _ (in_maybe _ _ (in_then _ _ (Continues.go (Derives.a_word (colon_word R s t i.colon)) (squals_first R refl m h))))))))))

  -- the tag of a structure
  left_structure : {later : List Item} {reading : Reading} {fs : List Frame} {ts : List Terminal} → Done R later (at R.names (specified reading) fs) ts
      → Done R (Item.shut r.Struct ∷ Item.shut r.Typespec ∷ later) (at R.names (specified (begun reading)) (frame_of R.names reading ∷ fs)) ts
  left_structure {later = later} {reading = reading} {fs = fs} {ts = ts} h = Continues.ended (Continues.ended (subst (λ z. Done R later (at z (specified reading) fs) ts) (sym (kept R.names [])) h))

  struct_at : {y : Bool} {t : Terminal} {ts later : List Terminal} {ls : List Bool} {reading o : Reading} {fs : List Frame} → IsStructTag R.names y t ts later → At R ls reading fs y o
      → Done R (Item.form membered ∷ Item.shut r.Struct ∷ Item.shut r.Typespec ∷ items R ls) (at R.names (specified (begun reading)) (frame_of R.names reading ∷ fs)) later → Done R (items R ls) (at R.names reading fs) ts
  unfolding table
  struct_at {y = y} {t = t} {ts = ts} {ls = ls} {reading = reading} {fs = fs} i a h =
      prepended R ls (at R.names reading fs) ts (sees_alike R.names reading fs y ts (typed_at R a) ∙ struct_type R.names y i.head)
      (struct_first R (head_first R k.Struct (tag then membered or rule r.Members) refl refl refl i.head (in_left _ _ (in_then _ _ (Continues.go (Derives.a_word (tag_word R.names (begun reading) (frame_of R.names reading ∷ fs) t refl i.named)) h)))))

  abbrev members_of : List Frame → Reading → List Terminal → Bool
  members_of fs reading later = passes test.BraceAhead (at R.names (specified (begun reading)) (frame_of R.names reading ∷ fs)) later

  struct_alone : {y : Bool} {t : Terminal} {ts later : List Terminal} {ls : List Bool} {reading o : Reading} {fs : List Frame}
      → IsStructTag R.names y t ts later → At R ls reading fs y o → members_of fs reading later ≡ false
      → Done R (items R ls) (at R.names (specified reading) fs) later → Done R (items R ls) (at R.names reading fs) ts
  struct_alone i a e h = struct_at i a (in_other _ _ e (Continues.go Derives.nothing (left_structure h)))

  free_members : (fs : List Frame) (reading : Reading) (later : List Terminal) → sees k.OpenBrace later ≡ false → members_of fs reading later ≡ false
  free_members fs reading [] h = refl
  free_members fs reading (t ∷ ts) h = rw h refl

  named_alike : (fs : List Frame) (reading : Reading) (us : List Terminal) → sees_name (at R.names (specified (begun reading)) (frame_of R.names reading ∷ fs)) us ≡ sees_name (here R.names false) us
  named_alike fs reading us = name_alike us (here R.names false) (at R.names (specified (begun reading)) (frame_of R.names reading ∷ fs)) refl

  brace_members : (fs : List Frame) (reading : Reading) (t : Terminal) (us : List Terminal) → (t.kind == k.OpenBrace) ≡ true
      → members_of fs reading (t ∷ us) ≡ ((reading.waiting == 0) || not (sees_name (here R.names false) us))
  brace_members fs reading t us h = rw h (ap (λ z. (reading.waiting == 0) || not z) (named_alike fs reading us))

  owes_moved : (c : Bool) (n : ℕ) (y y' : Bool) (ts later : List Terminal) → ((w : ℕ) → lacks R.names w y ts ≡ lacks R.names w y' later) → Owes R.names c n y ts → Owes R.names c n y' later
  owes_moved c n y y' ts later e d v w q = sym (e w) ∙ d v w q

  no_room : (q n : ℕ) (y : Bool) (ts : List Terminal) → Within R.names (suc q) n y ts → n ≡ 0 → lacks R.names 0 y ts ≡ true → ⊥
  no_room q n y ts (Within.fits l) e z = omega (arith, l, e)
  no_room q n y ts (Within.spare h) e z = clash (lacks R.names n y ts) (subst (λ x. lacks R.names x y ts ≡ true) (sym e) z) h

  cut_at : {f : Form} {later : List Item} (s : Scopes) (ts : List Terminal) → R.whole ≡ false → ts ≡ R.rest → Done R (Item.form f ∷ later) s ts
  cut_at {f = f} {later = later} s ts v q = subst (λ z. Done R (Item.form f ∷ later) s z) (sym q) (halted R v Begins.yet)

  -- the tag of a structure, and what comes behind it
  at_structure : {c y : Bool} {q : ℕ} {t : Terminal} {ts later : List Terminal} {ls : List Bool} {reading o : Reading} {fs : List Frame}
      → IsStructTag R.names y t ts later → Plain R c later → At R ls reading fs y o
      → Within R.names q (count ls) y ts → Owes R.names c (count ls) y ts → (Within R.names q (count ls) true later → Owes R.names c (count ls) true later → Done R (items R ls) (at R.names (specified reading) fs) later) → Done R (items R ls) (at R.names reading fs) ts
  at_structure {c = c} {y = y} {q = q} {ts = ts} {later = later} {ls = ls} {reading = reading} {fs = fs} i (Plain.free b x) a w d h =
      let e : (n : ℕ) → lacks R.names n y ts ≡ lacks R.names n true later = λ n. i.lacking n ∙ tag_of_word n (here R.names false) later b in
      struct_alone i a (free_members fs reading later b) (h (within_moved R.names q (count ls) y true ts later (e (count ls)) w) (owes_moved c (count ls) y true ts later e d))
  at_structure {later = later} {reading = reading} {fs = fs} i (Plain.cut v z p) a w d h = struct_at i a (cut_at (at R.names (specified (begun reading)) (frame_of R.names reading ∷ fs)) later v p)

  no_members : {c y : Bool} {q : ℕ} {t u : Terminal} {ts us : List Terminal} {ls : List Bool} {reading o : Reading} {fs : List Frame}
      → IsStructTag R.names y t ts (u ∷ us) → (u.kind == k.OpenBrace) ≡ true → sees_name (here R.names false) us ≡ true → lacks R.names 0 true (u ∷ us) ≡ true
      → At R ls reading fs y o
      → Within R.names (suc q) (count ls) y ts → Owes R.names c (count ls) y ts → Takes R c q true (specified o) (u ∷ us) → sees_type (here R.names true) (u ∷ us) ≡ false → (b : Bool) → members_of fs reading (u ∷ us) ≡ b → Done R (items R ls) (at R.names reading fs) ts
  no_members {c = c} {y = y} {q = q} {u = u} {ts = ts} {us = us} {ls = ls} {reading = reading} {o = o} {fs = fs} i h n z a w d takes e b m =
      let l : (v : ℕ) → lacks R.names v y ts ≡ lacks R.names v true (u ∷ us) = λ v. i.lacking v ∙ tag_of_braces v (here R.names false) u us h n in
      let w' = within_moved R.names (suc q) (count ls) y true ts (u ∷ us) (l (count ls)) w in
      by b m w' l
    where
      by : (b : Bool) → members_of fs reading (u ∷ us) ≡ b → Within R.names (suc q) (count ls) true (u ∷ us)
          → ((v : ℕ) → lacks R.names v y ts ≡ lacks R.names v true (u ∷ us)) → Done R (items R ls) (at R.names reading fs) ts
      by true m w' l = absurd (no_room q (count ls) true (u ∷ us) w' (sym (waiting_at R a) ∙ named_zero reading.waiting (sees_name (here R.names false) us) (sym (brace_members fs reading u us h) ∙ m) n) z)
      by false m w' l = struct_alone i a m (at_group R c q (count ls) true (specified o) (u ∷ us) e z takes (specify R a) refl w' (owes_moved c (count ls) y true ts (u ∷ us) l d))

  brace_word : (s : Scopes) (t : Terminal) → (t.kind == k.OpenBrace) ≡ true → mem (kind s t) (k.OpenBrace ∷ []) ≡ true
  brace_word s t h = shown k.OpenBrace refl refl refl s t h

  members_begun : (s : Scopes) (u : Terminal) (us : List Terminal) → (u.kind == k.OpenBrace) ≡ true → passes test.BraceAhead s (u ∷ us) ≡ true → Begins parsed membered s (u ∷ us) us
  unfolding table
  members_begun s u us h m = Begins.in_chosen m (Begins.in_rule (Begins.in_first (Begins.in_word (brace_word s u h))))

  lone_brace : {c y : Bool} {q : ℕ} {t u : Terminal} {ts us : List Terminal} {ls : List Bool} {reading o : Reading} {fs : List Frame}
      → IsStructTag R.names y t ts (u ∷ us) → (u.kind == k.OpenBrace) ≡ true → R.whole ≡ false → us ≡ R.rest → lacks R.names 0 true (u ∷ us) ≡ true
      → At R ls reading fs y o
      → Within R.names (suc q) (count ls) y ts → Owes R.names c (count ls) y ts → Takes R c q true (specified o) (u ∷ us) → sees_type (here R.names true) (u ∷ us) ≡ false → (b : Bool) → members_of fs reading (u ∷ us) ≡ b → Done R (items R ls) (at R.names reading fs) ts
  lone_brace {u = u} {us = us} {ls = ls} {reading = reading} {fs = fs} i h v x z a w d takes e true m =
      let s = at R.names (specified (begun reading)) (frame_of R.names reading ∷ fs) in
      struct_at i a (halted R v (subst (λ r. Begins parsed membered s (u ∷ us) r) x (members_begun s u us h m)))
  lone_brace {u = u} {us = us} {reading = reading} {fs = fs} i h v x z a w d takes e false m =
      no_members i h (either_true _ _ (sym (brace_members fs reading u us h) ∙ m)).1 z a w d takes e false m

  at_structure_before : {c y : Bool} {q : ℕ} {t : Terminal} {ts later : List Terminal} {ls : List Bool} {reading o : Reading} {fs : List Frame}
      → IsStructTag R.names y t ts later → Braces R c later → lacks R.names 0 true later ≡ true → At R ls reading fs y o
      → Within R.names (suc q) (count ls) y ts → Owes R.names c (count ls) y ts → Takes R c q true (specified o) later → sees_type (here R.names true) later ≡ false → Done R (items R ls) (at R.names reading fs) ts
  at_structure_before {c = c} {y = y} {q = q} {t = t} {ts = ts} {ls = ls} {reading = reading} {o = o} {fs = fs} i (Braces.named {t = u} {us = us} p h n) z a w d takes e =
      no_members {c = c} {q = q} (subst (λ l. IsStructTag R.names y t ts l) p i) h n (subst (λ l. lacks R.names 0 true l ≡ true) p z) a w d
      (subst (λ l. Takes R c q true (specified o) l) p takes) (subst (λ l. sees_type (here R.names true) l ≡ false) p e) (members_of fs reading (u ∷ us)) refl
  at_structure_before {c = c} {y = y} {q = q} {t = t} {ts = ts} {ls = ls} {reading = reading} {o = o} {fs = fs} i (Braces.alone {t = u} {us = us} v m p h x) z a w d takes e =
      lone_brace {c = c} {q = q} (subst (λ l. IsStructTag R.names y t ts l) p i) h v x (subst (λ l. lacks R.names 0 true l ≡ true) p z) a w d
      (subst (λ l. Takes R c q true (specified o) l) p takes) (subst (λ l. sees_type (here R.names true) l ≡ false) p e) (members_of fs reading (u ∷ us)) refl

  -- one brace behind it, where the tokens end
  group_begun : (s : Scopes) (u : Terminal) (us : List Terminal) → (u.kind == k.OpenBrace) ≡ true → Begins parsed braced s (u ∷ us) us
  group_begun s u us h = Begins.in_first (Begins.in_word (brace_word s u h))

  some_wait : (ls : List Bool) (b : Bool) (n : ℕ) → n ≡ count ls → ((n == 0) || not b) ≡ false → (p : ℕ) × (count ls ≡ suc p)
  some_wait ls b n q h = by (count ls) refl
    where
      by : (m : ℕ) → count ls ≡ m → (p : ℕ) × (count ls ≡ suc p)
      by zero e = let z : n ≡ 0 = q ∙ e in absurd (clash ((n == 0) || not b) (rw z refl) h)
      by (suc p) e = (p, e)

  at_structure_cut : {y : Bool} {t u : Terminal} {ts : List Terminal} {ls : List Bool} {reading o : Reading} {fs : List Frame}
      → IsStructTag R.names y t ts (u ∷ R.rest) → R.whole ≡ false → (u.kind == k.OpenBrace) ≡ true → At R ls reading fs y o
      → Done R (items R ls) (at R.names reading fs) ts
  at_structure_cut {u = u} {ts = ts} {ls = ls} {reading = reading} {fs = fs} i v h a = by (members_of fs reading (u ∷ R.rest)) refl
    where
      by : (b : Bool) → members_of fs reading (u ∷ R.rest) ≡ b → Done R (items R ls) (at R.names reading fs) ts
      by true m = let s = at R.names (specified (begun reading)) (frame_of R.names reading ∷ fs) in struct_at i a (halted R v (members_begun s u R.rest h m))
      by false m =
          let w = some_wait ls (sees_name (here R.names false) R.rest) reading.waiting (waiting_at R a) (sym (brace_members fs reading u R.rest h) ∙ m) in
          struct_alone i a m (to_braces R (specify R a) w.0 w.1 (braces_end R.names true u R.rest h) (λ ls' reading' f fs' n c b. halted R v (group_begun (at R.names reading' (f ∷ fs')) u R.rest h)))

  -- the tag of an enumeration
  at_enumeration : {c y : Bool} {q : ℕ} {t : Terminal} {ts later : List Terminal} {ls : List Bool} {reading o : Reading} {fs : List Frame}
      → IsTag R.names y t ts later → Plain R c later → At R ls reading fs y o
      → Within R.names q (count ls) y ts → Owes R.names c (count ls) y ts → (Within R.names q (count ls) true later → Owes R.names c (count ls) true later → Done R (items R ls) (at R.names (specified reading) fs) later) → Done R (items R ls) (at R.names reading fs) ts
  at_enumeration {c = c} {y = y} {q = q} {t = t} {ts = ts} {later = later} {ls = ls} {reading = reading} {fs = fs} i (Plain.free b x) a w d h =
      tag_alone R i a (tested R fs reading t later i.named ∙ none_of _ _ _ b x)
      (h (within_moved R.names q (count ls) y true ts later (i.lacking (count ls)) w) (owes_moved c (count ls) y true ts later i.lacking d))
  at_enumeration {t = t} {ts = ts} {later = later} {ls = ls} {reading = reading} {fs = fs} i (Plain.cut v z p) a w d h = by (test_of R fs reading t later) refl
    where
      by : (b : Bool) → test_of R fs reading t later ≡ b → Done R (items R ls) (at R.names reading fs) ts
      by true m = tag_braces R i a m (cut_at (at R.names (specified (begun reading)) (frame_of R.names reading ∷ fs)) later v p)
      by false m = tag_alone R i a m (subst (λ l. Done R (items R ls) (at R.names (specified reading) fs) l) (sym p) (cut R ls (at R.names (specified reading) fs) v))

  brace_test : (fs : List Frame) (reading : Reading) (t : Terminal) (later : List Terminal) (n : ℕ) → (t.kind == k.Name) ≡ true → sees k.OpenBrace later ≡ true
      → reading.waiting ≡ n → test_of R fs reading t later ≡ lacks R.names n true later
  brace_test fs reading t later n h b q =
      tested R fs reading t later h ∙
      (last_of (sees k.OpenBrace later) (sees k.Colon later) (lacks R.names reading.waiting true later) (or_left (sees k.OpenBrace later) (sees k.Colon later) b) ∙ ap (λ z. lacks R.names z true later) q)

  colon_test : (fs : List Frame) (reading : Reading) (t u : Terminal) (later : List Terminal) (n : ℕ) → (t.kind == k.Name) ≡ true → (u.kind == k.Colon) ≡ true
      → reading.waiting ≡ n → test_of R fs reading t (u ∷ later) ≡ lacks R.names n false later
  colon_test fs reading t u later n h b q =
      tested R fs reading t (u ∷ later) h ∙
      (last_of (u.kind == k.OpenBrace) (u.kind == k.Colon) (lacks R.names reading.waiting true (u ∷ later)) (or_last (u.kind == k.OpenBrace) (u.kind == k.Colon) b) ∙ (ap (λ z. lacks R.names z true (u ∷ later)) q ∙ tag_colon n (here R.names false) u later b))

  -- with braces behind it
  tag_takes : {c y : Bool} {q : ℕ} {t : Terminal} {ts later : List Terminal} {ls : List Bool} {reading o : Reading} {fs : List Frame}
      → IsTag R.names y t ts later → At R ls reading fs y o → q ≤ count ls → lacks R.names (count ls) true later ≡ true
      → Takes R c q true (specified o) later → test_of R fs reading t later ≡ true → Done R (items R ls) (at R.names reading fs) ts
  tag_takes {ls = ls} {reading = reading} {fs = fs} i a l h takes m =
      tag_braces R i a m (takes ls (specified (begun reading)) (frame_of R.names reading) fs refl (specify R a) (Left.fits l) (λ v w z. h))

  at_before : {c y : Bool} {q : ℕ} {t : Terminal} {ts later : List Terminal} {ls : List Bool} {reading o : Reading} {fs : List Frame}
      → IsTag R.names y t ts later → sees k.OpenBrace later ≡ true → lacks R.names 0 true later ≡ true → At R ls reading fs y o
      → Within R.names (suc q) (count ls) y ts → Owes R.names c (count ls) y ts → Takes R c q true (specified o) later → sees_type (here R.names true) later ≡ false → Done R (items R ls) (at R.names reading fs) ts
  at_before {c = c} {y = y} {q = q} {t = t} {ts = ts} {later = later} {ls = ls} {reading = reading} {o = o} {fs = fs} i b z a w d takes e =
      by (test_of R fs reading t later) refl (brace_test fs reading t later (count ls) i.named b (waiting_at R a)) (within_moved R.names (suc q) (count ls) y true ts later (i.lacking (count ls)) w)
    where
      by : (b : Bool) → test_of R fs reading t later ≡ b → test_of R fs reading t later ≡ lacks R.names (count ls) true later
          → Within R.names (suc q) (count ls) true later → Done R (items R ls) (at R.names reading fs) ts
      by true m p w' = let l : suc q ≤ count ls = within_taken R.names (suc q) (count ls) true later w' (sym p ∙ m) in tag_takes {c = c} {q = q} i a (omega (arith, l)) (sym p ∙ m) takes m
      by false m p w' = tag_alone R i a m (at_group R c q (count ls) true (specified o) later e z takes (specify R a) refl w' (owes_moved c (count ls) y true ts later i.lacking d))

  spare_group : (c : Bool) (q n : ℕ) (y : Bool) (o : Reading) (ts : List Terminal) → sees_type (here R.names y) ts ≡ false → lacks R.names 0 y ts ≡ true → Takes R c q y o ts
      → {ls : List Bool} {reading : Reading} {fs : List Frame} → At R ls reading fs y o → count ls ≡ n → lacks R.names n y ts ≡ false → Owes R.names c n y ts → Done R (items R ls) (at R.names reading fs) ts
  spare_group c q zero y o ts e z takes a m h d = absurd (clash _ z h)
  spare_group c q (suc p) y o ts e z takes a m h d = waiting_group R c q p y o ts e takes a m (Left.spare h) (λ v w i. d v p refl)

  at_braces : {c y : Bool} {q : ℕ} {t : Terminal} {ts later : List Terminal} {ls : List Bool} {reading o : Reading} {fs : List Frame}
      → IsTag R.names y t ts later → sees k.OpenBrace later ≡ true → lacks R.names 0 true later ≡ true → At R ls reading fs y o
      → Within R.names q (count ls) y ts → Owes R.names c (count ls) y ts → Takes R c q true (specified o) later → sees_type (here R.names true) later ≡ false → Done R (items R ls) (at R.names reading fs) ts
  at_braces {c = c} {y = y} {q = q} {t = t} {ts = ts} {later = later} {ls = ls} {reading = reading} {o = o} {fs = fs} i b z a w d takes e =
      by (test_of R fs reading t later) refl (brace_test fs reading t later (count ls) i.named b (waiting_at R a)) (within_moved R.names q (count ls) y true ts later (i.lacking (count ls)) w)
    where
      by : (b : Bool) → test_of R fs reading t later ≡ b → test_of R fs reading t later ≡ lacks R.names (count ls) true later
          → Within R.names q (count ls) true later → Done R (items R ls) (at R.names reading fs) ts
      by true m p w' = tag_takes {c = c} {q = q} i a (within_taken R.names q (count ls) true later w' (sym p ∙ m)) (sym p ∙ m) takes m
      by false m p w' = tag_alone R i a m (spare_group c q (count ls) true (specified o) later e z takes (specify R a) refl (sym p ∙ m) (owes_moved c (count ls) y true ts later i.lacking d))

  -- with `:` behind it
  at_colon : {y : Bool} {t u : Terminal} {ts later : List Terminal} {ls : List Bool} {reading o : Reading} {fs : List Frame} → IsTag R.names y t ts (u ∷ later)
      → (u.kind == k.Colon) ≡ true → Comes R later → At R ls reading fs y o
      → ((inner : Reading) → At R (true ∷ ls) inner (frame_of R.names reading ∷ fs) false (specified o) → lacks R.names (count ls) false later ≡ true → Done R (items R (true ∷ ls)) (at R.names inner (frame_of R.names reading ∷ fs)) later)
      → ((inner : Reading) → At R (false ∷ ls) inner (frame_of R.names reading ∷ fs) false (specified o) → lacks R.names (count ls) false later ≡ false → Done R (items R (false ∷ ls)) (at R.names inner (frame_of R.names reading ∷ fs)) later)
      → Done R (items R ls) (at R.names reading fs) ts
  at_colon {t = t} {u = u} {ts = ts} {later = later} {ls = ls} {reading = reading} {fs = fs} i v m a g h =
      by (test_of R fs reading t (u ∷ later)) refl (colon_test fs reading t u later (count ls) i.named v (waiting_at R a))
    where
      by : (b : Bool) → test_of R fs reading t (u ∷ later) ≡ b → test_of R fs reading t (u ∷ later) ≡ lacks R.names (count ls) false later → Done R (items R ls) (at R.names reading fs) ts
      by true e p = tag_colon_takes R i v m a e (g (record fresh { waiting = reading.waiting + 1 }) (push R true (record fresh { waiting = reading.waiting + 1 }) refl (one_more R reading.waiting (count ls) (waiting_at R a)) a) (sym p ∙ e))
      by false e p = tag_colon_silent R i v m a e (h (begun reading) (push R false (begun reading) refl (waiting_at R a) a) (sym p ∙ e))

  to_colon : {y : Bool} {t u : Terminal} {ts later : List Terminal} → IsTag R.names y t ts (u ∷ later) → (u.kind == k.Colon) ≡ true → (w : ℕ) → lacks R.names w y ts ≡ lacks R.names w false later
  to_colon {u = u} {later = later} i v w = i.lacking w ∙ tag_colon w (here R.names false) u later v

  -- what is owed inside
  owes_inner : (c : Bool) (n : ℕ) (y : Bool) (ts : List Terminal) → lacks R.names n y ts ≡ true → Owes R.names c (suc n) y ts
  owes_inner c n y ts h v w q = subst (λ z. lacks R.names z y ts ≡ true) (let e : n ≡ w = omega (arith, q) in e) h

  owes_opening : (c : Bool) (n : ℕ) (y : Bool) (ts later : List Terminal) → ((w : ℕ) → lacks R.names w y ts ≡ lacks R.names (suc w) false later)
      → (c ≡ true → lacks R.names 0 false later ≡ true) → Owes R.names c n y ts → Owes R.names c (suc n) false later
  owes_opening c zero y ts later e z d v w q = subst (λ x. lacks R.names x false later ≡ true) (let p : 0 ≡ w = omega (arith, q) in p) (z v)
  owes_opening c (suc n) y ts later e z d v w q = subst (λ x. lacks R.names x false later ≡ true) (let p : suc n ≡ w = omega (arith, q) in p) (sym (e n) ∙ d v n refl)

  within_opening : (q n : ℕ) (y : Bool) (ts later : List Terminal) → lacks R.names n y ts ≡ lacks R.names (suc n) false later → Within R.names q n y ts → Within R.names (suc q) (suc n) false later
  within_opening q n y ts later e (Within.fits l) = Within.fits (omega (arith, l))
  within_opening q n y ts later e (Within.spare h) = Within.spare (sym e ∙ h)

  none_waits : (n : ℕ) (y : Bool) (ts : List Terminal) → ((w : ℕ) → lacks R.names w y ts ≡ false) → Owes R.names true n y ts → n ≡ 0
  none_waits zero y ts e d = refl
  none_waits (suc n) y ts e d = absurd (clash (lacks R.names n y ts) (d refl n refl) (e n))

  left_full : (es : List Entry) (q p : ℕ) (y : Bool) (ts later : List Terminal) → lacks es (suc p) y ts ≡ lacks es p true later → Left es q p y ts → Within es q p true later
  left_full es q p y ts later e (Left.fits l) = Within.fits l
  left_full es q p y ts later e (Left.spare h) = Within.spare (sym e ∙ h)

  tail_brace : {c : Bool} {q : ℕ} {o : Reading} {ts : List Terminal} → Tail R c q o ts → sees k.OpenBrace ts ≡ true
  tail_brace (Tail.full g f) = g.brace
  tail_brace (Tail.part v g) = g.brace

  mutual
    pub decide : {c y : Bool} {q : ℕ} {o : Reading} {ts : List Terminal} → Flat R c q y o ts → (ls : List Bool) (reading : Reading) (fs : List Frame)
        → At R ls reading fs y o → Within R.names q (count ls) y ts → Owes R.names c (count ls) y ts → Done R (items R ls) (at R.names reading fs) ts
    decide {y = y} {ts = ts} (Flat.ends i h) ls reading fs a w d = all_end R a (none_waits (count ls) y ts i.lacking d) i.type h
    decide (Flat.stops v) ls reading fs a w d = cut R ls (at R.names reading fs) v
    decide {y = y} {ts = ts} (Flat.begins v t b) ls reading fs a w d =
        prepended R ls (at R.names reading fs) ts (sees_alike R.names reading fs y ts (typed_at R a) ∙ t) (halted R v (b reading fs (typed_at R a)))
    decide {c = c} {y = y} {q = q} {ts = ts} (Flat.piece {b = b} {later = later} i f) ls reading fs a w d =
        prepended R ls (at R.names reading fs) ts (sees_alike R.names reading fs y ts (typed_at R a) ∙ i.type) (Continues.go (i.derived reading fs (typed_at R a)).is
        (decide f ls (behind b reading) fs (settle R b a) (within_moved R.names q (count ls) y (b || y) ts later (i.lacking (count ls)) w) (owes_moved c (count ls) y (b || y) ts later i.lacking d)))
    decide (Flat.structure i p f) ls reading fs a w d = at_structure i p a w d (λ w' d'. decide f ls (specified reading) fs (specify R a) w' d')
    decide (Flat.structure_before i t) ls reading fs a w d =
        at_structure_before i (tail_braces R t) (tail_lacks R t true) a w d (λ ls' reading' f fs' n a' w' d'. take t true ls' reading' f fs' n a' w' d') (tail_ends R t true)
    decide (Flat.structure_cut i v h) ls reading fs a w d = at_structure_cut i v h a
    decide (Flat.enumeration i p f) ls reading fs a w d = at_enumeration i p a w d (λ w' d'. decide f ls (specified reading) fs (specify R a) w' d')
    decide (Flat.enumeration_before i t) ls reading fs a w d =
        at_before i (tail_brace t) (tail_lacks R t true) a w d (λ ls' reading' f fs' n a' w' d'. take t true ls' reading' f fs' n a' w' d') (tail_ends R t true)
    decide (Flat.braces i t) ls reading fs a w d =
        at_braces i (tail_brace t) (tail_lacks R t true) a w d (λ ls' reading' f fs' n a' w' d'. take t true ls' reading' f fs' n a' w' d') (tail_ends R t true)
    decide {c = c} {y = y} {q = q} {ts = ts} (Flat.silent {u = u} {later = later} i v m f) ls reading fs a w d =
        let w' = within_moved R.names q (count ls) y false ts later (to_colon i v (count ls)) w in
        at_colon i v m a
        (λ inner a' e. decide f (true ∷ ls) inner (frame_of R.names reading ∷ fs) a' (Within.fits (let l : q ≤ count ls = within_taken R.names q (count ls) false later w' e in omega (arith, l))) (owes_inner c (count ls) false later e))
        (λ inner a' e. decide f (false ∷ ls) inner (frame_of R.names reading ∷ fs) a' w' (owes_moved c (count ls) y false ts later (to_colon i v) d))
    decide {c = c} {y = y} {q = q} {ts = ts} (Flat.taking {u = u} {later = later} i v m f) ls reading fs a w d =
        let w' = within_moved R.names q (count ls) y false ts later (to_colon i v (count ls)) w in
        at_colon i v m a
        (λ inner a' e. decide f (true ∷ ls) inner (frame_of R.names reading ∷ fs) a' (Within.fits (let l : q ≤ count ls = within_taken R.names q (count ls) false later w' e in omega (arith, l))) (owes_inner c (count ls) false later e))
        (λ inner a' e. decide f (false ∷ ls) inner (frame_of R.names reading ∷ fs) a' (Within.spare e) (owes_moved c (count ls) y false ts later (to_colon i v) d))
    decide {c = c} {y = y} {q = q} {ts = ts} (Flat.opening {later = later} i m f) ls reading fs a w d =
        let inner = record fresh { waiting = reading.waiting + 1 } in
        opening_takes i m a (decide f (true ∷ ls) inner (frame_of R.names reading ∷ fs) (push R true inner refl (one_more R reading.waiting (count ls) (waiting_at R a)) a)
        (within_opening q (count ls) y ts later (i.lacking (count ls)) w) (owes_opening c (count ls) y ts later i.lacking (λ v. owed R f v 0 (omega arith)) d))
    decide {c = c} {y = y} {o = o} {ts = ts} (Flat.group {q = q} t) ls reading fs a w d =
        at_group R c q (count ls) y o ts (tail_ends R t y) (tail_lacks R t y) (λ ls' reading' f fs' n a' w' d'. take t y ls' reading' f fs' n a' w' d') a refl w d

    take : {c : Bool} {q : ℕ} {o : Reading} {ts : List Terminal} → Tail R c q o ts
        → (y : Bool) (ls : List Bool) (reading : Reading) (f : Frame) (fs : List Frame) → f.count ≡ length R.names → At R ls (specified f.reading) fs true o
        → Left R.names q (count ls) y ts → Owed R.names c (count ls) y ts
        → Done R (Item.form braced ∷ Item.shut r.Enum ∷ Item.shut r.Typespec ∷ items R ls) (at R.names reading (f ∷ fs)) ts
    take {q = q} (Tail.full {t = t} {ts = ts} {later = later} g f) y ls reading frame fs n a w d =
        Continues.go (g.derived reading (frame ∷ fs)).1.is
        (left R n (decide f ls (specified frame.reading) fs a (left_full R.names q (count ls) y (t ∷ ts) later (g.one (count ls) y) w) (λ v x z. sym (g.one x y) ∙ subst (λ m. lacks R.names m y (t ∷ ts) ≡ true) z (d v x z))))
    take (Tail.part v g) y ls reading frame fs n a w d = halted R v (g.begins reading (frame ∷ fs))
