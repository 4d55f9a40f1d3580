-- The lists that are open in a run, from the inside: each is that of an enumeration which takes braces behind it, or of
-- one that ends silently. How the parser goes on in them.
use Rattle.std.proofs.Common.{arith, ◌≡◌, ℕ, suc, Bool, true, false, ◌||◌, List, [], ◌∷◌, length, take, refl, sym, ap, subst, ◌∙◌}
use Rattle.std.specs.Prelude.{◌==◌, if◌then◌else◌}
use mathlib.Core.Logic.{inl, inr}
use Rattle.model_grammar.specs.declared.grammar.Rule.TheVariants as r
use Rattle.model_grammar.specs.declared.grammar.Act.TheVariants as act
use Rattle.model_grammar.specs.declared.grammar.Test.TheVariants as test
use Rattle.model_grammar.specs.declared.grammar.Terminal.{Terminal}
use Rattle.model_grammar.specs.declared.grammar.Entry.{Entry}
use Rattle.model_grammar.specs.declared.grammar.Reading.{Reading}
use Rattle.model_grammar.specs.declared.grammar.Frame.{Frame}
use Rattle.model_grammar.specs.GrammarForm.{Form, word, rule, ◌then◌, mem}
use Rattle.model_grammar.specs.Grammar.{type_kinds}
use Rattle.model_grammar.specs.Terminals as k
use Rattle.model_grammar.specs.NameScopes.{Scopes, kind, after, specified, is_closing, is_given, is_type, bracket_kind}
use Rattle.model_grammar.specs.Derivation.{Derives, Begins}
use Rattle.grammar_laws.specs.ParserTable.{table}
use Rattle.model_grammar.specs.SyntaxTree.{sees_type}
use Rattle.grammar_laws.specs.ParserTests.{parsed, passes}
use Rattle.grammar_laws.proofs.kinds.KindSets.{clash}
use Rattle.grammar_laws.proofs.kinds.TokenKinds.{shown}
use Rattle.grammar_laws.proofs.specifier_lists.WhatRemains.{Item, Continues, in_then, in_rule, in_left, in_right, in_again, first_of_loop}
use Rattle.grammar_laws.proofs.specifier_lists.ListInPieces.{element, elements, braced, at, here, qualified, behind, frame_of, begun, Run, IsHead, Comes}

-- how many take braces
abbrev pub count : List Bool → ℕ
count [] = 0
count (true ∷ ls) = suc (count ls)
count (false ∷ ls) = count ls

-- the kind of a token in a list
pub sees_alike : (es : List Entry) (reading : Reading) (fs : List Frame) (y : Bool) (ts : List Terminal) → reading.typed ≡ y → sees_type (at es reading fs) ts ≡ sees_type (here es y) ts
sees_alike es reading fs y [] p = refl
sees_alike es reading fs y (t ∷ ts) p = rw p refl

typed_too : (b x : Bool) (y : Bool) (j : ℕ) → mem (if b then (if x then (if y then k.DeclaredName else k.TypedefName) else k.Name) else j) type_kinds ≡ false
    → mem (if b then (if x then k.DeclaredName else k.Name) else j) type_kinds ≡ false
unfolding mem
typed_too true true y j h = refl
typed_too true false y j h = refl
typed_too false x y j h = h

pub type_ends : (es : List Entry) (y : Bool) (ts : List Terminal) → sees_type (here es y) ts ≡ false → sees_type (here es true) ts ≡ false
type_ends es y [] h = refl
type_ends es y (t ∷ ts) h = typed_too (t.kind == k.Name) (is_type es t.name) y (bracket_kind [] t.kind) h

pub kept : (es more : List Entry) → take (length es) es ≡ es
kept [] more = refl
kept (e ∷ es) more = ap (λ z. e ∷ z) (kept es more)

-- the tag of a specifier
pub tag_word : (es : List Entry) (reading : Reading) (fs : List Frame) (t : Terminal) → reading.typed ≡ false → (t.kind == k.Name) ≡ true
    → mem (kind (at es reading fs) t) (k.Name ∷ k.TypedefName ∷ []) ≡ true
unfolding mem
tag_word es reading fs t p h = rw (h, p) (by (is_type es t.name))
  where
    by : (b : Bool) → ((if b then k.TypedefName else k.Name) == k.Name || ((if b then k.TypedefName else k.Name) == k.TypedefName || false)) ≡ true
    by true = refl
    by false = refl

module _ (R : Run) where
  abbrev pub Done : List Item → Scopes → List Terminal → Type 0
  Done = Continues R.end R.rest R.whole

  pub halted : {f : Form} {later : List Item} {s : Scopes} {ts : List Terminal} → R.whole ≡ false → Begins parsed f s ts R.rest → Done (Item.form f ∷ later) s ts
  halted {f = f} {later = later} {s = s} {ts = ts} v b = subst (λ z. Continues R.end R.rest z (Item.form f ∷ later) s ts) (sym v) (Continues.halt b)

  -- what is to be done behind an element
  abbrev pub items : List Bool → List Item
  items [] = Item.form R.list ∷ R.after
  items (true ∷ ls) = Item.form elements ∷ Item.shut r.Squals ∷ Item.form braced ∷ Item.shut r.Enum ∷ Item.shut r.Typespec ∷ items ls
  items (false ∷ ls) = Item.form elements ∷ Item.shut r.Squals ∷ Item.shut r.Enum ∷ Item.shut r.Typespec ∷ items ls

  -- the reading and the frames in these lists: y says that a type specifier stands before in the innermost, and o how
  -- the declaration goes on where all have ended
  pub data At : List Bool → Reading → List Frame → Bool → Reading → Type 0 where
    bottom : {o : Reading} {y : Bool} → o.typed ≡ y → o.waiting ≡ 0 → At [] o R.below y o
    above : {l : Bool} {ls : List Bool} {reading o : Reading} {f : Frame} {fs : List Frame} {y : Bool} → reading.typed ≡ y → reading.waiting ≡ count (l ∷ ls)
        → f.count ≡ length R.names → At ls (specified f.reading) fs true o → At (l ∷ ls) reading (f ∷ fs) y o

  pub typed_at : {ls : List Bool} {reading o : Reading} {fs : List Frame} {y : Bool} → At ls reading fs y o → reading.typed ≡ y
  typed_at (At.bottom p w) = p
  typed_at (At.above p w c a) = p

  pub waiting_at : {ls : List Bool} {reading o : Reading} {fs : List Frame} {y : Bool} → At ls reading fs y o → reading.waiting ≡ count ls
  waiting_at (At.bottom p w) = w
  waiting_at (At.above p w c a) = w

  pub specify : {ls : List Bool} {reading o : Reading} {fs : List Frame} {y : Bool} → At ls reading fs y o → At ls (specified reading) fs true (specified o)
  specify (At.bottom p w) = At.bottom refl w
  specify (At.above p w c a) = At.above refl w c (specify a)

  qualify : {ls : List Bool} {reading o : Reading} {fs : List Frame} {y : Bool} → At ls reading fs y o → At ls (qualified reading) fs y (qualified o)
  qualify (At.bottom p w) = At.bottom p w
  qualify (At.above p w c a) = At.above p w c (qualify a)

  pub settle : (b : Bool) {ls : List Bool} {reading o : Reading} {fs : List Frame} {y : Bool} → At ls reading fs y o → At ls (behind b reading) fs (b || y) (behind b o)
  settle true a = specify a
  settle false a = qualify a

  pub push : {ls : List Bool} {reading o : Reading} {fs : List Frame} {y : Bool} (l : Bool) (inner : Reading) → inner.typed ≡ false
      → inner.waiting ≡ count (l ∷ ls) → At ls reading fs y o → At (l ∷ ls) inner (frame_of R.names reading ∷ fs) false (specified o)
  push l inner p w a = At.above p w refl (specify a)

  -- the end of an enumeration
  pub left : {later : List Item} {reading : Reading} {f : Frame} {fs : List Frame} {ts : List Terminal} → f.count ≡ length R.names
      → Done later (at R.names (specified f.reading) fs) ts → Done (Item.shut r.Enum ∷ Item.shut r.Typespec ∷ later) (at R.names reading (f ∷ fs)) ts
  left {later = later} {f = f} {fs = fs} {ts = ts} c h =
      let q : take f.count R.names ≡ R.names = ap (λ z. take z R.names) c ∙ kept R.names [] in
      Continues.ended (Continues.ended (subst (λ z. Done later (at z (specified f.reading) fs) ts) (sym q) h))

  -- one more element
  pub prepended : (ls : List Bool) (s : Scopes) (ts : List Terminal) → sees_type s ts ≡ true → Done (Item.form element ∷ items ls) s ts → Done (items ls) s ts
  prepended [] s ts b h = R.more s ts b h
  prepended (true ∷ ls) s ts b h = in_again _ _ b h
  prepended (false ∷ ls) s ts b h = in_again _ _ b h

  pub cut : (ls : List Bool) (s : Scopes) → R.whole ≡ false → Done (items ls) s R.rest
  cut [] s v = halted v Begins.yet
  cut (true ∷ ls) s v = halted v Begins.yet
  cut (false ∷ ls) s v = halted v Begins.yet

  no_more : (reading : Reading) (fs : List Frame) (y : Bool) (ts : List Terminal) → reading.typed ≡ y → sees_type (here R.names y) ts ≡ false → passes test.TypeAhead (at R.names reading fs) ts ≡ false
  no_more reading fs y ts p h = sees_alike R.names reading fs y ts p ∙ h

  -- where no list goes on, those end that take no braces
  pub all_end : {ls : List Bool} {reading o : Reading} {fs : List Frame} {y : Bool} {ts : List Terminal} → At ls reading fs y o → count ls ≡ 0
      → sees_type (here R.names y) ts ≡ false → Done (items []) (at R.names o R.below) ts → Done (items ls) (at R.names reading fs) ts
  all_end (At.bottom p w) q e h = h
  all_end (At.above {l = true} p w c a) q e h = absurd (omega (arith, q))
  all_end {ts = ts} (At.above {l = false} {reading = reading} {f = f} {fs = fs} {y = y} p w c a) q e h =
      Continues.go (Derives.done (no_more reading (f ∷ fs) y ts p e)) (Continues.ended (left c (all_end a q (type_ends R.names y ts e) h)))

  -- and the innermost that takes braces takes those that come
  pub to_braces : {ls : List Bool} {reading o : Reading} {fs : List Frame} {y : Bool} {ts : List Terminal} → At ls reading fs y o → (p : ℕ) → count ls ≡ suc p → sees_type (here R.names y) ts ≡ false
      → ((ls' : List Bool) (reading' : Reading) (f : Frame) (fs' : List Frame) → count ls' ≡ p → f.count ≡ length R.names → At ls' (specified f.reading) fs' true o → Done (Item.form braced ∷ Item.shut r.Enum ∷ Item.shut r.Typespec ∷ items ls') (at R.names reading' (f ∷ fs')) ts)
      → Done (items ls) (at R.names reading fs) ts
  to_braces (At.bottom v w) p q e h = absurd (omega (arith, q))
  to_braces {ts = ts} (At.above {l = true} {ls = ls} {reading = reading} {f = f} {fs = fs} {y = y} v w c a) p q e h =
      Continues.go (Derives.done (no_more reading (f ∷ fs) y ts v e)) (Continues.ended (h ls reading f fs (omega (arith, q)) c a))
  to_braces {ts = ts} (At.above {l = false} {reading = reading} {f = f} {fs = fs} {y = y} v w c a) p q e h =
      Continues.go (Derives.done (no_more reading (f ∷ fs) y ts v e)) (Continues.ended (left c (to_braces a p q (type_ends R.names y ts e) h)))

  -- an enumeration, and a structure
  pub enum_first : {later : List Item} {s : Scopes} {ts : List Terminal}
      → Done (Item.form (table r.Enum) ∷ Item.shut r.Enum ∷ Item.shut r.Typespec ∷ later) s ts → Done (Item.form element ∷ later) s ts
  unfolding table
  enum_first h = in_left _ _ (in_rule _ _ (in_right _ _ (in_right _ _ (in_left _ _ (in_rule _ _ h)))))

  pub struct_first : {later : List Item} {s : Scopes} {ts : List Terminal}
      → Done (Item.form (table r.Struct) ∷ Item.shut r.Struct ∷ Item.shut r.Typespec ∷ later) s ts → Done (Item.form element ∷ later) s ts
  unfolding table
  struct_first h = in_left _ _ (in_rule _ _ (in_right _ _ (in_left _ _ (in_rule _ _ h))))

  pub head_first : (j : ℕ) (n : Form) {later : List Item} {reading : Reading} {fs : List Frame} {ts rest : List Terminal} → (j == k.Name) ≡ false
      → is_closing j ≡ false → is_given j ≡ false → IsHead R.names j ts rest
      → Done (Item.form n ∷ later) (at R.names (begun reading) (frame_of R.names reading ∷ fs)) rest → Done (Item.form (word (j ∷ []) act.OpenSpecifier then rule r.Attrs then n) ∷ later) (at R.names reading fs) ts
  head_first j n {later = later} {reading = reading} {fs = fs} {ts = ts} a b c i h =
      let s = at R.names reading fs in
      subst (λ z. Done (Item.form (word (j ∷ []) act.OpenSpecifier then rule r.Attrs then n) ∷ later) s z) (sym i.tokens)
      (in_then _ _ (Continues.go (Derives.a_word (shown j a b c s i.first i.is)) (in_then _ _ (Continues.go (i.attributes (after act.OpenSpecifier s i.first) refl).is h))))

  -- the list behind `:`
  pub squals_first : {later : List Item} {reading : Reading} {fs : List Frame} {ts : List Terminal} → reading.typed ≡ false → Comes R ts
      → Done (Item.form elements ∷ Item.shut r.Squals ∷ later) (at R.names reading fs) ts → Done (Item.form (rule r.Squals) ∷ later) (at R.names reading fs) ts
  unfolding table
  squals_first {reading = reading} {fs = fs} {ts = ts} p (inl t) h = in_rule _ _ (in_then _ _ (first_of_loop _ _ (λ e. clash _ (sees_alike R.names reading fs false ts p ∙ t) e) h))
  squals_first {later = later} {reading = reading} {fs = fs} p (inr x) h = subst (λ z. Done (Item.form (rule r.Squals) ∷ later) (at R.names reading fs) z) (sym x.1) (halted x.0 Begins.yet)
