-- The brackets of what a form derives match: a scan for the bracket that closes one before it passes over it.
use Rattle.std.proofs.Common.{◌≡◌, ℕ, zero, suc, ◌+◌, ◌-◌, Bool, true, false, ◌&&◌, ◌||◌, List, [], ◌∷◌, length, refl, sym, ap, subst, ◌∙◌, arith}
use Rattle.std.proofs.lemmas.Bool.{eqb-true}
use Rattle.std.specs.Prelude.{◌==◌, if◌then◌else◌}
use mathlib.Core.Logic.{inl, inr}
use Rattle.model_grammar.specs.declared.grammar.Rule.{Rule}
use Rattle.model_grammar.specs.declared.grammar.Rule.TheVariants as r
use Rattle.model_grammar.specs.declared.grammar.Act.{Act}
use Rattle.model_grammar.specs.declared.grammar.Act.TheVariants as act
use Rattle.model_grammar.specs.declared.grammar.Terminal.{Terminal}
use Rattle.model_grammar.specs.declared.grammar.Tree.{Tree}
use Rattle.model_grammar.specs.GrammarForm.{Form, word, rule, empty, ◌then◌, ◌or◌, maybe, many, when, loop, mem}
use Rattle.model_grammar.specs.NameScopes.{Scopes, kind, after, is_closing, is_opening, without_last}
use Rattle.model_grammar.specs.Derivation.{Derives}
use Rattle.model_grammar.specs.Terminals as k
use Rattle.grammar_laws.specs.apparatus.DecidedTable.{within, apart}
use Rattle.grammar_laws.specs.ParserTable.{table}
use Rattle.grammar_laws.specs.ParserSets.{tables}
use Rattle.grammar_laws.specs.ParserTests.{parsed, past_brackets}
use Rattle.grammar_laws.proofs.kinds.KindSets.{and_left, and_right, or_cases, within_mem, apart_mem}
use Rattle.grammar_laws.proofs.kinds.TokenKinds.{decide}
use Rattle.grammar_laws.proofs.derivations.ClearBrackets.{over, holds, closing, at_closing, kept, closed_keeps}
use Rattle.grammar_laws.proofs.kinds.BracketKinds.{opening, brackets, opening_kind, not_both, closing_kind, IsHeld, held_kind, no_opening, no_closing}

unfoldable pub pred : ℕ → ℕ
pred zero = 0
pred (suc n) = n

-- how many brackets are open behind a form where n are before it
unfoldable pub level : Form → ℕ → ℕ
level (word ks a) n = if holds a then n else if within tables ks opening then suc n else if within tables ks closing then pred n else n
level (rule r) n = n
level empty n = n
level (f then g) n = level g (level f n)
level (f or g) n = level f n
level (maybe f) n = n
level (many f) n = n
level (when p f g) n = level f n
level (loop p f) n = n

-- the act of a bracket inside an attribute stands at such brackets
unfoldable pub fits : List ℕ → Act → Bool
fits ks act.OpenBalanced = within tables ks opening
fits ks act.CloseBalanced = within tables ks (k.Closing ∷ [])
fits ks _ = true

unfoldable pub is_some : ℕ → Bool
is_some zero = false
is_some (suc n) = true

-- its alternatives agree
unfoldable pub even : Form → ℕ → Bool
even (word ks a) n = fits ks a && (holds a || (within tables ks opening || ((within tables ks closing && is_some n) || apart tables ks brackets)))
even (rule r) n = true
even empty n = true
even (f then g) n = even f n && even g (level f n)
even (f or g) n = even f n && (even g n && level g n == level f n)
even (maybe f) n = even f n && level f n == n
even (many f) n = even f n && level f n == n
even (when p f g) n = even f n && (even g n && level g n == level f n)
even (loop p f) n = even f n && level f n == n

pub evens : (n : Rule) → even (table n) 0 ≡ true
unfolding even level fits is_some pred holds within apart mem table
evens r.Unit = refl
evens r.External = refl
evens r.Function = refl
evens r.Declaration = refl
evens r.Sassert = refl
evens r.Attrs = refl
evens r.Attr = refl
evens r.Specs = refl
evens r.Spec = refl
evens r.Storage = refl
evens r.Typespec = refl
evens r.Qual = refl
evens r.Squals = refl
evens r.Struct = refl
evens r.Members = refl
evens r.Member = refl
evens r.Enum = refl
evens r.Enumr = refl
evens r.Declarator = refl
evens r.Direct = refl
evens r.Suffix = refl
evens r.Params = refl
evens r.Param = refl
evens r.Typename = refl
evens r.Abstract = refl
evens r.Adirect = refl
evens r.Initdecl = refl
evens r.Init = refl
evens r.Braces = refl
evens r.Item = refl
evens r.Desig = refl
evens r.Block = refl
evens r.Label = refl
evens r.Statement = refl
evens r.Expr = refl
evens r.Assign = refl
evens r.Cond = refl
evens r.Oror = refl
evens r.Andand = refl
evens r.Bor = refl
evens r.Bxor = refl
evens r.Band = refl
evens r.Equal = refl
evens r.Rel = refl
evens r.Shift = refl
evens r.Sum = refl
evens r.Product = refl
evens r.Cast = refl
evens r.Unary = refl
evens r.Postfix = refl
evens r.Primary = refl
evens r.Literal = refl
evens r.Balanced = refl
evens r.Declared = refl
evens r.ParamSpecs = refl
evens r.Body = refl
evens r.Typeof = refl
evens r.If = refl
evens r.For = refl

pub levels : (n : Rule) → level (table n) 0 ≡ 0
unfolding level pred holds within mem table
levels r.Unit = refl
levels r.External = refl
levels r.Function = refl
levels r.Declaration = refl
levels r.Sassert = refl
levels r.Attrs = refl
levels r.Attr = refl
levels r.Specs = refl
levels r.Spec = refl
levels r.Storage = refl
levels r.Typespec = refl
levels r.Qual = refl
levels r.Squals = refl
levels r.Struct = refl
levels r.Members = refl
levels r.Member = refl
levels r.Enum = refl
levels r.Enumr = refl
levels r.Declarator = refl
levels r.Direct = refl
levels r.Suffix = refl
levels r.Params = refl
levels r.Param = refl
levels r.Typename = refl
levels r.Abstract = refl
levels r.Adirect = refl
levels r.Initdecl = refl
levels r.Init = refl
levels r.Braces = refl
levels r.Item = refl
levels r.Desig = refl
levels r.Block = refl
levels r.Label = refl
levels r.Statement = refl
levels r.Expr = refl
levels r.Assign = refl
levels r.Cond = refl
levels r.Oror = refl
levels r.Andand = refl
levels r.Bor = refl
levels r.Bxor = refl
levels r.Band = refl
levels r.Equal = refl
levels r.Rel = refl
levels r.Shift = refl
levels r.Sum = refl
levels r.Product = refl
levels r.Cast = refl
levels r.Unary = refl
levels r.Postfix = refl
levels r.Primary = refl
levels r.Literal = refl
levels r.Balanced = refl
levels r.Declared = refl
levels r.ParamSpecs = refl
levels r.Body = refl
levels r.Typeof = refl
levels r.If = refl
levels r.For = refl

-- a token in the scan
pub over_opening : (n m : ℕ) (t : Terminal) (ts : List Terminal) → is_opening t.kind ≡ true → n + 1 ≡ m → past_brackets n (t ∷ ts) ≡ past_brackets m ts
unfolding past_brackets
over_opening n m t ts h q = rw (h, q) refl

over_closing : (n m : ℕ) (t : Terminal) (ts : List Terminal) → is_closing t.kind ≡ true → (n == 1) ≡ false → n - 1 ≡ m → past_brackets n (t ∷ ts) ≡ past_brackets m ts
unfolding past_brackets
over_closing n m t ts h z q = rw (not_both t.kind h, h, z, q) refl

pub last_closing : (t : Terminal) (ts : List Terminal) → is_closing t.kind ≡ true → past_brackets 1 (t ∷ ts) ≡ ts
unfolding past_brackets
last_closing t ts h = rw (not_both t.kind h, h) refl

over_other : (n : ℕ) (t : Terminal) (ts : List Terminal) → is_opening t.kind ≡ false → is_closing t.kind ≡ false → past_brackets n (t ∷ ts) ≡ past_brackets n ts
unfolding past_brackets
over_other n t ts o c = rw (o, c) refl

not_one : (n : ℕ) → (suc (suc n) == 1) ≡ false
not_one n = decide (suc (suc n) == 1) (λ e. let q : suc (suc n) ≡ 1 = eqb-true (suc (suc n)) 1 e in absurd (omega arith))

-- the scan passes over the tokens, where n brackets are open inside the one that is sought
pub record Passes (n m : ℕ) (s : Scopes) (ts : List Terminal) (new : Scopes) (rest : List Terminal) : Type 0 where
  pub at : (k : ℕ) → past_brackets (suc (k + (n + length s.brackets))) ts ≡ past_brackets (suc (k + (m + length new.brackets))) rest

by_opening : (n : ℕ) (s new : Scopes) (t : Terminal) (ts : List Terminal) → is_opening t.kind ≡ true → new.brackets ≡ s.brackets → Passes n (suc n) s (t ∷ ts) new ts
by_opening n s new t ts h b = record { at = λ k. subst (λ z. past_brackets (suc (k + (n + length s.brackets))) (t ∷ ts) ≡ past_brackets (suc (k + (suc n + length z))) ts) (sym b) (over_opening (suc (k + (n + length s.brackets))) (suc (k + (suc n + length s.brackets))) t ts h (more n k (length s.brackets))) }
  where
    more : (n k m : ℕ) → suc (k + (n + m)) + 1 ≡ suc (k + (suc n + m))
    more n k m = omega arith

by_held : (n : ℕ) (s new : Scopes) (t : Terminal) (ts : List Terminal) → is_opening t.kind ≡ true → new.brackets ≡ t.kind ∷ s.brackets → Passes n n s (t ∷ ts) new ts
by_held n s new t ts h b = record { at = λ k. subst (λ z. past_brackets (suc (k + (n + length s.brackets))) (t ∷ ts) ≡ past_brackets (suc (k + (n + length z))) ts) (sym b) (over_opening (suc (k + (n + length s.brackets))) (suc (k + (n + suc (length s.brackets)))) t ts h (more n k (length s.brackets))) }
  where
    more : (n k m : ℕ) → suc (k + (n + m)) + 1 ≡ suc (k + (n + suc m))
    more n k m = omega arith

by_closing : (n : ℕ) (s new : Scopes) (t : Terminal) (ts : List Terminal) → is_closing t.kind ≡ true → s.brackets ≡ [] → new.brackets ≡ [] → Passes (suc n) n s (t ∷ ts) new ts
by_closing n s new t ts h b c = record {
  at = λ k.
      let p : past_brackets (suc (k + (suc n + 0))) (t ∷ ts) ≡ past_brackets (suc (k + (n + 0))) ts =
      ap (λ m. past_brackets m (t ∷ ts)) (one n k) ∙ over_closing (suc (suc (k + n))) (suc (k + (n + 0))) t ts h (not_one (k + n)) (two n k) in
      subst (λ z. past_brackets (suc (k + (suc n + length z))) (t ∷ ts) ≡ past_brackets (suc (k + (n + length new.brackets))) ts) (sym b) (subst (λ z. past_brackets (suc (k + (suc n + 0))) (t ∷ ts) ≡ past_brackets (suc (k + (n + length z))) ts) (sym c) p);
}
  where
    one : (n k : ℕ) → suc (k + (suc n + 0)) ≡ suc (suc (k + n))
    one n k = omega arith

    two : (n k : ℕ) → suc (suc (k + n)) - 1 ≡ suc (k + (n + 0))
    two n k = omega arith

by_letting_go : (n : ℕ) (s : Scopes) (t : Terminal) (ts : List Terminal) → IsHeld s t → Passes n n s (t ∷ ts) (record s { brackets = without_last s.brackets }) ts
by_letting_go n s t ts h = record {
  at = λ k.
      let p : past_brackets (suc (k + (n + suc (length h.others)))) (t ∷ ts) ≡ past_brackets (suc (k + (n + length h.others))) ts =
      ap (λ m. past_brackets m (t ∷ ts)) (one n k (length h.others)) ∙ over_closing (suc (suc (k + (n + length h.others))))
      (suc (k + (n + length h.others))) t ts h.closes (not_one _) (two n k (length h.others)) in
      subst (λ z. past_brackets (suc (k + (n + length z))) (t ∷ ts) ≡ past_brackets (suc (k + (n + length (without_last z)))) ts) (sym h.held) p;
}
  where
    one : (n k m : ℕ) → suc (k + (n + suc m)) ≡ suc (suc (k + (n + m)))
    one n k m = omega arith

    two : (n k m : ℕ) → suc (suc (k + (n + m))) - 1 ≡ suc (k + (n + m))
    two n k m = omega arith

by_other : (n : ℕ) (s new : Scopes) (t : Terminal) (ts : List Terminal) → is_opening t.kind ≡ false → is_closing t.kind ≡ false → new.brackets ≡ s.brackets → Passes n n s (t ∷ ts) new ts
by_other n s new t ts o c b = record { at = λ k. over_other (suc (k + (n + length s.brackets))) t ts o c ∙ ap (λ z. past_brackets (suc (k + (n + length z))) ts) (sym b) }

no_such : (ks F G : List ℕ) → apart tables F G ≡ true → (k : ℕ) → mem k ks ≡ true → mem k F ≡ true → within tables ks G ≡ false
no_such ks F G a k h f = decide (within tables ks G) (λ e. apart_mem tables k F G a f (within_mem tables k ks G e h))

apart_closing : apart tables closing opening ≡ true
unfolding apart mem
apart_closing = refl

apart_brackets : (ks : List ℕ) (G : List ℕ) → apart tables ks brackets ≡ true → within tables G brackets ≡ true → (k : ℕ) → mem k ks ≡ true → within tables ks G ≡ false
apart_brackets ks G a w k h = decide (within tables ks G) (λ e. apart_mem tables k ks brackets a h (within_mem tables k G brackets w (within_mem tables k ks G e h)))

opening_within : within tables opening brackets ≡ true
unfolding within mem
opening_within = refl

closing_within : within tables closing brackets ≡ true
unfolding within mem
closing_within = refl

plain_word : (ks : List ℕ) (a : Act) (n : ℕ) (s : Scopes) (t : Terminal) (ts : List Terminal) → holds a ≡ false
    → (within tables ks opening || ((within tables ks closing && is_some n) || apart tables ks brackets)) ≡ true → mem (kind s t) ks ≡ true
    → Passes n (level (word ks a) n) s (t ∷ ts) (after a s t) ts
unfolding level is_some pred
plain_word ks a n s t ts h w e = elim (or_cases (within tables ks opening) _ w) [
  | inl o ↦ rw (h, o) (by_opening n s (after a s t) t ts (opening_kind s t (within_mem tables (kind s t) ks opening o e)) (kept a s t h))
  | inr v ↦ elim (or_cases (within tables ks closing && is_some n) (apart tables ks brackets) v) [
    | inl c ↦ closed n (and_left _ (is_some n) c) (and_right (within tables ks closing) _ c)
    | inr x ↦
        rw (h, apart_brackets ks opening x opening_within (kind s t) e, apart_brackets ks closing x closing_within (kind s t) e)
        (by_other n s (after a s t) t ts (no_opening ks x s t e) (no_closing ks x s t e) (kept a s t h))
  ]
]
  where
    closed : (n : ℕ) → within tables ks closing ≡ true → is_some n ≡ true
        → Passes n (if holds a then n else if within tables ks opening then suc n else if within tables ks closing then pred n else n) s (t ∷ ts) (after a s t) ts
    closed zero c z = absurd (cc)
    closed (suc n) c z =
        let m = within_mem tables (kind s t) ks closing c e in
        let b = at_closing s t m in
        rw (h, no_such ks closing opening apart_closing (kind s t) e m, c) (by_closing n s (after a s t) t ts (closing_kind s t m) b (kept a s t h ∙ b))

held_word : (ks : List ℕ) (a : Act) (n : ℕ) (s : Scopes) (t : Terminal) (ts : List Terminal) → holds a ≡ true → fits ks a ≡ true → mem (kind s t) ks ≡ true
    → Passes n (level (word ks a) n) s (t ∷ ts) (after a s t) ts
unfolding level holds fits
held_word ks act.OpenBalanced n s t ts h f e = by_held n s (after act.OpenBalanced s t) t ts (opening_kind s t (within_mem tables (kind s t) ks opening f e)) refl
held_word ks act.CloseBalanced n s t ts h f e = by_letting_go n s t ts (held_kind s t (within_mem tables (kind s t) ks (k.Closing ∷ []) f e))
held_word ks _ n s t ts h f e = absurd (cc)

same_level : (a b : ℕ) → (a == b) ≡ true → a ≡ b
same_level a b h = eqb-true a b h

joined : {n m l : ℕ} {s mid new : Scopes} {ts later rest : List Terminal} → Passes n m s ts mid later → Passes m l mid later new rest → Passes n l s ts new rest
joined p q = record { at = λ k. p.at k ∙ q.at k }

from_inside : (n : ℕ) (s mid new : Scopes) (ts rest : List Terminal) → Passes 0 0 s ts mid rest → new.brackets ≡ mid.brackets → Passes n n s ts new rest
from_inside n s mid new ts rest p b =
    record { at = λ k. ap (λ m. past_brackets m ts) (into n k (length s.brackets)) ∙ (p.at (k + n) ∙ ap (λ m. past_brackets m rest) (sym (into n k (length mid.brackets)) ∙ ap (λ z. suc (k + (n + length z))) (sym b))) }
  where
    into : (n k m : ℕ) → suc (k + (n + m)) ≡ suc ((k + n) + (0 + m))
    into n k m = omega arith

module _ (body : Rule → Form) (ok : (n : Rule) → even (body n) 0 ≡ true) (flat : (n : Rule) → level (body n) 0 ≡ 0) where
  pub passes : {f : Form} {s new : Scopes} {ts rest : List Terminal} {xs : List Tree} → Derives (over body) f s ts xs new rest → (n : ℕ) → even f n ≡ true → Passes n (level f n) s ts new rest
  unfolding even level
  passes {f = word ks a} (Derives.a_word {s = s} {t = t} {ts = ts} e) n h = elim (or_cases (holds a) _ (and_right (fits ks a) _ h)) [
    | inl o ↦ held_word ks a n s t ts o (and_left (fits ks a) _ h) e
    | inr w ↦ word_case (holds a) refl w
  ]
    where
      word_case : (b : Bool) → holds a ≡ b → (within tables ks opening || ((within tables ks closing && is_some n) || apart tables ks brackets)) ≡ true
          → Passes n (level (word ks a) n) s (t ∷ ts) (after a s t) ts
      word_case true q w = held_word ks a n s t ts q (and_left (fits ks a) _ h) e
      word_case false q w = plain_word ks a n s t ts q w e
  passes {f = rule m} {s = s} {ts = ts} {rest = rest} (Derives.a_rule {new = mid} d) n h =
      from_inside n s mid _ ts rest (subst (λ z. Passes 0 z s ts mid rest) (flat m) (passes d 0 (ok m))) (closed_keeps m mid)
  passes Derives.nothing n h = record { at = λ k. refl }
  passes {f = f then g} (Derives.both d e _) n h = joined (passes d n (and_left (even f n) _ h)) (passes e (level f n) (and_right (even f n) _ h))
  passes {f = f or g} (Derives.left d) n h = passes d n (and_left (even f n) _ h)
  passes {f = f or g} {s = s} {new = new} {ts = ts} {rest = rest} (Derives.right d) n h =
      subst (λ z. Passes n z s ts new rest) (same_level (level g n) (level f n) (and_right (even g n) _ (and_right (even f n) _ h))) (passes d n (and_left (even g n) _ (and_right (even f n) _ h)))
  passes Derives.skip n h = record { at = λ k. refl }
  passes {f = maybe f} {s = s} {new = new} {ts = ts} {rest = rest} (Derives.take d) n h =
      subst (λ z. Passes n z s ts new rest) (same_level (level f n) n (and_right (even f n) _ h)) (passes d n (and_left (even f n) _ h))
  passes Derives.stop n h = record { at = λ k. refl }
  passes {f = many f} {s = s} {ts = ts} (Derives.turn {mid = mid} {later = later} d e _) n h =
      joined (subst (λ z. Passes n z s ts mid later) (same_level (level f n) n (and_right (even f n) _ h)) (passes d n (and_left (even f n) _ h))) (passes e n h)
  passes {f = when p f g} (Derives.chosen _ d) n h = passes d n (and_left (even f n) _ h)
  passes {f = when p f g} {s = s} {new = new} {ts = ts} {rest = rest} (Derives.other _ d) n h =
      subst (λ z. Passes n z s ts new rest) (same_level (level g n) (level f n) (and_right (even g n) _ (and_right (even f n) _ h))) (passes d n (and_left (even g n) _ (and_right (even f n) _ h)))
  passes (Derives.done _) n h = record { at = λ k. refl }
  passes {f = loop p f} {s = s} {ts = ts} (Derives.again {mid = mid} {later = later} _ d e _) n h =
      joined (subst (λ z. Passes n z s ts mid later) (same_level (level f n) n (and_right (even f n) _ h)) (passes d n (and_left (even f n) _ h))) (passes e n h)

pub passes_over : {f : Form} {s new : Scopes} {ts rest : List Terminal} {xs : List Tree} → Derives parsed f s ts xs new rest → (n : ℕ) → even f n ≡ true → Passes n (level f n) s ts new rest
passes_over d n h = passes table evens levels d n h
