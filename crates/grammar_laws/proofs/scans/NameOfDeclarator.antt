-- The scan for the name of a parameter's declarator finds it where one is derived, and none where an abstract one is.
use Rattle.std.proofs.Common.{arith, ◌-◌, ◌≡◌, ℕ, suc, ◌+◌, length, Bool, true, false, ◌&&◌, List, [], ◌∷◌, refl, sym, ap, subst, ◌∙◌}
use Rattle.std.proofs.lemmas.Bool.{eqb-true}
use Rattle.std.specs.Prelude.{◌==◌}
use Rattle.model_grammar.specs.declared.grammar.Rule.TheVariants as r
use Rattle.model_grammar.specs.declared.grammar.Test.TheVariants as test
use Rattle.model_grammar.specs.declared.grammar.Terminal.{Terminal}
use Rattle.model_grammar.specs.declared.grammar.Before.{Before}
use Rattle.model_grammar.specs.declared.grammar.Before.TheVariants.{AtStart, BehindStar, BehindQualifier, Inside}
use Rattle.model_grammar.specs.declared.grammar.Tree.{Tree}
use Rattle.model_grammar.specs.GrammarForm.{rule, many, loop, mem}
use Rattle.model_grammar.specs.Terminals as k
use Rattle.model_grammar.specs.NameScopes.{Scopes, kind, is_opening, is_closing, without_last}
use Rattle.model_grammar.specs.Derivation.{Derives}
use Rattle.grammar_laws.specs.FirstTokens.{first}
use Rattle.grammar_laws.specs.ParserTable.{table}
use Rattle.grammar_laws.specs.ParserSets.{firsts}
use Rattle.grammar_laws.specs.ParserTests.{parsed, sees_attribute, names_declarator, declarator_step, is_name, declares, is_qualifier}
use Rattle.grammar_laws.proofs.kinds.TokenKinds.{absent, raw, decide}
use Rattle.grammar_laws.proofs.kinds.BracketKinds.{opening_kind, not_both, IsHeld, held_kind, no_opening, no_closing}
use Rattle.grammar_laws.proofs.scans.PastAttributes.{over_attribute, balanced, apart_others, clear_there, is_bracket, is_closer, opens_as, closes_as}
use Rattle.model_grammar.specs.Grammar.{others}

-- the place is in an attribute
unfoldable pub is_inside : Before → Bool
is_inside (Inside n) = true
is_inside _ = false

-- it is behind a `*`, or its attributes
unfoldable pub is_star : Before → Bool
is_star BehindStar = true
is_star _ = false

-- it is behind a `*`, its attributes, or its qualifiers
unfoldable pub is_behind : Before → Bool
is_behind BehindStar = true
is_behind BehindQualifier = true
is_behind _ = false

-- the place in the scan is that in the scopes
pub record IsAt (before : Before) (first s : Scopes) : Type 0 where
  pub outside : is_inside before ≡ false
  pub typed : s.reading.typed ≡ declares before
  pub entries : s.entries ≡ first.entries
  pub parameter : s.reading.parameter ≡ true
  pub clear : s.brackets ≡ []

-- one token of the scan
pub at_star : (b : Before) (s : Scopes) (t : Terminal) (ts : List Terminal) → is_inside b ≡ false → (t.kind == k.Star) ≡ true → names_declarator b s (t ∷ ts) ≡ names_declarator BehindStar s ts
unfolding names_declarator declarator_step is_inside
at_star (Inside n) s t ts o h = absurd (cc)
at_star (AtStart typed) s t ts o h = rw h refl
at_star BehindStar s t ts o h = rw h refl
at_star BehindQualifier s t ts o h = rw h refl

pub at_parenthesis : (b : Before) (s : Scopes) (t : Terminal) (ts : List Terminal) → is_inside b ≡ false → (t.kind == k.OpenParenthesis) ≡ true
    → names_declarator b s (t ∷ ts) ≡ names_declarator (AtStart false) s ts
unfolding names_declarator declarator_step is_inside
at_parenthesis (Inside n) s t ts o h = absurd (cc)
at_parenthesis (AtStart typed) s t ts o h = let q : t.kind ≡ k.OpenParenthesis = eqb-true t.kind k.OpenParenthesis h in rw q refl
at_parenthesis BehindStar s t ts o h = let q : t.kind ≡ k.OpenParenthesis = eqb-true t.kind k.OpenParenthesis h in rw q refl
at_parenthesis BehindQualifier s t ts o h = let q : t.kind ≡ k.OpenParenthesis = eqb-true t.kind k.OpenParenthesis h in rw q refl

pub at_qualifier : (b : Before) (s : Scopes) (t : Terminal) (ts : List Terminal) → is_behind b ≡ true → (t.kind == k.Star) ≡ false
    → (t.kind == k.OpenParenthesis) ≡ false → is_qualifier t.kind ≡ true → names_declarator b s (t ∷ ts) ≡ names_declarator BehindQualifier s ts
unfolding names_declarator declarator_step is_behind
at_qualifier (Inside n) s t ts o x y h = absurd (cc)
at_qualifier (AtStart typed) s t ts o x y h = absurd (cc)
at_qualifier BehindStar s t ts o x y h = rw (x, y, h) refl
at_qualifier BehindQualifier s t ts o x y h = rw (x, y, h) refl

-- any other token ends the scan
pub at_other : (b : Before) (s : Scopes) (t : Terminal) (ts : List Terminal) → is_inside b ≡ false → (t.kind == k.Star) ≡ false
    → (t.kind == k.OpenParenthesis) ≡ false → (is_behind b && is_qualifier t.kind) ≡ false → (is_star b && sees_attribute (t ∷ ts)) ≡ false
    → names_declarator b s (t ∷ ts) ≡ is_name b s t
unfolding names_declarator declarator_step is_behind is_inside is_star
at_other (Inside n) s t ts o x y z a = absurd (cc)
at_other (AtStart typed) s t ts o x y z a = rw (x, y) refl
at_other BehindStar s t ts o x y z a = rw (x, y, z, a) refl
at_other BehindQualifier s t ts o x y z a = rw (x, y, z) refl

-- inside an attribute
inside_opening : (n m : ℕ) (s : Scopes) (t : Terminal) (ts : List Terminal) → is_opening t.kind ≡ true → n + 1 ≡ m → names_declarator (Inside n) s (t ∷ ts) ≡ names_declarator (Inside m) s ts
unfolding names_declarator declarator_step
inside_opening n m s t ts h q = rw (h, q) refl

inside_closing : (n m : ℕ) (s : Scopes) (t : Terminal) (ts : List Terminal) → is_closing t.kind ≡ true → (n == 1) ≡ false → n - 1 ≡ m
    → names_declarator (Inside n) s (t ∷ ts) ≡ names_declarator (Inside m) s ts
unfolding names_declarator declarator_step
inside_closing n m s t ts h z q = rw (not_both t.kind h, h, z, q) refl

inside_end : (s : Scopes) (t : Terminal) (ts : List Terminal) → is_closing t.kind ≡ true → names_declarator (Inside 1) s (t ∷ ts) ≡ names_declarator BehindStar s ts
unfolding names_declarator declarator_step
inside_end s t ts h = rw (not_both t.kind h, h) refl

inside_other : (n : ℕ) (s : Scopes) (t : Terminal) (ts : List Terminal) → is_opening t.kind ≡ false → is_closing t.kind ≡ false
    → names_declarator (Inside n) s (t ∷ ts) ≡ names_declarator (Inside n) s ts
unfolding names_declarator declarator_step
inside_other n s t ts o c = rw (o, c) refl

attribute_opens : (s : Scopes) (t u : Terminal) (ts : List Terminal) → (t.kind == k.OpenBracket) ≡ true → (u.kind == k.OpenBracket) ≡ true
    → names_declarator BehindStar s (t ∷ u ∷ ts) ≡ names_declarator (Inside 1) s (u ∷ ts)
unfolding names_declarator declarator_step mem firsts
attribute_opens s t u ts e e' = let q : t.kind ≡ k.OpenBracket = eqb-true t.kind k.OpenBracket e in let p : u.kind ≡ k.OpenBracket = eqb-true u.kind k.OpenBracket e' in rw (q, p) refl

not_one : (n : ℕ) → (suc (suc n) == 1) ≡ false
not_one n = decide (suc (suc n) == 1) (λ e. let q : suc (suc n) ≡ 1 = eqb-true (suc (suc n)) 1 e in absurd (omega arith))

one_more : (n m : ℕ) → suc (n + m) + 1 ≡ suc (n + suc m)
one_more n m = omega arith

two_less : (n m : ℕ) → suc (n + suc m) ≡ suc (suc (n + m))
two_less n m = omega arith

one_less : (n m : ℕ) → suc (suc (n + m)) - 1 ≡ suc (n + m)
one_less n m = omega arith

let_go : (first : Scopes) (n : ℕ) (s : Scopes) (t : Terminal) (ts : List Terminal) → IsHeld s t
    → names_declarator (Inside (suc (n + length s.brackets))) first (t ∷ ts) ≡ names_declarator (Inside (suc (n + length (without_last s.brackets)))) first ts
let_go first n s t ts h =
    let p : names_declarator (Inside (suc (n + length (h.last ∷ h.others)))) first (t ∷ ts) ≡ names_declarator (Inside (suc (n + length h.others))) first ts =
    ap (λ m. names_declarator (Inside m) first (t ∷ ts)) (two_less n (length h.others)) ∙ inside_closing (suc (suc (n + length h.others)))
    (suc (n + length h.others)) first t ts h.closes (not_one (n + length h.others)) (one_less n (length h.others)) in
    subst (λ z. names_declarator (Inside (suc (n + length z))) first (t ∷ ts) ≡ names_declarator (Inside (suc (n + length (without_last z)))) first ts) (sym h.held) p

inside_one : (first : Scopes) (n : ℕ) {s new : Scopes} {ts rest : List Terminal} {xs : List Tree} → Derives parsed balanced s ts xs new rest
    → names_declarator (Inside (suc (n + length s.brackets))) first ts ≡ names_declarator (Inside (suc (n + length new.brackets))) first rest
inside_one first n {s = s} (Derives.left (Derives.a_word {t = t} {ts = us} e)) = inside_other (suc (n + length s.brackets)) first t us (no_opening others apart_others s t e) (no_closing others apart_others s t e)
inside_one first n {s = s} (Derives.right (Derives.left (Derives.a_word {t = t} {ts = us} e))) = inside_opening (suc (n + length s.brackets)) (suc (n + suc (length s.brackets))) first t us (opening_kind s t e) (one_more n (length s.brackets))
inside_one first n {s = s} (Derives.right (Derives.right (Derives.a_word {t = t} {ts = us} e))) = let_go first n s t us (held_kind s t e)

inside_many : (first : Scopes) (n : ℕ) {s new : Scopes} {ts rest : List Terminal} {xs : List Tree} → Derives parsed (many balanced) s ts xs new rest
    → names_declarator (Inside (suc (n + length s.brackets))) first ts ≡ names_declarator (Inside (suc (n + length new.brackets))) first rest
inside_many first n Derives.stop = refl
inside_many first n (Derives.turn d e _) = inside_one first n d ∙ inside_many first n e

through : (first s mid : Scopes) (t u v w : Terminal) (us rest : List Terminal) → (t.kind == k.OpenBracket) ≡ true → (u.kind == k.OpenBracket) ≡ true
    → (v.kind == k.CloseBracket) ≡ true → (w.kind == k.CloseBracket) ≡ true → s.brackets ≡ [] → mid.brackets ≡ []
    → names_declarator (Inside (suc (1 + length s.brackets))) first us ≡ names_declarator (Inside (suc (1 + length mid.brackets))) first (v ∷ w ∷ rest)
    → names_declarator BehindStar first (t ∷ u ∷ us) ≡ names_declarator BehindStar first rest
through first s mid t u v w us rest e1 e2 e3 e4 b c d =
    let p : names_declarator (Inside 2) first us ≡ names_declarator (Inside 2) first (v ∷ w ∷ rest) =
    subst (λ z. names_declarator (Inside (suc (1 + length z))) first us ≡ names_declarator (Inside 2) first (v ∷ w ∷ rest)) b
    (subst (λ z. names_declarator (Inside (suc (1 + length s.brackets))) first us ≡ names_declarator (Inside (suc (1 + length z))) first (v ∷ w ∷ rest)) c d) in
    attribute_opens first t u us e1 e2 ∙
    (inside_opening 1 2 first u us (opens_as u e2) refl ∙ (p ∙ (inside_closing 2 1 first v (w ∷ rest) (closes_as v e3) refl refl ∙ inside_end first w rest (closes_as w e4))))

-- attributes behind a `*`
pub over_one : (first : Scopes) {s new : Scopes} {ts rest : List Terminal} {xs : List Tree} → s.brackets ≡ [] → Derives parsed (rule r.Attr) s ts xs new rest
    → names_declarator BehindStar first ts ≡ names_declarator BehindStar first rest
unfolding table
over_one first {s = s} b
    (Derives.a_rule (Derives.both (Derives.a_word {t = t} e1) (Derives.both (Derives.a_word {t = u} {ts = us} e2) (Derives.both (Derives.a_rule {new = mid} d) (Derives.both (Derives.a_word {t = v} e3) (Derives.a_word {t = w} {ts = rest} e4) p1) p2) p3) p4)) =
    through first s mid t u v w us rest (is_bracket s t e1) (is_bracket s u e2) (is_closer mid v e3) (is_closer mid w e4) b (clear_there mid v e3) (inside_many first 1 d)

-- behind a part of a declarator the scan stands where it was
pub record IsStill (first s new : Scopes) (ts rest : List Terminal) : Type 0 where
  pub scanned : names_declarator BehindStar first ts ≡ names_declarator BehindStar first rest
  pub state : new ≡ s

pub over_many : (first : Scopes) {s new : Scopes} {ts rest : List Terminal} {xs : List Tree} → s.brackets ≡ [] → Derives parsed (many (rule r.Attr)) s ts xs new rest → IsStill first s new ts rest
over_many first b Derives.stop = record { scanned = refl; state = refl }
over_many first {s = s} b (Derives.turn d e _) =
    let p = over_attribute b d in
    let q = over_many first (ap (λ z. z.brackets) p.state ∙ b) e in
    record { scanned = over_one first b d ∙ q.scanned; state = q.state ∙ p.state }

pub over_loop : (first : Scopes) {s new : Scopes} {ts rest : List Terminal} {xs : List Tree} → s.brackets ≡ []
    → Derives parsed (loop test.AttributeAhead (rule r.Attr)) s ts xs new rest → IsStill first s new ts rest
over_loop first b (Derives.done h) = record { scanned = refl; state = refl }
over_loop first {s = s} b (Derives.again h d e _) =
    let p = over_attribute b d in
    let q = over_loop first (ap (λ z. z.brackets) p.state ∙ b) e in
    record { scanned = over_one first b d ∙ q.scanned; state = q.state ∙ p.state }

-- where the scan of a part ends
pub record IsAfter (before : Before) (first new : Scopes) (ts rest : List Terminal) : Type 0 where
  pub behind : Before
  pub at : IsAt behind first new
  pub same : names_declarator before first ts ≡ names_declarator behind first rest
  pub pointed : is_behind behind ≡ true
  pub calm : (is_star before && sees_attribute ts) ≡ false → (is_star behind && sees_attribute rest) ≡ false

qualifies : (s : Scopes) (t : Terminal) → mem (kind s t) (k.Const ∷ k.Restrict ∷ k.Owner ∷ k.View ∷ k.Opt ∷ []) ≡ true → is_qualifier t.kind ≡ true
unfolding mem firsts
qualifies s t e = raw (k.Const ∷ k.Restrict ∷ k.Owner ∷ k.View ∷ k.Opt ∷ []) (refl, refl, refl, refl, refl) s t e

no_star : (s : Scopes) (t : Terminal) → mem (kind s t) (k.Const ∷ k.Restrict ∷ k.Owner ∷ k.View ∷ k.Opt ∷ []) ≡ true → (t.kind == k.Star) ≡ false
unfolding mem
no_star s t e = absent (k.Const ∷ k.Restrict ∷ k.Owner ∷ k.View ∷ k.Opt ∷ []) k.Star refl refl refl refl s t e

no_open : (s : Scopes) (t : Terminal) → mem (kind s t) (k.Const ∷ k.Restrict ∷ k.Owner ∷ k.View ∷ k.Opt ∷ []) ≡ true → (t.kind == k.OpenParenthesis) ≡ false
unfolding mem
no_open s t e = absent (k.Const ∷ k.Restrict ∷ k.Owner ∷ k.View ∷ k.Opt ∷ []) k.OpenParenthesis refl refl refl refl s t e

behind_declares : (b : Before) → is_behind b ≡ true → declares b ≡ true
unfolding is_behind
behind_declares (Inside n) h = absurd (cc)
behind_declares (AtStart typed) h = absurd (cc)
behind_declares BehindStar h = refl
behind_declares BehindQualifier h = refl

pub over_qualifiers : (first : Scopes) (before : Before) {s new : Scopes} {ts rest : List Terminal} {xs : List Tree} → is_behind before ≡ true
    → IsAt before first s → Derives parsed (many (rule r.Qual)) s ts xs new rest → IsAfter before first new ts rest
unfolding table is_inside is_behind is_star
over_qualifiers first before b a Derives.stop = record { behind = before; at = a; same = refl; pointed = b; calm = λ h. h }
over_qualifiers first before {s = s} b a (Derives.turn (Derives.a_rule (Derives.a_word {t = t} {ts = us} e)) d _) =
    let q = over_qualifiers first BehindQualifier refl (record { outside = refl; typed = a.typed ∙ behind_declares before b; entries = a.entries; parameter = a.parameter; clear = a.clear }) d in
    record { behind = q.behind; at = q.at; same = at_qualifier before first t us b (no_star s t e) (no_open s t e) (qualifies s t e) ∙ q.same; pointed = q.pointed; calm = λ h. q.calm refl }
