-- What the parser scans over attributes is what they derive.
use Rattle.std.proofs.Common.{◌≡◌, ℕ, suc, ◌+◌, ◌-◌, true, false, List, [], ◌∷◌, length, refl, sym, ap, subst, ◌∙◌, arith}
use Rattle.std.proofs.lemmas.Bool.{eqb-true}
use Rattle.std.specs.Prelude.{◌==◌}
use Rattle.model_grammar.specs.declared.grammar.Rule.TheVariants as r
use Rattle.model_grammar.specs.declared.grammar.Act.TheVariants as act
use Rattle.model_grammar.specs.declared.grammar.Terminal.{Terminal}
use Rattle.model_grammar.specs.declared.grammar.Tree.{Tree}
use Rattle.model_grammar.specs.GrammarForm.{Form, word, rule, many, ◌or◌, mem}
use Rattle.model_grammar.specs.Grammar.{others}
use Rattle.model_grammar.specs.Terminals as k
use Rattle.model_grammar.specs.NameScopes.{Scopes, kind, is_closing, is_opening, without_last}
use Rattle.model_grammar.specs.Derivation.{Derives}
use Rattle.grammar_laws.specs.apparatus.DecidedTable.{apart}
use Rattle.grammar_laws.specs.ParserSets.{tables}
use Rattle.grammar_laws.specs.ParserTable.{table}
use Rattle.grammar_laws.specs.ParserTests.{parsed, past_attributes, sees_attribute}
use Rattle.grammar_laws.proofs.kinds.KindSets.{within_mem}
use Rattle.grammar_laws.proofs.derivations.ClearBrackets.{closing, at_closing}
use Rattle.grammar_laws.specs.apparatus.DecidedTable.{within}
use Rattle.grammar_laws.proofs.kinds.TokenKinds.{is_it, decide}
use Rattle.grammar_laws.proofs.kinds.BracketKinds.{opening_kind, not_both, IsHeld, held_kind, no_opening, no_closing, brackets}

-- a token in a scan over attributes of which n + 1 brackets are open
positive : (n : ℕ) → (suc n == 0) ≡ false
positive n = decide (suc n == 0) (λ e. let q : suc n ≡ 0 = eqb-true (suc n) 0 e in absurd (omega arith))

opening_step : (n m : ℕ) (t : Terminal) (ts : List Terminal) → (n == 0) ≡ false → is_opening t.kind ≡ true → n + 1 ≡ m → past_attributes n (t ∷ ts) ≡ past_attributes m ts
unfolding past_attributes
opening_step n m t ts z h q = rw (z, h, q) refl

closing_step : (n m : ℕ) (t : Terminal) (ts : List Terminal) → (n == 0) ≡ false → is_opening t.kind ≡ false → is_closing t.kind ≡ true → n - 1 ≡ m → past_attributes n (t ∷ ts) ≡ past_attributes m ts
unfolding past_attributes
closing_step n m t ts z o h q = rw (z, o, h, q) refl

over_opening : (n : ℕ) (t : Terminal) (ts : List Terminal) → is_opening t.kind ≡ true → past_attributes (suc n) (t ∷ ts) ≡ past_attributes (suc (suc n)) ts
over_opening n t ts h = opening_step (suc n) (suc (suc n)) t ts (positive n) h (omega arith)

over_closing : (n : ℕ) (t : Terminal) (ts : List Terminal) → is_closing t.kind ≡ true → past_attributes (suc n) (t ∷ ts) ≡ past_attributes n ts
over_closing n t ts h = closing_step (suc n) n t ts (positive n) (not_both t.kind h) h (omega arith)

over_other : (n : ℕ) (t : Terminal) (ts : List Terminal) → is_opening t.kind ≡ false → is_closing t.kind ≡ false → past_attributes (suc n) (t ∷ ts) ≡ past_attributes (suc n) ts
unfolding past_attributes
over_other n t ts o c = rw (positive n, o, c) refl

-- the first bracket of an attribute
first_bracket : (t u : Terminal) (ts : List Terminal) → (t.kind == k.OpenBracket) ≡ true → (u.kind == k.OpenBracket) ≡ true → past_attributes 0 (t ∷ u ∷ ts) ≡ past_attributes 1 (u ∷ ts)
unfolding past_attributes
first_bracket t u ts e e' = let q : t.kind ≡ k.OpenBracket = eqb-true t.kind k.OpenBracket e in let p : u.kind ≡ k.OpenBracket = eqb-true u.kind k.OpenBracket e' in rw (q, p) refl

-- no attribute comes
pub none_left : (ts : List Terminal) → sees_attribute ts ≡ false → past_attributes 0 ts ≡ ts
unfolding past_attributes
none_left [] h = refl
none_left (t ∷ ts) h = rw h refl

-- the scopes differ in the brackets that are held open alone
pub record IsSame (s new : Scopes) : Type 0 where
  pub entries : new.entries ≡ s.entries
  pub reading : new.reading ≡ s.reading
  pub frames : new.frames ≡ s.frames

joined : (s mid new : Scopes) → IsSame s mid → IsSame mid new → IsSame s new
joined s mid new a b = record { entries = b.entries ∙ a.entries; reading = b.reading ∙ a.reading; frames = b.frames ∙ a.frames }

pub apart_others : apart tables others brackets ≡ true
unfolding apart mem
apart_others = refl

-- the tokens inside an attribute
abbrev pub balanced : Form
balanced = word others act.Keep or word (k.OpenParenthesis ∷ k.OpenBracket ∷ k.OpenBrace ∷ []) act.OpenBalanced or word (k.Closing ∷ []) act.CloseBalanced

pub record IsOver (n : ℕ) (s new : Scopes) (ts rest : List Terminal) : Type 0 where
  pub scanned : past_attributes (suc (n + length s.brackets)) ts ≡ past_attributes (suc (n + length new.brackets)) rest
  pub same : IsSame s new

same : (s : Scopes) → IsSame s s
same s = record { entries = refl; reading = refl; frames = refl }

one_more : (n m : ℕ) → suc (suc (n + m)) ≡ suc (n + suc m)
one_more n m = omega arith

let_go : (n : ℕ) (s : Scopes) (t : Terminal) (ts : List Terminal) → IsHeld s t
    → past_attributes (suc (n + length s.brackets)) (t ∷ ts) ≡ past_attributes (suc (n + length (without_last s.brackets))) ts
let_go n s t ts h =
    let p : past_attributes (suc (n + length (h.last ∷ h.others))) (t ∷ ts) ≡ past_attributes (suc (n + length h.others)) ts =
    ap (λ m. past_attributes m (t ∷ ts)) (sym (one_more n (length h.others))) ∙ over_closing (suc (n + length h.others)) t ts h.closes in
    subst (λ z. past_attributes (suc (n + length z)) (t ∷ ts) ≡ past_attributes (suc (n + length (without_last z))) ts) (sym h.held) p

over_one : (n : ℕ) {s new : Scopes} {ts rest : List Terminal} {xs : List Tree} → Derives parsed balanced s ts xs new rest → IsOver n s new ts rest
unfolding mem
over_one n {s = s} (Derives.left (Derives.a_word {t = t} {ts = us} e)) =
    record { scanned = over_other (n + length s.brackets) t us (no_opening others apart_others s t e) (no_closing others apart_others s t e); same = same s }
over_one n {s = s} (Derives.right (Derives.left (Derives.a_word {t = t} {ts = us} e))) =
    record { scanned = over_opening (n + length s.brackets) t us (opening_kind s t e) ∙ ap (λ m. past_attributes m us) (one_more n (length s.brackets)); same = record { entries = refl; reading = refl; frames = refl } }
over_one n {s = s} (Derives.right (Derives.right (Derives.a_word {t = t} {ts = us} e))) =
    record { scanned = let_go n s t us (held_kind s t e); same = record { entries = refl; reading = refl; frames = refl } }

over_balanced : (n : ℕ) {s new : Scopes} {ts rest : List Terminal} {xs : List Tree} → Derives parsed (many balanced) s ts xs new rest → IsOver n s new ts rest
over_balanced n {s = s} Derives.stop = record { scanned = refl; same = same s }
over_balanced n {s = s} {new = new} (Derives.turn {mid = mid} d e _) =
    let a = over_one n d in let b = over_balanced n e in record { scanned = a.scanned ∙ b.scanned; same = joined s mid new a.same b.same }

-- what is scanned over attributes
pub record IsPassed (s new : Scopes) (ts rest : List Terminal) : Type 0 where
  pub scanned : past_attributes 0 ts ≡ past_attributes 0 rest
  pub state : new ≡ s

pub is_bracket : (s : Scopes) (t : Terminal) → mem (kind s t) (k.OpenBracket ∷ []) ≡ true → (t.kind == k.OpenBracket) ≡ true
unfolding mem
is_bracket s t h = is_it k.OpenBracket (refl, refl, refl, refl, refl) s t h

pub is_closer : (s : Scopes) (t : Terminal) → mem (kind s t) (k.CloseBracket ∷ []) ≡ true → (t.kind == k.CloseBracket) ≡ true
unfolding mem
is_closer s t h = is_it k.CloseBracket (refl, refl, refl, refl, refl) s t h

pub opens_as : (t : Terminal) → (t.kind == k.OpenBracket) ≡ true → is_opening t.kind ≡ true
opens_as t e = let q : t.kind ≡ k.OpenBracket = eqb-true t.kind k.OpenBracket e in rw q refl

pub closes_as : (t : Terminal) → (t.kind == k.CloseBracket) ≡ true → is_closing t.kind ≡ true
closes_as t e = let q : t.kind ≡ k.CloseBracket = eqb-true t.kind k.CloseBracket e in rw q refl

pub clear_there : (s : Scopes) (t : Terminal) → mem (kind s t) (k.CloseBracket ∷ []) ≡ true → s.brackets ≡ []
unfolding mem within
clear_there s t h = at_closing s t (within_mem tables (kind s t) (k.CloseBracket ∷ []) closing refl h)

all_same : (s new : Scopes) → IsSame s new → new.brackets ≡ s.brackets → new ≡ s
all_same s new h b = rw (h.entries, h.reading, h.frames, b) refl

through : (s mid : Scopes) (t u v w : Terminal) (us rest : List Terminal) → (t.kind == k.OpenBracket) ≡ true → (u.kind == k.OpenBracket) ≡ true
    → (v.kind == k.CloseBracket) ≡ true → (w.kind == k.CloseBracket) ≡ true → s.brackets ≡ [] → mid.brackets ≡ [] → IsOver 1 s mid us (v ∷ w ∷ rest)
    → past_attributes 0 (t ∷ u ∷ us) ≡ past_attributes 0 rest
through s mid t u v w us rest e1 e2 e3 e4 b c d =
    let p : past_attributes 2 us ≡ past_attributes 2 (v ∷ w ∷ rest) =
    subst (λ z. past_attributes (suc (1 + length z)) us ≡ past_attributes 2 (v ∷ w ∷ rest)) b
    (subst (λ z. past_attributes (suc (1 + length s.brackets)) us ≡ past_attributes (suc (1 + length z)) (v ∷ w ∷ rest)) c d.scanned) in
    first_bracket t u us e1 e2 ∙ (over_opening 0 u us (opens_as u e2) ∙ (p ∙ (over_closing 1 v (w ∷ rest) (closes_as v e3) ∙ over_closing 0 w rest (closes_as w e4))))

pub over_attribute : {s new : Scopes} {ts rest : List Terminal} {xs : List Tree} → s.brackets ≡ [] → Derives parsed (rule r.Attr) s ts xs new rest → IsPassed s new ts rest
unfolding table
over_attribute {s = s} b
    (Derives.a_rule (Derives.both (Derives.a_word {t = t} e1) (Derives.both (Derives.a_word {t = u} {ts = us} e2) (Derives.both (Derives.a_rule {new = mid} d) (Derives.both (Derives.a_word {t = v} e3) (Derives.a_word {t = w} {ts = rest} e4) p1) p2) p3) p4)) =
    let o = over_balanced 1 d in
    let c = clear_there mid v e3 in
    record { scanned = through s mid t u v w us rest (is_bracket s t e1) (is_bracket s u e2) (is_closer mid v e3) (is_closer mid w e4) b c o; state = all_same s mid o.same (c ∙ sym b) }

pub over_many : {s new : Scopes} {ts rest : List Terminal} {xs : List Tree} → s.brackets ≡ [] → Derives parsed (many (rule r.Attr)) s ts xs new rest → IsPassed s new ts rest
over_many {s = s} b Derives.stop = record { scanned = refl; state = refl }
over_many {s = s} b (Derives.turn {mid = mid} d e _) =
    let p = over_attribute b d in
    let q = over_many (ap (λ z. z.brackets) p.state ∙ b) e in
    record { scanned = p.scanned ∙ q.scanned; state = q.state ∙ p.state }

pub over_attributes : {s new : Scopes} {ts rest : List Terminal} {xs : List Tree} → s.brackets ≡ [] → Derives parsed (rule r.Attrs) s ts xs new rest → IsPassed s new ts rest
unfolding table
over_attributes b (Derives.a_rule d) = over_many b d
