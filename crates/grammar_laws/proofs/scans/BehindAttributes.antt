-- What stands behind attributes decides whether a declaration, a label or a statement comes.
use Rattle.std.proofs.Common.{◌≡◌, ℕ, Bool, true, false, ◌&&◌, ◌||◌, List, [], ◌∷◌, refl, sym, ap, subst, ◌∙◌}
use Rattle.std.proofs.lemmas.Bool.{eqb-true}
use Rattle.std.specs.Prelude.{◌==◌}
use Rattle.model_grammar.specs.declared.grammar.Rule.{Rule}
use Rattle.model_grammar.specs.declared.grammar.Rule.TheVariants as r
use Rattle.model_grammar.specs.declared.grammar.Act.TheVariants as act
use Rattle.model_grammar.specs.declared.grammar.Test.TheVariants as test
use Rattle.model_grammar.specs.declared.grammar.Terminal.{Terminal}
use Rattle.model_grammar.specs.declared.grammar.Tree.{Tree}
use Rattle.model_grammar.specs.GrammarForm.{rule, mem}
use Rattle.model_grammar.specs.NameScopes.{Scopes, kind, after}
use Rattle.model_grammar.specs.Derivation.{Derives}
use Rattle.model_grammar.specs.Terminals as k
use Rattle.grammar_laws.specs.apparatus.DecidedTable.{apart}
use Rattle.grammar_laws.specs.ParserWalk.{ahead}
use Rattle.grammar_laws.specs.ParserTable.{table}
use Rattle.grammar_laws.specs.ParserSets.{tables, firsts}
use Rattle.grammar_laws.specs.ParserTests.{parsed, passes, past_attributes, sees, sees_attribute, sees_assertion, sees_attributes_alone, specifies, may_come, sees_label}
use Rattle.grammar_laws.proofs.kinds.KindSets.{apart_mem, clash, or_right}
use Rattle.grammar_laws.proofs.kinds.TokenKinds.{is_it, absent, decide}
use Rattle.grammar_laws.proofs.scans.PastAttributes.{over_attribute, over_attributes, none_left}

pub missing : (F : List ℕ) (j : ℕ) → (j == k.Name) ≡ false → mem j F ≡ false → mem k.Closing F ≡ false → mem k.Stray F ≡ false
    → (s : Scopes) (ts : List Terminal) → mem (ahead tables parsed s ts) F ≡ true → sees j ts ≡ false
unfolding ahead
missing F j n a b c s [] h = refl
missing F j n a b c s (t ∷ ts) h = absent F j n a b c s t h

pub no_attribute : (ts : List Terminal) → sees k.OpenBracket ts ≡ false → sees_attribute ts ≡ false
no_attribute [] h = refl
no_attribute (t ∷ []) h = refl
no_attribute (t ∷ u ∷ ts) h = rw h refl

is_bracket : (s : Scopes) (t : Terminal) → mem (kind s t) (k.OpenBracket ∷ []) ≡ true → (t.kind == k.OpenBracket) ≡ true
unfolding mem
is_bracket s t h = is_it k.OpenBracket (refl, refl, refl, refl, refl) s t h

-- attributes begin with two brackets
pub attribute_seen : {s new : Scopes} {ts rest : List Terminal} {xs : List Tree} → Derives parsed (rule r.Attr) s ts xs new rest → sees_attribute ts ≡ true
unfolding table
attribute_seen {s = s} (Derives.a_rule (Derives.both (Derives.a_word {t = t} e) (Derives.both (Derives.a_word {t = u} {ts = us} e') d p) q)) =
    rw (is_bracket s t e, is_bracket (after act.Keep s t) u e') refl

no_assertion : (ts : List Terminal) → sees_attribute ts ≡ true → sees_assertion ts ≡ false
no_assertion [] h = refl
no_assertion (t ∷ []) h = absurd (cc)
no_assertion (t ∷ u ∷ ts) h = let q : t.kind ≡ k.OpenBracket = eqb-true t.kind k.OpenBracket (left (t.kind == k.OpenBracket) (u.kind == k.OpenBracket) h) in rw q refl
  where
    left : (a b : Bool) → (a && b) ≡ true → a ≡ true
    left true b h = refl
    left false b h = h

-- what stands behind the attributes, and in which scopes
pub record IsBehind (s mid : Scopes) (ts later : List Terminal) : Type 0 where
  pub past : past_attributes 0 ts ≡ later
  pub state : mid ≡ s
  pub assertion : sees_assertion later ≡ false → sees_assertion ts ≡ false

assertion_behind : {s mid : Scopes} {ts later : List Terminal} {xs : List Tree} → Derives parsed (rule r.Attrs) s ts xs mid later → sees_assertion later ≡ false → sees_assertion ts ≡ false
unfolding table
assertion_behind (Derives.a_rule Derives.stop) h = h
assertion_behind {ts = ts} (Derives.a_rule (Derives.turn d e _)) h = no_assertion ts (attribute_seen d)

pub behind_attributes : {s mid : Scopes} {ts later : List Terminal} {xs : List Tree} → s.brackets ≡ [] → Derives parsed (rule r.Attrs) s ts xs mid later
    → sees_attribute later ≡ false → IsBehind s mid ts later
behind_attributes {later = later} c d h = let p = over_attributes c d in record { past = p.scanned ∙ none_left later h; state = p.state; assertion = λ e. assertion_behind d e }

-- a set of kinds that begin no attribute, assertion or specifiers, and are no `;`
pub record IsPlain (F : List ℕ) : Type 0 where
  pub bracket : mem k.OpenBracket F ≡ false
  pub first : mem 1 F ≡ false
  pub second : mem 2 F ≡ false
  pub closed : mem k.Closing F ≡ false
  pub stray : mem k.Stray F ≡ false

pub open_behind : {s mid : Scopes} {ts later : List Terminal} {xs : List Tree} (F : List ℕ) → IsPlain F → s.brackets ≡ []
    → Derives parsed (rule r.Attrs) s ts xs mid later → mem (ahead tables parsed mid later) F ≡ true → IsBehind s mid ts later
open_behind {mid = mid} {later = later} F f c d h = behind_attributes c d (no_attribute later (missing F k.OpenBracket refl f.bracket f.closed f.stray mid later h))

asserts_not : (F : List ℕ) → IsPlain F → (s : Scopes) (ts : List Terminal) → mem (ahead tables parsed s ts) F ≡ true → sees_assertion ts ≡ false
asserts_not F f s ts h = rw (missing F 1 refl f.first f.closed f.stray s ts h, missing F 2 refl f.second f.closed f.stray s ts h) refl

and_false : (b : Bool) → (b && false) ≡ false
and_false true = refl
and_false false = refl

alone_not : (ts later : List Terminal) → past_attributes 0 ts ≡ later → sees k.Semicolon later ≡ false → sees_attributes_alone ts ≡ false
alone_not ts later p h = let q : sees k.Semicolon (past_attributes 0 ts) ≡ false = ap (λ z. sees k.Semicolon z) p ∙ h in rw q (and_false (sees_attribute ts))

pub specifiers_plain : IsPlain (firsts r.Specs)
unfolding firsts mem
specifiers_plain = record { bracket = refl; first = refl; second = refl; closed = refl; stray = refl }

specifiers_end : mem k.Semicolon (firsts r.Specs) ≡ false
unfolding firsts mem
specifiers_end = refl

-- specifiers stand behind the attributes
pub specified : {s mid : Scopes} {ts later : List Terminal} {xs : List Tree} → s.brackets ≡ [] → Derives parsed (rule r.Attrs) s ts xs mid later
    → mem (ahead tables parsed mid later) (firsts r.Specs) ≡ true → passes test.SpecifiersAhead s ts ≡ true
specified {mid = mid} {ts = ts} {later = later} c d h =
    let b = open_behind (firsts r.Specs) specifiers_plain c d h in
    let a = b.assertion (asserts_not (firsts r.Specs) specifiers_plain mid later h) in
    let e = alone_not ts later b.past (missing (firsts r.Specs) k.Semicolon refl specifiers_end specifiers_plain.closed specifiers_plain.stray mid later h) in
    rw (a, e) refl

pub comes : (n : Rule) (s : Scopes) (ts : List Terminal) → mem (ahead tables parsed s ts) (firsts n) ≡ true → mem 0 (firsts n) ≡ false → may_come n s ts ≡ true
unfolding ahead
comes n s [] h z = absurd (clash _ h z)
comes n s (t ∷ ts) h z = h

pub no_end : mem 0 (firsts r.Specs) ≡ false
unfolding firsts mem
no_end = refl

pub declared : {s mid : Scopes} {ts later : List Terminal} {xs : List Tree} → s.brackets ≡ [] → Derives parsed (rule r.Attrs) s ts xs mid later
    → mem (ahead tables parsed mid later) (firsts r.Specs) ≡ true → passes test.DeclarationAhead s ts ≡ true
declared {s = s} {mid = mid} {ts = ts} {later = later} c d h =
    let b = open_behind (firsts r.Specs) specifiers_plain c d h in
    let k : may_come r.Specs s (past_attributes 0 ts) ≡ true =
    subst (λ z. may_come r.Specs s z ≡ true) (sym b.past) (comes r.Specs s later (subst (λ z. mem (ahead tables parsed z later) (firsts r.Specs) ≡ true) b.state h) no_end) in
    or_right (sees_assertion ts || sees_attributes_alone ts) (specifies s ts) k

-- something else does
pub comes_not : (F : List ℕ) → apart tables F (firsts r.Specs) ≡ true → (s : Scopes) (ts : List Terminal) → mem (ahead tables parsed s ts) F ≡ true → may_come r.Specs s ts ≡ false
unfolding ahead
comes_not F a s [] h = refl
comes_not F a s (t ∷ ts) h = decide (mem (kind s t) (firsts r.Specs)) (λ e. apart_mem tables (kind s t) F (firsts r.Specs) a h e)

pub undeclared : {s mid : Scopes} {ts later : List Terminal} {xs : List Tree} (F : List ℕ) → IsPlain F → apart tables F (firsts r.Specs) ≡ true
    → s.brackets ≡ [] → Derives parsed (rule r.Attrs) s ts xs mid later → mem (ahead tables parsed mid later) F ≡ true → sees_attributes_alone ts ≡ false
    → passes test.DeclarationAhead s ts ≡ false
undeclared {s = s} {mid = mid} {ts = ts} {later = later} F f n c d h e =
    let b = open_behind F f c d h in
    let a = b.assertion (asserts_not F f mid later h) in
    let k : may_come r.Specs s (past_attributes 0 ts) ≡ false =
    subst (λ z. may_come r.Specs s z ≡ false) (sym b.past) (comes_not F n s later (subst (λ z. mem (ahead tables parsed z later) F ≡ true) b.state h)) in
    rw (a, e, k) refl

pub not_alone : {s mid : Scopes} {ts later : List Terminal} {xs : List Tree} (F : List ℕ) → IsPlain F → mem k.Semicolon F ≡ false → s.brackets ≡ []
    → Derives parsed (rule r.Attrs) s ts xs mid later → mem (ahead tables parsed mid later) F ≡ true → sees_attributes_alone ts ≡ false
not_alone {mid = mid} {ts = ts} {later = later} F f z c d h = let b = open_behind F f c d h in alone_not ts later b.past (missing F k.Semicolon refl z f.closed f.stray mid later h)

pub unlabelled : {s mid : Scopes} {ts later : List Terminal} {xs : List Tree} (F : List ℕ) → IsPlain F → mem k.Case F ≡ false → mem k.Default F ≡ false
    → s.brackets ≡ [] → Derives parsed (rule r.Attrs) s ts xs mid later → mem (ahead tables parsed mid later) F ≡ true → passes test.LabelAhead s ts ≡ false
unlabelled {mid = mid} {ts = ts} {later = later} F f x y c d h =
    let b = open_behind F f c d h in
    subst (λ z. sees_label z ≡ false) (sym b.past) (rw (missing F k.Case refl x f.closed f.stray mid later h, missing F k.Default refl y f.closed f.stray mid later h) refl)

-- attributes alone, with `;` behind them
pub alone : {s m mid : Scopes} {ts more : List Terminal} {u : Terminal} {us : List Terminal} {xs ys : List Tree} → s.brackets ≡ []
    → Derives parsed (rule r.Attr) s ts xs m more → Derives parsed (rule r.Attrs) m more ys mid (u ∷ us) → mem (kind mid u) (k.Semicolon ∷ []) ≡ true
    → sees_attributes_alone ts ≡ true
unfolding mem
alone {mid = mid} {ts = ts} {u = u} {us = us} c d e w =
    let p = over_attribute c d in
    let q = over_attributes (ap (λ z. z.brackets) p.state ∙ c) e in
    let n = none_left (u ∷ us) (no_attribute (u ∷ us) (absent (k.Semicolon ∷ []) k.OpenBracket refl refl refl refl mid u w)) in
    let g : past_attributes 0 ts ≡ u ∷ us = p.scanned ∙ (q.scanned ∙ n) in
    let j : sees k.Semicolon (past_attributes 0 ts) ≡ true = ap (λ z. sees k.Semicolon z) g ∙ is_it k.Semicolon (refl, refl, refl, refl, refl) mid u w in
    rw (attribute_seen d, j) refl
