-- Where a list of type specifiers and qualifiers ends, what the scan for braces that no enumeration takes says of it.
use Rattle.std.proofs.Common.{◌≡◌, ℕ, Bool, true, false, not, ◌&&◌, ◌||◌, List, [], ◌∷◌, None, refl, sym, subst}
use Rattle.std.proofs.lemmas.Bool.{eqb-true}
use Rattle.std.specs.Prelude.{◌==◌}
use Rattle.model_grammar.specs.declared.grammar.Rule.TheVariants as r
use Rattle.model_grammar.specs.declared.grammar.Terminal.{Terminal}
use Rattle.model_grammar.specs.declared.grammar.Within.TheVariants.{Between, BehindColon, BehindTag}
use Rattle.model_grammar.specs.GrammarForm.{mem}
use Rattle.model_grammar.specs.NameScopes.{Scopes, kind, is_type, bracket_kind}
use Rattle.grammar_laws.specs.apparatus.DecidedTable.{apart, within}
use Rattle.grammar_laws.specs.ParserWalk.{ahead}
use Rattle.grammar_laws.specs.ParserSets.{tables, firsts}
use Rattle.model_grammar.specs.SyntaxTree.{sees_type}
use Rattle.model_grammar.specs.Terminals as k
use Rattle.grammar_laws.specs.ParserTests.{parsed, lacks_enumeration, specifier_step, sees_name}
use Rattle.grammar_laws.proofs.kinds.KindSets.{apart_mem, within_mem, clash}
use Rattle.grammar_laws.proofs.kinds.TokenKinds.{decide, unseen, unnamed, absent}
use Rattle.grammar_laws.proofs.scans.PastSpecifiers.{IsSame, listed, qualifier_goes_on, name_goes_on, no_name, of_end}
use Rattle.grammar_laws.proofs.enumerations.BracesScanStep.{stops}

-- braces in which no enumerator comes next
unfoldable pub opens_members : Scopes → List Terminal → Bool
opens_members s [] = false
opens_members s (t ∷ ts) = t.kind == k.OpenBrace && not (sees_name s ts)

-- a tag of a structure before anything else is a type specifier as another
is_named : (a b : Bool) → (a && not b) ≡ false → (a && b) ≡ (a && true)
is_named false b h = refl
is_named true true h = refl
is_named true false h = absurd (cc)

pub lacks_behind_tag : (w : ℕ) (base : Scopes) (ts : List Terminal) → opens_members base ts ≡ false → lacks_enumeration w BehindTag base ts ≡ lacks_enumeration w (Between true) base ts
unfolding opens_members lacks_enumeration specifier_step
lacks_behind_tag w base [] h = refl
lacks_behind_tag w base (t ∷ ts) h = rw (is_named (t.kind == k.OpenBrace) (sees_name base ts) h) refl

-- a list that ends within the type of an enumeration ends as the enumeration does
colon_ends : (w : ℕ) (base s : Scopes) (ts : List Terminal) → IsSame base s → s.reading.typed ≡ false → sees_type s ts ≡ false
    → lacks_enumeration w BehindColon base ts ≡ lacks_enumeration w (Between true) base ts
unfolding lacks_enumeration specifier_step
colon_ends w base s [] b y h = refl
colon_ends w base s (t ∷ ts) b y h = by (t.kind == k.Name) refl
  where
    by : (x : Bool) → (t.kind == k.Name) ≡ x → lacks_enumeration w BehindColon base (t ∷ ts) ≡ lacks_enumeration w (Between true) base (t ∷ ts)
    by true q =
        let p : t.kind ≡ k.Name = eqb-true t.kind k.Name q in
        let i : is_type base.entries t.name ≡ false = decide (is_type base.entries t.name) (λ e. clash _ (name_goes_on s t y q (subst (λ z. is_type z t.name ≡ true) (sym b.entries) e)) h) in
        rw (p, i, no_name) refl
    by false q =
        let n : mem t.kind (firsts r.Qual) ≡ false = decide (mem t.kind (firsts r.Qual)) (λ e. clash _ (qualifier_goes_on s t b.clear q e) h) in
        rw (q, n) refl

pub lacks_list_end : (w : ℕ) (base s : Scopes) (ts : List Terminal) → IsSame base s → sees_type s ts ≡ false
    → lacks_enumeration w (listed true s.reading.typed) base ts ≡ lacks_enumeration w (Between true) base ts
lacks_list_end w base s ts b h = by s.reading.typed refl
  where
    by : (y : Bool) → s.reading.typed ≡ y → lacks_enumeration w (listed true y) base ts ≡ lacks_enumeration w (Between true) base ts
    by true q = refl
    by false q = colon_ends w base s ts b q h

-- kinds of tokens before which the list and all enumerations in it end
pub record IsEnd (F : List ℕ) : Type 0 where
  pub typed : mem k.TypedefName F ≡ false
  pub brace : mem k.OpenBrace F ≡ false
  pub colon : mem k.Colon F ≡ false
  pub held : mem k.Closing F ≡ false
  pub stray : mem k.Stray F ≡ false
  pub others : apart tables F (firsts r.Squals) ≡ true

unspecified : (F : List ℕ) → IsEnd F → (s : Scopes) (t : Terminal) → mem (kind s t) F ≡ true → (t.kind == k.Name) ≡ false → mem t.kind (firsts r.Squals) ≡ false
unspecified F f s t e q = decide (mem t.kind (firsts r.Squals)) (λ m.
    let a = decide (mem t.kind F) (λ x. apart_mem tables t.kind F (firsts r.Squals) f.others x m) in
    clash _ (unnamed F (t.kind == k.Name) (is_type s.entries t.name) s.reading.typed (bracket_kind s.brackets t.kind) q e) (unseen F s.brackets t.kind a f.held f.stray))

qualifiers_first : within tables (firsts r.Qual) (firsts r.Squals) ≡ true
unfolding within mem firsts
qualifiers_first = refl

no_step : (c typed : Bool) (base : Scopes) (t : Terminal) → (t.kind == k.Name) ≡ true → (typed || not (is_type base.entries t.name)) ≡ true → specifier_step r.Squals (listed c typed) base t ≡ None
unfolding specifier_step firsts mem
no_step false typed base t q h = rw (q, h) refl
no_step true true base t q h = rw q refl
no_step true false base t q h = let p : t.kind ≡ k.Name = eqb-true t.kind k.Name q in rw (p, h) refl

no_other_step : (c typed : Bool) (base : Scopes) (t : Terminal) → (t.kind == k.Name) ≡ false → (t.kind == k.OpenBrace) ≡ false → (t.kind == k.Colon) ≡ false
    → mem t.kind (firsts r.Squals) ≡ false → mem t.kind (firsts r.Qual) ≡ false → specifier_step r.Squals (listed c typed) base t ≡ None
unfolding specifier_step
no_other_step false typed base t n b c m q = rw (n, b, c, m) refl
no_other_step true true base t n b c m q = rw (n, b, c, m) refl
no_other_step true false base t n b c m q = rw (q, n, b, c, m) refl

pub lacks_end : (F : List ℕ) → IsEnd F → (w : ℕ) (c : Bool) (base s : Scopes) (ts : List Terminal) → s.entries ≡ base.entries
    → mem (ahead tables parsed s ts) F ≡ true → lacks_enumeration w (listed c s.reading.typed) base ts ≡ false
unfolding ahead lacks_enumeration
lacks_end F f w c base s [] b e = refl
lacks_end F f w c base s (t ∷ ts) b e = by (t.kind == k.Name) refl
  where
    brace : (t.kind == k.OpenBrace) ≡ false
    brace = absent F k.OpenBrace refl f.brace f.held f.stray s t e

    by : (x : Bool) → (t.kind == k.Name) ≡ x → lacks_enumeration w (listed c s.reading.typed) base (t ∷ ts) ≡ false
    by true q = stops w (listed c s.reading.typed) base t ts brace (no_step c s.reading.typed base t q (subst (λ z. (s.reading.typed || not (is_type z t.name)) ≡ true) b (of_end F (t.kind == k.Name) (is_type s.entries t.name) s.reading.typed (bracket_kind s.brackets t.kind) f.typed e q)))
    by false q =
        let m = unspecified F f s t e q in
        stops w (listed c s.reading.typed) base t ts brace
        (no_other_step c s.reading.typed base t q brace (absent F k.Colon refl f.colon f.held f.stray s t e) m (decide (mem t.kind (firsts r.Qual)) (λ x. clash _ (within_mem tables t.kind (firsts r.Qual) (firsts r.Squals) qualifiers_first x) m)))
