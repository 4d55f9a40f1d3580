-- The scan over a declarator passes over one that is derived, and ends behind it.
use Rattle.std.proofs.Common.{◌≡◌, ℕ, Bool, true, false, not, ◌&&◌, ◌||◌, List, [], ◌∷◌, refl, ap, ◌∙◌}
use Rattle.std.proofs.lemmas.Bool.{eqb-true}
use Rattle.std.specs.Prelude.{◌==◌, if◌then◌else◌}
use Rattle.model_grammar.specs.declared.grammar.Rule.TheVariants as r
use Rattle.model_grammar.specs.declared.grammar.Act.TheVariants as act
use Rattle.model_grammar.specs.declared.grammar.Test.TheVariants as test
use Rattle.model_grammar.specs.declared.grammar.Terminal.{Terminal}
use Rattle.model_grammar.specs.declared.grammar.Tree.{Tree}
use Rattle.model_grammar.specs.GrammarForm.{Form, word, rule, maybe, many, loop, ◌then◌, mem}
use Rattle.model_grammar.specs.Terminals as k
use Rattle.model_grammar.specs.NameScopes.{Scopes, kind, after, is_type, is_opening, is_closing, bracket_kind}
use Rattle.model_grammar.specs.Derivation.{Derives}
use Rattle.grammar_laws.specs.apparatus.DecidedTable.{within, apart}
use Rattle.grammar_laws.specs.ParserWalk.{ahead}
use Rattle.grammar_laws.specs.ParserTable.{table}
use Rattle.grammar_laws.specs.ParserSets.{tables, firsts}
use Rattle.grammar_laws.specs.ParserTests.{parsed, past_brackets, past_declarator, is_in_declarator, is_qualifier}
use Rattle.grammar_laws.proofs.kinds.KindSets.{apart_mem, clash}
use Rattle.grammar_laws.proofs.kinds.TokenKinds.{Plain, is_it, absent, raw, decide}
use Rattle.grammar_laws.proofs.derivations.ClearBrackets.{kept, at_closing, clear, holds, is_balanced, parsed_clear}
use Rattle.grammar_laws.proofs.derivations.BalancedForms.{even, level}
use Rattle.grammar_laws.proofs.scans.PastBrackets.{over_declarator, grouped}
use Rattle.grammar_laws.proofs.scans.PastSpecifiers.{empty_attribute, attribute_grouped, over_attributes_one, as_closing, close_bracket, close_parenthesis, qualifiers, qualifier_words}
use Rattle.grammar_laws.proofs.tests_lose_nothing.ParameterDeclarator.{no_own}

-- one token outside brackets
at_star : (t : Terminal) (ts : List Terminal) → (t.kind == k.Star) ≡ true → past_declarator 0 (t ∷ ts) ≡ past_declarator 0 ts
unfolding past_declarator
at_star t ts h = let q : t.kind ≡ k.Star = eqb-true t.kind k.Star h in rw q refl

at_name : (t : Terminal) (ts : List Terminal) → (t.kind == k.Name) ≡ true → past_declarator 0 (t ∷ ts) ≡ past_declarator 0 ts
unfolding past_declarator
at_name t ts h = let q : t.kind ≡ k.Name = eqb-true t.kind k.Name h in rw q refl

and_false : (b : Bool) → (b && false) ≡ false
and_false true = refl
and_false false = refl

or_true : (b : Bool) → (b || true) ≡ true
or_true true = refl
or_true false = refl

three_of : (a b c : Bool) → ((a || b) || c) ≡ true → (a || (b || (c || false))) ≡ true
three_of true b c h = refl
three_of false true c h = refl
three_of false false true h = refl
three_of false false false h = h

not_in : (j : ℕ) (G : List ℕ) → apart tables qualifiers G ≡ true → mem j qualifiers ≡ true → mem j G ≡ false
not_in j G a m = decide (mem j G) (λ e. apart_mem tables j qualifiers G a m e)

no_opening : (j : ℕ) → mem j qualifiers ≡ true → is_opening j ≡ false
unfolding apart mem
no_opening j m =
    decide (is_opening j) (λ e. clash _ (three_of (j == k.OpenParenthesis) (j == k.OpenBracket) (j == k.OpenBrace) e) (not_in j (k.OpenParenthesis ∷ k.OpenBracket ∷ k.OpenBrace ∷ []) refl m))

no_closing : (j : ℕ) → mem j qualifiers ≡ true → is_closing j ≡ false
unfolding apart mem
no_closing j m =
    decide (is_closing j) (λ e. clash _ (three_of (j == k.CloseParenthesis) (j == k.CloseBracket) (j == k.CloseBrace) e) (not_in j (k.CloseParenthesis ∷ k.CloseBracket ∷ k.CloseBrace ∷ []) refl m))

at_plain : (t : Terminal) (ts : List Terminal) → is_in_declarator t.kind ≡ true → is_opening t.kind ≡ false → is_closing t.kind ≡ false → past_declarator 0 (t ∷ ts) ≡ past_declarator 0 ts
unfolding past_declarator
at_plain t ts h o c = rw (h, and_false ((0 == 0 && not (t.kind == k.OpenParenthesis)) && not (t.kind == k.OpenBracket)), o, c) refl

qualifier_in : (j : ℕ) → mem j qualifiers ≡ true → is_in_declarator j ≡ true
unfolding firsts
qualifier_in j m = rw m (or_true (j == k.Name || j == k.Star))

at_qualifier : (s : Scopes) (t : Terminal) (ts : List Terminal) → mem (kind s t) qualifiers ≡ true → past_declarator 0 (t ∷ ts) ≡ past_declarator 0 ts
at_qualifier s t ts e = let m = raw qualifiers qualifier_words.plain s t e in at_plain t ts (qualifier_in t.kind m) (no_opening t.kind m) (no_closing t.kind m)

at_bracket : (t : Terminal) (us vs : List Terminal) → (t.kind == k.OpenBracket) ≡ true → past_brackets 1 us ≡ vs → past_declarator 0 (t ∷ us) ≡ past_declarator 0 vs
unfolding past_declarator
at_bracket t us vs h q = step t us h ∙ (over_declarator us 0 ∙ ap (λ z. past_declarator 0 z) q)
  where
    step : (t : Terminal) (us : List Terminal) → (t.kind == k.OpenBracket) ≡ true → past_declarator 0 (t ∷ us) ≡ past_declarator 1 us
    step t us h = let p : t.kind ≡ k.OpenBracket = eqb-true t.kind k.OpenBracket h in rw p refl

at_parenthesis : (t : Terminal) (us vs : List Terminal) → (t.kind == k.OpenParenthesis) ≡ true → past_brackets 1 us ≡ vs → past_declarator 0 (t ∷ us) ≡ past_declarator 0 vs
unfolding past_declarator
at_parenthesis t us vs h q = step t us h ∙ (over_declarator us 0 ∙ ap (λ z. past_declarator 0 z) q)
  where
    step : (t : Terminal) (us : List Terminal) → (t.kind == k.OpenParenthesis) ≡ true → past_declarator 0 (t ∷ us) ≡ past_declarator 1 us
    step t us h = let p : t.kind ≡ k.OpenParenthesis = eqb-true t.kind k.OpenParenthesis h in rw p refl

attribute_over : {s new : Scopes} {ts rest : List Terminal} {xs : List Tree} → s.brackets ≡ [] → Derives parsed (rule r.Attr) s ts xs new rest → past_declarator 0 ts ≡ past_declarator 0 rest
attribute_over {ts = []} b d = absurd (empty_attribute d)
attribute_over {ts = t ∷ us} {rest = rest} b d = let g = attribute_grouped b d in at_bracket t us rest g.0 g.1

attributes_over : {s new : Scopes} {ts rest : List Terminal} {xs : List Tree} → s.brackets ≡ [] → Derives parsed (many (rule r.Attr)) s ts xs new rest → past_declarator 0 ts ≡ past_declarator 0 rest
attributes_over b Derives.stop = refl
attributes_over b (Derives.turn d e _) = attribute_over b d ∙ attributes_over (over_attributes_one b d) e

loop_over : {s new : Scopes} {ts rest : List Terminal} {xs : List Tree} → s.brackets ≡ []
    → Derives parsed (loop test.AttributeAhead (rule r.Attr)) s ts xs new rest → past_declarator 0 ts ≡ past_declarator 0 rest
loop_over b (Derives.done _) = refl
loop_over b (Derives.again _ d e _) = attribute_over b d ∙ loop_over (over_attributes_one b d) e

qualifiers_over : {s new : Scopes} {ts rest : List Terminal} {xs : List Tree} → Derives parsed (many (rule r.Qual)) s ts xs new rest → past_declarator 0 ts ≡ past_declarator 0 rest
unfolding table
qualifiers_over Derives.stop = refl
qualifiers_over {s = s} (Derives.turn (Derives.a_rule (Derives.a_word {t = t} {ts = us} e)) d _) = at_qualifier s t us e ∙ qualifiers_over d

abbrev pointer : Form
pointer = word (k.Star ∷ []) act.Pointer then rule r.Attrs then many (rule r.Qual)

star_kind : (s : Scopes) (t : Terminal) → mem (kind s t) (k.Star ∷ []) ≡ true → (t.kind == k.Star) ≡ true
unfolding mem
star_kind s t e = is_it k.Star (refl, refl, refl, refl, refl) s t e

bracket_kind_is : (s : Scopes) (t : Terminal) → mem (kind s t) (k.OpenBracket ∷ []) ≡ true → (t.kind == k.OpenBracket) ≡ true
unfolding mem
bracket_kind_is s t e = is_it k.OpenBracket (refl, refl, refl, refl, refl) s t e

parenthesis_kind : (s : Scopes) (t : Terminal) → mem (kind s t) (k.OpenParenthesis ∷ []) ≡ true → (t.kind == k.OpenParenthesis) ≡ true
unfolding mem
parenthesis_kind s t e = is_it k.OpenParenthesis (refl, refl, refl, refl, refl) s t e

pointer_clear : clear pointer true ≡ true
unfolding clear holds is_balanced within mem
pointer_clear = refl

pointer_over : {s new : Scopes} {ts rest : List Terminal} {xs : List Tree} → s.brackets ≡ [] → Derives parsed pointer s ts xs new rest → past_declarator 0 ts ≡ past_declarator 0 rest
unfolding table
pointer_over {s = s} b (Derives.both (Derives.a_word {t = t} {ts = us} e) (Derives.both (Derives.a_rule a) q p1) p2) = at_star t us (star_kind s t e) ∙ (attributes_over b a ∙ qualifiers_over q)

pointers_over : {s new : Scopes} {ts rest : List Terminal} {xs : List Tree} → s.brackets ≡ [] → Derives parsed (many pointer) s ts xs new rest → past_declarator 0 ts ≡ past_declarator 0 rest
pointers_over b Derives.stop = refl
pointers_over b (Derives.turn d e _) = pointer_over b d ∙ pointers_over (parsed_clear d true (λ _. b) pointer_clear) e

abbrev index : Form
index = maybe (rule r.Cond)

abbrev list : Form
list = maybe (rule r.Params)

index_even : even index 0 ≡ true
unfolding even level
index_even = refl

list_even : even list 0 ≡ true
unfolding even level
list_even = refl

index_level : level index 0 ≡ 0
unfolding level
index_level = refl

list_level : level list 0 ≡ 0
unfolding level
list_level = refl

suffix_over : {s new : Scopes} {ts rest : List Terminal} {xs : List Tree} → s.brackets ≡ [] → Derives parsed (rule r.Suffix) s ts xs new rest → past_declarator 0 ts ≡ past_declarator 0 rest
unfolding table holds
suffix_over {s = s} b (Derives.a_rule (Derives.left (Derives.both (Derives.a_word {t = t} {ts = us} e) (Derives.both {mid = m} d (Derives.both (Derives.a_word {t = v} {ts = vs} w) l p3) p2) p1))) =
    at_bracket t us vs (bracket_kind_is s t e) (grouped index (after act.OpenArray s t) m v index_even index_level b d (as_closing k.CloseBracket close_bracket m v w))
    ∙ loop_over (kept act.CloseArray m v refl ∙ at_closing m v (as_closing k.CloseBracket close_bracket m v w)) l
suffix_over {s = s} b (Derives.a_rule (Derives.right (Derives.both (Derives.a_word {t = t} {ts = us} e) (Derives.both {mid = m} d (Derives.both (Derives.a_word {t = v} {ts = vs} w) l p3) p2) p1))) =
    at_parenthesis t us vs (parenthesis_kind s t e)
    (grouped list (after act.OpenParameters s t) m v list_even list_level b d (as_closing k.CloseParenthesis close_parenthesis m v w)) ∙ loop_over
    (kept act.CloseParameters m v refl ∙ at_closing m v (as_closing k.CloseParenthesis close_parenthesis m v w)) l

suffix_clear : clear (rule r.Suffix) true ≡ true
unfolding clear is_balanced
suffix_clear = refl

suffixes_over : {s new : Scopes} {ts rest : List Terminal} {xs : List Tree} → s.brackets ≡ [] → Derives parsed (many (rule r.Suffix)) s ts xs new rest → past_declarator 0 ts ≡ past_declarator 0 rest
suffixes_over b Derives.stop = refl
suffixes_over b (Derives.turn d e _) = suffix_over b d ∙ suffixes_over (parsed_clear d true (λ _. b) suffix_clear) e

name_kind : (s : Scopes) (t : Terminal) → mem (kind s t) (k.Name ∷ k.DeclaredName ∷ []) ≡ true → (t.kind == k.Name) ≡ true
name_kind s t e = by (t.kind == k.Name) (is_type s.entries t.name) s.reading.typed (bracket_kind s.brackets t.kind) (no_own s.brackets t.kind) e
  where
    by : (b x y : Bool) (j : ℕ) → (b ≡ false → mem j (k.Name ∷ k.DeclaredName ∷ []) ≡ false)
        → mem (if b then (if x then (if y then k.DeclaredName else k.TypedefName) else k.Name) else j) (k.Name ∷ k.DeclaredName ∷ []) ≡ true → b ≡ true
    by true x y j n h = refl
    by false x y j n h = absurd (clash _ h (n refl))

nested_even : even (rule r.Declarator) 0 ≡ true
unfolding even
nested_even = refl

nested_level : level (rule r.Declarator) 0 ≡ 0
unfolding level
nested_level = refl

named_clear : clear (word (k.Name ∷ k.DeclaredName ∷ []) act.DeclaratorName then loop test.AttributeAhead (rule r.Attr)) true ≡ true
unfolding clear holds is_balanced within mem
named_clear = refl

pointers_clear : clear (many pointer) true ≡ true
unfolding clear holds is_balanced within mem
pointers_clear = refl

abbrev named : Form
named = word (k.Name ∷ k.DeclaredName ∷ []) act.DeclaratorName then loop test.AttributeAhead (rule r.Attr)

named_over : {s new : Scopes} {ts rest : List Terminal} {xs : List Tree} → s.brackets ≡ [] → Derives parsed named s ts xs new rest → past_declarator 0 ts ≡ past_declarator 0 rest
named_over {s = s} b (Derives.both (Derives.a_word {t = t} {ts = us} e) l _) = at_name t us (name_kind s t e) ∙ loop_over b l

pub declarator_over : {s new : Scopes} {ts rest : List Terminal} {xs : List Tree} → s.brackets ≡ [] → Derives parsed (rule r.Declarator) s ts xs new rest
    → past_declarator 0 ts ≡ past_declarator 0 rest
unfolding table holds
declarator_over b (Derives.a_rule (Derives.both p (Derives.a_rule (Derives.both (Derives.left d) x _)) _)) =
    let c = parsed_clear p true (λ _. b) pointers_clear in
    pointers_over b p ∙ (named_over c d ∙ suffixes_over (parsed_clear d true (λ _. c) named_clear) x)
declarator_over b
    (Derives.a_rule (Derives.both {mid = m} p (Derives.a_rule (Derives.both (Derives.right (Derives.both (Derives.a_word {t = t} {ts = us} e) (Derives.both {mid = m2} d (Derives.a_word {t = v} {ts = vs} w) q2) q1)) x _)) _)) =
    let c = parsed_clear p true (λ _. b) pointers_clear in
    pointers_over b p ∙
    (at_parenthesis t us vs (parenthesis_kind m t e) (grouped (rule r.Declarator) (after act.OpenDeclarator m t) m2 v nested_even nested_level c d (as_closing k.CloseParenthesis close_parenthesis m2 v w)) ∙ suffixes_over (kept act.CloseDeclarator m2 v refl ∙ at_closing m2 v (as_closing k.CloseParenthesis close_parenthesis m2 v w)) x)

-- behind it the scan ends
abbrev pub following : List ℕ
following = k.Comma ∷ k.Semicolon ∷ k.OpenBrace ∷ k.Equals ∷ []

step_end : (t : Terminal) (ts : List Terminal) → (t.kind == k.OpenParenthesis) ≡ false → (t.kind == k.OpenBracket) ≡ false → is_in_declarator t.kind ≡ false → past_declarator 0 (t ∷ ts) ≡ t ∷ ts
unfolding past_declarator
step_end t ts a b c = rw (a, b, c) refl

following_plain : Plain following
unfolding mem
following_plain = (refl, refl, refl, refl, refl)

no_qualifier : apart tables following (firsts r.Qual) ≡ true
unfolding apart mem firsts
no_qualifier = refl

name_no : (s : Scopes) (t : Terminal) → mem (kind s t) following ≡ true → (t.kind == k.Name) ≡ false
unfolding mem
name_no s t e = decide (t.kind == k.Name) (λ q. clash _ e (of_name (t.kind == k.Name) (is_type s.entries t.name) s.reading.typed (bracket_kind s.brackets t.kind) q))
  where
    of_name : (b x y : Bool) (j : ℕ) → b ≡ true → mem (if b then (if x then (if y then k.DeclaredName else k.TypedefName) else k.Name) else j) following ≡ false
    of_name true true true j q = refl
    of_name true true false j q = refl
    of_name true false y j q = refl
    of_name false x y j q = absurd (cc)

pub declarator_end : (s : Scopes) (ts : List Terminal) → mem (ahead tables parsed s ts) following ≡ true → past_declarator 0 ts ≡ ts
unfolding ahead mem past_declarator
declarator_end s [] h = refl
declarator_end s (t ∷ ts) e =
    let m = raw following following_plain s t e in
    let q = decide (is_qualifier t.kind) (λ x. apart_mem tables t.kind following (firsts r.Qual) no_qualifier m x) in
    step_end t ts (absent following k.OpenParenthesis refl refl refl refl s t e) (absent following k.OpenBracket refl refl refl refl s t e)
    (rw (name_no s t e, absent following k.Star refl refl refl refl s t e, q) refl)
