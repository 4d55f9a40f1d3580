-- The test that tells a parameter's declarator from an abstract one loses nothing.
use Rattle.std.proofs.Common.{◌≡◌, ℕ, Bool, true, false, not, ◌&&◌, ◌||◌, List, [], ◌∷◌, refl, sym, ap, subst, ◌∙◌}
use Rattle.std.proofs.lemmas.Bool.{eqb-true}
use Rattle.std.specs.Prelude.{◌==◌, if◌then◌else◌}
use Rattle.model_grammar.specs.declared.grammar.Rule.TheVariants as r
use Rattle.model_grammar.specs.declared.grammar.Act.TheVariants as act
use Rattle.model_grammar.specs.declared.grammar.Terminal.{Terminal}
use Rattle.model_grammar.specs.declared.grammar.Before.{Before}
use Rattle.model_grammar.specs.declared.grammar.Before.TheVariants.{AtStart, BehindStar}
use Rattle.model_grammar.specs.declared.grammar.Tree.{Tree}
use Rattle.model_grammar.specs.GrammarForm.{Form, word, rule, many, ◌then◌, mem}
use Rattle.model_grammar.specs.Terminals as k
use Rattle.model_grammar.specs.NameScopes.{Scopes, kind, after, is_type, is_closing, is_given, closes, bracket_kind}
use Rattle.model_grammar.specs.Derivation.{Derives}
use Rattle.grammar_laws.specs.FirstTokens.{nullable, first}
use Rattle.grammar_laws.specs.apparatus.DecidedTable.{apart}
use Rattle.grammar_laws.specs.ParserWalk.{ahead}
use Rattle.grammar_laws.specs.ParserTable.{table}
use Rattle.grammar_laws.specs.ParserSets.{tables, firsts}
use Rattle.grammar_laws.specs.ParserTests.{parsed, sees, sees_attribute, names_declarator, is_name, declares, is_qualifier}
use Rattle.grammar_laws.proofs.kinds.KindSets.{apart_mem, clash, or_right}
use Rattle.grammar_laws.proofs.kinds.TokenKinds.{is_it, absent, raw, decide}
use Rattle.grammar_laws.proofs.scans.NameOfDeclarator.{is_inside, is_star, is_behind, IsAt, at_star, at_parenthesis, at_other, over_many, over_loop, over_qualifiers}
use Rattle.grammar_laws.proofs.tests_lose_nothing.AbstractDeclarator.{listed, in_array}
use Rattle.grammar_laws.proofs.scans.BehindAttributes.{no_attribute}
use Rattle.grammar_laws.proofs.tests_lose_nothing.LosesNothing.{starts}

pub star : (s : Scopes) (t : Terminal) → mem (kind s t) (k.Star ∷ []) ≡ true → (t.kind == k.Star) ≡ true
unfolding mem
star s t h = is_it k.Star (refl, refl, refl, refl, refl) s t h

pub parenthesis : (s : Scopes) (t : Terminal) → mem (kind s t) (k.OpenParenthesis ∷ []) ≡ true → (t.kind == k.OpenParenthesis) ≡ true
unfolding mem
parenthesis s t h = is_it k.OpenParenthesis (refl, refl, refl, refl, refl) s t h

-- a `*`, its attributes and its qualifiers
abbrev pub pointer : Form
pointer = word (k.Star ∷ []) act.Pointer then rule r.Attrs then many (rule r.Qual)

pub behind_star : (base : Scopes) (before : Before) (s : Scopes) (t : Terminal) → IsAt before base s → IsAt BehindStar base (after act.Pointer s t)
unfolding is_inside
behind_star base before s t a = record { outside = refl; typed = refl; entries = a.entries; parameter = a.parameter; clear = a.clear }

pub moved : (base : Scopes) (before : Before) (s new : Scopes) → new ≡ s → IsAt before base s → IsAt before base new
moved base before s new q a = subst (λ z. IsAt before base z) (sym q) a

-- where the scan of some pointers ends
pub record IsFurther (before : Before) (base new : Scopes) (ts rest : List Terminal) : Type 0 where
  pub behind : Before
  pub at : IsAt behind base new
  pub same : names_declarator before base ts ≡ names_declarator behind base rest

pub over_pointer : (base : Scopes) (before : Before) {s new : Scopes} {ts rest : List Terminal} {xs : List Tree} → IsAt before base s
    → Derives parsed pointer s ts xs new rest → IsFurther before base new ts rest
unfolding table is_behind
over_pointer base before {s = s} a (Derives.both (Derives.a_word {t = t} {ts = us} e) (Derives.both {mid = mid} (Derives.a_rule d) m p) q) =
    let b = behind_star base before s t a in
    let o = over_many base b.clear d in
    let z = over_qualifiers base BehindStar refl (moved base BehindStar (after act.Pointer s t) mid o.state b) m in
    record { behind = z.behind; at = z.at; same = at_star before base t us a.outside (star s t e) ∙ (o.scanned ∙ z.same) }

pub over_pointers : (base : Scopes) (before : Before) {s new : Scopes} {ts rest : List Terminal} {xs : List Tree} → IsAt before base s
    → Derives parsed (many pointer) s ts xs new rest → IsFurther before base new ts rest
over_pointers base before a Derives.stop = record { behind = before; at = a; same = refl }
over_pointers base before a (Derives.turn d e _) =
    let p = over_pointer base before a d in
    let q = over_pointers base p.behind p.at e in
    record { behind = q.behind; at = q.at; same = p.same ∙ q.same }

pub inside_parenthesis : (base : Scopes) (before : Before) (s : Scopes) (t : Terminal) → IsAt before base s → IsAt (AtStart false) base (after act.OpenDeclarator s t)
unfolding is_inside
inside_parenthesis base before s t a = record { outside = refl; typed = ap not a.parameter; entries = a.entries; parameter = a.parameter; clear = a.clear }

-- a name of the declarator
alone_kind : (g : Bool) (j : ℕ) → (g ≡ false → mem j (k.Name ∷ k.DeclaredName ∷ []) ≡ false) → mem (if g then k.Stray else j) (k.Name ∷ k.DeclaredName ∷ []) ≡ false
unfolding mem
alone_kind true j h = refl
alone_kind false j h = h refl

two_kinds : (c d g : Bool) (j : ℕ) → (g ≡ false → mem j (k.Name ∷ k.DeclaredName ∷ []) ≡ false)
    → mem (if c then (if d then k.Closing else k.Stray) else (if g then k.Stray else j)) (k.Name ∷ k.DeclaredName ∷ []) ≡ false
unfolding mem
two_kinds true true g j h = refl
two_kinds true false g j h = refl
two_kinds false d true j h = refl
two_kinds false d false j h = h refl

-- no token but a name is of a name's kind
ungiven : (j : ℕ) → (j == k.Name) ≡ false → is_given j ≡ false → mem j (k.Name ∷ k.DeclaredName ∷ []) ≡ false
unfolding mem
ungiven j h g = rw (h, third (j == k.TypedefName) (j == k.DeclaredName) (j == k.Closing) g) refl
  where
    third : (a b c : Bool) → ((a || b) || c) ≡ false → b ≡ false
    third true b c h = absurd (cc)
    third false true c h = absurd (cc)
    third false false c h = refl

pub no_own : (bs : List ℕ) (j : ℕ) → (j == k.Name) ≡ false → mem (bracket_kind bs j) (k.Name ∷ k.DeclaredName ∷ []) ≡ false
no_own [] j h = alone_kind (is_given j) j (ungiven j h)
no_own (last ∷ bs) j h = two_kinds (is_closing j) (closes last j) (is_given j) j (ungiven j h)

of_name : (b x y : Bool) (j : ℕ) → (b ≡ false → mem j (k.Name ∷ k.DeclaredName ∷ []) ≡ false)
    → mem (if b then (if x then (if y then k.DeclaredName else k.TypedefName) else k.Name) else j) (k.Name ∷ k.DeclaredName ∷ []) ≡ true
    → (b && (not x || y)) ≡ true
unfolding mem
of_name true true true j n h = refl
of_name true true false j n h = absurd (cc)
of_name true false y j n h = refl
of_name false x y j n h = absurd (clash _ h (n refl))

named : (base : Scopes) (before : Before) (s : Scopes) (t : Terminal) → IsAt before base s → mem (kind s t) (k.Name ∷ k.DeclaredName ∷ []) ≡ true → is_name before base t ≡ true
named base before s t a e =
    let p : (t.kind == k.Name && (not (is_type s.entries t.name) || s.reading.typed)) ≡ true = of_name (t.kind == k.Name) (is_type s.entries t.name) s.reading.typed (bracket_kind s.brackets t.kind) (no_own s.brackets t.kind) e in
    subst (λ z. (t.kind == k.Name && (not (is_type z t.name) || declares before)) ≡ true) a.entries (subst (λ z. (t.kind == k.Name && (not (is_type s.entries t.name) || z)) ≡ true) a.typed p)

-- the other way, what is no name of a declarator
unnamed : (F : List ℕ) (b x y : Bool) (j : ℕ) → mem k.Name F ≡ false → mem k.DeclaredName F ≡ false
    → mem (if b then (if x then (if y then k.DeclaredName else k.TypedefName) else k.Name) else j) F ≡ true → (b && (not x || y)) ≡ false
unnamed F true true true j m n h = absurd (clash _ h n)
unnamed F true true false j m n h = refl
unnamed F true false y j m n h = absurd (clash _ h m)
unnamed F false x y j m n h = refl

no_name : (F : List ℕ) (base : Scopes) (before : Before) (s : Scopes) (t : Terminal) → mem k.Name F ≡ false → mem k.DeclaredName F ≡ false
    → s.reading.typed ≡ declares before → s.entries ≡ base.entries → mem (kind s t) F ≡ true → is_name before base t ≡ false
no_name F base before s t m n typed entries e =
    let p : (t.kind == k.Name && (not (is_type s.entries t.name) || s.reading.typed)) ≡ false = unnamed F (t.kind == k.Name) (is_type s.entries t.name) s.reading.typed (bracket_kind s.brackets t.kind) m n e in
    subst (λ z. (t.kind == k.Name && (not (is_type z t.name) || declares before)) ≡ false) entries (subst (λ z. (t.kind == k.Name && (not (is_type s.entries t.name) || z)) ≡ false) typed p)

and_false : (a : Bool) → (a && false) ≡ false
and_false true = refl
and_false false = refl

-- a token that is none of a declarator's base ones but its name
ends : (F : List ℕ) (base : Scopes) (before : Before) (s : Scopes) (t : Terminal) (ts : List Terminal) → is_inside before ≡ false → mem k.Star F ≡ false
    → mem k.OpenParenthesis F ≡ false → mem k.Closing F ≡ false → mem k.Stray F ≡ false → mem (kind s t) F ≡ true
    → (is_behind before && is_qualifier t.kind) ≡ false → (is_star before && sees_attribute (t ∷ ts)) ≡ false
    → names_declarator before base (t ∷ ts) ≡ is_name before base t
ends F base before s t ts o a b c d e q g = at_other before base t ts o (absent F k.Star refl a c d s t e) (absent F k.OpenParenthesis refl b c d s t e) q g

no_qualifier : (t : Terminal) (n : ℕ) → t.kind ≡ n → is_qualifier n ≡ false → is_qualifier t.kind ≡ false
no_qualifier t n q h = rw q h

other_end : (F : List ℕ) (base : Scopes) (before : Before) (s : Scopes) (t : Terminal) (ts : List Terminal) → IsAt before base s → mem k.Star F ≡ false
    → mem k.OpenParenthesis F ≡ false → mem k.OpenBracket F ≡ false → mem k.Closing F ≡ false → mem k.Stray F ≡ false → mem (kind s t) F ≡ true
    → is_qualifier t.kind ≡ false → names_declarator before base (t ∷ ts) ≡ is_name before base t
other_end F base before s t ts a x y z c d e q =
    ends F base before s t ts a.outside x y c d e (rw q (and_false (is_behind before))) (rw (no_attribute (t ∷ ts) (absent F k.OpenBracket refl z c d s t e)) (and_false (is_star before)))

-- a name is no qualifier
name_kind : (base : Scopes) (before : Before) (t : Terminal) → is_name before base t ≡ true → (t.kind == k.Name) ≡ true
name_kind base before t h = left (t.kind == k.Name) _ h
  where
    left : (a b : Bool) → (a && b) ≡ true → a ≡ true
    left true b h = refl
    left false b h = h

pub name_found : (base : Scopes) (before : Before) (s : Scopes) (t : Terminal) (ts : List Terminal) → IsAt before base s
    → mem (kind s t) (k.Name ∷ k.DeclaredName ∷ []) ≡ true → names_declarator before base (t ∷ ts) ≡ true
unfolding mem firsts
name_found base before s t ts a e =
    let n = named base before s t a e in
    let q : t.kind ≡ k.Name = eqb-true t.kind k.Name (name_kind base before t n) in
    other_end (k.Name ∷ k.DeclaredName ∷ []) base before s t ts a refl refl refl refl refl e (no_qualifier t k.Name q refl) ∙ n

pub declarator_named : (base : Scopes) (before : Before) {s new : Scopes} {ts rest : List Terminal} {xs : List Tree} → IsAt before base s
    → Derives parsed (rule r.Declarator) s ts xs new rest → names_declarator before base ts ≡ true
unfolding table is_inside
declarator_named base before a (Derives.a_rule (Derives.both {mid = mid} m (Derives.a_rule (Derives.both (Derives.left (Derives.both (Derives.a_word {t = t} {ts = us} e) d p)) c q)) z)) =
    let w = over_pointers base before a m in
    w.same ∙ name_found base w.behind mid t us w.at e
declarator_named base before a
    (Derives.a_rule (Derives.both {mid = mid} m (Derives.a_rule (Derives.both (Derives.right (Derives.both (Derives.a_word {t = t} {ts = us} e) (Derives.both d f p) x)) c q)) z)) =
    let w = over_pointers base before a m in
    w.same ∙ (at_parenthesis w.behind base t us w.at.outside (parenthesis mid t e) ∙ declarator_named base (AtStart false) (inside_parenthesis base w.behind mid t w.at) d)

abbrev pub first_of : Form → List ℕ
first_of f = first tables f

-- what ends an abstract declarator
plain_end : apart tables (k.Comma ∷ k.CloseParenthesis ∷ []) (firsts r.Qual) ≡ true
unfolding apart mem firsts
plain_end = refl

at_end : (base : Scopes) (before : Before) (s : Scopes) (ts : List Terminal) → IsAt before base s
    → mem (ahead tables parsed s ts) (k.Comma ∷ k.CloseParenthesis ∷ []) ≡ true → names_declarator before base ts ≡ false
unfolding ahead mem
at_end base before s [] a h = absurd (clash _ h refl)
at_end base before s (t ∷ ts) a e =
    let n = raw (k.Comma ∷ k.CloseParenthesis ∷ []) (refl, refl, refl, refl, refl) s t e in
    let q = decide (is_qualifier t.kind) (λ z. apart_mem tables t.kind (k.Comma ∷ k.CloseParenthesis ∷ []) (firsts r.Qual) plain_end n z) in
    other_end (k.Comma ∷ k.CloseParenthesis ∷ []) base before s t ts a refl refl refl refl refl e q ∙ no_name (k.Comma ∷ k.CloseParenthesis ∷ []) base before s t refl refl a.typed a.entries e

pub closing_end : (s : Scopes) (t : Terminal) → mem (kind s t) (k.CloseParenthesis ∷ []) ≡ true → mem (kind s t) (k.Comma ∷ k.CloseParenthesis ∷ []) ≡ true
unfolding mem
closing_end s t h = or_right (kind s t == k.Comma) _ h

-- an array ends the scan
pub array_ends : (base : Scopes) (before : Before) (s : Scopes) (t : Terminal) (ts : List Terminal) → IsAt before base s
    → mem (kind s t) (k.OpenBracket ∷ []) ≡ true → (is_star before && sees_attribute (t ∷ ts)) ≡ false → names_declarator before base (t ∷ ts) ≡ false
unfolding mem firsts
array_ends base before s t ts a e g =
    let q : t.kind ≡ k.OpenBracket = eqb-true t.kind k.OpenBracket (is_it k.OpenBracket (refl, refl, refl, refl, refl) s t e) in
    ends (k.OpenBracket ∷ []) base before s t ts a.outside refl refl refl refl e (rw (no_qualifier t k.OpenBracket q refl) (and_false (is_behind before))) g ∙ no_name
    (k.OpenBracket ∷ []) base before s t refl refl a.typed a.entries e

pub second_bracket : (t : Terminal) (us : List Terminal) → sees k.OpenBracket us ≡ false → sees_attribute (t ∷ us) ≡ false
second_bracket t [] h = refl
second_bracket t (u ∷ us) h = rw h (and_false (t.kind == k.OpenBracket))

pub no_attribute_there : (before : Before) (ts : List Terminal) → sees_attribute ts ≡ false → (is_star before && sees_attribute ts) ≡ false
no_attribute_there before ts h = rw h (and_false (is_star before))

-- parameters end it
start_ends : (F : List ℕ) (base : Scopes) (s : Scopes) (ts : List Terminal) → mem 0 F ≡ false → mem k.Star F ≡ false → mem k.OpenParenthesis F ≡ false
    → mem k.Closing F ≡ false → mem k.Stray F ≡ false → mem k.Name F ≡ false → mem k.DeclaredName F ≡ false → s.reading.typed ≡ false → s.entries ≡ base.entries
    → mem (ahead tables parsed s ts) F ≡ true → names_declarator (AtStart false) base ts ≡ false
unfolding ahead is_inside is_behind is_star
start_ends F base s [] z a b c d m n y x h = absurd (clash _ h z)
start_ends F base s (t ∷ ts) z a b c d m n y x h = ends F base (AtStart false) s t ts refl a b c d h refl refl ∙ no_name F base (AtStart false) s t m n y x h

pub listed_ends : (base : Scopes) (s : Scopes) (ts : List Terminal) → s.reading.typed ≡ false → s.entries ≡ base.entries
    → mem (ahead tables parsed s ts) (first_of listed) ≡ true → names_declarator (AtStart false) base ts ≡ false
unfolding mem firsts first nullable
listed_ends base s ts y x h = start_ends (first_of listed) base s ts refl refl refl refl refl refl refl y x h

pub listed_moves : nullable tables listed ≡ false
unfolding nullable
listed_moves = refl

pub abstract_unnamed : (base : Scopes) (before : Before) {s new : Scopes} {ts rest : List Terminal} {xs : List Tree} → IsAt before base s
    → Derives parsed (rule r.Abstract) s ts xs new rest → mem (ahead tables parsed new rest) (k.Comma ∷ k.CloseParenthesis ∷ []) ≡ true
    → names_declarator before base ts ≡ false
unfolding table is_inside is_behind ahead
abstract_unnamed base before {s = s} {new = new} {rest = rest} a
    (Derives.a_rule (Derives.left (Derives.both (Derives.a_word {t = t} {ts = us} e) (Derives.both {mid = mid} l (Derives.both q Derives.skip x) y) z))) h =
    let b = behind_star base before s t a in
    let o = over_loop base b.clear l in
    let w = over_qualifiers base BehindStar refl (moved base BehindStar (after act.Pointer s t) mid o.state b) q in
    at_star before base t us a.outside (star s t e) ∙ (o.scanned ∙ (w.same ∙ at_end base w.behind new rest w.at h))
abstract_unnamed base before {s = s} a (Derives.a_rule (Derives.left (Derives.both (Derives.a_word {t = t} {ts = us} e) (Derives.both {mid = mid} l (Derives.both q (Derives.take d) x) y) z))) h =
    let b = behind_star base before s t a in
    let o = over_loop base b.clear l in
    let w = over_qualifiers base BehindStar refl (moved base BehindStar (after act.Pointer s t) mid o.state b) q in
    at_star before base t us a.outside (star s t e) ∙ (o.scanned ∙ (w.same ∙ abstract_unnamed base w.behind w.at d h))
abstract_unnamed base before {s = s} a
    (Derives.a_rule (Derives.right (Derives.a_rule (Derives.both (Derives.chosen b (Derives.both (Derives.a_word {t = t} {ts = us} e) (Derives.both {mid = mid} d (Derives.a_word {t = v} c) x) y)) m z)))) h =
    at_parenthesis before base t us a.outside (parenthesis s t e) ∙ abstract_unnamed base (AtStart false) (inside_parenthesis base before s t a) d (closing_end mid v c)
abstract_unnamed base before {s = s} a
    (Derives.a_rule (Derives.right (Derives.a_rule (Derives.both (Derives.other b (Derives.a_rule (Derives.left (Derives.both (Derives.a_word {t = t} {ts = us} e) d y)))) m z)))) h =
    array_ends base before s t us a e (no_attribute_there before (t ∷ us) (second_bracket t us (in_array d)))
abstract_unnamed base before {s = s} a
    (Derives.a_rule (Derives.right (Derives.a_rule (Derives.both (Derives.other b (Derives.a_rule (Derives.right (Derives.both (Derives.a_word {t = t} {ts = us} e) d y)))) m z)))) h =
    at_parenthesis before base t us a.outside (parenthesis s t e) ∙ listed_ends base (after act.OpenParameters s t) us refl a.entries (starts listed_moves d)
