-- The pieces of a list of specifiers as the grammar derives them, where the parser's table derives what stands in their
-- brackets.
use Rattle.std.proofs.Common.{◌≡◌, ℕ, Bool, true, false, ◌||◌, List, [], ◌∷◌, refl, sym, ap, subst, ◌∙◌}
use Rattle.std.specs.Prelude.{◌==◌}
use mathlib.Core.Logic.{inl}
use Rattle.model_grammar.specs.declared.grammar.Rule.TheVariants as r
use Rattle.model_grammar.specs.declared.grammar.Act.TheVariants as act
use Rattle.model_grammar.specs.declared.grammar.Test.TheVariants as test
use Rattle.model_grammar.specs.declared.grammar.Terminal.{Terminal}
use Rattle.model_grammar.specs.declared.grammar.Entry.{Entry}
use Rattle.model_grammar.specs.declared.grammar.Reading.{Reading}
use Rattle.model_grammar.specs.declared.grammar.Tree.{Tree}
use Rattle.model_grammar.specs.GrammarForm.{Form, word, rule, ◌then◌, ◌or◌, maybe, many, mem}
use Rattle.model_grammar.specs.Grammar.{grammar, token, type_kinds}
use Rattle.model_grammar.specs.Terminals as k
use Rattle.model_grammar.specs.NameScopes.{Scopes, kind, after, specified, is_type, bracket_kind}
use Rattle.model_grammar.specs.Derivation.{Derives}
use Rattle.grammar_laws.specs.FirstTokens.{first, nullable}
use Rattle.grammar_laws.specs.apparatus.DecidedTable.{within, leads, apart}
use Rattle.grammar_laws.specs.ParserWalk.{ahead}
use Rattle.grammar_laws.specs.ParserTable.{table}
use Rattle.grammar_laws.specs.ParserSets.{tables, firsts, follows, hollow}
use Rattle.model_grammar.specs.SyntaxTree.{sees_type}
use Rattle.grammar_laws.specs.ParserTests.{parsed}
use Rattle.grammar_laws.proofs.kinds.KindSets.{mem_one, within_mem}
use Rattle.grammar_laws.proofs.derivations.ClearBrackets.{clear, is_balanced, holds, over}
use Rattle.grammar_laws.proofs.derivations.KeptScopes.{is_open, opens, leaves, same}
use Rattle.grammar_laws.proofs.derivations.KeptByGrammar.{IsLeft, struct_scopes, enum_scopes, typeof_scopes}
use Rattle.grammar_laws.proofs.derivations.NoneAwaitsBraces.{idles, awaits}
use Rattle.grammar_laws.proofs.derivations.FollowsOfForms.{flows}
use Rattle.grammar_laws.proofs.tests_lose_nothing.SuffixEnds.{suffixed, ends_open, is_one, are_suffixes, bracketless, is_suffix}
use Rattle.grammar_laws.proofs.tests_lose_nothing.LosesNothing.{IsDerived}
use Rattle.grammar_laws.proofs.tests_lose_nothing.LastCommas.{list_derived, names}
use Rattle.grammar_laws.proofs.scans.PastSpecifiers.{named, none_typedef_name}
use Rattle.grammar_laws.proofs.kinds.TokenKinds.{is_it}
use Rattle.grammar_laws.proofs.enumerations.BracesScanAtEnd.{IsEnd as Ends}
use Rattle.grammar_laws.proofs.same_language.FormsOutsideLists.{in_list, is_list, list_continuations, bounded, Fit, Set}
use Rattle.grammar_laws.proofs.specifier_lists.WhatRemains.{Item, Continues}
use Rattle.grammar_laws.proofs.specifier_lists.ListInPieces.{element, elements, braced, at, here, behind, Run, IsGroup, IsEnd, Comes, Flat}
use Rattle.grammar_laws.proofs.specifier_lists.PiecesAnywhere.{group_at}
use Rattle.grammar_laws.proofs.specifier_lists.ListsFromPieces.{seen_here, fewer}
use Rattle.grammar_laws.proofs.specifier_lists.ListsParsed.{squals_of, specs_of, run_of, same_scopes}

abbrev pub by_grammar : Form → Scopes → List Terminal → List Tree → Scopes → List Terminal → Type 0
by_grammar f s ts xs new rest = Derives (over grammar) f s ts xs new rest

-- what stands in the brackets of the pieces
abbrev pub shut : Form
shut = word (k.CloseBrace ∷ []) act.TypeSpecifier

abbrev pub enumerators_in : Form
enumerators_in = rule r.Enumr then many (token k.Comma then rule r.Enumr) then maybe (token k.Comma) then shut

abbrev pub members_in : Form
members_in = rule r.Member then many (rule r.Member) then shut

abbrev pub operand_in : Form
operand_in = (rule r.Expr or rule r.Typename) then word (k.CloseParenthesis ∷ []) act.TypeSpecifier

pub enumerators_fit : (j : ℕ) → Fit enumerators_in (j ∷ []) true false
unfolding flows suffixed bounded idles awaits leaves opens is_open same ends_open is_one are_suffixes bracketless is_suffix clear holds is_balanced within apart mem first nullable leads firsts follows hollow in_list is_list
enumerators_fit j = record { flow = refl; suffix = refl; bound = refl; idle = refl }

pub members_fit : (j : ℕ) → Fit members_in (j ∷ []) true false
unfolding flows suffixed bounded idles awaits leaves opens is_open same ends_open is_one are_suffixes bracketless is_suffix clear holds is_balanced within apart mem first nullable leads firsts follows hollow in_list is_list
members_fit j = record { flow = refl; suffix = refl; bound = refl; idle = refl }

pub operand_fit : (j : ℕ) → Fit operand_in (j ∷ []) true false
unfolding flows suffixed bounded idles awaits leaves opens is_open same ends_open is_one are_suffixes bracketless is_suffix clear holds is_balanced within apart mem first nullable leads firsts follows hollow in_list is_list
operand_fit j = record { flow = refl; suffix = refl; bound = refl; idle = refl }

pub itself : (j : ℕ) → mem j (j ∷ []) ≡ true
itself j = mem_one j j refl

pub set_inside : (s : Scopes) (t : Terminal) → s.brackets ≡ [] → Set true false (after act.Enclose s t)
set_inside s t b = record { clear = λ _. b; idle = record { reading = refl; frame = λ e. absurd (cc) } }

pub braced_of : {s new : Scopes} {t : Terminal} {us rest : List Terminal} → mem (kind s t) (k.OpenBrace ∷ []) ≡ true
    → IsDerived enumerators_in (after act.Enclose s t) us new rest → IsDerived braced s (t ∷ us) new rest
braced_of {s = s} {new = new} {t = t} {us = us} {rest = rest} e x = by x.is
  where
    by : {xs : List Tree} → Derives parsed enumerators_in (after act.Enclose s t) us xs new rest → IsDerived braced s (t ∷ us) new rest
    by (Derives.both d (Derives.both l (Derives.both z c p3) p2) p1) = record { trees = _; is = Derives.both (Derives.a_word e) (Derives.both d (Derives.both (list_derived test.EnumeratorAhead r.Enumr names act.TypeSpecifier l z c) (Derives.both z c refl) refl) refl) refl }

pub group_of : (es : List Entry) (s new : Scopes) (t : Terminal) (us rest : List Terminal) → s.entries ≡ es → s.brackets ≡ []
    → mem (kind s t) (k.OpenBrace ∷ []) ≡ true → IsDerived enumerators_in (after act.Enclose s t) us new rest → IsGroup es t us rest
group_of es s new t us rest q b e x = group_at es {s = s} q b (braced_of e x).is

pub members_of : {s new : Scopes} {t : Terminal} {us rest : List Terminal} → mem (kind s t) (k.OpenBrace ∷ []) ≡ true
    → IsDerived members_in (after act.Enclose s t) us new rest → IsDerived (rule r.Members) s (t ∷ us) new rest
unfolding table
members_of e x = record { trees = _; is = Derives.a_rule (Derives.both (Derives.a_word e) x.is refl) }

-- a typedef name stands before any type specifier
pub name_untyped : (s : Scopes) (t : Terminal) → mem (kind s t) (k.TypedefName ∷ []) ≡ true → s.reading.typed ≡ false
name_untyped s t e = (named (t.kind == k.Name) (is_type s.entries t.name) s.reading.typed (bracket_kind s.brackets t.kind) (none_typedef_name s.brackets t.kind) e).2

-- an element is a type specifier or a qualifier
unfoldable pub is_a_type : {s mid : Scopes} {ts later : List Terminal} {xs : List Tree} → by_grammar element s ts xs mid later → Bool
is_a_type (Derives.left d) = true
is_a_type (Derives.right d) = false

pub type_scopes : {s mid : Scopes} {ts later : List Terminal} {xs : List Tree} → by_grammar (rule r.Typespec) s ts xs mid later → s.brackets ≡ [] → mid ≡ record s { reading = specified s.reading }
unfolding grammar
type_scopes (Derives.a_rule (Derives.left (Derives.a_word e))) b = refl
type_scopes (Derives.a_rule (Derives.right (Derives.left d))) b = struct_scopes d b
type_scopes (Derives.a_rule (Derives.right (Derives.right (Derives.left d)))) b = enum_scopes d b
type_scopes (Derives.a_rule (Derives.right (Derives.right (Derives.right (Derives.left (Derives.a_word e)))))) b = refl
type_scopes (Derives.a_rule (Derives.right (Derives.right (Derives.right (Derives.right d))))) b = typeof_scopes d b

pub element_reading : {s mid : Scopes} {ts later : List Terminal} {xs : List Tree} (d : by_grammar element s ts xs mid later) → s.brackets ≡ [] → mid.reading ≡ behind (is_a_type d) s.reading
unfolding grammar is_a_type
element_reading (Derives.left d) b = ap (λ z. z.reading) (type_scopes d b)
element_reading (Derives.right (Derives.a_rule (Derives.a_word e))) b = refl

-- a type specifier or a qualifier comes
heads_typed : (F : List ℕ) → within tables F type_kinds ≡ true → (s : Scopes) (t : Terminal) (us : List Terminal) → mem (kind s t) F ≡ true → sees_type s (t ∷ us) ≡ true
heads_typed F w s t us e = within_mem tables (kind s t) F type_kinds w e

pub type_comes : {s mid : Scopes} {ts later : List Terminal} {xs : List Tree} → by_grammar (rule r.Typespec) s ts xs mid later → sees_type s ts ≡ true
unfolding grammar within mem
type_comes {s = s} (Derives.a_rule (Derives.left (Derives.a_word {t = t} {ts = us} e))) =
    heads_typed (k.Void ∷ k.Char ∷ k.Short ∷ k.Int ∷ k.Long ∷ k.Signed ∷ k.Unsigned ∷ k.Bool ∷ k.OldBool ∷ []) refl s t us e
type_comes {s = s} (Derives.a_rule (Derives.right (Derives.left (Derives.a_rule (Derives.both (Derives.a_word {t = t} {ts = us} e) d p))))) = heads_typed (k.Struct ∷ []) refl s t us e
type_comes {s = s} (Derives.a_rule (Derives.right (Derives.right (Derives.left (Derives.a_rule (Derives.both (Derives.a_word {t = t} {ts = us} e) d p)))))) = heads_typed (k.Enum ∷ []) refl s t us e
type_comes {s = s} (Derives.a_rule (Derives.right (Derives.right (Derives.right (Derives.left (Derives.a_word {t = t} {ts = us} e)))))) = heads_typed (k.TypedefName ∷ []) refl s t us e
type_comes {s = s} (Derives.a_rule (Derives.right (Derives.right (Derives.right (Derives.right (Derives.a_rule (Derives.both (Derives.a_word {t = t} {ts = us} e) d p))))))) = heads_typed (k.Typeof ∷ k.TypeofUnqual ∷ []) refl s t us e

pub element_comes : {s mid : Scopes} {ts later : List Terminal} {xs : List Tree} → by_grammar element s ts xs mid later → sees_type s ts ≡ true
unfolding grammar within mem
element_comes (Derives.left d) = type_comes d
element_comes {s = s} (Derives.right (Derives.a_rule (Derives.a_word {t = t} {ts = us} e))) = heads_typed (k.Const ∷ k.Restrict ∷ k.Owner ∷ k.View ∷ k.Opt ∷ []) refl s t us e

pub squals_comes : {s new : Scopes} {ts rest : List Terminal} {xs : List Tree} → by_grammar (rule r.Squals) s ts xs new rest → sees_type s ts ≡ true
unfolding grammar
squals_comes (Derives.a_rule (Derives.both d l p)) = element_comes d

pub comes_of : (R : Run) (s : Scopes) (ts : List Terminal) → s.entries ≡ R.names → s.brackets ≡ [] → s.reading.typed ≡ false → sees_type s ts ≡ true → Comes R ts
comes_of R s ts q b p h = inl (subst (λ y. sees_type (here R.names y) ts ≡ true) p (sym (seen_here R.names s ts q b) ∙ h))

-- and none behind the list
pub elements_end : {s new : Scopes} {ts rest : List Terminal} {xs : List Tree} → by_grammar elements s ts xs new rest → sees_type new rest ≡ false
elements_end (Derives.done h) = h
elements_end (Derives.again a d e q) = elements_end e

pub squals_end : {s new : Scopes} {ts rest : List Terminal} {xs : List Tree} → by_grammar (rule r.Squals) s ts xs new rest → sees_type new rest ≡ false
unfolding grammar
squals_end (Derives.a_rule (Derives.both d l p)) = elements_end l

-- how the declaration goes on: inside a list as behind a type specifier, and outside as told by the scopes
abbrev pub told : Bool → Reading → Scopes → Reading
told true o s = specified o
told false o s = s.reading

settled : (b : Bool) (o : Reading) → specified o ≡ behind b (specified o)
settled true o = refl
settled false o = refl

pub typed_behind : (b : Bool) (reading : Reading) → (behind b reading).typed ≡ (b || reading.typed)
typed_behind true reading = refl
typed_behind false reading = refl

told_behind : (i : Bool) (o : Reading) {s mid : Scopes} {ts later : List Terminal} {xs : List Tree} (d : by_grammar element s ts xs mid later) → s.brackets ≡ []
    → told i o mid ≡ behind (is_a_type d) (told i o s)
told_behind true o d b = settled (is_a_type d) o
told_behind false o d b = element_reading d b

pub as_told : (R : Run) (i : Bool) (o : Reading) {c : Bool} {q : ℕ} {s mid : Scopes} {ts later : List Terminal} {xs : List Tree} (d : by_grammar element s ts xs mid later) → s.brackets ≡ []
    → Flat R c q mid.reading.typed (told i o mid) later → Flat R c q (is_a_type d || s.reading.typed) (behind (is_a_type d) (told i o s)) later
as_told R i o {c = c} {q = q} {s = s} {mid = mid} {later = later} d b k =
    let y : mid.reading.typed ≡ (is_a_type d || s.reading.typed) = ap (λ z. z.typed) (element_reading d b) ∙ typed_behind (is_a_type d) s.reading in
    subst (λ z. Flat R c q z (behind (is_a_type d) (told i o s)) later) y (subst (λ z. Flat R c q mid.reading.typed z later) (told_behind i o d b) k)

-- the end of a list
left_scopes : (s new : Scopes) → IsLeft s new → at s.entries new.reading s.frames ≡ new
left_scopes s new l = rw (sym l.entries, sym l.frames) (same_scopes new l.brackets)

pub squals_done : (s new : Scopes) (rest : List Terminal) → IsLeft s new → IsEnd s.entries new.reading.typed rest → sees_type new rest ≡ false
    → Flat (run_of (squals_of s) true new rest) true 0 new.reading.typed new.reading rest
squals_done s new rest l i h =
    Flat.ends i
    (subst (λ z. Continues new rest true (Item.form elements ∷ Item.shut r.Squals ∷ []) z rest) (sym (left_scopes s new l)) (Continues.go (Derives.done h) (Continues.ended Continues.stop)))

pub specs_done : (s new : Scopes) (rest : List Terminal) → IsLeft s new → IsEnd s.entries new.reading.typed rest → Flat (run_of (specs_of s) true new rest) true 0 new.reading.typed new.reading rest
specs_done s new rest l i =
    Flat.ends i
    (subst (λ z. Continues new rest true (Item.form (many (rule r.Spec)) ∷ Item.shut r.Specs ∷ []) z rest) (sym (left_scopes s new l)) (Continues.go Derives.stop (Continues.ended Continues.stop)))

-- `typeof`
pub typeof_of : {s new : Scopes} {t u : Terminal} {us rest : List Terminal} → mem (kind s t) (k.Typeof ∷ k.TypeofUnqual ∷ []) ≡ true
    → mem (kind (after act.OpenSpecifier s t) u) (k.OpenParenthesis ∷ []) ≡ true
    → IsDerived operand_in (after act.Enclose (after act.OpenSpecifier s t) u) us new rest
    → IsDerived (rule r.Typeof) s (t ∷ u ∷ us) (parsed.close r.Typeof new) rest
unfolding table
typeof_of e g x = record { trees = _; is = Derives.a_rule (Derives.both (Derives.a_word e) (Derives.both (Derives.a_word g) x.is refl) refl) }

pub colon_of : (s : Scopes) (t : Terminal) → mem (kind s t) (k.Colon ∷ []) ≡ true → (t.kind == k.Colon) ≡ true
unfolding mem
colon_of s t e = is_it k.Colon (refl, refl, refl, refl, refl) s t e

-- words of storage and of functions
pub typedef_end : Ends (k.Typedef ∷ [])
unfolding mem apart firsts
typedef_end = record { typed = refl; brace = refl; colon = refl; held = refl; stray = refl; others = refl }

pub storage_end : Ends (k.Extern ∷ k.Static ∷ k.Auto ∷ k.Register ∷ k.Constexpr ∷ [])
unfolding mem apart firsts
storage_end = record { typed = refl; brace = refl; colon = refl; held = refl; stray = refl; others = refl }

pub function_end : Ends (k.Inline ∷ k.Noreturn ∷ [])
unfolding mem apart firsts
function_end = record { typed = refl; brace = refl; colon = refl; held = refl; stray = refl; others = refl }

pub typedef_spec : {s : Scopes} {t : Terminal} {us : List Terminal} → mem (kind s t) (k.Typedef ∷ []) ≡ true
    → Derives parsed (rule r.Spec) s (t ∷ us) (parsed.node r.Spec (parsed.node r.Storage (parsed.leaf t ∷ []) ∷ []) ∷ []) (after act.Typedef s t) us
unfolding table
typedef_spec e = Derives.a_rule (Derives.left (Derives.a_rule (Derives.left (Derives.a_word e))))

pub storage_spec : {s : Scopes} {t : Terminal} {us : List Terminal} → mem (kind s t) (k.Extern ∷ k.Static ∷ k.Auto ∷ k.Register ∷ k.Constexpr ∷ []) ≡ true
    → Derives parsed (rule r.Spec) s (t ∷ us) (parsed.node r.Spec (parsed.node r.Storage (parsed.leaf t ∷ []) ∷ []) ∷ []) (after act.Specifier s t) us
unfolding table
storage_spec e = Derives.a_rule (Derives.left (Derives.a_rule (Derives.right (Derives.a_word e))))

pub function_spec : {s : Scopes} {t : Terminal} {us : List Terminal} → mem (kind s t) (k.Inline ∷ k.Noreturn ∷ []) ≡ true
    → Derives parsed (rule r.Spec) s (t ∷ us) (parsed.node r.Spec (parsed.leaf t ∷ []) ∷ []) (after act.Specifier s t) us
unfolding table
function_spec e = Derives.a_rule (Derives.right (Derives.right (Derives.right (Derives.a_word e))))

pub qualifier_of : {s : Scopes} {t : Terminal} {us : List Terminal} → mem (kind s t) (k.Const ∷ k.Restrict ∷ k.Owner ∷ k.View ∷ k.Opt ∷ []) ≡ true
    → Derives parsed (rule r.Qual) s (t ∷ us) (parsed.node r.Qual (parsed.leaf t ∷ []) ∷ []) (after act.Specifier s t) us
unfolding table
qualifier_of e = Derives.a_rule (Derives.a_word e)

types_first : within tables type_kinds (firsts r.Specs) ≡ true
unfolding within mem firsts
types_first = refl

seen_first : (s : Scopes) (ts : List Terminal) → sees_type s ts ≡ true → mem (ahead tables parsed s ts) (firsts r.Specs) ≡ true
unfolding ahead
seen_first s [] h = absurd (cc)
seen_first s (t ∷ ts) h = within_mem tables (kind s t) type_kinds (firsts r.Specs) types_first h

word_first : (F : List ℕ) → within tables F (firsts r.Specs) ≡ true → (s : Scopes) (t : Terminal) (us : List Terminal) → mem (kind s t) F ≡ true
    → mem (ahead tables parsed s (t ∷ us)) (firsts r.Specs) ≡ true
unfolding ahead
word_first F w s t us e = within_mem tables (kind s t) F (firsts r.Specs) w e

pub spec_comes : {s mid : Scopes} {ts later : List Terminal} {xs : List Tree} → by_grammar (rule r.Spec) s ts xs mid later → mem (ahead tables parsed s ts) (firsts r.Specs) ≡ true
unfolding grammar within mem firsts
spec_comes {s = s} (Derives.a_rule (Derives.left (Derives.a_rule (Derives.left (Derives.a_word {t = t} {ts = us} e))))) = word_first (k.Typedef ∷ []) refl s t us e
spec_comes {s = s} (Derives.a_rule (Derives.left (Derives.a_rule (Derives.right (Derives.a_word {t = t} {ts = us} e))))) =
    word_first (k.Extern ∷ k.Static ∷ k.Auto ∷ k.Register ∷ k.Constexpr ∷ []) refl s t us e
spec_comes {s = s} {ts = ts} (Derives.a_rule (Derives.right (Derives.left d))) = seen_first s ts (type_comes d)
spec_comes {s = s} (Derives.a_rule (Derives.right (Derives.right (Derives.left (Derives.a_rule (Derives.a_word {t = t} {ts = us} e)))))) =
    word_first (k.Const ∷ k.Restrict ∷ k.Owner ∷ k.View ∷ k.Opt ∷ []) refl s t us e
spec_comes {s = s} (Derives.a_rule (Derives.right (Derives.right (Derives.right (Derives.a_word {t = t} {ts = us} e))))) = word_first (k.Inline ∷ k.Noreturn ∷ []) refl s t us e

pub specs_apart : (F : List ℕ) → apart tables F list_continuations ≡ true → apart tables F (firsts r.Specs) ≡ true
unfolding within mem firsts
specs_apart F a = fewer F (firsts r.Specs) refl a
