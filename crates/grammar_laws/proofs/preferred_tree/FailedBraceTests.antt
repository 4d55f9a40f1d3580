-- Where the parser's test of braces fails, the grammar derives none there: no members behind the tag of a structure,
-- and no enumerators behind the tag of an enumeration.
use Rattle.std.proofs.Common.{arith, ◌≡◌, ◌<◌, ℕ, suc, true, false, ◌||◌, List, [], ◌∷◌, refl, sym, subst, ◌∙◌}
use Rattle.std.specs.Prelude.{◌==◌}
use Rattle.model_grammar.specs.declared.grammar.Rule.TheVariants as r
use Rattle.model_grammar.specs.declared.grammar.Act.TheVariants as act
use Rattle.model_grammar.specs.declared.grammar.Test.TheVariants as test
use Rattle.model_grammar.specs.declared.grammar.Terminal.{Terminal}
use Rattle.model_grammar.specs.declared.grammar.Within.TheVariants.{Between}
use Rattle.model_grammar.specs.declared.grammar.Tree.{Tree}
use Rattle.model_grammar.specs.GrammarForm.{Form, rule, maybe, many, loop, ◌then◌, ◌or◌, mem}
use Rattle.model_grammar.specs.Grammar.{grammar}
use Rattle.model_grammar.specs.Terminals as k
use Rattle.model_grammar.specs.NameScopes.{Scopes, after}
use Rattle.model_grammar.specs.Derivation.{Derives}
use Rattle.grammar_laws.specs.FirstTokens.{first, nullable}
use Rattle.grammar_laws.specs.apparatus.DecidedTable.{within, apart}
use Rattle.grammar_laws.specs.ParserWalk.{ahead}
use Rattle.grammar_laws.specs.ParserSets.{tables, firsts, hollow}
use Rattle.grammar_laws.specs.ParserTests.{parsed, lacks_enumeration, sees, sees_name, sees_members, has_enumerators}
use Rattle.grammar_laws.proofs.kinds.KindSets.{apart_mem, within_mem, clash}
use Rattle.grammar_laws.proofs.kinds.TokenKinds.{raw, decide}
use Rattle.grammar_laws.proofs.derivations.ClearBrackets.{over}
use Rattle.grammar_laws.proofs.scans.BehindAttributes.{missing}
use Rattle.grammar_laws.proofs.tests_lose_nothing.LosesNothing.{begins_with}
use Rattle.grammar_laws.proofs.scans.PastSpecifiers.{brace_kind, tag_name, none}
use Rattle.grammar_laws.proofs.scans.ScansReadNames.{name_alike}
use Rattle.grammar_laws.proofs.specifier_lists.PiecesAnywhere.{or_not}
use Rattle.grammar_laws.proofs.derivations.FirstTokensOfGrammar.{starts_over, begins_over}
use Rattle.grammar_laws.proofs.enumerations.BracesScanAtEnd.{opens_members}
use Rattle.grammar_laws.proofs.enumerations.BracesScanOfGrammar.{grammar_braced, member_unnamed_over}
use Rattle.grammar_laws.proofs.enumerations.AwaitedBraces.{IsOwing, grammar_based, grammar_tag, shifted, no_members_first, based_owes}
use Rattle.grammar_laws.proofs.same_language.FormsOutsideLists.{list_continuations}
use Rattle.grammar_laws.proofs.specifier_lists.TestsOnPieces.{no_colon}

-- members that the grammar derives are seen
pub members_seen : {s new : Scopes} {ts rest : List Terminal} {xs : List Tree} → Derives (over grammar) (rule r.Members) s ts xs new rest → sees_members s ts ≡ true
unfolding grammar
members_seen {s = s} (Derives.a_rule (Derives.both (Derives.a_word {t = o} {ts = ws} e) (Derives.both m d _) _)) =
    rw (brace_kind s o e) (or_not (s.reading.waiting == 0) (sees_name s ws) (sym (name_alike ws s (after act.Enclose s o) refl) ∙ member_unnamed_over m))

-- and so are enumerators that another list goes on with
abbrev braces_first : List ℕ
braces_first = k.Colon ∷ k.OpenBrace ∷ []

no_name : (s : Scopes) (ts : List Terminal) → mem (ahead tables parsed s ts) braces_first ≡ true → has_enumerators s ts ≡ true
unfolding mem ahead
no_name s [] h = refl
no_name s (t ∷ ts) h = rw (none braces_first t.kind k.Name (raw braces_first (refl, refl, refl, refl, refl) s t h) refl) refl

tag_taken : (s : Scopes) (g : Terminal) (ts : List Terminal) → (g.kind == k.Name) ≡ true → (sees k.OpenBrace ts || sees k.Colon ts) ≡ true
    → lacks_enumeration s.reading.waiting (Between true) s ts ≡ true → has_enumerators s (g ∷ ts) ≡ true
tag_taken s g ts n c l = rw (n, c, l) refl

one_more : (w : ℕ) → w < suc w
one_more w = omega arith

pub no_braces : {m new : Scopes} {ts rest : List Terminal} {xs : List Tree}
    → Derives (over grammar) (maybe grammar_tag then grammar_based then grammar_braced) m ts xs new rest → m.brackets ≡ []
    → ((w : ℕ) → w < m.reading.waiting → lacks_enumeration w (Between true) m rest ≡ true) → has_enumerators m ts ≡ false → ⊥
unfolding first nullable
no_braces {m = m} {ts = ts} (Derives.both Derives.skip d _) b h a = clash _ (no_name m ts (starts_over {f = grammar_based then grammar_braced} refl d)) a
no_braces {m = m} {rest = rest} (Derives.both (Derives.take (Derives.a_word {t = g} {ts = us} n)) d _) b h a =
    let i = based_owes d b (λ v j. shifted (after act.TypeSpecifier m g) m v (Between true) rest refl (h v j)) in
    clash _ (tag_taken m g us (tag_name m g n) i.comes (shifted m (after act.TypeSpecifier m g) m.reading.waiting (Between true) us refl (i.tagged m.reading.waiting (one_more m.reading.waiting)))) a

-- where nothing waits, nothing is owed
pub idle_owing : (s : Scopes) (ts : List Terminal) → s.reading.waiting ≡ 0 → opens_members s ts ≡ false → IsOwing s ts
idle_owing s ts i n = record { braces = λ w l. absurd (none_less w (subst (λ z. w < z) i l)); named = n }
  where
    none_less : (w : ℕ) → w < 0 → ⊥
    none_less w l = omega (arith, l)

-- behind a list comes what doesn't go on with it
pub apart_goer : (F : List ℕ) (j : ℕ) → apart tables F list_continuations ≡ true → mem j list_continuations ≡ true → mem j F ≡ false
apart_goer F j a m = decide (mem j F) (λ e. apart_mem tables j F list_continuations a e m)

pub end_named : (F : List ℕ) (s : Scopes) (ts : List Terminal) → apart tables F list_continuations ≡ true → mem (ahead tables parsed s ts) F ≡ true → opens_members s ts ≡ false
unfolding mem firsts
end_named F s ts a h = no_members_first F (apart_goer F k.OpenBrace a refl) (apart_goer F k.Closing a refl) (apart_goer F k.Stray a refl) s ts h

pub end_colon : (F : List ℕ) (s : Scopes) (ts : List Terminal) → apart tables F list_continuations ≡ true → mem (ahead tables parsed s ts) F ≡ true → sees k.Colon ts ≡ false
unfolding mem firsts
end_colon F s ts a h = missing F k.Colon refl (apart_goer F k.Colon a refl) (apart_goer F k.Closing a refl) (apart_goer F k.Stray a refl) s ts h

specs_within : within tables (firsts r.Specs) list_continuations ≡ true
unfolding within mem firsts
specs_within = refl

pub end_spec : (F : List ℕ) (j : ℕ) → apart tables F list_continuations ≡ true → mem j F ≡ true → mem j (firsts r.Spec) ≡ true → ⊥
unfolding firsts
end_spec F j a h m = apart_mem tables j F list_continuations a h (within_mem tables j (firsts r.Specs) list_continuations specs_within m)

pub specs_named : (F : List ℕ) {s new : Scopes} {ts rest : List Terminal} {xs : List Tree} → Derives (over grammar) (many (rule r.Spec)) s ts xs new rest
    → apart tables F list_continuations ≡ true → mem (ahead tables parsed new rest) F ≡ true → opens_members s ts ≡ false
unfolding hollow firsts mem
specs_named F {s = s} {ts = ts} Derives.stop a h = end_named F s ts a h
specs_named F {s = s} {ts = ts} (Derives.turn d e q) a h = no_members_first (firsts r.Spec) refl refl refl s ts (begins_over refl d)

pub specs_colon : (F : List ℕ) {s new : Scopes} {ts rest : List Terminal} {xs : List Tree} → Derives parsed (many (rule r.Spec)) s ts xs new rest
    → apart tables F list_continuations ≡ true → mem (ahead tables parsed new rest) F ≡ true → sees k.Colon ts ≡ false
unfolding hollow firsts mem
specs_colon F {s = s} {ts = ts} Derives.stop a h = end_colon F s ts a h
specs_colon F {s = s} {ts = ts} (Derives.turn d e q) a h = missing (firsts r.Spec) k.Colon refl refl refl refl s ts (begins_with refl d)

abbrev pub element : Form
element = rule r.Typespec or rule r.Qual

pub elements_colon : {s new : Scopes} {ts rest : List Terminal} {xs : List Tree} → Derives parsed (loop test.TypeAhead element) s ts xs new rest → sees k.Colon rest ≡ false → sees k.Colon ts ≡ false
elements_colon (Derives.done a) h = h
elements_colon {s = s} {ts = ts} (Derives.again a d e q) h = no_colon s ts a
