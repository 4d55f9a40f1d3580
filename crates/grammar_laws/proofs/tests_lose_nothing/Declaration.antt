-- The tests before a declaration, a label and a statement lose nothing.
use Rattle.std.proofs.Common.{◌≡◌, Bool, true, false, not, ◌||◌, List, [], ◌∷◌, refl, sym, subst}
use Rattle.std.specs.Prelude.{◌==◌}
use mathlib.Core.Logic.{inl, inr}
use Rattle.model_grammar.specs.declared.grammar.Rule.TheVariants as r
use Rattle.model_grammar.specs.declared.grammar.Act.TheVariants as act
use Rattle.model_grammar.specs.declared.grammar.Test.TheVariants as test
use Rattle.model_grammar.specs.declared.grammar.Terminal.{Terminal}
use Rattle.model_grammar.specs.declared.grammar.Tree.{Tree}
use Rattle.model_grammar.specs.GrammarForm.{Form, word, rule, when, maybe, many, ◌then◌, ◌or◌, mem}
use Rattle.model_grammar.specs.Grammar.{grammar, token}
use Rattle.model_grammar.specs.Terminals as k
use Rattle.model_grammar.specs.NameScopes.{Scopes}
use Rattle.model_grammar.specs.Derivation.{Derives, Begins}
use Rattle.grammar_laws.specs.FirstTokens.{nullable, first}
use Rattle.grammar_laws.specs.ParserWalk.{ahead}
use Rattle.grammar_laws.specs.ParserTable.{table}
use Rattle.grammar_laws.specs.ParserSets.{tables, firsts, hollow}
use Rattle.grammar_laws.specs.ParserTests.{parsed, passes, sees_assertion, sees_attributes_alone}
use Rattle.grammar_laws.proofs.walks.DecidedDerivations.{entry}
use Rattle.grammar_laws.proofs.walks.ParserDecided.{quiet, checked}
use Rattle.grammar_laws.proofs.kinds.TokenKinds.{raw}
use Rattle.grammar_laws.proofs.tests_lose_nothing.LosesNothing.{TestsLoseNothing, begins_with}
use Rattle.grammar_laws.proofs.walks.DecidedDerivations.{begun}
use Rattle.grammar_laws.proofs.derivations.ClearBrackets.{is_balanced}
use Rattle.grammar_laws.proofs.scans.BehindAttributes.{specified, alone}

abbrev pub named : Form
named = rule r.Attrs then rule r.Specs then maybe (rule r.Initdecl then many (word (k.Comma ∷ []) act.NextDeclarator then rule r.Initdecl)) then word (k.Semicolon ∷ []) act.EndDeclaration

abbrev pub attributes : Form
attributes = rule r.Attr then rule r.Attrs then token k.Semicolon

abbrev choice : Form
choice = when test.SpecifiersAhead named (rule r.Sassert or attributes)

pub asserted : (s : Scopes) (ts : List Terminal) → mem (ahead tables parsed s ts) (firsts r.Sassert) ≡ true → sees_assertion ts ≡ true
unfolding ahead firsts mem
asserted s [] h = absurd (cc)
asserted s (t ∷ ts) h = two (t.kind == 1) (t.kind == 2) (raw (k.StaticAssert ∷ k.OldStaticAssert ∷ []) (refl, refl, refl, refl, refl) s t h)
  where
    two : (a b : Bool) → (a || (b || false)) ≡ true → (a || b) ≡ true
    two true b h = refl
    two false true h = refl
    two false false h = h

pub by_assertion : (s : Scopes) (ts : List Terminal) → sees_assertion ts ≡ true → passes test.SpecifiersAhead s ts ≡ false
by_assertion s ts h = rw h refl

pub by_alone : (s : Scopes) (ts : List Terminal) → sees_attributes_alone ts ≡ true → passes test.SpecifiersAhead s ts ≡ false
by_alone s ts h = rw h (or_true (sees_assertion ts))
  where
    or_true : (a : Bool) → not (a || true) ≡ false
    or_true true = refl
    or_true false = refl

choice_derived : {s new : Scopes} {ts rest : List Terminal} {xs : List Tree} → s.brackets ≡ []
    → Derives parsed (named or (rule r.Sassert or attributes)) s ts xs new rest → Derives parsed choice s ts xs new rest
unfolding hollow
choice_derived c (Derives.left (Derives.both a (Derives.both d m p) q)) = Derives.chosen (specified c a (begins_with refl d)) (Derives.both a (Derives.both d m p) q)
choice_derived {s = s} {ts = ts} c (Derives.right (Derives.left d)) = Derives.other (by_assertion s ts (asserted s ts (begins_with refl d))) (Derives.left d)
choice_derived {s = s} {ts = ts} c (Derives.right (Derives.right (Derives.both d (Derives.both e (Derives.a_word w) p) q))) =
    Derives.other (by_alone s ts (alone c d e w)) (Derives.right (Derives.both d (Derives.both e (Derives.a_word w) p) q))

-- attributes that are begun may be those of either
attributes_begun : {s : Scopes} {ts rest : List Terminal} → Begins parsed (rule r.Attrs) s ts rest → Begins parsed (rule r.Sassert or attributes) s ts rest
unfolding table
attributes_begun Begins.yet = Begins.yet
attributes_begun (Begins.in_rule Begins.yet) = Begins.yet
attributes_begun (Begins.in_rule (Begins.in_turn d)) = Begins.in_right (Begins.in_first d)
attributes_begun (Begins.in_rule (Begins.in_later d e)) = Begins.in_right (Begins.in_then d (Begins.in_first (Begins.in_rule e)))

by_test : {s : Scopes} {ts rest : List Terminal} (b : Bool) → passes test.SpecifiersAhead s ts ≡ b → Begins parsed (rule r.Attrs) s ts rest → Begins parsed choice s ts rest
by_test true b d = Begins.in_chosen b (Begins.in_first d)
by_test false b d = Begins.in_other b (attributes_begun d)

in_attributes : {s : Scopes} {ts rest : List Terminal} → Begins parsed (rule r.Attrs) s ts rest → Begins parsed choice s ts rest
in_attributes {s = s} {ts = ts} d = by_test (passes test.SpecifiersAhead s ts) refl d

pub declares : {s : Scopes} {ts rest : List Terminal} → Begins parsed (rule r.Attrs) s ts rest → Begins parsed (rule r.Declaration) s ts rest
unfolding table
declares d = Begins.in_rule (in_attributes d)

choice_begun : {s : Scopes} {ts rest : List Terminal} → s.brackets ≡ [] → Begins parsed (named or (rule r.Sassert or attributes)) s ts rest → Begins parsed choice s ts rest
unfolding first nullable hollow table
choice_begun c Begins.yet = Begins.yet
choice_begun c (Begins.in_left Begins.yet) = Begins.yet
choice_begun c (Begins.in_left (Begins.in_first d)) = in_attributes d
choice_begun {s = s} {ts = ts} c (Begins.in_left (Begins.in_then a Begins.yet)) = in_attributes (begun tables parsed quiet checked a)
choice_begun {s = s} {ts = ts} c (Begins.in_left (Begins.in_then a (Begins.in_first d))) = elim (entry tables parsed quiet checked d) [
  | inl m ↦ Begins.in_chosen (specified c a m.begun) (Begins.in_then a (Begins.in_first d))
  | inr h ↦ subst (λ z. Begins parsed choice s ts z) (sym h) (in_attributes (begun tables parsed quiet checked a))
]
choice_begun c (Begins.in_left (Begins.in_then a (Begins.in_then d e))) = Begins.in_chosen (specified c a (begins_with refl d)) (Begins.in_then a (Begins.in_then d e))
choice_begun c (Begins.in_right Begins.yet) = Begins.yet
choice_begun {s = s} {ts = ts} c (Begins.in_right (Begins.in_left d)) = elim (entry tables parsed quiet checked d) [
  | inl m ↦ Begins.in_other (by_assertion s ts (asserted s ts m.begun)) (Begins.in_left d)
  | inr h ↦ subst (λ z. Begins parsed choice s ts z) (sym h) Begins.yet
]
choice_begun c (Begins.in_right (Begins.in_right Begins.yet)) = Begins.yet
choice_begun c (Begins.in_right (Begins.in_right (Begins.in_first d))) = in_attributes (Begins.in_rule (Begins.in_turn d))
choice_begun c (Begins.in_right (Begins.in_right (Begins.in_then d Begins.yet))) = in_attributes (Begins.in_rule (Begins.in_later d Begins.yet))
choice_begun c (Begins.in_right (Begins.in_right (Begins.in_then d (Begins.in_first Begins.yet)))) = in_attributes (Begins.in_rule (Begins.in_later d Begins.yet))
choice_begun c (Begins.in_right (Begins.in_right (Begins.in_then d (Begins.in_first (Begins.in_rule e))))) = in_attributes (Begins.in_rule (Begins.in_later d e))
choice_begun c (Begins.in_right (Begins.in_right (Begins.in_then d (Begins.in_then (Derives.a_rule e) Begins.yet)))) =
    in_attributes (Begins.in_rule (Begins.in_later d (begun tables parsed quiet checked e)))
choice_begun {s = s} {ts = ts} c (Begins.in_right (Begins.in_right (Begins.in_then d (Begins.in_then e (Begins.in_word w))))) =
    Begins.in_other (by_alone s ts (alone c d e w)) (Begins.in_right (Begins.in_then d (Begins.in_then e (Begins.in_word w))))

derived : (s new : Scopes) (ts rest : List Terminal) (xs : List Tree) → s.brackets ≡ [] → Derives parsed (grammar r.Declaration) s ts xs new rest
    → Derives parsed (table r.Declaration) s ts xs new rest
unfolding grammar table
derived s new ts rest xs c d = choice_derived c d

fronts : (s : Scopes) (ts rest : List Terminal) → s.brackets ≡ [] → Begins parsed (grammar r.Declaration) s ts rest → Begins parsed (table r.Declaration) s ts rest
unfolding grammar table
fronts s ts rest c d = choice_begun c d

pub declaration : TestsLoseNothing r.Declaration
unfolding is_balanced
declaration = record { derived = λ s new ts rest xs c d h. record { trees = xs; is = derived s new ts rest xs (c refl) d }; begun = λ s ts rest c d. fronts s ts rest (c refl) d }
