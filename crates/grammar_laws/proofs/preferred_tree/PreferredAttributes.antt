-- Of attributes the parser's derivation is the preferred one.
use Rattle.std.proofs.Common.{◌≡◌, ℕ, true, false, not, ◌&&◌, List, ◌++◌, refl, sym, subst}
use mathlib.Core.Logic.{inl, inr}
use Rattle.model_grammar.specs.declared.grammar.Rule.{Rule}
use Rattle.model_grammar.specs.declared.grammar.Terminal.{Terminal}
use Rattle.model_grammar.specs.declared.grammar.Tree.{Tree}
use Rattle.model_grammar.specs.GrammarForm.{Form, rule, ◌then◌, ◌or◌, maybe, many, mem}
use Rattle.model_grammar.specs.Grammar.{grammar}
use Rattle.model_grammar.specs.NameScopes.{Scopes}
use Rattle.model_grammar.specs.Derivation.{Derives}
use Rattle.grammar_laws.specs.FirstTokens.{first, nullable}
use Rattle.grammar_laws.specs.apparatus.DecidedTable.{within, apart, leads, decided}
use Rattle.grammar_laws.specs.ParserWalk.{ahead}
use Rattle.grammar_laws.specs.Preferences.{choices}
use Rattle.grammar_laws.specs.ParserSets.{tables, follows}
use Rattle.grammar_laws.specs.ParserTests.{parsed}
use Rattle.grammar_laws.proofs.kinds.KindSets.{and_left, and_right, not_true, clash, within_mem, apart_mem, mem_split}
use Rattle.grammar_laws.proofs.walks.DecidedDerivations.{lead, ahead_keeps, within_rule}
use Rattle.grammar_laws.proofs.walks.ParserDecided.{quiet, checked}
use Rattle.grammar_laws.proofs.derivations.ClearBrackets.{over}
use Rattle.grammar_laws.proofs.derivations.FirstTokensOfGrammar.{lead_over}
use Rattle.grammar_laws.proofs.derivations.AttributesInAnyScopes.{attributed, inside}
use Rattle.grammar_laws.proofs.preferred_tree.ChoiceOrder.{IsTaking, moved}
use Rattle.grammar_laws.proofs.preferred_tree.FormsWithoutTests.{opens, open_form, same_leads}
use Rattle.grammar_laws.proofs.preferred_tree.ChoicesInGrammar.{open_choices}
use Rattle.grammar_laws.proofs.preferred_tree.ComparedDerivations.{Compared, itself, retaken, marked, closed, joined}

pub at_follow : (n : Rule) (F : List ℕ) (s : Scopes) (rest : List Terminal) → within tables F (follows n) ≡ true
    → mem (ahead tables parsed (parsed.close n s) rest) F ≡ true → mem (ahead tables parsed s rest) (follows n) ≡ true
at_follow n F s rest w h = ahead_keeps tables parsed quiet checked n s rest (within_mem tables _ F (follows n) w h)

-- what comes next where the grammar derives a form
pub open_lead : (f : Form) (F : List ℕ) {s new : Scopes} {ts rest : List Terminal} {xs : List Tree} → Derives (over grammar) (opens f) s ts xs new rest
    → mem (ahead tables parsed new rest) F ≡ true → mem (ahead tables parsed s ts) (leads tables f F) ≡ true
open_lead f F {s = s} {ts = ts} o h = subst (λ z. mem (ahead tables parsed s ts) z ≡ true) (same_leads f F) (lead_over F o h)

pub only_first : (f : Form) (F : List ℕ) (j : ℕ) → not (nullable tables f) ≡ true → mem j (leads tables f F) ≡ true → mem j (first tables f) ≡ true
unfolding leads
only_first f F j n h = elim (mem_split j (nullable tables f) (first tables f) F h) [
  | inl m ↦ m
  | inr m ↦ absurd (clash _ m.0 (not_true _ n))
]

-- likewise a repetition
pub many_lead : (f : Form) (F : List ℕ) {s new : Scopes} {ts rest : List Terminal} {xs : List Tree} → Derives (over grammar) (many (opens f)) s ts xs new rest
    → mem (ahead tables parsed new rest) F ≡ true → mem (ahead tables parsed s ts) (first tables f ++ F) ≡ true
unfolding leads opens first nullable
many_lead f F o h = open_lead (many f) F o h

pub many_first : (f : Form) (F : List ℕ) {s new : Scopes} {ts rest : List Terminal} {xs : List Tree} → Derives parsed (many f) s ts xs new rest
    → mem (ahead tables parsed new rest) F ≡ true → mem (ahead tables parsed s ts) (first tables f ++ F) ≡ true
unfolding leads first nullable
many_first f F d h = lead tables parsed quiet checked F d h

pub prefer_attributed : {f : Form} {s new new' : Scopes} {ts rest rest' : List Terminal} {xs ys : List Tree} → (d : Derives parsed f s ts xs new rest)
    → (o : Derives (over grammar) (opens f) s ts ys new' rest')
    → (F : List ℕ) → attributed f ≡ true → decided tables f F ≡ true → mem (ahead tables parsed new rest) F ≡ true → mem (ahead tables parsed new' rest') F ≡ true
    → Compared (open_choices d) new rest (choices (over grammar) o) new' rest'
unfolding opens open_choices choices decided attributed
prefer_attributed (Derives.a_word e) (Derives.a_word e') F a w h h' = Compared.alike refl refl refl
prefer_attributed {f = rule n} {s = s} {ts = ts} (Derives.a_rule {new = mid} {rest = rest} d) (Derives.a_rule {new = mid'} {rest = rest'} {xs = ys} o) F a w h h' =
    let t = subst (λ z. IsTaking (over grammar) z s ts ys mid' rest' (choices (over grammar) o)) (sym (open_form n)) (itself o) in
    closed n (retaken t.takes (prefer_attributed d t.is (follows n) (inside n a) (within_rule tables parsed quiet checked n) (at_follow n F mid rest w h) (at_follow n F mid' rest' w h')))
prefer_attributed Derives.nothing Derives.nothing F a w h h' = Compared.alike refl refl refl
prefer_attributed {f = f then g} (Derives.both d d' q) (Derives.both o o' q') F a w h h' =
    joined (prefer_attributed d o (leads tables g F) (and_left _ (attributed g) a) (and_left _ (decided tables g F) w) (lead tables parsed quiet checked F d' h) (open_lead g F o' h')) (λ p r.
    let u = moved (over grammar) (sym p) (sym r) o' in
    retaken u.takes (prefer_attributed d' u.is F (and_right (attributed f) _ a) (and_right (decided tables f (leads tables g F)) _ w) h h'))
prefer_attributed {f = f or g} (Derives.left d) (Derives.left o) F a w h h' =
    marked true (prefer_attributed d o F (and_left _ (attributed g) a) (and_right _ _ (and_left _ (decided tables g F) w)) h h')
prefer_attributed {f = f or g} (Derives.left d) (Derives.right o) F a w h h' = Compared.before tt
prefer_attributed {f = f or g} (Derives.right d) (Derives.left o) F a w h h' =
    absurd
    (apart_mem tables _ (leads tables f F) (leads tables g F) (and_left _ (decided tables f F) (and_left _ (decided tables g F) w)) (open_lead f F o h') (lead tables parsed quiet checked F d h))
prefer_attributed {f = f or g} (Derives.right d) (Derives.right o) F a w h h' =
    marked false (prefer_attributed d o F (and_right (attributed f) _ a) (and_right (apart tables (leads tables f F) (leads tables g F) && decided tables f F) _ w) h h')
prefer_attributed {f = maybe f} Derives.skip Derives.skip F a w h h' = Compared.alike refl refl refl
prefer_attributed {f = maybe f} Derives.skip (Derives.take o) F a w h h' =
    let n = and_left _ (decided tables f F) w in
    absurd (apart_mem tables _ (first tables f) F (and_right (not (nullable tables f)) _ n) (only_first f F _ (and_left _ (apart tables (first tables f) F) n) (open_lead f F o h')) h)
prefer_attributed {f = maybe f} (Derives.take d) Derives.skip F a w h h' = Compared.before tt
prefer_attributed {f = maybe f} (Derives.take d) (Derives.take o) F a w h h' = marked true (prefer_attributed d o F a (and_right (not (nullable tables f) && apart tables (first tables f) F) _ w) h h')
prefer_attributed {f = many f} Derives.stop Derives.stop F a w h h' = Compared.alike refl refl refl
prefer_attributed {f = many f} Derives.stop (Derives.turn o o' q') F a w h h' =
    let n = and_left _ (decided tables f (first tables f ++ F)) w in
    absurd
    (apart_mem tables _ (first tables f) F (and_right (not (nullable tables f)) _ n) (only_first f (first tables f ++ F) _ (and_left _ (apart tables (first tables f) F) n) (open_lead f (first tables f ++ F) o (many_lead f F o' h'))) h)
prefer_attributed {f = many f} (Derives.turn d d' q) Derives.stop F a w h h' = Compared.before tt
prefer_attributed {f = many f} (Derives.turn d d' q) (Derives.turn o o' q') F a w h h' =
    marked true (joined (prefer_attributed d o (first tables f ++ F) a (and_right (not (nullable tables f) && apart tables (first tables f) F) _ w) (many_first f F d' h) (many_lead f F o' h')) (λ p r.
    let u = moved (over grammar) (sym p) (sym r) o' in
    retaken u.takes (prefer_attributed d' u.is F a w h h')))
prefer_attributed (Derives.chosen b d) o F a w h h' = absurd (cc)
prefer_attributed (Derives.other b d) o F a w h h' = absurd (cc)
prefer_attributed (Derives.done b) o F a w h h' = absurd (cc)
prefer_attributed (Derives.again b d e q) o F a w h h' = absurd (cc)
