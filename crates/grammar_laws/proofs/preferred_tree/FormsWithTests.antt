-- The forms of the parser's table outside lists of specifiers, with what may follow them and what their tests tell.
use Rattle.std.proofs.Common.{◌≡◌, ℕ, Bool, true, false, not, ◌&&◌, List, ◌++◌, refl, sym, subst}
use Rattle.model_grammar.specs.declared.grammar.Rule.{Rule}
use Rattle.model_grammar.specs.declared.grammar.Test.{Test}
use Rattle.model_grammar.specs.GrammarForm.{Form, empty, ◌then◌, ◌or◌, maybe, many, when, loop}
use Rattle.grammar_laws.specs.apparatus.Untested.{either}
use Rattle.grammar_laws.specs.FirstTokens.{first, nullable}
use Rattle.grammar_laws.specs.apparatus.DecidedTable.{apart, leads, decided}
use Rattle.grammar_laws.specs.ParserTable.{table}
use Rattle.grammar_laws.specs.ParserSets.{tables, follows}
use Rattle.grammar_laws.specs.ParserTests.{parsed}
use Rattle.grammar_laws.proofs.kinds.KindSets.{and_left, and_right, clash}
use Rattle.grammar_laws.proofs.walks.DecidedDerivations.{within_rule}
use Rattle.grammar_laws.proofs.walks.ParserDecided.{quiet, checked}
use Rattle.grammar_laws.proofs.derivations.ClearBrackets.{clear, is_balanced}
use Rattle.grammar_laws.proofs.derivations.KeptScopes.{is_open}
use Rattle.grammar_laws.proofs.derivations.NoneAwaitsBraces.{idles}
use Rattle.grammar_laws.proofs.derivations.FollowsOfForms.{flows}
use Rattle.grammar_laws.proofs.tests_lose_nothing.SuffixEnds.{ends_open, suffixed}
use Rattle.grammar_laws.proofs.same_language.FormsOutsideLists.{in_list, bounded, Fit, of_rule as fit_rule, to_first as fit_first, to_second as fit_second, to_left as fit_left, to_right as fit_right, to_maybe as fit_maybe, to_many as fit_many, to_chosen as fit_chosen, to_other as fit_other, to_loop as fit_loop}
use Rattle.grammar_laws.proofs.preferred_tree.FormsWithoutTests.{stays, opens, opens_when, opens_loop, open_form, IsEither, is_either, same_first, same_leads}
use Rattle.grammar_laws.proofs.preferred_tree.FailedTests.{gives_parameter, IsTaken, plain, IsTested, tested}

-- the parts of a form with its tests
pub tested_first : {f g : Form} {b c : Bool} → IsTested (f then g) b c → IsTested f b c
unfolding plain
tested_first {g = g} (IsTested.plainly q) = IsTested.plainly (and_left _ (plain g) q)
tested_first (IsTested.in_then t u) = t

pub tested_second : {f g : Form} {b c : Bool} → IsTested (f then g) b c → IsTested g (clear (opens f) b) (gives_parameter f)
unfolding plain
tested_second {f = f} (IsTested.plainly q) = IsTested.plainly (and_right (plain f) _ q)
tested_second (IsTested.in_then t u) = u

pub or_left : {f g : Form} {b c : Bool} → IsTested (f or g) b c → IsTested f b c
unfolding plain
or_left {g = g} (IsTested.plainly q) = IsTested.plainly (and_left _ (plain g) q)
or_left (IsTested.in_or t u) = t

pub or_right : {f g : Form} {b c : Bool} → IsTested (f or g) b c → IsTested g b c
unfolding plain
or_right {f = f} (IsTested.plainly q) = IsTested.plainly (and_right (plain f) _ q)
or_right (IsTested.in_or t u) = u

pub of_maybe : {f : Form} {b c : Bool} → IsTested (maybe f) b c → IsTested f b c
unfolding plain
of_maybe (IsTested.plainly q) = IsTested.plainly q
of_maybe (IsTested.in_maybe t) = t

pub of_many : {f : Form} {b c : Bool} → IsTested (many f) b c → IsTested f b false
unfolding plain
of_many (IsTested.plainly q) = IsTested.plainly q
of_many (IsTested.in_many t) = t

pub many_again : {f : Form} {b c : Bool} → IsTested (many f) b c → IsTested (many f) b false
many_again (IsTested.plainly q) = IsTested.plainly q
many_again (IsTested.in_many t) = IsTested.in_many t

pub when_first : {p : Test} {f g : Form} {b c : Bool} → IsTested (when p f g) b c → IsTested f b c
unfolding plain
when_first {p = p} {g = g} (IsTested.plainly q) = IsTested.plainly (and_left _ (plain g) (and_right (stays p) _ q))
when_first (IsTested.kept_when e t u) = t
when_first (IsTested.open_when n e t u) = t

pub when_second : {p : Test} {f g : Form} {b c : Bool} → IsTested (when p f g) b c → IsTested g b c
unfolding plain
when_second {p = p} {f = f} (IsTested.plainly q) = IsTested.plainly (and_right (plain f) _ (and_right (stays p) _ q))
when_second (IsTested.kept_when e t u) = u
when_second (IsTested.open_when n e t u) = u

pub when_taken : {p : Test} {f g : Form} {b c : Bool} → IsTested (when p f g) b c → stays p ≡ false → IsTaken p (opens f) b c
unfolding plain
when_taken {p = p} {f = f} {g = g} (IsTested.plainly q) h = absurd (clash (stays p) (and_left (stays p) (plain f && plain g) q) h)
when_taken {p = p} (IsTested.kept_when e t u) h = absurd (clash (stays p) e h)
when_taken (IsTested.open_when n e t u) h = e

pub when_closed : {p : Test} {f g : Form} {b c : Bool} → IsTested (when p f g) b c → stays p ≡ false → ends_open (opens f) ≡ false
unfolding plain
when_closed {p = p} {f = f} {g = g} (IsTested.plainly q) h = absurd (clash (stays p) (and_left (stays p) (plain f && plain g) q) h)
when_closed {p = p} (IsTested.kept_when e t u) h = absurd (clash (stays p) e h)
when_closed (IsTested.open_when n e t u) h = n

pub of_loop : {p : Test} {f : Form} {b c : Bool} → IsTested (loop p f) b c → IsTested f b false
unfolding plain
of_loop {p = p} (IsTested.plainly q) = IsTested.plainly (and_right (stays p) _ q)
of_loop (IsTested.open_loop n e t) = t

pub loop_again : {p : Test} {f : Form} {b c : Bool} → IsTested (loop p f) b c → IsTested (loop p f) b false
loop_again (IsTested.plainly q) = IsTested.plainly q
loop_again (IsTested.open_loop n e t) = IsTested.open_loop n e t

pub loop_taken : {p : Test} {f : Form} {b c : Bool} → IsTested (loop p f) b c → stays p ≡ false → IsTaken p (opens f) b false
unfolding plain
loop_taken {p = p} {f = f} (IsTested.plainly q) h = absurd (clash (stays p) (and_left (stays p) (plain f) q) h)
loop_taken (IsTested.open_loop n e t) h = e

pub loop_closed : {p : Test} {f : Form} {b c : Bool} → IsTested (loop p f) b c → stays p ≡ false → ends_open (opens f) ≡ false
unfolding plain
loop_closed {p = p} {f = f} (IsTested.plainly q) h = absurd (clash (stays p) (and_left (stays p) (plain f) q) h)
loop_closed (IsTested.open_loop n e t) h = n

-- the alternatives of a choice
fit_empty : (F : List ℕ) (b o : Bool) → Fit empty F b o
unfolding flows suffixed bounded idles
fit_empty F b o = record { flow = refl; suffix = refl; bound = refl; idle = refl }

either_first : (f g : Form) {F : List ℕ} {b o : Bool} → IsEither f g → Fit (either f g) F b o → Fit f F b o
either_first f g {F = F} {b = b} {o = o} (IsEither.part q e) w = fit_maybe (subst (λ z. Fit z F b o) e w)
either_first f g {F = F} {b = b} {o = o} (IsEither.choice e) w = fit_left (subst (λ z. Fit z F b o) e w)

either_second : (f g : Form) {F : List ℕ} {b o : Bool} → IsEither f g → Fit (either f g) F b o → Fit g F b o
either_second f g {F = F} {b = b} {o = o} (IsEither.part q e) w = subst (λ z. Fit z F b o) (sym q) (fit_empty F b o)
either_second f g {F = F} {b = b} {o = o} (IsEither.choice e) w = fit_right (subst (λ z. Fit z F b o) e w)

when_fit : (k : Bool) (p : Test) (f g : Form) {F : List ℕ} {b o : Bool} → Fit (opens_when k p f g) F b o → Fit f F b o
unfolding opens_when
when_fit true p f g w = fit_chosen w
when_fit false p f g w = either_first f g (is_either f g) w

other_fit : (k : Bool) (p : Test) (f g : Form) {F : List ℕ} {b o : Bool} → Fit (opens_when k p f g) F b o → Fit g F b o
unfolding opens_when
other_fit true p f g w = fit_other w
other_fit false p f g w = either_second f g (is_either f g) w

loop_fit : (k : Bool) (p : Test) (f : Form) {F : List ℕ} {b o : Bool} → Fit (opens_loop k p f) F b o → Fit f (first tables f ++ F) b o
unfolding opens_loop
loop_fit true p f w = fit_loop w
loop_fit false p f w = fit_many w

-- a form of the parser's table where F may follow it
pub record IsReady (f : Form) (F : List ℕ) (b c o : Bool) : Type 0 where
  pub sets : decided tables f F ≡ true
  pub fit : Fit (opens f) F b o
  pub tests : IsTested f b c

pub to_first : {f g : Form} {F : List ℕ} {b c o : Bool} → IsReady (f then g) F b c o → IsReady f (leads tables g F) b c o
unfolding decided opens
to_first {f = f} {g = g} {F = F} {b = b} {o = o} w = record {
  sets = and_left _ (decided tables g F) w.sets;
  fit = subst (λ z. Fit (opens f) z b o) (same_leads g F) (fit_first w.fit);
  tests = tested_first w.tests;
}

pub to_second : {f g : Form} {F : List ℕ} {b c o : Bool} → IsReady (f then g) F b c o → IsReady g F (clear (opens f) b) (gives_parameter f) (is_open (opens f) o)
unfolding decided opens
to_second {f = f} {g = g} {F = F} w = record {
  sets = and_right (decided tables f (leads tables g F)) _ w.sets;
  fit = fit_second w.fit;
  tests = tested_second w.tests;
}

pub to_left : {f g : Form} {F : List ℕ} {b c o : Bool} → IsReady (f or g) F b c o → IsReady f F b c o
unfolding decided opens
to_left {f = f} {g = g} {F = F} w = record { sets = and_right _ _ (and_left _ (decided tables g F) w.sets); fit = fit_left w.fit; tests = or_left w.tests }

pub to_right : {f g : Form} {F : List ℕ} {b c o : Bool} → IsReady (f or g) F b c o → IsReady g F b c o
unfolding decided opens
to_right {f = f} {g = g} {F = F} w = record { sets = and_right (apart tables (leads tables f F) (leads tables g F) && decided tables f F) _ w.sets; fit = fit_right w.fit; tests = or_right w.tests }

pub to_maybe : {f : Form} {F : List ℕ} {b c o : Bool} → IsReady (maybe f) F b c o → IsReady f F b c o
unfolding decided opens
to_maybe {f = f} {F = F} w = record { sets = and_right (not (nullable tables f) && apart tables (first tables f) F) _ w.sets; fit = fit_maybe w.fit; tests = of_maybe w.tests }

pub to_many : {f : Form} {F : List ℕ} {b c o : Bool} → IsReady (many f) F b c o → IsReady f (first tables f ++ F) b false o
unfolding decided opens
to_many {f = f} {F = F} {b = b} {o = o} w = record {
  sets = and_right (not (nullable tables f) && apart tables (first tables f) F) _ w.sets;
  fit = subst (λ z. Fit (opens f) (z ++ F) b o) (same_first f) (fit_many w.fit);
  tests = of_many w.tests;
}

pub to_more : {f : Form} {F : List ℕ} {b c o : Bool} → IsReady (many f) F b c o → IsReady (many f) F b false o
to_more w = record { sets = w.sets; fit = w.fit; tests = many_again w.tests }

pub to_chosen : {p : Test} {f g : Form} {F : List ℕ} {b c o : Bool} → IsReady (when p f g) F b c o → IsReady f F b c o
unfolding decided opens
to_chosen {p = p} {f = f} {g = g} {F = F} w = record { sets = and_left _ (decided tables g F) w.sets; fit = when_fit (stays p) p (opens f) (opens g) w.fit; tests = when_first w.tests }

pub to_other : {p : Test} {f g : Form} {F : List ℕ} {b c o : Bool} → IsReady (when p f g) F b c o → IsReady g F b c o
unfolding decided opens
to_other {p = p} {f = f} {g = g} {F = F} w = record { sets = and_right (decided tables f F) _ w.sets; fit = other_fit (stays p) p (opens f) (opens g) w.fit; tests = when_second w.tests }

pub to_loop : {p : Test} {f : Form} {F : List ℕ} {b c o : Bool} → IsReady (loop p f) F b c o → IsReady f (first tables f ++ F) b false o
unfolding decided opens
to_loop {p = p} {f = f} {F = F} {b = b} {o = o} w = record {
  sets = and_right (not (nullable tables f)) _ w.sets;
  fit = subst (λ z. Fit (opens f) (z ++ F) b o) (same_first f) (loop_fit (stays p) p (opens f) w.fit);
  tests = of_loop w.tests;
}

pub to_further : {p : Test} {f : Form} {F : List ℕ} {b c o : Bool} → IsReady (loop p f) F b c o → IsReady (loop p f) F b false o
to_further w = record { sets = w.sets; fit = w.fit; tests = loop_again w.tests }

pub of_rule : (n : Rule) → in_list n ≡ false → IsReady (table n) (follows n) (not (is_balanced n)) false false
of_rule n h = record {
  sets = within_rule tables parsed quiet checked n;
  fit = subst (λ z. Fit z (follows n) (not (is_balanced n)) false) (sym (open_form n)) (fit_rule n h);
  tests = tested n h;
}
