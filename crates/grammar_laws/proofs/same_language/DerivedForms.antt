-- What is to be known of each form that the grammar derives, and of all in a derivation.
use Rattle.std.proofs.Common.{◌≡◌, ℕ, Bool, true, false, List, [], ◌∷◌, refl}
use Rattle.model_grammar.specs.declared.grammar.Rule.{Rule}
use Rattle.model_grammar.specs.declared.grammar.Rule.TheVariants as r
use Rattle.model_grammar.specs.declared.grammar.Act.TheVariants as act
use Rattle.model_grammar.specs.declared.grammar.Terminal.{Terminal}
use Rattle.model_grammar.specs.declared.grammar.Reading.{Reading}
use Rattle.model_grammar.specs.declared.grammar.Tree.{Tree}
use Rattle.model_grammar.specs.GrammarForm.{Form, word, rule, empty, ◌then◌, ◌or◌, maybe, many, when, loop, mem}
use Rattle.model_grammar.specs.Grammar.{grammar}
use Rattle.model_grammar.specs.NameScopes.{Scopes, after, specified}
use Rattle.model_grammar.specs.Derivation.{Derives}
use Rattle.grammar_laws.specs.ParserWalk.{ahead}
use Rattle.grammar_laws.specs.ParserSets.{tables}
use Rattle.grammar_laws.specs.ParserTests.{parsed}
use Rattle.grammar_laws.proofs.tests_lose_nothing.SuffixEnds.{IsKept, IsBegun, the_whole, ends_open}
use Rattle.grammar_laws.proofs.tests_lose_nothing.LosesNothing.{IsDerived}
use Rattle.grammar_laws.proofs.same_language.FormsOutsideLists.{Fit, Set}
use Rattle.grammar_laws.proofs.specifier_lists.ListInPieces.{Run, Flat}
use Rattle.grammar_laws.proofs.specifier_lists.PiecesDerived.{by_grammar, enumerators_in, members_in, operand_in, enumerators_fit, members_fit, operand_fit, itself, set_inside}

-- of a list of type specifiers and qualifiers in another: its pieces
abbrev pub Listed : Scopes → Scopes → List Terminal → List Terminal → Type 0
Listed s new ts rest =
    (R : Run) (o : Reading) → s.entries ≡ R.names → s.brackets ≡ [] → (c : Bool) (q : ℕ) → Flat R c q new.reading.typed (specified o) rest → Flat R c q s.reading.typed (specified o) ts

unfoldable pub RuleLists : Rule → Scopes → Scopes → List Terminal → List Terminal → Type 0
RuleLists r.Squals s new ts rest = Listed s new ts rest
RuleLists _ s new ts rest = Unit {0}

unfoldable pub Lists : Form → Scopes → Scopes → List Terminal → List Terminal → Type 0
Lists (word ks a) s new ts rest = Unit {0}
Lists (rule n) s new ts rest = RuleLists n s new ts rest
Lists empty s new ts rest = Unit {0}
Lists (f then g) s new ts rest = Unit {0}
Lists (f or g) s new ts rest = Unit {0}
Lists (maybe f) s new ts rest = Unit {0}
Lists (many f) s new ts rest = Unit {0}
Lists (when p f g) s new ts rest = Unit {0}
Lists (loop p f) s new ts rest = Unit {0}

-- before what may follow it the parser's table derives it, and whatever follows it begins it
pub record Known (f : Form) (s new : Scopes) (ts rest : List Terminal) : Type 0 where
  pub whole : (F : List ℕ) (b o : Bool) → Fit f F b o → Set b o s → mem (ahead tables parsed new rest) F ≡ true → IsKept f s ts new rest
  pub front : (F : List ℕ) (b o : Bool) → Fit f F b o → Set b o s → IsBegun f s ts rest
  pub list : Lists f s new ts rest

-- of all in a derivation but itself
unfoldable pub Below : {f : Form} {s new : Scopes} {ts rest : List Terminal} {xs : List Tree} → by_grammar f s ts xs new rest → Type 0
Below (Derives.a_word e) = Unit {0}
Below (Derives.a_rule {r = n} {s = s} {new = new} {ts = ts} {rest = rest} d) = Known (grammar n) s new ts rest × Below d
Below Derives.nothing = Unit {0}
Below (Derives.both {f = f} {g = g} {s = s} {mid = mid} {new = new} {ts = ts} {later = later} {rest = rest} d e q) = Known f s mid ts later × Below d × Known g mid new later rest × Below e
Below (Derives.left {f = f} {s = s} {new = new} {ts = ts} {rest = rest} d) = Known f s new ts rest × Below d
Below (Derives.right {g = g} {s = s} {new = new} {ts = ts} {rest = rest} d) = Known g s new ts rest × Below d
Below Derives.skip = Unit {0}
Below (Derives.take {f = f} {s = s} {new = new} {ts = ts} {rest = rest} d) = Known f s new ts rest × Below d
Below Derives.stop = Unit {0}
Below (Derives.turn {f = f} {s = s} {mid = mid} {new = new} {ts = ts} {later = later} {rest = rest} d e q) = Known f s mid ts later × Below d × Known (many f) mid new later rest × Below e
Below (Derives.chosen {f = f} {s = s} {new = new} {ts = ts} {rest = rest} b d) = Known f s new ts rest × Below d
Below (Derives.other {g = g} {s = s} {new = new} {ts = ts} {rest = rest} b d) = Known g s new ts rest × Below d
Below (Derives.done b) = Unit {0}
Below (Derives.again {p = p} {f = f} {s = s} {mid = mid} {new = new} {ts = ts} {later = later} {rest = rest} b d e q) = Known f s mid ts later × Below d × Known (loop p f) mid new later rest × Below e

-- each form is known where all below it is
pub record Steps : Type 0 where
  pub step : {f : Form} {s new : Scopes} {ts rest : List Terminal} {xs : List Tree} (d : by_grammar f s ts xs new rest) → Below d → Known f s new ts rest

module _ (S : Steps) where
  pub every : {f : Form} {s new : Scopes} {ts rest : List Terminal} {xs : List Tree} (d : by_grammar f s ts xs new rest) → Below d
  unfolding Below
  every (Derives.a_word e) = tt
  every (Derives.a_rule d) = (S.step d (every d), every d)
  every Derives.nothing = tt
  every (Derives.both d e q) = (S.step d (every d), every d, S.step e (every e), every e)
  every (Derives.left d) = (S.step d (every d), every d)
  every (Derives.right d) = (S.step d (every d), every d)
  every Derives.skip = tt
  every (Derives.take d) = (S.step d (every d), every d)
  every Derives.stop = tt
  every (Derives.turn d e q) = (S.step d (every d), every d, S.step e (every e), every e)
  every (Derives.chosen b d) = (S.step d (every d), every d)
  every (Derives.other b d) = (S.step d (every d), every d)
  every (Derives.done b) = tt
  every (Derives.again b d e q) = (S.step d (every d), every d, S.step e (every e), every e)

  pub known : {f : Form} {s new : Scopes} {ts rest : List Terminal} {xs : List Tree} → by_grammar f s ts xs new rest → Known f s new ts rest
  known d = S.step d (every d)

-- what stands in brackets
inside : (f : Form) → ends_open f ≡ false → ((j : ℕ) → Fit f (j ∷ []) true false) → {s new : Scopes} {ts rest : List Terminal} → Known f s new ts rest → Set true false s → IsDerived f s ts new rest
inside f n fit {new = new} {rest = rest} x c = the_whole n (x.whole (ahead tables parsed new rest ∷ []) true false (fit (ahead tables parsed new rest)) c (itself (ahead tables parsed new rest)))

pub enumerators_known : (s : Scopes) (u : Terminal) {new : Scopes} {us rest : List Terminal} → s.brackets ≡ []
    → Known enumerators_in (after act.Enclose s u) new us rest → IsDerived enumerators_in (after act.Enclose s u) us new rest
unfolding ends_open
enumerators_known s u b x = inside enumerators_in refl enumerators_fit x (set_inside s u b)

pub members_known : (s : Scopes) (u : Terminal) {new : Scopes} {us rest : List Terminal} → s.brackets ≡ []
    → Known members_in (after act.Enclose s u) new us rest → IsDerived members_in (after act.Enclose s u) us new rest
unfolding ends_open
members_known s u b x = inside members_in refl members_fit x (set_inside s u b)

pub operand_known : (s : Scopes) (u : Terminal) {new : Scopes} {us rest : List Terminal} → s.brackets ≡ []
    → Known operand_in (after act.Enclose s u) new us rest → IsDerived operand_in (after act.Enclose s u) us new rest
unfolding ends_open
operand_known s u b x = inside operand_in refl operand_fit x (set_inside s u b)
