-- What is to be known of each form that the grammar begins, and of all that it begins inside.
use Rattle.std.proofs.Common.{◌≡◌, ℕ, Bool, true, false, List, [], ◌∷◌, refl}
use Rattle.model_grammar.specs.declared.grammar.Rule.{Rule}
use Rattle.model_grammar.specs.declared.grammar.Rule.TheVariants as r
use Rattle.model_grammar.specs.declared.grammar.Act.TheVariants as act
use Rattle.model_grammar.specs.declared.grammar.Terminal.{Terminal}
use Rattle.model_grammar.specs.declared.grammar.Reading.{Reading}
use Rattle.model_grammar.specs.GrammarForm.{Form, word, rule, empty, ◌then◌, ◌or◌, maybe, many, when, loop}
use Rattle.model_grammar.specs.Grammar.{grammar}
use Rattle.model_grammar.specs.NameScopes.{Scopes, after, specified}
use Rattle.model_grammar.specs.Derivation.{Begins}
use Rattle.grammar_laws.specs.ParserTests.{parsed}
use Rattle.grammar_laws.proofs.derivations.ClearBrackets.{over}
use Rattle.grammar_laws.proofs.tests_lose_nothing.SuffixEnds.{IsBegun, the_held, ends_open}
use Rattle.grammar_laws.proofs.same_language.FormsOutsideLists.{Fit, Set}
use Rattle.grammar_laws.proofs.specifier_lists.ListInPieces.{Flat}
use Rattle.grammar_laws.proofs.specifier_lists.ListsParsed.{Lists, run_of}
use Rattle.grammar_laws.proofs.specifier_lists.PiecesDerived.{enumerators_in, members_in, operand_in, enumerators_fit, members_fit, operand_fit, set_inside}

abbrev pub begun_by_grammar : Form → Scopes → List Terminal → List Terminal → Type 0
begun_by_grammar f s ts rest = Begins (over grammar) f s ts rest

-- of a list of type specifiers and qualifiers in another: its pieces
abbrev pub BegunList : Scopes → List Terminal → List Terminal → Type 0
BegunList s ts rest = (N : Lists) (e : Scopes) (o : Reading) → s.entries ≡ N.names → s.brackets ≡ [] → (q : ℕ) → Flat (run_of N false e rest) false q s.reading.typed (specified o) ts

unfoldable pub BegunRule : Rule → Scopes → List Terminal → List Terminal → Type 0
BegunRule r.Squals s ts rest = BegunList s ts rest
BegunRule _ s ts rest = Unit {0}

unfoldable pub BegunLists : Form → Scopes → List Terminal → List Terminal → Type 0
BegunLists (word ks a) s ts rest = Unit {0}
BegunLists (rule n) s ts rest = BegunRule n s ts rest
BegunLists empty s ts rest = Unit {0}
BegunLists (f then g) s ts rest = Unit {0}
BegunLists (f or g) s ts rest = Unit {0}
BegunLists (maybe f) s ts rest = Unit {0}
BegunLists (many f) s ts rest = Unit {0}
BegunLists (when p f g) s ts rest = Unit {0}
BegunLists (loop p f) s ts rest = Unit {0}

pub record Begun (f : Form) (s : Scopes) (ts rest : List Terminal) : Type 0 where
  pub begun : (F : List ℕ) (b o : Bool) → Fit f F b o → Set b o s → IsBegun f s ts rest
  pub list : BegunLists f s ts rest

-- of all that is begun inside
unfoldable pub Inside : {f : Form} {s : Scopes} {ts rest : List Terminal} → begun_by_grammar f s ts rest → Type 0
Inside Begins.yet = Unit {0}
Inside (Begins.in_word e) = Unit {0}
Inside (Begins.in_rule {r = n} {s = s} {ts = ts} {rest = rest} d) = Begun (grammar n) s ts rest × Inside d
Inside (Begins.in_first {f = f} {s = s} {ts = ts} {rest = rest} d) = Begun f s ts rest × Inside d
Inside (Begins.in_then {g = g} {mid = mid} {later = later} {rest = rest} d e) = Begun g mid later rest × Inside e
Inside (Begins.in_left {f = f} {s = s} {ts = ts} {rest = rest} d) = Begun f s ts rest × Inside d
Inside (Begins.in_right {g = g} {s = s} {ts = ts} {rest = rest} d) = Begun g s ts rest × Inside d
Inside (Begins.in_maybe {f = f} {s = s} {ts = ts} {rest = rest} d) = Begun f s ts rest × Inside d
Inside (Begins.in_turn {f = f} {s = s} {ts = ts} {rest = rest} d) = Begun f s ts rest × Inside d
Inside (Begins.in_later {f = f} {mid = mid} {later = later} {rest = rest} d e) = Begun (many f) mid later rest × Inside e
Inside (Begins.in_chosen {f = f} {s = s} {ts = ts} {rest = rest} b d) = Begun f s ts rest × Inside d
Inside (Begins.in_other {g = g} {s = s} {ts = ts} {rest = rest} b d) = Begun g s ts rest × Inside d
Inside (Begins.in_again {f = f} {s = s} {ts = ts} {rest = rest} b d) = Begun f s ts rest × Inside d
Inside (Begins.in_further {p = p} {f = f} {mid = mid} {later = later} {rest = rest} b d e) = Begun (loop p f) mid later rest × Inside e

pub record Turns : Type 0 where
  pub turn : {f : Form} {s : Scopes} {ts rest : List Terminal} (d : begun_by_grammar f s ts rest) → Inside d → Begun f s ts rest

module _ (S : Turns) where
  every : {f : Form} {s : Scopes} {ts rest : List Terminal} (d : begun_by_grammar f s ts rest) → Inside d
  unfolding Inside
  every Begins.yet = tt
  every (Begins.in_word e) = tt
  every (Begins.in_rule d) = (S.turn d (every d), every d)
  every (Begins.in_first d) = (S.turn d (every d), every d)
  every (Begins.in_then d e) = (S.turn e (every e), every e)
  every (Begins.in_left d) = (S.turn d (every d), every d)
  every (Begins.in_right d) = (S.turn d (every d), every d)
  every (Begins.in_maybe d) = (S.turn d (every d), every d)
  every (Begins.in_turn d) = (S.turn d (every d), every d)
  every (Begins.in_later d e) = (S.turn e (every e), every e)
  every (Begins.in_chosen b d) = (S.turn d (every d), every d)
  every (Begins.in_other b d) = (S.turn d (every d), every d)
  every (Begins.in_again b d) = (S.turn d (every d), every d)
  every (Begins.in_further b d e) = (S.turn e (every e), every e)

  pub begins : {f : Form} {s : Scopes} {ts rest : List Terminal} → begun_by_grammar f s ts rest → Begun f s ts rest
  begins d = S.turn d (every d)

-- what stands in brackets
inside : (f : Form) → ends_open f ≡ false → ((j : ℕ) → Fit f (j ∷ []) true false) → {s : Scopes} {ts rest : List Terminal} → Begun f s ts rest → Set true false s → Begins parsed f s ts rest
inside f n fit x c = the_held n (x.begun (0 ∷ []) true false (fit 0) c)

pub enumerators_begun : (s : Scopes) (u : Terminal) {us rest : List Terminal} → s.brackets ≡ [] → Begun enumerators_in (after act.Enclose s u) us rest
    → Begins parsed enumerators_in (after act.Enclose s u) us rest
unfolding ends_open
enumerators_begun s u b x = inside enumerators_in refl enumerators_fit x (set_inside s u b)

pub members_begun : (s : Scopes) (u : Terminal) {us rest : List Terminal} → s.brackets ≡ [] → Begun members_in (after act.Enclose s u) us rest
    → Begins parsed members_in (after act.Enclose s u) us rest
unfolding ends_open
members_begun s u b x = inside members_in refl members_fit x (set_inside s u b)

pub operand_begun : (s : Scopes) (u : Terminal) {us rest : List Terminal} → s.brackets ≡ [] → Begun operand_in (after act.Enclose s u) us rest
    → Begins parsed operand_in (after act.Enclose s u) us rest
unfolding ends_open
operand_begun s u b x = inside operand_in refl operand_fit x (set_inside s u b)
