-- How the parser derives or begins a whole list of specifiers that is known by its pieces.
use Rattle.std.proofs.Common.{arith, ◌≡◌, ℕ, suc, Bool, true, false, List, [], ◌∷◌, refl, sym, ap, subst}
use Rattle.model_grammar.specs.declared.grammar.Rule.TheVariants as r
use Rattle.model_grammar.specs.declared.grammar.Test.TheVariants as test
use Rattle.model_grammar.specs.declared.grammar.Terminal.{Terminal}
use Rattle.model_grammar.specs.declared.grammar.Entry.{Entry}
use Rattle.model_grammar.specs.declared.grammar.Reading.{Reading}
use Rattle.model_grammar.specs.declared.grammar.Frame.{Frame}
use Rattle.model_grammar.specs.GrammarForm.{Form, rule, many, mem}
use Rattle.model_grammar.specs.NameScopes.{Scopes}
use Rattle.model_grammar.specs.Derivation.{Derives, Begins}
use Rattle.grammar_laws.specs.apparatus.DecidedTable.{apart}
use Rattle.grammar_laws.specs.ParserWalk.{ahead}
use Rattle.grammar_laws.specs.ParserTable.{table}
use Rattle.grammar_laws.specs.ParserSets.{tables, firsts}
use Rattle.model_grammar.specs.SyntaxTree.{sees_type}
use Rattle.grammar_laws.specs.ParserTests.{parsed, passes}
use Rattle.grammar_laws.proofs.kinds.KindSets.{clash, apart_mem}
use Rattle.grammar_laws.proofs.tests_lose_nothing.LosesNothing.{IsDerived}
use Rattle.grammar_laws.proofs.specifier_lists.WhatRemains.{Item, Continues, in_then, in_rule, in_again, in_turn, first_of_loop, first_of_many, all, some}
use Rattle.grammar_laws.proofs.specifier_lists.ListInPieces.{element, elements, at, Run, Flat}
use Rattle.grammar_laws.proofs.specifier_lists.OpenLists.{Done, items, At}
use Rattle.grammar_laws.proofs.specifier_lists.EnumerationsParsed.{Within}
use Rattle.grammar_laws.proofs.specifier_lists.PiecesParsed.{decide}

-- a list in its place, whatever tokens are meant
pub record Lists : Type 0 where
  pub names : List Entry
  pub below : List Frame
  pub list : Form
  pub after : List Item
  pub more : (m : Bool) (end : Scopes) (rest : List Terminal) (s : Scopes) (ts : List Terminal) → passes test.TypeAhead s ts ≡ true
      → Continues end rest m (Item.form element ∷ Item.form list ∷ after) s ts → Continues end rest m (Item.form list ∷ after) s ts

abbrev pub run_of : Lists → Bool → Scopes → List Terminal → Run
run_of N m end rest = record { names = N.names; below = N.below; list = N.list; after = N.after; end = end; rest = rest; whole = m; more = N.more m end rest }

abbrev pub squals_of : Scopes → Lists
squals_of s = record { names = s.entries; below = s.frames; list = elements; after = Item.shut r.Squals ∷ []; more = λ m end rest s ts h x. in_again end rest h x }

-- an element is a specifier of a declaration
pub as_spec : {m : Bool} {end : Scopes} {rest : List Terminal} {later : List Item} {s : Scopes} {ts : List Terminal}
    → Continues end rest m (Item.form element ∷ later) s ts → Continues end rest m (Item.form (rule r.Spec) ∷ later) s ts
unfolding table
as_spec (Continues.halt Begins.yet) = Continues.halt Begins.yet
as_spec (Continues.halt (Begins.in_left b)) = Continues.halt (Begins.in_rule (Begins.in_right (Begins.in_left b)))
as_spec (Continues.halt (Begins.in_right b)) = Continues.halt (Begins.in_rule (Begins.in_right (Begins.in_right (Begins.in_left b))))
as_spec (Continues.go (Derives.left d) h) = Continues.go (Derives.a_rule (Derives.right (Derives.left d))) h
as_spec (Continues.go (Derives.right d) h) = Continues.go (Derives.a_rule (Derives.right (Derives.right (Derives.left d)))) h

abbrev pub specs_of : Scopes → Lists
specs_of s = record { names = s.entries; below = s.frames; list = many (rule r.Spec); after = Item.shut r.Specs ∷ []; more = λ m end rest s ts h x. in_turn end rest (as_spec x) }

pub same_scopes : (s : Scopes) → s.brackets ≡ [] → at s.entries s.reading s.frames ≡ s
same_scopes s b = ap (λ z. record s { brackets = z }) (sym b)

none_waits : (w : ℕ) {A : Type 0} → 0 ≡ suc w → A
none_waits w q = absurd (omega (arith, q))

-- from the place of a list where none waits for braces
pub from_pieces : (R : Run) {c : Bool} {o : Reading} {ts : List Terminal} → o.waiting ≡ 0 → Flat R c 0 o.typed o ts → Done R (items R []) (at R.names o R.below) ts
from_pieces R {o = o} i f = decide R f [] o R.below (At.bottom refl i) (Within.fits (omega arith)) (λ e w q. none_waits w q)

squals_going : (m : Bool) (s end : Scopes) (rest ts : List Terminal) {c : Bool} → s.brackets ≡ [] → s.reading.waiting ≡ 0 → sees_type s ts ≡ true
    → Flat (run_of (squals_of s) m end rest) c 0 s.reading.typed s.reading ts → Continues end rest m (Item.form (rule r.Squals) ∷ []) s ts
unfolding table
squals_going m s end rest ts b i t f =
    let x : Continues end rest m (Item.form elements ∷ Item.shut r.Squals ∷ []) s ts =
    subst (λ z. Continues end rest m (Item.form elements ∷ Item.shut r.Squals ∷ []) z ts) (same_scopes s b) (from_pieces (run_of (squals_of s) m end rest) i f) in
    in_rule end rest (in_then end rest (first_of_loop end rest (λ e. clash (sees_type s ts) t e) x))

pub squals_whole : (s end : Scopes) (rest ts : List Terminal) {c : Bool} → s.brackets ≡ [] → s.reading.waiting ≡ 0 → sees_type s ts ≡ true
    → Flat (run_of (squals_of s) true end rest) c 0 s.reading.typed s.reading ts → IsDerived (rule r.Squals) s ts end rest
squals_whole s end rest ts b i t f = all end rest (squals_going true s end rest ts b i t f)

pub squals_begun : (s : Scopes) (rest ts : List Terminal) {c : Bool} → s.brackets ≡ [] → s.reading.waiting ≡ 0 → sees_type s ts ≡ true
    → Flat (run_of (squals_of s) false s rest) c 0 s.reading.typed s.reading ts → Begins parsed (rule r.Squals) s ts rest
squals_begun s rest ts b i t f = some s rest (squals_going false s s rest ts b i t f)

-- specifiers of a declaration
left_over : {m : Bool} (end : Scopes) (rest : List Terminal) (s : Scopes) (ts : List Terminal) → Continues end rest m (Item.shut r.Specs ∷ []) s ts → (m ≡ true) × (s ≡ end) × (ts ≡ rest)
left_over end rest s ts (Continues.ended Continues.stop) = (refl, refl, refl)

specs_going : (m : Bool) (s end : Scopes) (rest ts : List Terminal) {c : Bool} → s.brackets ≡ [] → s.reading.waiting ≡ 0 → (m ≡ true → s ≡ end → ts ≡ rest → ⊥)
    → Flat (run_of (specs_of s) m end rest) c 0 s.reading.typed s.reading ts → Continues end rest m (Item.form (rule r.Specs) ∷ []) s ts
unfolding table
specs_going m s end rest ts b i n f =
    let x : Continues end rest m (Item.form (many (rule r.Spec)) ∷ Item.shut r.Specs ∷ []) s ts =
    subst (λ z. Continues end rest m (Item.form (many (rule r.Spec)) ∷ Item.shut r.Specs ∷ []) z ts) (same_scopes s b) (from_pieces (run_of (specs_of s) m end rest) i f) in
    in_rule end rest (in_then end rest (first_of_many end rest (λ g. let q = left_over end rest s ts g in n q.0 q.1 q.2) x))

pub specs_whole : (s end : Scopes) (rest ts : List Terminal) (F : List ℕ) {c : Bool} → s.brackets ≡ [] → s.reading.waiting ≡ 0
    → mem (ahead tables parsed s ts) (firsts r.Specs) ≡ true → apart tables F (firsts r.Specs) ≡ true → mem (ahead tables parsed end rest) F ≡ true
    → Flat (run_of (specs_of s) true end rest) c 0 s.reading.typed s.reading ts → IsDerived (rule r.Specs) s ts end rest
specs_whole s end rest ts F b i t a h f = all end rest (specs_going true s end rest ts b i (λ e p q. differ p q) f)
  where
    differ : s ≡ end → ts ≡ rest → ⊥
    differ p q =
        apart_mem tables (ahead tables parsed s ts) F (firsts r.Specs) a
        (subst (λ z. mem (ahead tables parsed z ts) F ≡ true) (sym p) (subst (λ z. mem (ahead tables parsed end z) F ≡ true) (sym q) h)) t

pub specs_begun : (s : Scopes) (rest ts : List Terminal) {c : Bool} → s.brackets ≡ [] → s.reading.waiting ≡ 0
    → Flat (run_of (specs_of s) false s rest) c 0 s.reading.typed s.reading ts → Begins parsed (rule r.Specs) s ts rest
specs_begun s rest ts b i f = some s rest (specs_going false s s rest ts b i (λ e p q. cc) f)
