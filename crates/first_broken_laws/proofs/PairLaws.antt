-- Pairs side by side, and the first of them.
use Rattle.std.proofs.Common.{◌≡◌, ◌≤◌, inl, inr, sym, refl, subst, ℕ, Bool, true, false, not, Option, Some, None, Result, Ok, Err, arith}
use Rattle.std.proofs.lemmas.Bool.{both_ways}
use Rattle.cake_base.specs.declared.places.Place.{Place}
use Rattle.cake_base.specs.declared.rules.Fault.{Fault}
use Rattle.model_scopes.specs.DeclarationRules.{constraint_at}
use Rattle.model_checking.specs.State.{unless}
use Rattle.model_checking.specs.Faults.{wants, or_fault}
use Rattle.model_constraints.specs.Pairs.{Pairs, Nothing, At, Beside, First, IsBefore, IsUnbroken}
use Rattle.first_broken_laws.specs.FirstNamed.{Names, Answers, Precedes}

-- ---- what comes behind what

-- every pair comes behind a fault, or at its place with no smaller number
abbrev pub AllBehind : Fault → Pairs → Type 0
AllBehind fault P = (place : Place) (rule : ℕ) → P place rule → IsBefore fault place rule

-- every pair of the first comes so before every pair of the second
abbrev pub Before : Pairs → Pairs → Type 0
Before P Q = (place : Place) (rule : ℕ) → P place rule → AllBehind (constraint_at place rule) Q

-- every pair stands behind a place
abbrev pub StandBehind : Place → Pairs → Type 0
StandBehind at P = (place : Place) (rule : ℕ) → P place rule → Precedes at place

pub all_nothing : (x : Fault) → AllBehind x Nothing
all_nothing x place rule h = absurd h

pub all_beside : (x : Fault) (P Q : Pairs) → AllBehind x P → AllBehind x Q → AllBehind x (Beside P Q)
all_beside x P Q hp hq place rule h = elim h [ inl p ↦ hp place rule p | inr q ↦ hq place rule q ]

pub all_unbroken : (x : Fault) (P : Pairs) → IsUnbroken P → AllBehind x P
all_unbroken x P u place rule h = absurd (u place rule h)

to_same : (x : Fault) (q place : Place) (m rule : ℕ) → place ≡ q → rule ≡ m → IsBefore x q m → IsBefore x place rule
to_same x q place m rule e n h =
    subst (λ (r : ℕ). IsBefore x place r) (sym n) (subst (λ (p : Place). IsBefore x p m) (sym e) h)

pub all_at : (x : Fault) (q : Place) (m : ℕ) (c : Bool) → (c ≡ true → IsBefore x q m) → AllBehind x (At q m c)
all_at x q m c k place rule h = to_same x q place m rule h.1 h.2 (k h.0)

-- at the same place, with a number that isn't smaller
pub all_here : (at : Place) (n m : ℕ) (c : Bool) → n ≤ m → AllBehind (constraint_at at n) (At at m c)
all_here at n m c le = all_at (constraint_at at n) at m c (λ e. inr (refl, le))

pub all_stand : (x : Fault) (P : Pairs) → StandBehind x.place P → AllBehind x P
all_stand x P k place rule h = inl (k place rule h)

pub stand_nothing : (at : Place) → StandBehind at Nothing
stand_nothing at place rule h = absurd h

pub stand_beside : (at : Place) (P Q : Pairs) → StandBehind at P → StandBehind at Q → StandBehind at (Beside P Q)
stand_beside at P Q hp hq place rule h = elim h [ inl p ↦ hp place rule p | inr q ↦ hq place rule q ]

pub stand_unbroken : (at : Place) (P : Pairs) → IsUnbroken P → StandBehind at P
stand_unbroken at P u place rule h = absurd (u place rule h)

pub stand_at : (at q : Place) (m : ℕ) (c : Bool) → (c ≡ true → Precedes at q) → StandBehind at (At q m c)
stand_at at q m c k place rule h = subst (λ (p : Place). Precedes at p) (sym h.1) (k h.0)

-- ---- what isn't broken

pub nothing_unbroken : IsUnbroken Nothing
nothing_unbroken place rule h = h

pub at_unbroken : (at : Place) (n : ℕ) (c : Bool) → c ≡ false → IsUnbroken (At at n c)
at_unbroken at n c e place rule h = both_ways c e h.0

pub beside_unbroken : (P Q : Pairs) → IsUnbroken P → IsUnbroken Q → IsUnbroken (Beside P Q)
beside_unbroken P Q hp hq place rule h = elim h [ inl p ↦ hp place rule p | inr q ↦ hq place rule q ]

-- ---- the first

pub at_first : (at : Place) (n : ℕ) (c : Bool) → c ≡ true → First (At at n c) (constraint_at at n)
at_first at n c e = record {
  is_constraint = refl;
  is_broken = (e, refl, refl);
  is_first = all_here at n n c (omega arith);
}

pub first_left : (P Q : Pairs) (x : Fault) → First P x → AllBehind x Q → First (Beside P Q) x
first_left P Q x h k = record {
  is_constraint = h.is_constraint;
  is_broken = inl h.is_broken;
  is_first = all_beside x P Q h.is_first k;
}

pub first_right : (P Q : Pairs) (x : Fault) → AllBehind x P → First Q x → First (Beside P Q) x
first_right P Q x k h = record {
  is_constraint = h.is_constraint;
  is_broken = inr h.is_broken;
  is_first = all_beside x P Q k h.is_first;
}

pub names_right : (P Q : Pairs) (f : Option Fault) → IsUnbroken P → Names Q f → Names (Beside P Q) f
names_right P Q None u h = beside_unbroken P Q u h
names_right P Q (Some x) u h = first_right P Q x (all_unbroken x P u) h

pub names_left : (P Q : Pairs) (f : Option Fault) → Names P f → IsUnbroken Q → Names (Beside P Q) f
names_left P Q None h u = beside_unbroken P Q h u
names_left P Q (Some x) h u = first_left P Q x h (all_unbroken x Q u)

pub answers_right : {A : Type 0} (P Q : Pairs) (r : Result A Fault) → IsUnbroken P → Answers Q r → Answers (Beside P Q) r
answers_right P Q (Ok x) u h = beside_unbroken P Q u h
answers_right P Q (Err x) u h = first_right P Q x (all_unbroken x P u) h

-- ---- one rule and then others

pub names_at : (at : Place) (n : ℕ) (c w : Bool) → c ≡ not w → Names (At at n c) (wants w at n)
names_at at n c true e = at_unbroken at n c e
names_at at n c false e = at_first at n c e

pub wanted_unless : {A : Type 0} (at : Place) (n : ℕ) (c w : Bool) (Q : Pairs) (r : Result A Fault) → c ≡ not w →
    (w ≡ true → Answers Q r) → (w ≡ false → AllBehind (constraint_at at n) Q) → Answers (Beside (At at n c) Q) (unless (wants w at n) r)
wanted_unless at n c true Q r e k b = answers_right (At at n c) Q r (at_unbroken at n c e) (k refl)
wanted_unless at n c false Q r e k b = first_left (At at n c) Q (constraint_at at n) (at_first at n c e) (b refl)

-- alone
pub wanted_alone : {A : Type 0} (at : Place) (n : ℕ) (c w : Bool) (x : A) → c ≡ not w → Answers (At at n c) (unless (wants w at n) (Ok x))
wanted_alone at n c true x e = at_unbroken at n c e
wanted_alone at n c false x e = at_first at n c e

pub fault_unless : {A : Type 0} (P Q : Pairs) (f : Option Fault) (r : Result A Fault) → Names P f → (f ≡ None → Answers Q r) → Before P Q →
    Answers (Beside P Q) (unless f r)
fault_unless P Q None r h k b = answers_right P Q r h (k refl)
fault_unless P Q (Some x) r h k b = first_left P Q x h (b x.place x.rule.number h.is_broken)

pub fault_alone : {A : Type 0} (P : Pairs) (f : Option Fault) (x : A) → Names P f → Answers P (unless f (Ok x))
fault_alone P None x h = h
fault_alone P (Some fault) x h = h

pub fault_then : (P Q : Pairs) (f g : Option Fault) → Names P f → (f ≡ None → Names Q g) → Before P Q → Names (Beside P Q) (or_fault f g)
fault_then P Q None g h k b = names_right P Q g h (k refl)
fault_then P Q (Some x) g h k b = first_left P Q x h (b x.place x.rule.number h.is_broken)

pub wanted_then : (at : Place) (n : ℕ) (c w : Bool) (Q : Pairs) (g : Option Fault) → c ≡ not w → (w ≡ true → Names Q g) →
    (w ≡ false → AllBehind (constraint_at at n) Q) → Names (Beside (At at n c) Q) (or_fault (wants w at n) g)
wanted_then at n c true Q g e k b = names_right (At at n c) Q g (at_unbroken at n c e) (k refl)
wanted_then at n c false Q g e k b = first_left (At at n c) Q (constraint_at at n) (at_first at n c e) (b refl)

-- ---- one before another

from_same : (at place q : Place) (n rule m : ℕ) → place ≡ at → rule ≡ n → IsBefore (constraint_at at n) q m → IsBefore (constraint_at place rule) q m
from_same at place q n rule m e d h =
    subst (λ (r : ℕ). IsBefore (constraint_at place r) q m) (sym d) (subst (λ (p : Place). IsBefore (constraint_at p n) q m) (sym e) h)

pub before_at : (at : Place) (n : ℕ) (c : Bool) (Q : Pairs) → (c ≡ true → AllBehind (constraint_at at n) Q) → Before (At at n c) Q
before_at at n c Q k place rule h q m hq = from_same at place q n rule m h.1 h.2 (k h.0 q m hq)

pub before_beside : (P O Q : Pairs) → Before P Q → Before O Q → Before (Beside P O) Q
before_beside P O Q hp ho place rule h = elim h as (λ x. AllBehind (constraint_at place rule) Q) [ inl p ↦ hp place rule p | inr o ↦ ho place rule o ]

pub before_unbroken : (P Q : Pairs) → IsUnbroken Q → Before P Q
before_unbroken P Q u place rule h = all_unbroken (constraint_at place rule) Q u

-- ---- the same pairs otherwise said

pub record Same (P Q : Pairs) : Type 0 where
  pub to : (place : Place) (rule : ℕ) → P place rule → Q place rule
  pub from : (place : Place) (rule : ℕ) → Q place rule → P place rule

pub first_same : (P Q : Pairs) (x : Fault) → Same P Q → First P x → First Q x
first_same P Q x s h = record {
  is_constraint = h.is_constraint;
  is_broken = s.to x.place x.rule.number h.is_broken;
  is_first = λ place rule q. h.is_first place rule (s.from place rule q);
}

pub names_same : (P Q : Pairs) (f : Option Fault) → Same P Q → Names P f → Names Q f
names_same P Q None s h = λ place rule q. h place rule (s.from place rule q)
names_same P Q (Some x) s h = first_same P Q x s h

pub answers_same : {A : Type 0} (P Q : Pairs) (r : Result A Fault) → Same P Q → Answers P r → Answers Q r
answers_same P Q (Ok x) s h = λ place rule q. h place rule (s.from place rule q)
answers_same P Q (Err x) s h = first_same P Q x s h
