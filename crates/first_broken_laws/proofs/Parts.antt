-- Parts one behind another: what is broken first in all of them.
use Rattle.std.proofs.Common.{◌≡◌, ◌∙◌, ◌⊎◌, ◌<◌, ◌≤◌, inl, inr, sym, refl, subst, ℕ, nat_eq, nat_lt, Bool, true, false, ◌&&◌, ◌||◌, if◌then◌else◌, Option, Some, None, Result, Ok, Err, arith}
use Rattle.std.proofs.lemmas.Bool.{both_ways, ltb-true, ltb-false, eqb-true, eqb-false}
use Rattle.std.specs.Result.{IfOk}
use Rattle.cake_base.specs.declared.places.Place.{Place}
use Rattle.cake_base.specs.declared.rules.Fault.{Fault}
use Rattle.model_checking.specs.FaultOrder.{comes_first, first_fault}
use Rattle.model_checking.specs.FaultsBeside.{with_fault}
use Rattle.model_checking.specs.State.{State, Both, Answer, then_do, unless, with_state}
use Rattle.model_constraints.specs.Pairs.{Pairs, Beside, Behind, Needs, Unless, First, IsBefore}
use Rattle.first_broken_laws.specs.FirstNamed.{Names, Answers}
use Rattle.first_broken_laws.proofs.PairLaws.{AllBehind, all_unbroken, first_left, first_right, answers_right, answers_same}

-- ---- one part and then another

pub needs_first : {A B : Type 0} (S : Both A → Type 0) (r : Answer A) (P : Pairs) (Q : A → State → Pairs) (go : A → State → Answer B) → IfOk r S → Answers P r →
    ((x : Both A) → S x → Answers (Q x.made x.state) (go x.made x.state)) → Answers (Needs r P Q) (then_do r go)
needs_first S (Ok x) P Q go h k l =
    answers_same (Beside P (Q x.made x.state)) (Needs (Ok x) P Q) (go x.made x.state)
    (record { to = λ place rule b. b; from = λ place rule b. b }) (answers_right P (Q x.made x.state) (go x.made x.state) k (l x h))
needs_first S (Err fault) P Q go h k l = first_left P (Behind (Err fault) Q) fault k (λ place rule b. absurd b)

-- ---- a rule of plain values, and a fault that is looked for first

pub rule_first : {A : Type 0} (P : Pairs) (r : Result A Fault) (s : State) → Answers P r → Answers P (with_state r s)
rule_first P (Ok x) s h = h
rule_first P (Err fault) s h = h

pub unless_first : {A : Type 0} (P Q : Pairs) (f : Option Fault) (r : Result A Fault) → Names P f → (f ≡ None → Answers Q r) → Answers (Beside P (Unless f Q)) (unless f r)
unless_first P Q None r h k =
    answers_same (Beside P Q) (Beside P (Unless None Q)) r (record { to = λ place rule b. b; from = λ place rule b. b }) (answers_right P Q r h (k refl))
unless_first P Q (Some fault) r h k = first_left P (Unless (Some fault) Q) fault h (λ place rule b. absurd b)

-- ---- of two faults the first

-- where tokens have one order they are one
abbrev pub OneToken : Pairs → Pairs → Type 0
OneToken P Q = (p : Place) (n : ℕ) (q : Place) (m : ℕ) → P p n → Q q m → p.order ≡ q.order → p ≡ q

-- a fault before another stands before all that the other is before
before_all : (x y : Fault) (place : Place) (rule : ℕ) → IsBefore x y.place y.rule.number → IsBefore y place rule → IsBefore x place rule
before_all x y place rule (inl a) (inl b) = inl (omega (arith, a, b))
before_all x y place rule (inl a) (inr b) = inl (subst (λ (p : Place). x.place.order < p.order) b.0 a)
before_all x y place rule (inr a) (inl b) = inl (subst (λ (p : Place). p.order < place.order) (sym a.0) b)
before_all x y place rule (inr a) (inr b) = inr (a.0 ∙ b.0, omega (arith, a.1, b.1))

pub all_before : (x y : Fault) (P : Pairs) → IsBefore x y.place y.rule.number → AllBehind y P → AllBehind x P
all_before x y P h k place rule p = before_all x y place rule h (k place rule p)

comes_by : (a b n m : ℕ) (x y z : Bool) → nat_lt a b ≡ x → nat_eq a b ≡ y → nat_lt n m ≡ z → (x || y && z) ≡ true → (a < b) ⊎ ((a ≡ b) × (n ≤ m))
comes_by a b n m true y z e f g h = inl (ltb-true a b e)
comes_by a b n m false true true e f g h = inr (eqb-true a b f, omega (arith, ltb-true n m g))
comes_by a b n m false true false e f g h = absurd (both_ways false refl h)
comes_by a b n m false false z e f g h = absurd (both_ways false refl h)

apart : (a b : ℕ) → b ≤ a → (a ≡ b → ⊥) → b < a
apart a b h n = omega (arith, h, n)

stays_by : (a b n m : ℕ) (x y z : Bool) → nat_lt a b ≡ x → nat_eq a b ≡ y → nat_lt n m ≡ z → (x || y && z) ≡ false → (b < a) ⊎ ((a ≡ b) × (m ≤ n))
stays_by a b n m true y z e f g h = absurd (both_ways true h refl)
stays_by a b n m false true true e f g h = absurd (both_ways true h refl)
stays_by a b n m false true false e f g h = inr (eqb-true a b f, ltb-false n m g)
stays_by a b n m false false z e f g h = inl (apart a b (ltb-false a b e) (eqb-false a b f))

comes_before : (f g : Fault) → comes_first f g ≡ true → (f.place.order ≡ g.place.order → f.place ≡ g.place) → IsBefore f g.place g.rule.number
comes_before f g h one =
    elim (comes_by f.place.order g.place.order f.rule.number g.rule.number (nat_lt f.place.order g.place.order) (nat_eq f.place.order g.place.order)
    (nat_lt f.rule.number g.rule.number) refl refl refl h) [ inl a ↦ inl a | inr b ↦ inr (one b.0, b.1) ]

stays_before : (f g : Fault) → comes_first f g ≡ false → (g.place.order ≡ f.place.order → g.place ≡ f.place) → IsBefore g f.place f.rule.number
stays_before f g h one =
    elim (stays_by f.place.order g.place.order f.rule.number g.rule.number (nat_lt f.place.order g.place.order) (nat_eq f.place.order g.place.order)
    (nat_lt f.rule.number g.rule.number) refl refl refl h) [ inl a ↦ inl a | inr b ↦ inr (one (sym b.0), b.1) ]

two_by : (P Q : Pairs) (f g : Fault) (b : Bool) → comes_first g f ≡ b → First P f → First Q g → OneToken P Q → First (Beside P Q) (if b then g else f)
two_by P Q f g true e h k one =
    first_right P Q g (all_before g f P (comes_before g f e (λ o. sym (one f.place f.rule.number g.place g.rule.number h.is_broken k.is_broken (sym o)))) h.is_first) k
two_by P Q f g false e h k one =
    first_left P Q f h (all_before f g Q (stays_before g f e (λ o. one f.place f.rule.number g.place g.rule.number h.is_broken k.is_broken o)) k.is_first)

pub two_first : (P Q : Pairs) (f g : Fault) → First P f → First Q g → OneToken P Q → First (Beside P Q) (first_fault f g)
two_first P Q f g h k one = two_by P Q f g (comes_first g f) refl h k one

-- ---- a fault that is there whatever the part is

pub fault_beside : {A : Type 0} (P Q : Pairs) (f : Option Fault) (r : Result A Fault) → Names P f → Answers Q r → OneToken P Q → Answers (Beside P Q) (with_fault f r)
fault_beside P Q None r h k one = answers_right P Q r h k
fault_beside P Q (Some f) (Ok x) h k one = first_left P Q f h (all_unbroken f Q k)
fault_beside P Q (Some f) (Err g) h k one = two_first P Q f g h k one
