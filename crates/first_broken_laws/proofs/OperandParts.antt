-- Operands one behind another: what is named first of them and of what needs them, where each names what it breaks first.
use Rattle.std.proofs.Common.{◌≡◌, ap, inl, inr, refl, subst, ℕ, Bool, true, false, ◌&&◌, not, List, Option, Result, Ok, Err}
use Rattle.std.proofs.lemmas.Bool.{both_ways}
use Rattle.std.specs.Result.{IfOk}
use Rattle.cake_base.specs.declared.places.Place.{Place}
use Rattle.cake_base.specs.declared.rules.Fault.{Fault}
use Rattle.model_types.specs.Structures.{Structure}
use Rattle.model_types.specs.Layout.{is_complete}
use Rattle.model_grammar.specs.SyntaxForms as syntax
use Rattle.c_tree.specs.SyntaxPlaces.{expr_first}
use Rattle.model_core.specs.Core as unit
use Rattle.model_core.specs.CoreTypes.{type_of, object_type, is_void}
use Rattle.model_checking.specs.Meanings.{Meaning, Operand}
use Rattle.model_checking.specs.MadeCore.{operand}
use Rattle.model_checking.specs.Reading.{as_operand}
use Rattle.model_checking.specs.State.{State, Both, Answer, gives, then_do, beside, with_state}
use Rattle.model_constraints.specs.Pairs.{Pairs, Beside, Needs}
use Rattle.model_constraints.specs.BrokenValues.{broken_use, broken_reading}
use Rattle.typed_walk_laws.specs.SoundScopes.{are_sound}
use Rattle.typed_walk_laws.specs.Behind.{TypesKept, Behind, GivesSound}
use Rattle.typed_walk_laws.proofs.Walks.{TypedMeaning}
use Rattle.first_broken_laws.specs.FirstNamed.{Names, Answers}
use Rattle.first_broken_laws.proofs.PairLaws.{StandBehind, Same, answers_same}
use Rattle.first_broken_laws.proofs.Parts.{needs_first, rule_first, fault_beside}
use Rattle.first_broken_laws.proofs.Standing.{StandAt, StandFrom, from_beside, from_at, from_operand, one_token}

-- every pair of the first is one of the second
abbrev pub Within : Pairs → Pairs → Type 0
Within P Q = (place : Place) (rule : ℕ) → P place rule → Q place rule

-- ---- what is broken behind another part was broken before it

less_alone : (v a b : Bool) → (a ≡ true → b ≡ true) → (not v && not b) ≡ true → (not v && not a) ≡ true
less_alone true a b k h = absurd (both_ways false refl h)
less_alone false true b k h = absurd (both_ways (not b) (ap not (k refl)) h)
less_alone false false b k h = refl

less_read : (v a b : Bool) → (a ≡ true → b ≡ true) → (not b && v) ≡ true → (not a && v) ≡ true
less_read v true true k h = h
less_read v true false k h = absurd (both_ways false refl (k refl))
less_read v false true k h = absurd (both_ways false refl h)
less_read v false false k h = h

pub use_kept : (a b : List Structure) (o : Operand) → TypesKept a b → Within (broken_use b o) (broken_use a o)
use_kept a b o k place rule h = elim h [
  | inl one ↦ inl one
  | inr two ↦ inr (less_alone (is_void (type_of o.value)) (is_complete a (type_of o.value)) (is_complete b (type_of o.value)) (k.complete (type_of o.value)) two.0, two.1, two.2)
]

read_kept : (a b : List Structure) (first : Place) (e : unit.Expr) → TypesKept a b →
    Within (broken_reading b (record { value = e; first = first })) (broken_reading a (record { value = e; first = first }))
read_kept a b first (unit.Load object mark) k place rule h = elim h [
  | inl one ↦ inl (less_read _ (is_complete a (object_type object)) (is_complete b (object_type object)) (k.complete (object_type object)) one.0, one.1, one.2)
  | inr two ↦ inr (less_read _ (is_complete a (object_type object)) (is_complete b (object_type object)) (k.complete (object_type object)) two.0, two.1, two.2)
]
read_kept a b first e k place rule h = h

pub reading_kept : (a b : List Structure) (o : Operand) → TypesKept a b → Within (broken_reading b o) (broken_reading a o)
reading_kept a b o k = read_kept a b o.first o.value k

-- ---- what an operand is

abbrev pub OperandBehind : syntax.Expr → State → Both Operand → Type 0
OperandBehind e s x = (x.made.first ≡ expr_first e) × Behind s x.state

pub operand_behind : (e : syntax.Expr) (s : State) (r : Answer Meaning) → GivesSound s TypedMeaning r → IfOk (as_operand e r) (OperandBehind e s)
operand_behind e s (Ok x) h = (refl, h.0)
operand_behind e s (Err fault) h = tt

-- what is made of a part breaks nothing more
pub made_first : {A B : Type 0} (P : Pairs) (r : Answer A) (f : A → B) → Answers P r → Answers P (then_do r (λ x s. gives (f x) s))
made_first P (Ok x) f h = h
made_first P (Err fault) f h = h

pub operand_first : (e : syntax.Expr) (P : Pairs) (r : Answer Meaning) → Answers P r → Answers P (as_operand e r)
operand_first e P r h = made_first P r (λ m. operand (expr_first e) m) h

-- ---- two operands

-- what the left one breaks alone
pub record LeftAlone (fault : List Structure → Operand → Option Fault) (U : List Structure → Operand → Pairs) : Type 0 where
  pub names : (structs : List Structure) (o : Operand) → Names (U structs o) (fault structs o)
  pub stands : (structs : List Structure) (o : Operand) → StandAt o.first (U structs o)
  pub kept : (a b : List Structure) (o : Operand) → TypesKept a b → Within (U b o) (U a o)

-- what they break with the rule of both, the left one asked again
pub record BothKnown (x y : Place) (U : List Structure → Operand → Pairs) (rule : List Structure → Operand → Operand → Result Meaning Fault)
    (Q : List Structure → Operand → Operand → Pairs) : Type 0 where
  pub stands : (structs : List Structure) (a b : Operand) → a.first ≡ x → b.first ≡ y → StandFrom x (Q structs a b)
  pub answers : (structs : List Structure) (a b : Operand) → a.first ≡ x → b.first ≡ y → Answers (Beside (U structs a) (Q structs a b)) (rule structs a b)

-- what was broken before the right part needs no telling behind it
once : (U R : Pairs) (r : Answer Operand) (V Q : Operand → State → Pairs) → IfOk r (λ x. Within (V x.made x.state) U) →
    Same (Beside U (Needs r R (λ c v. Beside (V c v) (Q c v)))) (Beside U (Needs r R Q))
once U R (Ok x) V Q h = record {
  to = λ place rule b. elim b [ inl u ↦ inl u | inr n ↦ elim n [ inl r ↦ inr (inl r) | inr w ↦ elim w [ inl v ↦ inl (h place rule v) | inr q ↦ inr (inr q) ] ] ];
  from = λ place rule b. elim b [ inl u ↦ inl u | inr n ↦ elim n [ inl r ↦ inr (inl r) | inr q ↦ inr (inr (inr q)) ] ];
}
once U R (Err fault) V Q h = record {
  to = λ place rule b. elim b [ inl u ↦ inl u | inr n ↦ elim n [ inl r ↦ inr (inl r) | inr w ↦ absurd w ] ];
  from = λ place rule b. elim b [ inl u ↦ inl u | inr n ↦ elim n [ inl r ↦ inr (inl r) | inr w ↦ absurd w ] ];
}

kept_within : (y : syntax.Expr) (t : State) (a : Operand) (right : Answer Meaning) (fault : List Structure → Operand → Option Fault) (U : List Structure → Operand → Pairs) →
    GivesSound t TypedMeaning right → LeftAlone fault U → IfOk (as_operand y right) (λ z. Within (U z.state.scopes.structs a) (U t.scopes.structs a))
kept_within y t a (Ok x) fault U h l = l.kept t.scopes.structs x.state.scopes.structs a h.0.kept
kept_within y t a (Err broken) fault U h l = tt

pub from_first : (x first : Place) (P : Pairs) → first ≡ x → StandFrom first P → StandFrom x P
from_first x first P e h = subst (λ (p : Place). StandFrom p P) e h

at_first_token : (x first : Place) (P : Pairs) → first ≡ x → StandAt first P → StandAt x P
at_first_token x first P e h = subst (λ (p : Place). StandAt p P) e h

behind_or_at : (x : Place) (P : Pairs) → StandBehind x P → StandFrom x P
behind_or_at x P h place rule p = inr (h place rule p)

right_first : (x y : syntax.Expr) (t : State) (a : Operand) (right : Answer Meaning) (R : Pairs) (fault : List Structure → Operand → Option Fault)
    (U : List Structure → Operand → Pairs) (rule : List Structure → Operand → Operand → Result Meaning Fault) (Q : List Structure → Operand → Operand → Pairs) →
    a.first ≡ expr_first x → GivesSound t TypedMeaning right → Answers R right → StandBehind (expr_first x) R → LeftAlone fault U →
    BothKnown (expr_first x) (expr_first y) U rule Q →
    Answers (Beside (U t.scopes.structs a) (Needs (as_operand y right) R (λ c v. Q v.scopes.structs a c)))
    (beside (fault t.scopes.structs a) (as_operand y right) (λ c v. with_state (rule v.scopes.structs a c) v))
right_first x y t a right R fault U rule Q e h k behind l q =
    let N = Needs (as_operand y right) R (λ c v. Beside (U v.scopes.structs a) (Q v.scopes.structs a c)) in
    let go = then_do (as_operand y right) (λ c v. with_state (rule v.scopes.structs a c) v) in
    answers_same (Beside (U t.scopes.structs a) N) (Beside (U t.scopes.structs a) (Needs (as_operand y right) R (λ c v. Q v.scopes.structs a c)))
    (beside (fault t.scopes.structs a) (as_operand y right) (λ c v. with_state (rule v.scopes.structs a c) v))
    (once (U t.scopes.structs a) R (as_operand y right) (λ c v. U v.scopes.structs a) (λ c v. Q v.scopes.structs a c) (kept_within y t a right fault U h l))
    (fault_beside (U t.scopes.structs a) N (fault t.scopes.structs a) go (l.names t.scopes.structs a)
    (needs_first (OperandBehind y t) (as_operand y right) R (λ c v. Beside (U v.scopes.structs a) (Q v.scopes.structs a c)) (λ c v. with_state (rule v.scopes.structs a c) v)
    (operand_behind y t right h) (operand_first y R right k) (λ z f.
    rule_first (Beside (U z.state.scopes.structs a) (Q z.state.scopes.structs a z.made)) (rule z.state.scopes.structs a z.made) z.state (q.answers z.state.scopes.structs a z.made e f.0)))
    (one_token (expr_first x) (U t.scopes.structs a) N (at_first_token (expr_first x) a.first (U t.scopes.structs a) e (l.stands t.scopes.structs a))
    (from_operand (expr_first x) y right R (λ c v. Beside (U v.scopes.structs a) (Q v.scopes.structs a c)) (behind_or_at (expr_first x) R behind) (λ c v f.
    from_beside (expr_first x) (U v.scopes.structs a) (Q v.scopes.structs a c)
    (from_at (expr_first x) (U v.scopes.structs a) (at_first_token (expr_first x) a.first (U v.scopes.structs a) e (l.stands v.scopes.structs a)))
    (q.stands v.scopes.structs a c e f)))))

-- a left part and a right one that comes behind it
pub operands_first : (x y : syntax.Expr) (s : State) (left : Answer Meaning) (right : State → Answer Meaning) (P : Pairs) (R : State → Pairs)
    (fault : List Structure → Operand → Option Fault) (U : List Structure → Operand → Pairs) (rule : List Structure → Operand → Operand → Result Meaning Fault)
    (Q : List Structure → Operand → Operand → Pairs) → GivesSound s TypedMeaning left → ((t : State) → are_sound t.scopes ≡ true → GivesSound t TypedMeaning (right t)) →
    Answers P left → ((t : State) → are_sound t.scopes ≡ true → Answers (R t) (right t)) → ((t : State) → StandBehind (expr_first x) (R t)) → LeftAlone fault U →
    BothKnown (expr_first x) (expr_first y) U rule Q →
    Answers (Needs (as_operand x left) P (λ a t. Beside (U t.scopes.structs a) (Needs (as_operand y (right t)) (R t) (λ c v. Q v.scopes.structs a c))))
    (then_do (as_operand x left) (λ a t. beside (fault t.scopes.structs a) (as_operand y (right t)) (λ c v. with_state (rule v.scopes.structs a c) v)))
operands_first x y s left right P R fault U rule Q h sound k answers behind l q =
    needs_first (OperandBehind x s) (as_operand x left) P
    (λ a t. Beside (U t.scopes.structs a) (Needs (as_operand y (right t)) (R t) (λ c v. Q v.scopes.structs a c)))
    (λ a t. beside (fault t.scopes.structs a) (as_operand y (right t)) (λ c v. with_state (rule v.scopes.structs a c) v))
    (operand_behind x s left h) (operand_first x P left k) (λ z f.
    right_first x y z.state z.made (right z.state) (R z.state) fault U rule Q f.0 (sound z.state f.1.sound) (answers z.state f.1.sound) (behind z.state) l q)
