-- Where the pairs stand that a form breaks: at its first token or behind it.
use Rattle.std.proofs.Common.{◌≡◌, ◌⊎◌, inl, inr, sym, refl, subst, ℕ, Bool, true, false, Option, Some, None, Ok, Err, List, arith}
use Rattle.std.proofs.lemmas.Bool.{and_parts, ltb-true}
use Rattle.cake_base.specs.declared.places.Place.{Place}
use Rattle.model_types.specs.declared.numbers.BinOp.{BinOp}
use Rattle.model_types.specs.declared.numbers.BinOp.TheVariants as op
use Rattle.model_types.specs.declared.operators.StepSide.{StepSide}
use Rattle.model_types.specs.declared.operators.StepSide.TheVariants.{Prefix, Postfix}
use Rattle.model_types.specs.Structures.{Structure}
use Rattle.model_grammar.specs.declared.syntax.Name.{Name}
use Rattle.model_grammar.specs.declared.syntax.PrefixOp.{PrefixOp}
use Rattle.model_grammar.specs.declared.syntax.PrefixOp.TheVariants as prefix
use Rattle.model_grammar.specs.SyntaxForms as syntax
use Rattle.c_tree.specs.SyntaxPlaces.{expr_first, step_first}
use Rattle.model_scopes.specs.Scopes.{Declared}
use Rattle.model_scopes.specs.Binding.{look, declared_as}
use Rattle.model_checking.specs.Meanings.{Meaning, Operand}
use Rattle.model_checking.specs.MadeCore.{operand}
use Rattle.model_checking.specs.Reading.{as_operand}
use Rattle.model_checking.specs.State.{State, Answer}
use Rattle.model_constraints.specs.Pairs.{Pairs, Beside, Needs}
use Rattle.model_constraints.specs.BrokenNames.{broken_bound, broken_name}
use Rattle.model_constraints.specs.BrokenValues.{broken_use, broken_reading}
use Rattle.model_constraints.specs.BrokenOperators.{broken_sum, broken_taken, broken_binary, broken_logic, broken_unary, broken_step}
use Rattle.model_constraints.specs.BrokenPointers.{broken_element}
use Rattle.model_constraints.specs.BrokenMembers.{broken_member, broken_arrow}
use Rattle.first_broken_laws.specs.FirstNamed.{Precedes}
use Rattle.first_broken_laws.specs.OrderedTrees.{stands_before, is_between, is_step_in_order}
use Rattle.first_broken_laws.proofs.PairLaws.{StandBehind}
use Rattle.first_broken_laws.proofs.Parts.{OneToken}

abbrev pub StandAt : Place → Pairs → Type 0
StandAt at P = (place : Place) (rule : ℕ) → P place rule → place ≡ at

abbrev pub StandFrom : Place → Pairs → Type 0
StandFrom at P = (place : Place) (rule : ℕ) → P place rule → (place ≡ at) ⊎ Precedes at place

-- ---- tokens

pub both_before : (a b c : Place) → Precedes a b → Precedes b c → Precedes a c
both_before a b c h k = omega (arith, h, k)

pub is_before : (a b : Place) → stands_before a b ≡ true → Precedes a b
is_before a b h = ltb-true a.order b.order h

pub record Between (at left right : Place) : Type 0 where
  pub behind_left : Precedes left at
  pub before_right : Precedes at right

pub between : (at left right : Place) → is_between at left right ≡ true → Between at left right
between at left right h =
    let parts = and_parts (stands_before left at) (stands_before at right) h in
    record { behind_left = is_before left at parts.0; before_right = is_before at right parts.1 }

behind_same : (first at place : Place) → Precedes first at → place ≡ at → Precedes first place
behind_same first at place h e = subst (λ (p : Place). Precedes first p) (sym e) h

later : (first at place : Place) → Precedes first at → place ≡ at → (place ≡ first) ⊎ Precedes first place
later first at place h e = inr (behind_same first at place h e)

later_from : (first at place : Place) → Precedes first at → (place ≡ at) ⊎ Precedes at place → (place ≡ first) ⊎ Precedes first place
later_from first at place h (inl e) = later first at place h e
later_from first at place h (inr k) = inr (both_before first at place h k)

pub stand_later : (first at : Place) (P : Pairs) → Precedes first at → StandFrom at P → StandFrom first P
stand_later first at P h k place rule p = later_from first at place h (k place rule p)

behind_from : (first at place : Place) → Precedes first at → (place ≡ at) ⊎ Precedes at place → Precedes first place
behind_from first at place h (inl e) = behind_same first at place h e
behind_from first at place h (inr k) = both_before first at place h k

pub stand_behind : (first at : Place) (P : Pairs) → Precedes first at → StandFrom at P → StandBehind first P
stand_behind first at P h k place rule p = behind_from first at place h (k place rule p)

not_behind : (a b : Place) (A : Type 0) → Precedes a b → a.order ≡ b.order → A
not_behind a b A h e = absurd (omega (arith, h, e))

one_by : (at p q : Place) → p ≡ at → (q ≡ at) ⊎ Precedes at q → p.order ≡ q.order → p ≡ q
one_by at p q e (inl f) o = subst (λ (x : Place). p ≡ x) (sym f) e
one_by at p q e (inr h) o = not_behind p q (p ≡ q) (subst (λ (x : Place). Precedes x q) (sym e) h) o

pub one_token : (at : Place) (P Q : Pairs) → StandAt at P → StandFrom at Q → OneToken P Q
one_token at P Q h k p n q m x y o = one_by at p q (h p n x) (k q m y) o

-- ---- parts

pub from_beside : (at : Place) (P Q : Pairs) → StandFrom at P → StandFrom at Q → StandFrom at (Beside P Q)
from_beside at P Q h k place rule b = elim b [ inl p ↦ h place rule p | inr q ↦ k place rule q ]

pub from_at : (at : Place) (P : Pairs) → StandAt at P → StandFrom at P
from_at at P h place rule p = inl (h place rule p)

pub from_needs : {A : Type 0} (at : Place) (r : Answer A) (P : Pairs) (Q : A → State → Pairs) → StandFrom at P → ((x : A) (s : State) → StandFrom at (Q x s)) →
    StandFrom at (Needs r P Q)
from_needs at (Ok x) P Q h k place rule b = elim b [ inl p ↦ h place rule p | inr q ↦ k x.made x.state place rule q ]
from_needs at (Err fault) P Q h k place rule b = elim b [ inl p ↦ h place rule p | inr q ↦ absurd q ]

pub from_operand : (at : Place) (e : syntax.Expr) (r : Answer Meaning) (P : Pairs) (Q : Operand → State → Pairs) → StandFrom at P →
    ((o : Operand) (s : State) → o.first ≡ expr_first e → StandFrom at (Q o s)) → StandFrom at (Needs (as_operand e r) P Q)
from_operand at e (Ok x) P Q h k place rule b =
    elim b [ inl p ↦ h place rule p | inr q ↦ k (operand (expr_first e) x.made) x.state refl place rule q ]
from_operand at e (Err fault) P Q h k place rule b = elim b [ inl p ↦ h place rule p | inr q ↦ absurd q ]

-- ---- names

bound_at : (name : Name) (id : Option ℕ) (d : Option Declared) (s : State) → StandAt name.place (broken_bound name id d s)
bound_at name (Some id) (Some d) s place rule h = elim h [ inl one ↦ one.1 | inr one ↦ one.1 ]
bound_at name (Some id) None s place rule h = h.1
bound_at name None d s place rule h = h.1

pub name_at : (name : Name) (s : State) → StandAt name.place (broken_name name s)
name_at name s = bound_at name (look false name.text s.scopes) (declared_as (look false name.text s.scopes) s.scopes) s

-- ---- one operand

pub use_at : (structs : List Structure) (o : Operand) → StandAt o.first (broken_use structs o)
use_at structs o place rule h = elim h [ inl one ↦ one.1 | inr one ↦ one.1 ]

pub reading_at : (structs : List Structure) (o : Operand) → StandAt o.first (broken_reading structs o)
reading_at structs o place rule h = elim h [ inl one ↦ one.1 | inr one ↦ one.1 ]

pub unary_from : (structs : List Structure) (op : PrefixOp) (at first : Place) (m : Meaning) → Precedes at first → StandFrom at (broken_unary structs op at first m)
unary_from structs prefix.Address at first m before place rule h = later at first place before h.1
unary_from structs prefix.Indirection at first m before place rule h = later at first place before h.1
unary_from structs prefix.Plus at first m before place rule h =
    elim h [ inl one ↦ inl one.1 | inr u ↦ later at first place before (use_at structs (operand first m) place rule u) ]
unary_from structs prefix.Minus at first m before place rule h =
    elim h [ inl one ↦ inl one.1 | inr u ↦ later at first place before (use_at structs (operand first m) place rule u) ]
unary_from structs prefix.Complement at first m before place rule h =
    elim h [ inl one ↦ inl one.1 | inr u ↦ later at first place before (use_at structs (operand first m) place rule u) ]
unary_from structs prefix.Not at first m before place rule h =
    elim h [ inl one ↦ inl one.1 | inr u ↦ later at first place before (use_at structs (operand first m) place rule u) ]

pub step_from : (structs : List Structure) (side : StepSide) (at first : Place) (m : Meaning) → is_step_in_order side first at ≡ true →
    StandFrom (step_first side first at) (broken_step structs at first m)
step_from structs Prefix at first m before place rule h = elim h [
  | inl one ↦ inl one.1
  | inr x ↦ elim x [ inl two ↦ inl two.1 | inr three ↦ later at first place (is_before at first before) three.1 ]
]
step_from structs Postfix at first m before place rule h = elim h [
  | inl one ↦ later first at place (is_before first at before) one.1
  | inr x ↦ elim x [ inl two ↦ later first at place (is_before first at before) two.1 | inr three ↦ inl three.1 ]
]

pub member_from : (structs : List Structure) (first at : Place) (m : Meaning) (name : Name) → Precedes first at → Precedes at name.place →
    StandFrom first (broken_member structs at m name)
member_from structs first at m name before behind place rule h = elim h [
  | inl one ↦ later first at place before one.1
  | inr two ↦ later first name.place place (both_before first at name.place before behind) two.1
]

pub arrow_from : (structs : List Structure) (o : Operand) (name : Name) → Precedes o.first name.place → StandFrom o.first (broken_arrow structs o name)
arrow_from structs o name before place rule h = elim h [ inl one ↦ inl one.1 | inr two ↦ later o.first name.place place before two.1 ]

-- ---- two operands

sum_from : (structs : List Structure) (at : Place) (t : Bool) (a b : Operand) → Between at a.first b.first → StandFrom a.first (broken_sum structs at t a b)
sum_from structs at t a b order place rule h = elim h [
  | inl one ↦ inl one.1
  | inr x ↦ elim x [
    | inl two ↦ later a.first at place order.behind_left two.1
    | inr three ↦ later a.first b.first place (both_before a.first at b.first order.behind_left order.before_right) three.1
  ]
]

taken_from : (structs : List Structure) (o : BinOp) (at : Place) (a b : Operand) → Between at a.first b.first → StandFrom a.first (broken_taken structs o at a b)
taken_from structs op.Add at a b order place rule h = sum_from structs at _ a b order place rule h
taken_from structs op.Sub at a b order place rule h = sum_from structs at _ a b order place rule h
taken_from structs op.Less at a b order place rule h = later a.first at place order.behind_left h.1
taken_from structs op.Greater at a b order place rule h = later a.first at place order.behind_left h.1
taken_from structs op.LessEqual at a b order place rule h = later a.first at place order.behind_left h.1
taken_from structs op.GreaterEqual at a b order place rule h = later a.first at place order.behind_left h.1
taken_from structs op.Equal at a b order place rule h = later a.first at place order.behind_left h.1
taken_from structs op.NotEqual at a b order place rule h = later a.first at place order.behind_left h.1
taken_from structs o at a b order place rule h = absurd h

right_from : (structs : List Structure) (at : Place) (a b : Operand) → Between at a.first b.first → StandFrom a.first (broken_use structs b)
right_from structs at a b order place rule u =
    later a.first b.first place (both_before a.first at b.first order.behind_left order.before_right) (use_at structs b place rule u)

pub binary_from : (structs : List Structure) (o : BinOp) (at : Place) (a b : Operand) → Between at a.first b.first → StandFrom a.first (broken_binary structs o at a b)
binary_from structs o at a b order place rule h = elim h [
  | inl one ↦ later a.first at place order.behind_left one.1
  | inr x ↦ elim x [ inl t ↦ taken_from structs o at a b order place rule t | inr u ↦ right_from structs at a b order place rule u ]
]

pub logic_from : (structs : List Structure) (at : Place) (a b : Operand) → Between at a.first b.first → StandFrom a.first (broken_logic structs at a b)
logic_from structs at a b order place rule h = elim h [
  | inl one ↦ later a.first at place order.behind_left one.1
  | inr u ↦ right_from structs at a b order place rule u
]

pub element_from : (structs : List Structure) (at : Place) (a b : Operand) → Between at a.first b.first → StandFrom a.first (broken_element structs at a b)
element_from structs at a b order place rule h = elim h [
  | inl one ↦ later a.first at place order.behind_left one.1
  | inr x ↦ elim x [
    | inl two ↦ inl two.1
    | inr y ↦ elim y [
      | inl three ↦ later a.first b.first place (both_before a.first at b.first order.behind_left order.before_right) three.1
      | inr u ↦ right_from structs at a b order place rule u
    ]
  ]
]

pub comma_from : (structs : List Structure) (at : Place) (a b : Operand) → Between at a.first b.first → StandFrom a.first (broken_reading structs b)
comma_from structs at a b order place rule u =
    later a.first b.first place (both_before a.first at b.first order.behind_left order.before_right) (reading_at structs b place rule u)
