-- The steps of an expression are flat, and its value holds no call where it may go anywhere.
use Rattle.std.proofs.Common.{◌≡◌, ℕ, pos, Bool, true, false, ◌||◌, List, [], ◌∷◌, ◌++◌, refl, sym, ◌∙◌, subst, true≢false, ◌⊎◌, inl, inr, if◌then◌else◌}
use Rattle.model_types.specs.declared.numbers.Basic.TheVariants as basic
use Rattle.model_types.specs.declared.numbers.BinOp.{BinOp}
use Rattle.model_types.specs.declared.numbers.BinOp.TheVariants.{NotEqual}
use Rattle.model_types.specs.declared.operators.UnaryOp.{UnaryOp}
use Rattle.model_types.specs.declared.operators.LogicOp.{LogicOp}
use Rattle.model_types.specs.declared.operators.LogicOp.TheVariants.{And, Or}
use Rattle.model_types.specs.declared.operators.StepOp.{StepOp}
use Rattle.model_types.specs.declared.operators.StepSide.{StepSide}
use Rattle.model_types.specs.declared.operators.StepSide.TheVariants.{Prefix, Postfix}
use Rattle.model_types.specs.declared.marks.Origin.{Origin}
use Rattle.model_types.specs.declared.marks.Origin.TheVariants.{Written, Implied}
use Rattle.model_types.specs.Types.{CType, typed, Form, Void, Integer, Enum, Pointer, Array, Struct, Function, form_of_type}
use Rattle.model_core.specs.CoreTypes.{type_of, object_type, address_type, unqualified, called_type, pointee, is_void}
use Rattle.model_core.specs.Types89 as written
use Rattle.model_core.specs.Types89.{Type89, int_type}
use Rattle.model_core.specs.Core as source
use Rattle.model_core.specs.Program89 as text
use Rattle.model_c89.specs.TargetTypes.{decayed}
use Rattle.model_c89.specs.Flat89.{NoCall, FlatStat, FlatAssignment, is_name, holds_call, hold_call}
use Rattle.c_model.specs.WrittenType.{written_type}
use Rattle.c_model.specs.Renamed.{Naming}
use Rattle.model_lowering.specs.TextValues.{number, constant, converted, truth, is_open}
use Rattle.model_lowering.specs.Steps as s
use Rattle.model_lowering.specs.Steps.{Setting, Done, Flat, Flats, Place, Kept, stats_of, exprs_of}
use Rattle.model_lowering.specs.PartPlaces.{part_place}
use Rattle.model_lowering.specs.PartPlaces as parts
use Rattle.model_lowering.specs.FlatExpressions as f
use Rattle.model_lowering.specs.FlatExpressions.{Goal, Anywhere, ToName, value_in}
use Rattle.lowering_laws.proofs.FlatParts.{neither, IsFor, for_any, flat_value, assigned_flat, name_assigned_flat, AreFlat, append_flat, and_flat, FlatIs, KeptIs, FlatsAre, PlaceIs, DoneIs}
use Rattle.lowering_laws.proofs.FlatForms.{Keeps, either_no_call, as_type_no_call, constant_no_call, truth_no_call, converted_no_call, pure_is, with_value_is, without_value_is, behind_is, two_is, before_others_are, call_is, put_is, kept_place_is, assigned_is, assigned_to_is, value_assigned_to_is, old_value_is}

-- ---- places

-- a place that is no name
pub no_name : (a : Bool) → false ≡ true → a ≡ true
no_name a h = absurd (true≢false (sym h))

pub named_is : (z : Setting) (id : ℕ) (type : CType) → PlaceIs (f.named_object z id type)
named_is z id type = record {
  steps = tt;
  place = either_no_call (f.is_open_inside type) (f.seen_as (f.named_type z type) (text.Name (z.naming.declared id))) (text.Name (z.naming.declared id)) refl refl;
  constant = λ h. refl;
}

pub function_no_call : (z : Setting) (id : ℕ) (type : CType) → NoCall (f.named_function z id type)
function_no_call z id type =
    either_no_call (is_open type) (text.Cast (written.Pointer false (written_type z.naming.structure type)) (text.Name (z.naming.declared id)))
    (text.Name (z.naming.declared id)) refl refl

address_no_call : (b : Bool) (have want : Type89) (place : text.Expr) → NoCall place → NoCall (f.address b have want place)
address_no_call true have want place h = h
address_no_call false have want place h = as_type_no_call have want (text.Unary text.AddressOf place) h

address_of_no_call : (z : Setting) (origin : Origin) (type : CType) (p : Place) → NoCall p.place → NoCall (f.address_of z origin type p)
address_of_no_call z Written type p h =
    address_no_call _ (written.Pointer false p.type) (value_in z (address_type Written type)) p.place h
address_of_no_call z Implied type p h = as_type_no_call (decayed p.type) (value_in z (address_type Implied type)) p.place h

pub addressed_is : (goal : Goal) (z : Setting) (origin : Origin) (type : CType) (p : Place) → PlaceIs p → FlatIs goal (f.addressed z origin type p)
addressed_is goal z origin type p h =
    record { steps = h.steps; value = for_any goal (f.address_of z origin type p) (address_of_no_call z origin type p h.place) }

pub loaded_is : (goal : Goal) (p : Place) → PlaceIs p → FlatIs goal (f.loaded p)
loaded_is goal p h = record { steps = h.steps; value = for_any goal p.place h.place }

pub pointed_is : (z : Setting) (pointer : CType) (g : Flat) → FlatIs Anywhere g → is_name g.value ≡ false → PlaceIs (f.pointed z pointer g)
pointed_is z pointer g h unnamed = record { steps = h.steps; place = h.value; constant = λ named. absurd (true≢false (sym named ∙ unnamed)) }

pub member_is : (z : Setting) (structure : Form) (rank : ℕ) (type : CType) (p : Place) → PlaceIs p → PlaceIs (f.member_place z structure rank type p)
member_is z structure rank type p h = record { steps = h.steps; place = h.place; constant = no_name p.is_constant }

pub arrow_is : (z : Setting) (structure : Form) (rank : ℕ) (type : CType) (g : Flat) → FlatIs Anywhere g → PlaceIs (f.arrow_place z structure rank type g)
arrow_is z structure rank type g h = record { steps = h.steps; place = h.value; constant = no_name g.is_stable }

pub made_is : (z : Setting) (id : ℕ) (type : CType) (d : Done) → DoneIs d → PlaceIs (f.made_place z id type d)
made_is z id type d h = record { steps = h; place = (named_is z id type).place; constant = λ named. refl }

-- ---- operators

pub keeps_two : (op : BinOp) → Keeps (text.Binary op)
keeps_two op a b h k = neither (holds_call a) (holds_call b) h k

pub keeps_index : Keeps text.Index
keeps_index a b h k = neither (holds_call a) (holds_call b) h k

not_zero_no_call : (e : text.Expr) → NoCall e → NoCall (f.is_not_zero e)
not_zero_no_call e h = neither (holds_call e) false h refl

either_flat : (condition : text.Expr) (first second : List text.Stat) → NoCall condition → AreFlat first → AreFlat second →
    FlatStat (f.either condition first second)
either_flat condition first second h k m = (h, k, m)

gives_flat : (place value : text.Expr) → NoCall place → NoCall value → AreFlat (f.gives place value)
gives_flat place value h k = (assigned_flat place value h k, tt)

logic_step_flat : (op : LogicOp) (result first : text.Expr) (g : Flat) → NoCall result → NoCall first → FlatIs Anywhere g →
    FlatStat (f.logic_step op result first g)
logic_step_flat And result first g r h m = (
  h,
  append_flat g.steps (f.gives result (f.is_not_zero g.value)) m.steps (gives_flat result (f.is_not_zero g.value) r (not_zero_no_call g.value m.value)),
  gives_flat result (number 0) r refl,
)
logic_step_flat Or result first g r h m = (
  h,
  gives_flat result (number 1) r refl,
  append_flat g.steps (f.gives result (f.is_not_zero g.value)) m.steps (gives_flat result (f.is_not_zero g.value) r (not_zero_no_call g.value m.value)),
)

logic_by_is : (goal : Goal) (steps : List text.Stat) (n : Naming) (i : ℕ) (op : LogicOp) (a b : Flat) → FlatIs Anywhere a → FlatIs Anywhere b →
    FlatIs goal (f.logic_by steps n i op a b)
logic_by_is goal [] n i op a b h k = record {
  steps = h.steps;
  value = for_any goal (text.Logic op a.value b.value) (neither (holds_call a.value) (holds_call b.value) h.value k.value);
}
logic_by_is goal (step ∷ steps) n i op a b h k = record {
  steps = and_flat a.steps (f.logic_step op (s.temporary n (s.past_both i a.temporaries b.temporaries)) a.value b) h.steps
      (logic_step_flat op (s.temporary n (s.past_both i a.temporaries b.temporaries)) a.value b refl h.value k);
  value = for_any goal (s.temporary n (s.past_both i a.temporaries b.temporaries)) refl;
}

pub logic_is : (goal : Goal) (n : Naming) (i : ℕ) (op : LogicOp) (a b : Flat) → FlatIs Anywhere a → FlatIs Anywhere b → FlatIs goal (f.logic n i op a b)
logic_is goal n i op a b h k = logic_by_is goal b.steps n i op a b h k

logic_done_by_is : (steps : List text.Stat) (op : LogicOp) (a : Flat) → NoCall a.value → AreFlat steps → AreFlat (f.logic_done_by steps op a)
logic_done_by_is [] op a h k = tt
logic_done_by_is (step ∷ steps) And a h k = ((h, k), tt)
logic_done_by_is (step ∷ steps) Or a h k = ((h, k), tt)

pub logic_done_is : (op : LogicOp) (a : Flat) (d : Done) → FlatIs Anywhere a → DoneIs d → DoneIs (f.logic_done op a d)
logic_done_is op a d h k = append_flat a.steps (f.logic_done_by d.steps op a) h.steps (logic_done_by_is d.steps op a h.value k)

-- ---- choices

three_no_call : (a b c : text.Expr) → NoCall a → NoCall b → NoCall c → NoCall (text.Choice a b c)
three_no_call a b c h k m = neither (holds_call a) (holds_call b || holds_call c) h (neither (holds_call b) (holds_call c) k m)

choice_plain_is : (goal : Goal) (z : Setting) (type : CType) (c a b : Flat) → FlatIs Anywhere c → FlatIs Anywhere a → FlatIs Anywhere b →
    FlatIs goal (f.choice_plain z type c a b)
choice_plain_is goal z type c a b m h k = record {
  steps = m.steps;
  value = for_any goal (f.choice_plain z type c a b).value
      (as_type_no_call (f.chosen_type type (value_in z type)) (value_in z type) (text.Choice c.value a.value b.value)
      (three_no_call c.value a.value b.value m.value h.value k.value));
}

choice_in_temporary_is : (goal : Goal) (z : Setting) (i : ℕ) (type : CType) (c a b : Flat) → FlatIs Anywhere c → FlatIs Anywhere a → FlatIs Anywhere b →
    FlatIs goal (f.choice_in_temporary z i type c a b)
choice_in_temporary_is goal z i type c a b m h k =
    let t = s.temporary z.naming i in record {
      steps = and_flat c.steps (f.either c.value (a.steps ++ f.gives t a.value) (b.steps ++ f.gives t b.value)) m.steps (
        m.value,
        append_flat a.steps (f.gives t a.value) h.steps (gives_flat t a.value refl h.value),
        append_flat b.steps (f.gives t b.value) k.steps (gives_flat t b.value refl k.value),
      );
      value = for_any goal t refl;
    }

choice_by_is : (goal : Goal) (first second : List text.Stat) (z : Setting) (i : ℕ) (type : CType) (c a b : Flat) → FlatIs Anywhere c → FlatIs Anywhere a →
    FlatIs Anywhere b → FlatIs goal (f.choice_by first second z i type c a b)
choice_by_is goal [] [] z i type c a b m h k = choice_plain_is goal z type c a b m h k
choice_by_is goal [] (step ∷ steps) z i type c a b m h k = choice_in_temporary_is goal z (s.past i (f.three_types c a b)) type c a b m h k
choice_by_is goal (step ∷ steps) others z i type c a b m h k = choice_in_temporary_is goal z (s.past i (f.three_types c a b)) type c a b m h k

pub choice_is : (goal : Goal) (z : Setting) (i : ℕ) (type : CType) (c a b : Flat) → FlatIs Anywhere c → FlatIs Anywhere a → FlatIs Anywhere b →
    FlatIs goal (f.choice z i type c a b)
choice_is goal z i type c a b m h k = choice_by_is goal a.steps b.steps z i type c a b m h k

choice_done_by_is : (first second : List text.Stat) (condition : text.Expr) → NoCall condition → AreFlat first → AreFlat second →
    AreFlat (f.choice_done_by first second condition)
choice_done_by_is [] [] condition m h k = tt
choice_done_by_is (step ∷ steps) [] condition m h k = ((m, h), tt)
choice_done_by_is [] (step ∷ steps) condition m h k = ((m, k), tt)
choice_done_by_is (first ∷ firsts) (second ∷ seconds) condition m h k = ((m, h, k), tt)

pub choice_done_is : (c : Flat) (d e : Done) → FlatIs Anywhere c → DoneIs d → DoneIs e → DoneIs (f.choice_done c d e)
choice_done_is c d e m h k = append_flat c.steps (f.choice_done_by d.steps e.steps c.value) m.steps (choice_done_by_is d.steps e.steps c.value m.value h k)

-- ---- calls

pub called_is : (c : Flat) → FlatIs ToName c → DoneIs (f.called c)
called_is c h = and_flat c.steps (text.Evaluate c.value) h.steps h.value

given_to_is : (goal : Goal) (z : Setting) (i : ℕ) (type : CType) (c : Flat) → FlatIs ToName c → FlatIs goal (f.given_to goal z i type c)
given_to_is Anywhere z i type c h = put_is Anywhere z.naming i (value_in z type) c h
given_to_is ToName z i type c h = h

pub given_back_is : (goal : Goal) (z : Setting) (i : ℕ) (type : CType) (c : Flat) → FlatIs ToName c → FlatIs goal (f.given_back goal z i type c)
given_back_is goal z i (typed Void quals) c h = without_value_is goal (f.called c) (called_is c h)
given_back_is goal z i (typed (Integer basic.Bool) quals) c h =
    with_value_is goal truth (s.put z.naming i (value_in z (typed (Integer basic.Bool) quals)) c) truth_no_call
    (put_is Anywhere z.naming i (value_in z (typed (Integer basic.Bool) quals)) c h)
given_back_is goal z i (typed (Integer basic.Char) quals) c h = given_to_is goal z i (typed (Integer basic.Char) quals) c h
given_back_is goal z i (typed (Integer basic.SignedChar) quals) c h = given_to_is goal z i (typed (Integer basic.SignedChar) quals) c h
given_back_is goal z i (typed (Integer basic.UnsignedChar) quals) c h = given_to_is goal z i (typed (Integer basic.UnsignedChar) quals) c h
given_back_is goal z i (typed (Integer basic.Short) quals) c h = given_to_is goal z i (typed (Integer basic.Short) quals) c h
given_back_is goal z i (typed (Integer basic.UnsignedShort) quals) c h = given_to_is goal z i (typed (Integer basic.UnsignedShort) quals) c h
given_back_is goal z i (typed (Integer basic.Int) quals) c h = given_to_is goal z i (typed (Integer basic.Int) quals) c h
given_back_is goal z i (typed (Integer basic.Unsigned) quals) c h = given_to_is goal z i (typed (Integer basic.Unsigned) quals) c h
given_back_is goal z i (typed (Integer basic.Long) quals) c h = given_to_is goal z i (typed (Integer basic.Long) quals) c h
given_back_is goal z i (typed (Integer basic.UnsignedLong) quals) c h = given_to_is goal z i (typed (Integer basic.UnsignedLong) quals) c h
given_back_is goal z i (typed (Integer basic.LongLong) quals) c h = given_to_is goal z i (typed (Integer basic.LongLong) quals) c h
given_back_is goal z i (typed (Integer basic.UnsignedLongLong) quals) c h = given_to_is goal z i (typed (Integer basic.UnsignedLongLong) quals) c h
given_back_is goal z i (typed (Enum basic order) quals) c h = given_to_is goal z i (typed (Enum basic order) quals) c h
given_back_is goal z i (typed (Pointer type) quals) c h = given_to_is goal z i (typed (Pointer type) quals) c h
given_back_is goal z i (typed (Array type count) quals) c h = given_to_is goal z i (typed (Array type count) quals) c h
given_back_is goal z i (typed (Struct id) quals) c h = given_to_is goal z i (typed (Struct id) quals) c h
given_back_is goal z i (typed (Function result parameters is_variadic) quals) c h = given_to_is goal z i (typed (Function result parameters is_variadic) quals) c h

-- ---- assignments

pub operator_keeps : (z : Setting) (op : BinOp) (done object : CType) → Keeps (f.by_operator z op done object)
operator_keeps z op done object a b h k =
    converted_no_call z.naming.structure done object (text.Binary op (converted z.naming.structure object done a) b)
    (neither (holds_call (converted z.naming.structure object done a)) (holds_call b) (converted_no_call z.naming.structure object done a h) k)

read_is : (goal : Goal) (p : Place) (d : Done) → PlaceIs p → DoneIs d → FlatIs goal (s.place_read p d)
read_is goal p d h k = record { steps = k; value = for_any goal p.place h.place }

if_is : (goal : Goal) (b : Bool) (x y : Flat) → FlatIs goal x → FlatIs goal y → FlatIs goal (if b then x else y)
if_is goal true x y h k = h
if_is goal false x y h k = k

if_true : (goal : Goal) (b : Bool) (x y : Flat) → b ≡ true → FlatIs goal x → FlatIs goal (if b then x else y)
if_true goal true x y e h = h
if_true goal false x y e h = absurd (true≢false (sym e))

pub value_assigned_is : (goal : Goal) (n : Naming) (i : ℕ) (type : Type89) (p : Place) (g : Flat) (made : text.Expr → text.Expr → text.Expr) → Keeps made →
    PlaceIs p → FlatIs Anywhere g → FlatIs goal (s.value_assigned n i type p g made)
value_assigned_is goal n i type p g made keeps h m =
    let k = s.kept_place n (s.past_both i p.temporaries g.temporaries) p g.steps in
    let j = s.past (s.past_both i p.temporaries g.temporaries) k.more in
    if_is goal p.is_constant (s.place_read p (s.assigned n i p g made)) (s.value_assigned_to n j type p g k made)
    (read_is goal p (s.assigned n i p g made) h (assigned_is n i p g made keeps h m))
    (value_assigned_to_is goal n j type p g k made keeps (kept_place_is n (s.past_both i p.temporaries g.temporaries) p g.steps h) m)

-- ---- plain assignments: a name may get the value of a call

kept_constant : (b : Bool) (n : Naming) (i : ℕ) (p : Place) (others : List text.Stat) → b ≡ true → s.place_as_it_is p ≡ s.kept_place_if b n i p others
kept_constant true n i p others e = refl
kept_constant false n i p others e = absurd (true≢false (sym e))

as_it_is : (p : Place) → PlaceIs p → KeptIs (s.place_as_it_is p)
as_it_is p h = record { steps = h.steps; value = h.place }

pub plain_keeps : Keeps f.plainly
plain_keeps a b h k = k

named_assigned : (n : Naming) (i : ℕ) (p : Place) (g : Flat) → PlaceIs p → is_name p.place ≡ true → FlatIs ToName g → DoneIs (s.assigned n i p g f.plainly)
named_assigned n i p g h named m =
    subst (λ k. DoneIs (s.assigned_to p g k f.plainly))
    (kept_constant p.is_constant n (s.past_both i p.temporaries g.temporaries) p g.steps (h.constant named))
    (assigned_to_is p g (s.place_as_it_is p) f.plainly (as_it_is p h) m.steps (name_assigned_flat p.place g.value named h.place m.value))

goal_cases : (e : text.Expr) → (f.goal_of e ≡ Anywhere) ⊎ ((is_name e ≡ true) × (f.goal_of e ≡ ToName))
goal_cases (text.Name name) = inr (refl, refl)
goal_cases (text.Constant number suffix) = inl refl
goal_cases (text.Index left right) = inl refl
goal_cases (text.Dot structure name) = inl refl
goal_cases (text.Arrow pointer name) = inl refl
goal_cases (text.Call function arguments) = inl refl
goal_cases (text.Unary op operand) = inl refl
goal_cases (text.Binary op left right) = inl refl
goal_cases (text.Logic op left right) = inl refl
goal_cases (text.Choice condition first second) = inl refl
goal_cases (text.Cast type operand) = inl refl

plain_done_by : (n : Naming) (i : ℕ) (p : Place) (g : Flat) (goal : Goal) → (goal ≡ Anywhere) ⊎ ((is_name p.place ≡ true) × (goal ≡ ToName)) → PlaceIs p →
    FlatIs goal g → DoneIs (s.assigned n i p g f.plainly)
plain_done_by n i p g goal (inl e) h m = assigned_is n i p g f.plainly plain_keeps h (subst (λ x. FlatIs x g) e m)
plain_done_by n i p g goal (inr (named, e)) h m = named_assigned n i p g h named (subst (λ x. FlatIs x g) e m)

pub plain_done_is : (n : Naming) (i : ℕ) (p : Place) (g : Flat) → PlaceIs p → FlatIs (f.goal_of p.place) g → DoneIs (s.assigned n i p g f.plainly)
plain_done_is n i p g h m = plain_done_by n i p g (f.goal_of p.place) (goal_cases p.place) h m

plain_value_by : (to : Goal) (n : Naming) (i : ℕ) (type : Type89) (p : Place) (g : Flat) (goal : Goal) →
    (goal ≡ Anywhere) ⊎ ((is_name p.place ≡ true) × (goal ≡ ToName)) → PlaceIs p → FlatIs goal g → FlatIs to (s.value_assigned n i type p g f.plainly)
plain_value_by to n i type p g goal (inl e) h m = value_assigned_is to n i type p g f.plainly plain_keeps h (subst (λ x. FlatIs x g) e m)
plain_value_by to n i type p g goal (inr (named, e)) h m =
    let k = s.kept_place n (s.past_both i p.temporaries g.temporaries) p g.steps in
    let j = s.past (s.past_both i p.temporaries g.temporaries) k.more in
    if_true to p.is_constant (s.place_read p (s.assigned n i p g f.plainly)) (s.value_assigned_to n j type p g k f.plainly) (h.constant named)
    (read_is to p (s.assigned n i p g f.plainly) h (named_assigned n i p g h named (subst (λ x. FlatIs x g) e m)))

pub plain_value_is : (to : Goal) (n : Naming) (i : ℕ) (type : Type89) (p : Place) (g : Flat) → PlaceIs p → FlatIs (f.goal_of p.place) g →
    FlatIs to (s.value_assigned n i type p g f.plainly)
plain_value_is to n i type p g h m = plain_value_by to n i type p g (f.goal_of p.place) (goal_cases p.place) h m

-- ---- steps

one_no_call : (z : Setting) (done : CType) → NoCall (f.one z done)
one_no_call z (typed Void quals) = constant_no_call z.naming.structure (pos 1) (typed Void quals)
one_no_call z (typed (Integer basic) quals) = constant_no_call z.naming.structure (pos 1) (typed (Integer basic) quals)
one_no_call z (typed (Enum basic order) quals) = constant_no_call z.naming.structure (pos 1) (typed (Enum basic order) quals)
one_no_call z (typed (Pointer type) quals) = refl
one_no_call z (typed (Array type count) quals) = constant_no_call z.naming.structure (pos 1) (typed (Array type count) quals)
one_no_call z (typed (Struct id) quals) = constant_no_call z.naming.structure (pos 1) (typed (Struct id) quals)
one_no_call z (typed (Function result parameters is_variadic) quals) =
    constant_no_call z.naming.structure (pos 1) (typed (Function result parameters is_variadic) quals)

pub stepped_is : (goal : Goal) (z : Setting) (side : StepSide) (op : StepOp) (i : ℕ) (done object : CType) (p : Place) → PlaceIs p →
    FlatIs goal (f.stepped z side op i done object p)
stepped_is goal z Prefix op i done object p h =
    value_assigned_is goal z.naming i (value_in z object) p (s.pure (f.one z done) true) (f.by_operator z (f.step_operator op) done object)
    (operator_keeps z (f.step_operator op) done object) h (pure_is Anywhere (f.one z done) true (one_no_call z done))
stepped_is goal z Postfix op i done object p h =
    old_value_is goal z.naming i (value_in z object) p (λ old. f.by_operator z (f.step_operator op) done object old (f.one z done))
    (λ e k. operator_keeps z (f.step_operator op) done object e (f.one z done) k (one_no_call z done)) h

pub stepped_done_is : (z : Setting) (op : StepOp) (i : ℕ) (done object : CType) (p : Place) → PlaceIs p → DoneIs (f.stepped_done z op i done object p)
stepped_done_is z op i done object p h =
    assigned_is z.naming i p (s.pure (f.one z done) true) (f.by_operator z (f.step_operator op) done object)
    (operator_keeps z (f.step_operator op) done object) h (pure_is Anywhere (f.one z done) true (one_no_call z done))

-- ---- initial values

begins_by : (place : text.Expr) (g : Flat) (goal : Goal) → (goal ≡ Anywhere) ⊎ ((is_name place ≡ true) × (goal ≡ ToName)) → NoCall place → FlatIs goal g →
    DoneIs (f.begins place g)
begins_by place g goal (inl e) h m =
    and_flat g.steps (text.Assign place g.value) m.steps (assigned_flat place g.value h (subst (λ x. FlatIs x g) e m).value)
begins_by place g goal (inr (named, e)) h m =
    and_flat g.steps (text.Assign place g.value) m.steps (name_assigned_flat place g.value named h (subst (λ x. FlatIs x g) e m).value)

pub begins_is : (place : text.Expr) (g : Flat) → NoCall place → FlatIs (f.goal_of place) g → DoneIs (f.begins place g)
begins_is place g h m = begins_by place g (f.goal_of place) (goal_cases place) h m

pub then_is : (goal : Goal) (d : Done) (g : Flat) → DoneIs d → FlatIs goal g → FlatIs goal (f.then_flat d g)
then_is goal d g h m = record { steps = append_flat d.steps g.steps h m.steps; value = m.value }
