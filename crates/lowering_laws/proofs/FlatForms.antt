-- Each form by which parts are put together makes flat steps of flat ones.
use Rattle.std.proofs.Common.{◌≡◌, ℕ, suc, nat_eq, ℤ, pos, negsuc, Bool, true, false, ◌||◌, ◌&&◌, List, [], ◌∷◌, ◌++◌, Option, Some, None, refl, sym, true≢false, if◌then◌else◌}
use Rattle.model_types.specs.declared.numbers.Basic.{Basic}
use Rattle.model_types.specs.declared.numbers.Basic.TheVariants as basic
use Rattle.model_types.specs.declared.numbers.BinOp.{BinOp}
use Rattle.model_types.specs.declared.numbers.BinOp.TheVariants.{Sub}
use Rattle.model_types.specs.declared.operators.LogicOp.{LogicOp}
use Rattle.model_types.specs.declared.operators.LogicOp.TheVariants.{And, Or}
use Rattle.model_types.specs.Types.{CType, typed, Form, Void, Integer, Enum, Pointer, Array, Struct, Function}
use Rattle.model_core.specs.Types89.{Type89}
use Rattle.model_core.specs.Program89 as text
use Rattle.model_c89.specs.Written89.{greatest}
use Rattle.model_c89.specs.Flat89.{NoCall, FlatStat, is_name, holds_call, hold_call}
use Rattle.model_c89.specs.TargetTypes.{basic_type}
use Rattle.c_model.specs.WrittenType.{StructNames, written_value}
use Rattle.c_model.specs.Renamed.{Naming}
use Rattle.model_lowering.specs.TextValues as v
use Rattle.model_lowering.specs.Steps as s
use Rattle.model_lowering.specs.Steps.{Setting, Done, Flat, Flats, Place, Kept, stats_of, exprs_of}
use Rattle.model_lowering.specs.FlatExpressions.{Goal, Anywhere, ToName}
use Rattle.lowering_laws.proofs.FlatParts.{neither, IsFor, for_any, assigned_flat, name_assigned_flat, AreFlat, append_flat, and_flat, FlatIs, KeptIs, FlatsAre, PlaceIs, DoneIs}

-- ---- values

pub either_no_call : (b : Bool) (x y : text.Expr) → NoCall x → NoCall y → NoCall (if b then x else y)
either_no_call true x y h k = h
either_no_call false x y h k = k

pub as_type_no_call : (have want : Type89) (e : text.Expr) → NoCall e → NoCall (v.as_type have want e)
as_type_no_call have want e h = either_no_call (v.same_type have want) e (text.Cast want e) h h

signed_no_call : (suffix : text.Suffix) (value : ℤ) → NoCall (v.signed suffix value)
signed_no_call suffix (pos n) = refl
signed_no_call suffix (negsuc n) =
    either_no_call (nat_eq n (greatest suffix))
    (text.Binary Sub (text.Unary text.Minus (text.Constant n suffix)) (text.Constant 1 suffix)) (text.Unary text.Minus (text.Constant (suc n) suffix))
    refl refl

integer_no_call : (basic : Basic) (value : ℤ) → NoCall (v.integer basic value)
integer_no_call basic value =
    as_type_no_call (v.promoted_type basic) (basic_type basic) (v.signed (v.letters basic) value) (signed_no_call (v.letters basic) value)

pub constant_no_call : (names : StructNames) (value : ℤ) (type : CType) → NoCall (v.constant names value type)
constant_no_call names value (typed Void quals) = refl
constant_no_call names value (typed (Integer basic) quals) = integer_no_call basic value
constant_no_call names value (typed (Enum basic order) quals) = integer_no_call basic value
constant_no_call names value (typed (Pointer type) quals) = refl
constant_no_call names value (typed (Array type count) quals) = refl
constant_no_call names value (typed (Struct id) quals) = refl
constant_no_call names value (typed (Function result parameters is_variadic) quals) = refl

pub truth_no_call : (e : text.Expr) → NoCall e → NoCall (v.truth e)
truth_no_call e h = neither (holds_call e) false h refl

pointer_no_call : (from_integer : Bool) (have want : Type89) (e : text.Expr) → NoCall e → NoCall (v.pointer_of from_integer have want e)
pointer_no_call true have want e h = refl
pointer_no_call false have want e h = as_type_no_call have want e h

as_written : (names : StructNames) (from to : CType) (e : text.Expr) → NoCall e →
    NoCall (v.as_type (written_value names from) (written_value names to) e)
as_written names from to e h = as_type_no_call (written_value names from) (written_value names to) e h

pub converted_no_call : (names : StructNames) (from to : CType) (e : text.Expr) → NoCall e → NoCall (v.converted names from to e)
converted_no_call names from (typed Void quals) e h = as_written names from (typed Void quals) e h
converted_no_call names from (typed (Integer basic.Bool) quals) e h = truth_no_call e h
converted_no_call names from (typed (Integer basic.Char) quals) e h = as_written names from (typed (Integer basic.Char) quals) e h
converted_no_call names from (typed (Integer basic.SignedChar) quals) e h = as_written names from (typed (Integer basic.SignedChar) quals) e h
converted_no_call names from (typed (Integer basic.UnsignedChar) quals) e h = as_written names from (typed (Integer basic.UnsignedChar) quals) e h
converted_no_call names from (typed (Integer basic.Short) quals) e h = as_written names from (typed (Integer basic.Short) quals) e h
converted_no_call names from (typed (Integer basic.UnsignedShort) quals) e h = as_written names from (typed (Integer basic.UnsignedShort) quals) e h
converted_no_call names from (typed (Integer basic.Int) quals) e h = as_written names from (typed (Integer basic.Int) quals) e h
converted_no_call names from (typed (Integer basic.Unsigned) quals) e h = as_written names from (typed (Integer basic.Unsigned) quals) e h
converted_no_call names from (typed (Integer basic.Long) quals) e h = as_written names from (typed (Integer basic.Long) quals) e h
converted_no_call names from (typed (Integer basic.UnsignedLong) quals) e h = as_written names from (typed (Integer basic.UnsignedLong) quals) e h
converted_no_call names from (typed (Integer basic.LongLong) quals) e h = as_written names from (typed (Integer basic.LongLong) quals) e h
converted_no_call names from (typed (Integer basic.UnsignedLongLong) quals) e h = as_written names from (typed (Integer basic.UnsignedLongLong) quals) e h
converted_no_call names from (typed (Enum basic order) quals) e h = as_written names from (typed (Enum basic order) quals) e h
converted_no_call names from (typed (Pointer type) quals) e h = pointer_no_call (v.is_integer from) (written_value names from) (written_value names (typed (Pointer type) quals)) e h
converted_no_call names from (typed (Array type count) quals) e h = as_written names from (typed (Array type count) quals) e h
converted_no_call names from (typed (Struct id) quals) e h = as_written names from (typed (Struct id) quals) e h
converted_no_call names from (typed (Function result parameters is_variadic) quals) e h = as_written names from (typed (Function result parameters is_variadic) quals) e h

-- ---- parts

pub pure_is : (goal : Goal) (value : text.Expr) (is_stable : Bool) → NoCall value → FlatIs goal (s.pure value is_stable)
pure_is goal value is_stable h = record { steps = tt; value = for_any goal value h }

pub with_value_is : (goal : Goal) (made : text.Expr → text.Expr) (f : Flat) → ((e : text.Expr) → NoCall e → NoCall (made e)) → FlatIs Anywhere f →
    FlatIs goal (s.with_value made f)
with_value_is goal made f keeps h = record { steps = h.steps; value = for_any goal (made f.value) (keeps f.value h.value) }

pub without_value_is : (goal : Goal) (d : Done) → DoneIs d → FlatIs goal (s.without_value d)
without_value_is goal d h = record { steps = h; value = for_any goal (text.Constant 0 text.Plain) refl }

pub behind_is : (d e : Done) → DoneIs d → DoneIs e → DoneIs (s.behind d e)
behind_is d e h k = append_flat d.steps e.steps h k

-- ---- values and addresses that are kept

temporary_step : (n : Naming) (i : ℕ) (e : text.Expr) → NoCall e → FlatStat (text.Assign (s.temporary n i) e)
temporary_step n i e h = assigned_flat (s.temporary n i) e refl h

kept_if_is : (b : Bool) (n : Naming) (i : ℕ) (type : Type89) (f : Flat) (others : List text.Stat) → FlatIs Anywhere f →
    KeptIs (s.kept_if b n i type f others)
kept_if_is true n i type f others h = record { steps = h.steps; value = h.value }
kept_if_is false n i type f [] h = record { steps = h.steps; value = h.value }
kept_if_is false n i type f (step ∷ steps) h = record {
  steps = and_flat f.steps (text.Assign (s.temporary n i) f.value) h.steps (temporary_step n i f.value h.value);
  value = refl;
}

pub kept_is : (n : Naming) (i : ℕ) (type : Type89) (f : Flat) (others : List text.Stat) → FlatIs Anywhere f → KeptIs (s.kept n i type f others)
kept_is n i type f others h = kept_if_is f.is_stable n i type f others h

kept_place_if_is : (b : Bool) (n : Naming) (i : ℕ) (p : Place) (others : List text.Stat) → PlaceIs p → KeptIs (s.kept_place_if b n i p others)
kept_place_if_is true n i p others h = record { steps = h.steps; value = h.place }
kept_place_if_is false n i p [] h = record { steps = h.steps; value = h.place }
kept_place_if_is false n i p (step ∷ steps) h = record {
  steps = and_flat p.steps (text.Assign (s.temporary n i) (text.Unary text.AddressOf p.place)) h.steps
      (temporary_step n i (text.Unary text.AddressOf p.place) h.place);
  value = refl;
}

pub kept_place_is : (n : Naming) (i : ℕ) (p : Place) (others : List text.Stat) → PlaceIs p → KeptIs (s.kept_place n i p others)
kept_place_is n i p others h = kept_place_if_is p.is_constant n i p others h

-- ---- parts one behind the other

abbrev pub Keeps : (text.Expr → text.Expr → text.Expr) → Type 0
Keeps made = (a b : text.Expr) → NoCall a → NoCall b → NoCall (made a b)

two_of_is : (goal : Goal) (f g : Flat) (k : Kept) (made : text.Expr → text.Expr → text.Expr) → Keeps made → KeptIs k → FlatIs Anywhere g →
    FlatIs goal (s.two_of f g k made)
two_of_is goal f g k made keeps h m = record {
  steps = append_flat k.steps g.steps h.steps m.steps;
  value = for_any goal (made k.value g.value) (keeps k.value g.value h.value m.value);
}

pub two_is : (goal : Goal) (n : Naming) (i : ℕ) (type : Type89) (f g : Flat) (made : text.Expr → text.Expr → text.Expr) → Keeps made →
    FlatIs Anywhere f → FlatIs Anywhere g → FlatIs goal (s.two n i type f g made)
two_is goal n i type f g made keeps h m =
    two_of_is goal f g (s.kept n (s.past_both i f.temporaries g.temporaries) type f g.steps) made keeps
    (kept_is n (s.past_both i f.temporaries g.temporaries) type f g.steps h) m

first_is : (f : Flat) (gs : Flats) (k : Kept) → KeptIs k → FlatsAre gs → FlatsAre (s.first_and_others f gs k)
first_is f gs k h m = record {
  steps = append_flat k.steps gs.steps h.steps m.steps;
  values = neither (holds_call k.value) (hold_call (exprs_of gs.values)) h.value m.values;
}

pub before_others_are : (n : Naming) (i : ℕ) (type : Type89) (f : Flat) (gs : Flats) → FlatIs Anywhere f → FlatsAre gs →
    FlatsAre (s.before_others n i type f gs)
before_others_are n i type f gs h m =
    first_is f gs (s.kept n (s.past_both i f.temporaries gs.temporaries) type f gs.steps)
    (kept_is n (s.past_both i f.temporaries gs.temporaries) type f gs.steps h) m

call_of_is : (f : Flat) (gs : Flats) (k : Kept) → KeptIs k → FlatsAre gs → FlatIs ToName (s.call_of f gs k)
call_of_is f gs k h m = record { steps = append_flat k.steps gs.steps h.steps m.steps; value = (h.value, m.values) }

-- a call that may stand alone or go to a name
pub call_is : (n : Naming) (i : ℕ) (type : Type89) (f : Flat) (gs : Flats) → FlatIs Anywhere f → FlatsAre gs → FlatIs ToName (s.call n i type f gs)
call_is n i type f gs h m =
    call_of_is f gs (s.kept n (s.past_both i f.temporaries gs.temporaries) type f gs.steps)
    (kept_is n (s.past_both i f.temporaries gs.temporaries) type f gs.steps h) m

pub put_is : (goal : Goal) (n : Naming) (i : ℕ) (type : Type89) (f : Flat) → FlatIs ToName f → FlatIs goal (s.put n i type f)
put_is goal n i type f h = record {
  steps = and_flat f.steps (text.Assign (s.temporary n (s.past i f.temporaries)) f.value) h.steps
      (name_assigned_flat (s.temporary n (s.past i f.temporaries)) f.value refl refl h.value);
  value = for_any goal (s.temporary n (s.past i f.temporaries)) refl;
}

-- ---- assignments

pub assigned_to_is : (p : Place) (f : Flat) (k : Kept) (made : text.Expr → text.Expr → text.Expr) → KeptIs k → AreFlat f.steps →
    FlatStat (text.Assign k.value (made k.value f.value)) → DoneIs (s.assigned_to p f k made)
assigned_to_is p f k made h m step =
    append_flat k.steps (f.steps ++ text.Assign k.value (made k.value f.value) ∷ []) h.steps
    (and_flat f.steps (text.Assign k.value (made k.value f.value)) m step)

-- by an operator
pub assigned_is : (n : Naming) (i : ℕ) (p : Place) (f : Flat) (made : text.Expr → text.Expr → text.Expr) → Keeps made → PlaceIs p →
    FlatIs Anywhere f → DoneIs (s.assigned n i p f made)
assigned_is n i p f made keeps h m =
    let k = s.kept_place n (s.past_both i p.temporaries f.temporaries) p f.steps in
    let q = kept_place_is n (s.past_both i p.temporaries f.temporaries) p f.steps h in
    assigned_to_is p f k made q m.steps (assigned_flat k.value (made k.value f.value) q.value (keeps k.value f.value q.value m.value))

pub value_assigned_to_is : (goal : Goal) (n : Naming) (j : ℕ) (type : Type89) (p : Place) (f : Flat) (k : Kept) (made : text.Expr → text.Expr → text.Expr) →
    Keeps made → KeptIs k → FlatIs Anywhere f → FlatIs goal (s.value_assigned_to n j type p f k made)
value_assigned_to_is goal n j type p f k made keeps h m = record {
  steps = append_flat k.steps (f.steps ++ text.Assign (s.temporary n j) (made k.value f.value) ∷ text.Assign k.value (s.temporary n j) ∷ []) h.steps
      (append_flat f.steps (text.Assign (s.temporary n j) (made k.value f.value) ∷ text.Assign k.value (s.temporary n j) ∷ []) m.steps (
        temporary_step n j (made k.value f.value) (keeps k.value f.value h.value m.value),
        (assigned_flat k.value (s.temporary n j) h.value refl, tt),
      ));
  value = for_any goal (s.temporary n j) refl;
}

pub old_value_is : (goal : Goal) (n : Naming) (i : ℕ) (type : Type89) (p : Place) (made : text.Expr → text.Expr) →
    ((e : text.Expr) → NoCall e → NoCall (made e)) → PlaceIs p → FlatIs goal (s.old_value n i type p made)
old_value_is goal n i type p made keeps h = record {
  steps = append_flat p.steps
      (text.Assign (s.temporary n (s.past i p.temporaries)) p.place ∷ text.Assign p.place (made (s.temporary n (s.past i p.temporaries))) ∷ []) h.steps (
        temporary_step n (s.past i p.temporaries) p.place h.place,
        (assigned_flat p.place (made (s.temporary n (s.past i p.temporaries))) h.place (keeps (s.temporary n (s.past i p.temporaries)) refl), tt),
      );
  value = for_any goal (s.temporary n (s.past i p.temporaries)) refl;
}
