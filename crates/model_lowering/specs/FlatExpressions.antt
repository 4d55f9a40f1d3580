-- The expressions of a core in a text (ISO/IEC 9899:2024, 6.5): operands stand in their order, each effect is a step of its
-- own, and a value that a later step could change is kept in a temporary before it. Every value has the type that the text
-- writes for that of its expression.
use Rattle.std.specs.Prelude.{ℕ, Bool, true, false, ◌&&◌, List, [], ◌∷◌, ◌++◌, pos, if◌then◌else◌}
use Rattle.model_types.specs.declared.numbers.Basic.TheVariants as basic
use Rattle.model_types.specs.declared.numbers.BinOp.{BinOp}
use Rattle.model_types.specs.declared.numbers.BinOp.TheVariants.{Add, Sub, NotEqual}
use Rattle.model_types.specs.declared.operators.UnaryOp.{UnaryOp}
use Rattle.model_types.specs.declared.operators.UnaryOp.TheVariants.{Minus, Complement, Not}
use Rattle.model_types.specs.declared.operators.LogicOp.{LogicOp}
use Rattle.model_types.specs.declared.operators.LogicOp.TheVariants.{And, Or}
use Rattle.model_types.specs.declared.operators.StepOp.{StepOp}
use Rattle.model_types.specs.declared.operators.StepOp.TheVariants.{Increment, Decrement}
use Rattle.model_types.specs.declared.operators.StepSide.{StepSide}
use Rattle.model_types.specs.declared.operators.StepSide.TheVariants.{Prefix, Postfix}
use Rattle.model_types.specs.declared.marks.Origin.{Origin}
use Rattle.model_types.specs.declared.marks.Origin.TheVariants.{Written, Implied}
use Rattle.model_types.specs.Types.{CType, typed, Form, Void, Integer, Enum, Pointer, Array, form_of_type}
use Rattle.model_core.specs.CoreTypes.{type_of, object_type, address_type, unqualified, called_type, pointee, is_void}
use Rattle.model_core.specs.Types89 as written
use Rattle.model_core.specs.Types89.{Type89, int_type}
use Rattle.model_core.specs.Core as source
use Rattle.model_core.specs.Program89 as text
use Rattle.model_c89.specs.TargetTypes.{decayed}
use Rattle.model_c89.specs.TargetTypes as target
use Rattle.c_model.specs.WrittenType.{written_type, written_value}
use Rattle.c_model.specs.Renamed.{Naming}
use Rattle.model_lowering.specs.TextValues.{as_type, number, constant, converted, truth, promoted_type, is_open}
use Rattle.model_lowering.specs.Steps.{Setting, Done, Flat, Flats, Place, nothing, pure, with_value, without_value, behind, stats_of, temporary, past, past_both, two, before_others, call, put, assigned, value_assigned, old_value}
use Rattle.model_lowering.specs.PartPlaces.{member_name, part_place}

-- where a value goes: anywhere, or at once to a name, which may get that of a call
pub data Goal : Type 0 where
  Anywhere : Goal
  ToName : Goal

-- the type of a value in the text
abbrev pub value_in : Setting → CType → Type89
value_in s type = written_value s.naming.structure type

-- ---- names

-- an array of unknown length inside of the type, behind a pointer or in an element
abbrev pub is_open_inside : CType → Bool
is_open_inside (typed (Array element count) quals) = is_open element
is_open_inside type = is_open type

-- an object of type void, which is declared outside, is declared as one of type char
abbrev pub named_type : Setting → CType → Type89
named_type s (typed Void quals) = written.Based false written.Char
named_type s type = written_type s.naming.structure type

abbrev pub seen_as : Type89 → text.Expr → text.Expr
seen_as type object = text.Unary text.Deref (text.Cast (written.Pointer false type) (text.Unary text.AddressOf object))

-- an object by its name; its declaration may say more of arrays than the type that is used
abbrev pub named_object : Setting → (id : ℕ) → CType → Place
named_object s id type = record {
  steps = [];
  place = if is_open_inside type then seen_as (named_type s type) (text.Name (s.naming.declared id)) else text.Name (s.naming.declared id);
  type = named_type s type;
  is_constant = true;
  temporaries = [];
}

abbrev pub named_function : Setting → (id : ℕ) → CType → text.Expr
named_function s id type =
    if is_open type then text.Cast (written.Pointer false (written_type s.naming.structure type)) (text.Name (s.naming.declared id))
    else text.Name (s.naming.declared id)

-- ---- values of places

abbrev pub loaded : Place → Flat
loaded p = record { steps = p.steps; value = p.place; is_stable = false; temporaries = p.temporaries }

abbrev pub address : (is_open : Bool) → (have want : Type89) → text.Expr → text.Expr
address true have want place = text.Cast want (text.Unary text.AddressOf place)
address false have want place = as_type have want (text.Unary text.AddressOf place)

abbrev pub address_of : Setting → Origin → CType → Place → text.Expr
address_of s Written type p = address (is_open type) (written.Pointer false p.type) (value_in s (address_type Written type)) p.place
address_of s Implied type p = as_type (decayed p.type) (value_in s (address_type Implied type)) p.place

-- the address of an object, which a written `&` or an array gives
abbrev pub addressed : Setting → Origin → CType → Place → Flat
addressed s origin type p =
    record { steps = p.steps; value = address_of s origin type p; is_stable = p.is_constant; temporaries = p.temporaries }

-- an object that a pointer or index leads to; its address holds where that does
abbrev pub pointed : Setting → (pointer : CType) → Flat → Place
pointed s pointer f =
    record { steps = f.steps; place = f.value; type = target.pointee (value_in s pointer); is_constant = f.is_stable; temporaries = f.temporaries }

abbrev pub member_place : Setting → Form → (rank : ℕ) → CType → Place → Place
member_place s structure rank type p =
    record p { place = text.Dot p.place (member_name s.naming structure rank); type = written_type s.naming.structure type }

abbrev pub arrow_place : Setting → Form → (rank : ℕ) → CType → Flat → Place
arrow_place s structure rank type f = record {
  steps = f.steps;
  place = text.Arrow f.value (member_name s.naming structure rank);
  type = written_type s.naming.structure type;
  is_constant = f.is_stable;
  temporaries = f.temporaries;
}

-- ---- operators

abbrev pub prefix : UnaryOp → text.Prefix
prefix Minus = text.Minus
prefix Complement = text.Complement
prefix Not = text.Not

-- a step that gives a place a value
abbrev pub gives : text.Expr → text.Expr → List text.Stat
gives place value = text.Assign place value ∷ []

abbrev pub either : text.Expr → (first second : List text.Stat) → text.Stat
either condition first second = text.IfElse condition [] (stats_of first) [] (stats_of second)

abbrev pub is_not_zero : text.Expr → text.Expr
is_not_zero e = text.Binary NotEqual e (number 0)

-- `&&` and `||` where the second operand has steps: they are done only where it is evaluated
abbrev pub logic_step : LogicOp → (result first : text.Expr) → Flat → text.Stat
logic_step And result first g = either first (g.steps ++ gives result (is_not_zero g.value)) (gives result (number 0))
logic_step Or result first g = either first (gives result (number 1)) (g.steps ++ gives result (is_not_zero g.value))

abbrev pub logic_in_temporary : Naming → (i : ℕ) → LogicOp → Flat → Flat → Flat
logic_in_temporary n i op f g = record {
  steps = f.steps ++ logic_step op (temporary n i) f.value g ∷ [];
  value = temporary n i;
  is_stable = true;
  temporaries = f.temporaries ++ (g.temporaries ++ int_type ∷ []);
}

abbrev pub logic_plain : LogicOp → Flat → Flat → Flat
logic_plain op f g = record {
  steps = f.steps;
  value = text.Logic op f.value g.value;
  is_stable = f.is_stable && g.is_stable;
  temporaries = f.temporaries ++ g.temporaries;
}

abbrev pub logic_by : List text.Stat → Naming → (i : ℕ) → LogicOp → Flat → Flat → Flat
logic_by [] n i op f g = logic_plain op f g
logic_by (step ∷ steps) n i op f g = logic_in_temporary n (past_both i f.temporaries g.temporaries) op f g

abbrev pub logic : Naming → (i : ℕ) → LogicOp → Flat → Flat → Flat
logic n i op f g = logic_by g.steps n i op f g

-- the second operand's steps alone, where the first lets them be done
abbrev pub logic_done_by : List text.Stat → LogicOp → Flat → List text.Stat
logic_done_by [] op f = []
logic_done_by (step ∷ steps) And f = text.If f.value [] (stats_of (step ∷ steps)) ∷ []
logic_done_by (step ∷ steps) Or f = text.If (text.Unary text.Not f.value) [] (stats_of (step ∷ steps)) ∷ []

abbrev pub logic_done : LogicOp → Flat → Done → Done
logic_done op f d = record { steps = f.steps ++ logic_done_by d.steps op f; temporaries = f.temporaries ++ d.temporaries }

-- ---- choices

-- an operand of an integer type below int is promoted in a choice
abbrev pub chosen_type : CType → Type89 → Type89
chosen_type (typed (Integer basic) quals) type = promoted_type basic
chosen_type (typed (Enum basic order) quals) type = promoted_type basic
chosen_type _ type = type

abbrev pub three_types : Flat → Flat → Flat → List Type89
three_types h f g = h.temporaries ++ (f.temporaries ++ g.temporaries)

abbrev pub choice_plain : Setting → CType → Flat → Flat → Flat → Flat
choice_plain s type h f g = record {
  steps = h.steps;
  value = as_type (chosen_type type (value_in s type)) (value_in s type) (text.Choice h.value f.value g.value);
  is_stable = h.is_stable && (f.is_stable && g.is_stable);
  temporaries = three_types h f g;
}

abbrev pub choice_in_temporary : Setting → (i : ℕ) → CType → Flat → Flat → Flat → Flat
choice_in_temporary s i type h f g = record {
  steps = h.steps ++ either h.value (f.steps ++ gives (temporary s.naming i) f.value) (g.steps ++ gives (temporary s.naming i) g.value) ∷ [];
  value = temporary s.naming i;
  is_stable = true;
  temporaries = three_types h f g ++ value_in s type ∷ [];
}

abbrev pub choice_by : (first second : List text.Stat) → Setting → (i : ℕ) → CType → Flat → Flat → Flat → Flat
choice_by [] [] s i type h f g = choice_plain s type h f g
choice_by [] (step ∷ steps) s i type h f g = choice_in_temporary s (past i (three_types h f g)) type h f g
choice_by (step ∷ steps) others s i type h f g = choice_in_temporary s (past i (three_types h f g)) type h f g

abbrev pub choice : Setting → (i : ℕ) → CType → Flat → Flat → Flat → Flat
choice s i type h f g = choice_by f.steps g.steps s i type h f g

abbrev pub choice_done_by : (first second : List text.Stat) → text.Expr → List text.Stat
choice_done_by [] [] condition = []
choice_done_by (step ∷ steps) [] condition = text.If condition [] (stats_of (step ∷ steps)) ∷ []
choice_done_by [] (step ∷ steps) condition = text.If (text.Unary text.Not condition) [] (stats_of (step ∷ steps)) ∷ []
choice_done_by (first ∷ firsts) (second ∷ seconds) condition = either condition (first ∷ firsts) (second ∷ seconds) ∷ []

abbrev pub choice_done : Flat → Done → Done → Done
choice_done h d e =
    record { steps = h.steps ++ choice_done_by d.steps e.steps h.value; temporaries = h.temporaries ++ (d.temporaries ++ e.temporaries) }

-- ---- calls

abbrev pub called : Flat → Done
called c = record { steps = c.steps ++ text.Evaluate c.value ∷ []; temporaries = c.temporaries }

-- the value of a call that isn't one of bool; a name may get it at once
abbrev pub given_to : Goal → Setting → (i : ℕ) → CType → Flat → Flat
given_to ToName s i type c = c
given_to Anywhere s i type c = put s.naming i (value_in s type) c

-- a function of type void gives none; a bool that an outside function gives may be shown by any number
abbrev pub given_back : Goal → Setting → (i : ℕ) → CType → Flat → Flat
given_back goal s i (typed Void quals) c = without_value (called c)
given_back goal s i (typed (Integer basic.Bool) quals) c = with_value truth (put s.naming i (value_in s (typed (Integer basic.Bool) quals)) c)
given_back goal s i type c = given_to goal s i type c

-- ---- assignments

abbrev pub plainly : text.Expr → text.Expr → text.Expr
plainly place value = value

-- by an operator, which is done in one type on an object of another
abbrev pub by_operator : Setting → BinOp → (done object : CType) → text.Expr → text.Expr → text.Expr
by_operator s op done object place value =
    converted s.naming.structure done object (text.Binary op (converted s.naming.structure object done place) value)

abbrev pub step_operator : StepOp → BinOp
step_operator Increment = Add
step_operator Decrement = Sub

-- 1, by which an integer or a pointer is stepped
abbrev pub one : Setting → (done : CType) → text.Expr
one s (typed (Pointer type) quals) = number 1
one s type = constant s.naming.structure (pos 1) type

abbrev pub stepped : Setting → StepSide → StepOp → (i : ℕ) → (done object : CType) → Place → Flat
stepped s Prefix op i done object p =
    value_assigned s.naming i (value_in s object) p (pure (one s done) true) (by_operator s (step_operator op) done object)
stepped s Postfix op i done object p =
    old_value s.naming i (value_in s object) p (λ old. by_operator s (step_operator op) done object old (one s done))

abbrev pub stepped_done : Setting → StepOp → (i : ℕ) → (done object : CType) → Place → Done
stepped_done s op i done object p = assigned s.naming i p (pure (one s done) true) (by_operator s (step_operator op) done object)

-- a name may get the value of a call at once
abbrev pub goal_of : text.Expr → Goal
goal_of (text.Name name) = ToName
goal_of _ = Anywhere

-- a part of an object that gets its initial value
abbrev pub begins : text.Expr → Flat → Done
begins place f = record { steps = f.steps ++ gives place f.value; temporaries = f.temporaries }

abbrev pub of_place : Place → Done
of_place p = record { steps = p.steps; temporaries = p.temporaries }

-- the object of a literal, behind the steps that give it its values
abbrev pub made_place : Setting → (id : ℕ) → CType → Done → Place
made_place s id type d = record (named_object s id type) { steps = d.steps; temporaries = d.temporaries }

abbrev pub then_flat : Done → Flat → Flat
then_flat d f = record f { steps = d.steps ++ f.steps; temporaries = d.temporaries ++ f.temporaries }

-- ---- expressions, with temporaries from a number on

abbrev mutual
  -- with its value
  pub flat : Setting → Goal → (i : ℕ) → source.Expr → Flat
  flat s goal i (source.Constant value type mark) = pure (constant s.naming.structure value type) true
  flat s goal i (source.Load object mark) = loaded (placed s i object)
  flat s goal i (source.Address origin object mark) = addressed s origin (object_type object) (placed s i object)
  flat s goal i (source.FunctionRef id type by_name mark) = pure (named_function s id type) true
  flat s goal i (source.Unary op a mark) = with_value (text.Unary (prefix op)) (flat s Anywhere i a)
  flat s goal i (source.Binary op a b mark) =
      let f = flat s Anywhere i a in
      two s.naming i (value_in s (type_of a)) f (flat s Anywhere (past i f.temporaries) b) (text.Binary op)
  flat s goal i (source.Logic op a b mark) =
      let f = flat s Anywhere i a in logic s.naming i op f (flat s Anywhere (past i f.temporaries) b)
  flat s goal i (source.Choice c a b mark) =
      let h = flat s Anywhere i c in
      if is_void (type_of a)
      then (let d = dropped s (past i h.temporaries) a in
      without_value (choice_done h d (dropped s (past_both i h.temporaries d.temporaries) b)))
      else (let f = flat s Anywhere (past i h.temporaries) a in
      choice s i (type_of a) h f (flat s Anywhere (past_both i h.temporaries f.temporaries) b))
  flat s goal i (source.Convert origin type a mark) =
      if is_void type then without_value (dropped s i a) else with_value (converted s.naming.structure (type_of a) type) (flat s Anywhere i a)
  flat s goal i (source.Call function arguments mark) =
      let f = flat s Anywhere i function in
      given_back goal s i (called_type (form_of_type (type_of function)))
      (call s.naming i (value_in s (type_of function)) f (flats s (past i f.temporaries) arguments))
  flat s goal i (source.Assign source.Plain object value mark) =
      let p = placed s i object in
      value_assigned s.naming i (value_in s (object_type object)) p (flat s (goal_of p.place) (past i p.temporaries) value) plainly
  flat s goal i (source.Assign (source.Compound op type) object value mark) =
      let p = placed s i object in
      value_assigned s.naming i (value_in s (object_type object)) p (flat s Anywhere (past i p.temporaries) value)
      (by_operator s op type (unqualified (object_type object)))
  flat s goal i (source.Step op side type object mark) = stepped s side op i type (unqualified (object_type object)) (placed s i object)
  flat s goal i (source.MemberValue structure rank type name mark) =
      with_value (λ e. text.Dot e (member_name s.naming (form_of_type (type_of structure)) rank)) (flat s Anywhere i structure)
  flat s goal i (source.Comma a b mark) =
      let d = dropped s i a in then_flat d (flat s goal (past i d.temporaries) b)

  -- without its value
  pub dropped : Setting → (i : ℕ) → source.Expr → Done
  dropped s i (source.Constant value type mark) = nothing
  dropped s i (source.Load object mark) = of_place (placed s i object)
  dropped s i (source.Address origin object mark) = of_place (placed s i object)
  dropped s i (source.FunctionRef id type by_name mark) = nothing
  dropped s i (source.Unary op a mark) = dropped s i a
  dropped s i (source.Binary op a b mark) = let d = dropped s i a in behind d (dropped s (past i d.temporaries) b)
  dropped s i (source.Logic op a b mark) = let f = flat s Anywhere i a in logic_done op f (dropped s (past i f.temporaries) b)
  dropped s i (source.Choice c a b mark) =
      let h = flat s Anywhere i c in
      let d = dropped s (past i h.temporaries) a in choice_done h d (dropped s (past_both i h.temporaries d.temporaries) b)
  dropped s i (source.Convert origin type a mark) = dropped s i a
  dropped s i (source.Call function arguments mark) =
      let f = flat s Anywhere i function in
      called (call s.naming i (value_in s (type_of function)) f (flats s (past i f.temporaries) arguments))
  dropped s i (source.Assign source.Plain object value mark) =
      let p = placed s i object in assigned s.naming i p (flat s (goal_of p.place) (past i p.temporaries) value) plainly
  dropped s i (source.Assign (source.Compound op type) object value mark) =
      let p = placed s i object in
      assigned s.naming i p (flat s Anywhere (past i p.temporaries) value) (by_operator s op type (unqualified (object_type object)))
  dropped s i (source.Step op side type object mark) = stepped_done s op i type (unqualified (object_type object)) (placed s i object)
  dropped s i (source.MemberValue structure rank type name mark) = dropped s i structure
  dropped s i (source.Comma a b mark) = let d = dropped s i a in behind d (dropped s (past i d.temporaries) b)

  -- the object that an lvalue designates
  pub placed : Setting → (i : ℕ) → source.Lvalue → Place
  placed s i (source.Object id type mark) = named_object s id type
  placed s i (source.Deref pointer mark) = pointed s (type_of pointer) (with_value (text.Unary text.Deref) (flat s Anywhere i pointer))
  placed s i (source.Index is_second a b mark) =
      let f = flat s Anywhere i a in
      pointed s (if is_second then type_of b else type_of a)
      (two s.naming i (value_in s (type_of a)) f (flat s Anywhere (past i f.temporaries) b) text.Index)
  placed s i (source.Field structure rank type name mark) =
      member_place s (form_of_type (object_type structure)) rank type (placed s i structure)
  placed s i (source.Arrow pointer rank type name mark) =
      arrow_place s (form_of_type (pointee (form_of_type (type_of pointer)))) rank type (flat s Anywhere i pointer)
  placed s i (source.Literal origin id type values mark) =
      made_place s id type (initialised s (named_object s id type).place type i values)

  -- the values of arguments
  pub flats : Setting → (i : ℕ) → source.Exprs → Flats
  flats s i source.no_exprs = record { steps = []; values = []; temporaries = [] }
  flats s i (source.more_exprs e es) =
      let f = flat s Anywhere i e in before_others s.naming i (value_in s (type_of e)) f (flats s (past i f.temporaries) es)

  -- an object of a type gets initial values, each of which is stored at once
  pub initialised : Setting → (object : text.Expr) → CType → (i : ℕ) → source.Initials → Done
  initialised s object type i source.no_initials = nothing
  initialised s object type i (source.more_initials path offset part e others) =
      let place = part_place s object type path offset part in
      let d = begins place (flat s (goal_of place) i e) in
      behind d (initialised s object type (past i d.temporaries) others)
