-- What the rules of the other expressions make stands where their operands do.
use Rattle.std.proofs.Common.{◌≡◌, ◌∙◌, ap, sym, refl, ℕ, suc, ◌+◌, ℤ, pos, Bool, true, false, ◌&&◌, not}
use Rattle.std.proofs.Common.{if◌then◌else◌, List, [], ◌∷◌, length, Option, Some, None, Result, Ok, Err, slice_get, is_some, ◌<◌, arith}
use Rattle.std.specs.Result.{IfOk}
use Rattle.std.proofs.lemmas.Bool.{and_parts, and_from, not_from_false}
use Rattle.cake_base.specs.declared.places.Place.{Place}
use Rattle.cake_base.specs.declared.rules.Fault.{Fault}
use Rattle.model_types.specs.declared.numbers.Basic.{Basic}
use Rattle.model_types.specs.declared.numbers.Basic.TheVariants as basic
use Rattle.model_types.specs.declared.numbers.BinOp.{BinOp}
use Rattle.model_types.specs.declared.marks.Mark.{Mark}
use Rattle.model_types.specs.declared.marks.Origin.TheVariants.{Written, Implied}
use Rattle.model_types.specs.Types.{CType, typed, Void, Integer, Enum, Pointer, Array, Struct, Function, Types, no_types, more_types, form_of_type, quals_of_type}
use Rattle.model_types.specs.Structures.{Member, Structure, members_of}
use Rattle.model_types.specs.Layout.{is_complete, members_of_form, size_limit}
use Rattle.model_types.specs.Conversions.{is_shift, is_comparison}
use Rattle.model_types.specs.Texts.{same_text}
use Rattle.model_grammar.specs.declared.syntax.Name.{Name}
use Rattle.model_core.specs.CoreTypes.{type_of, object_type, unqualified, pointee, is_pointer, is_void}
use Rattle.model_core.specs.SameTypes.{is_integer, same_type, same_value_type}
use Rattle.model_core.specs.TypedParts.{is_array, is_struct, is_scalar, is_function_pointer, is_object_pointer}
use Rattle.model_core.specs.TypedExpr.{form_of, object_form}
use Rattle.model_core.specs.TypedScope.{Scope, object_is, is_automatic, expr_stands, lvalue_stands, exprs_stand, can_move, call_is_usable, assigned_is}
use Rattle.model_core.specs.PossibleTypes.{is_possible, are_possible, is_value_form}
use Rattle.model_core.specs.MemberTypes.{member_type, member_in, has_type, member_is, has_value_type, member_value_is, is_const_somewhere}
use Rattle.model_core.specs.SourceMarks.{expr_mark}
use Rattle.model_core.specs.Core as unit
use Rattle.model_checking.specs.State.{Use, State, Both, unless}
use Rattle.model_checking.specs.Meanings.{Meaning, a_place, a_value, a_function, a_target, Operand}
use Rattle.model_checking.specs.Faults.{wants, or_fault}
use Rattle.model_checking.specs.MadeCore.{operand, value_of, object_value, meaning_type, integer_type, converted, promoted_value, common_type, are_integers, used_fault, unread_fault}
use Rattle.model_checking.specs.Conversion.{may_become, keeps_qualifiers, passed_fault, passed}
use Rattle.model_checking.specs.HeldValues.{held, with_held}
use Rattle.model_checking.specs.UnaryRules.{is_modifiable, of_object}
use Rattle.model_checking.specs.PointerRules.{points_to_object, may_be_added}
use Rattle.model_checking.specs.CastRules.{may_be_cast, cast}
use Rattle.model_checking.specs.CallRules.{parameters_in, is_variadic_in, is_count, call_fault, promoted_argument, argument, call}
use Rattle.model_checking.specs.AssignRules.{assigned, assign, may_be_assigned_by, assign_by_fault, done_type, done_value, assigned_by, assign_by}
use Rattle.model_checking.specs.ChoiceRules.{condition_fault, branch_fault, branches_agree, are_void_or_struct, branch_type, choice, comma_left, comma}
use Rattle.model_checking.specs.MemberRules.{Ranked, ranked_from, ranked_in, member_of, field, member_as, member, arrow_place, arrow}
use Rattle.model_checking.specs.Literals.{number, text_type, text}
use Rattle.model_checking.specs.SizeRules.{measured}
use Rattle.typed_rule_laws.specs.TypedMeanings.{is_typed_value, is_typed_meaning, is_typed_operand}
use Rattle.typed_rule_laws.specs.TypedArguments.{exprs_count}
use Rattle.typed_rule_laws.specs.StandingMeanings.{meaning_stands, operand_stands, has_automatic, is_kept, GivesStanding}
use Rattle.typed_rule_laws.proofs.TypeForms.{type_self, form_self, unqualified_possible}
use Rattle.typed_rule_laws.proofs.Values.{value_parts, object_parts}
use Rattle.typed_rule_laws.proofs.Outcomes.{where_wanted, where_none, neither, wanted, used}
use Rattle.typed_rule_laws.proofs.UnaryForms.{function_pointer_pointer, object_pointer_pointer, place_object, Modifiable, modifiable}
use Rattle.typed_rule_laws.proofs.AssignForms.{assign_parts, added_right}
use Rattle.typed_rule_laws.proofs.MemberForms.{none_ranked}
use Rattle.typed_rule_laws.proofs.CastForms.{read_operand}
use Rattle.typed_rule_laws.proofs.ChoiceForms.{branches_by}
use Rattle.typed_rule_laws.proofs.ConstantForms.{text_possible}
use Rattle.typed_rule_laws.proofs.StandingValues.{operand_value_stands, scalar_stands, integer_stands, pointer_stands, converted_stands, promoted_stands}
use Rattle.typed_rule_laws.proofs.StandingOperators.{Stands, object_can_move}

-- ---- an operand whose value may be void

read_by : (s : Scope) (object : unit.Lvalue) (mark : Mark) (first : Place) (b : Bool) → is_complete s.core.structs (object_type object) ≡ b → lvalue_stands s object ≡ true →
    (if (if b then false else true) then used_fault s.core.structs (record { value = unit.Load object mark; first = first }) else None) ≡ None →
    expr_stands s (unit.Load object mark) ≡ true
read_by s object mark first true c h n = and_from (lvalue_stands s object) (is_complete s.core.structs (object_type object)) h c
read_by s object mark first false c h n =
    operand_value_stands s (unit.Load object mark) h (used s.core.structs (record { value = unit.Load object mark; first = first }) n).complete

read_value : (s : Scope) (e : unit.Expr) (place : Place) → operand_stands s e ≡ true → unread_fault s.core.structs (record { value = e; first = place }) ≡ None →
    expr_stands s e ≡ true
read_value s (unit.Load object mark) place h n = read_by s object mark place (is_complete s.core.structs (object_type object)) refl h n
read_value s (unit.Constant value type mark) place h n = h
read_value s (unit.Address origin object mark) place h n = h
read_value s (unit.FunctionRef id type by_name mark) place h n = h
read_value s (unit.Unary o operand mark) place h n = h
read_value s (unit.Binary o left right mark) place h n = h
read_value s (unit.Logic o left right mark) place h n = h
read_value s (unit.Choice condition first second mark) place h n = h
read_value s (unit.Convert origin type operand mark) place h n = h
read_value s (unit.Call function arguments mark) place h n = h
read_value s (unit.Assign assignment object value mark) place h n = h
read_value s (unit.Step o side type object mark) place h n = h
read_value s (unit.MemberValue structure rank type name mark) place h n = h
read_value s (unit.Comma first second mark) place h n = h

read_stands : (s : Scope) (o : Operand) → operand_stands s o.value ≡ true → unread_fault s.core.structs o ≡ None → expr_stands s o.value ≡ true
read_stands s o h n = read_value s o.value o.first h n

-- ---- casts and the comma

pub cast_stands : (s : Scope) (mark : Mark) (type : CType) (o : Operand) → is_possible s.core.structs type ≡ true → operand_stands s o.value ≡ true →
    GivesStanding s (cast s.core.structs mark type o)
cast_stands s mark type o p h =
    let made : Result Meaning Fault = Ok (a_value (unit.Convert Written (unqualified type) o.value mark)) in
    where_wanted (Stands s) (may_be_cast type o.value) mark.at 18 (unless (unread_fault s.core.structs o) made) (λ w.
    where_none (Stands s) (unread_fault s.core.structs o) made (λ n.
    and_from (is_possible s.core.structs (unqualified type)) (expr_stands s o.value) (unqualified_possible s.core.structs type ∙ p) (read_stands s o h n)))

pub comma_stands : (s : Scope) (mark : Mark) (a b : Operand) → operand_stands s a.value ≡ true → operand_stands s b.value ≡ true →
    GivesStanding s (comma s.core.structs mark a b)
comma_stands s mark a b ha hb =
    where_none (Stands s) (or_fault (comma_left s.core.structs a) (unread_fault s.core.structs b)) (Ok (a_value (unit.Comma a.value b.value mark))) (λ n.
    let faults = neither (comma_left s.core.structs a) (unread_fault s.core.structs b) n in
    and_from (expr_stands s a.value) (expr_stands s b.value) (read_stands s a ha faults.first) (read_stands s b hb faults.second))

-- ---- what is given, arguments and calls

pub passed_stands : (s : Scope) (first : Place) (type : CType) (e : unit.Expr) → is_possible s.core.structs type ≡ true → operand_stands s e ≡ true →
    IfOk (passed s.core.structs first type e) (λ given. expr_stands s given ≡ true)
passed_stands s first type e p h =
    let structs = s.core.structs in
    let whole : Operand = record { value = e; first = first } in
    where_none (λ given. expr_stands s given ≡ true) (passed_fault structs first type e) (Ok (converted type e)) (λ n.
    let fits = neither (wants (may_become type e) first 16) (or_fault (wants (keeps_qualifiers type e) first 17) (used_fault structs whole)) n in
    let behind = neither (wants (keeps_qualifiers type e) first 17) (used_fault structs whole) fits.second in
    converted_stands s type e p (operand_value_stands s e h (used structs whole behind.second).complete))

extra_by : (s : Scope) (e : unit.Expr) (b : Bool) → expr_stands s e ≡ true → expr_stands s (if b then promoted_value e else e) ≡ true
extra_by s e true h = promoted_stands s e h
extra_by s e false h = h

pub argument_stands : (s : Scope) (parameters : Types) (o : Operand) → are_possible s.core.structs parameters ≡ true → operand_stands s o.value ≡ true →
    IfOk (argument s.core.structs parameters o) (λ e. expr_stands s e ≡ true)
argument_stands s no_types o p h =
    where_none (λ e. expr_stands s e ≡ true) (used_fault s.core.structs o) (Ok (promoted_argument o.value)) (λ n.
    extra_by s o.value (is_integer (form_of o.value)) (operand_value_stands s o.value h (used s.core.structs o n).complete))
argument_stands s (more_types type types) o p h =
    let structs = s.core.structs in
    passed_stands s o.first type o.value
    (and_parts (is_possible structs type) (is_value_form (form_of_type type))
    (and_parts (is_possible structs type && is_value_form (form_of_type type)) (not (is_void type))
    (and_parts (is_possible structs type && is_value_form (form_of_type type) && not (is_void type)) (are_possible structs types) p).0).0).0 h

pub call_stands : (s : Scope) (mark : Mark) (at : Place) (function : Operand) (es : unit.Exprs) → operand_stands s function.value ≡ true → exprs_stand s es ≡ true →
    call_fault s.core.structs at function (exprs_count es) ≡ None → meaning_stands s (call mark function es) ≡ true
call_stands s mark at function es h values n =
    let f = form_of function.value in
    let target = form_of_type (pointee f) in
    let usable = wants (call_is_usable s.core.structs target) function.first 22 in
    let counted = wants (is_count (parameters_in target) (is_variadic_in target) (exprs_count es)) at 15 in
    let first = neither (wants (is_function_pointer f) function.first 14) (or_fault usable counted) n in
    let second = neither usable counted first.second in
    let pointer = function_pointer_pointer f (wanted (is_function_pointer f) function.first 14 first.first) in
    and_from (expr_stands s function.value && exprs_stand s es) (call_is_usable s.core.structs target)
    (and_from (expr_stands s function.value) (exprs_stand s es) (pointer_stands s function.value h pointer) values)
    (wanted (call_is_usable s.core.structs target) function.first 22 second.first)

-- ---- assignments

assigned_stands : (s : Scope) (mark : Mark) (object : unit.Lvalue) (known : Option ℤ) (given : Result unit.Expr Fault) → lvalue_stands s object ≡ true →
    Modifiable s.core.structs object → IfOk given (λ e. expr_stands s e ≡ true) → GivesStanding s (assigned mark (a_place object known) given)
assigned_stands s mark object known (Ok e) h changed given =
    and_from (lvalue_stands s object && expr_stands s e) (assigned_is s.core.structs unit.Plain object) (and_from (lvalue_stands s object) (expr_stands s e) h given)
    (and_from (is_complete s.core.structs (object_type object)) (not (is_const_somewhere s.core.structs (object_type object))) changed.complete
    (not_from_false (is_const_somewhere s.core.structs (object_type object)) changed.not_const))
assigned_stands s mark object known (Err fault) h changed given = tt

pub assign_stands : (s : Scope) (mark : Mark) (left : Meaning) (right : Operand) → is_typed_meaning s.core.structs left ≡ true → meaning_stands s left ≡ true →
    operand_stands s right.value ≡ true → GivesStanding s (assign s.core.structs mark left right)
assign_stands s mark (a_place object known) right t h v =
    let given = passed s.core.structs right.first (object_type object) right.value in
    let whole = place_object s.core.structs object known t in
    where_wanted (Stands s) (is_modifiable s.core.structs (a_place object known)) mark.at 10 (assigned mark (a_place object known) given) (λ w.
    assigned_stands s mark object known given h (modifiable s.core.structs object known w)
    (passed_stands s right.first (object_type object) right.value (object_parts s.core.structs object whole).possible v))
assign_stands s mark (a_value value) right t h v = tt
assign_stands s mark (a_function id type by_name at) right t h v = tt
assign_stands s mark (a_target pointer) right t h v = tt

done_stands : (s : Scope) (a b : unit.Expr) (shifts : Bool) → expr_stands s b ≡ true → expr_stands s (if shifts then promoted_value b else converted (common_type a b) b) ≡ true
done_stands s a b true h = promoted_stands s b h
done_stands s a b false h = converted_stands s (common_type a b) b refl h

compound_by : (s : Scope) (o : BinOp) (mark : Mark) (a b : unit.Expr) (object : unit.Lvalue) (pointer : Bool) → lvalue_stands s object ≡ true → expr_stands s b ≡ true →
    can_move s.core.structs (object_form object) ≡ true →
    expr_stands s (if pointer then unit.Assign (unit.Compound o (unqualified (object_type object))) object b mark
    else unit.Assign (unit.Compound o (done_type o a b)) object (done_value o a b) mark) ≡ true
compound_by s o mark a b object true h v m =
    and_from (lvalue_stands s object && expr_stands s b) (can_move s.core.structs (object_form object)) (and_from (lvalue_stands s object) (expr_stands s b) h v) m
compound_by s o mark a b object false h v m =
    and_from (lvalue_stands s object && expr_stands s (done_value o a b)) (can_move s.core.structs (object_form object))
    (and_from (lvalue_stands s object) (expr_stands s (done_value o a b)) h (done_stands s a b (is_shift o) v)) m

compound_stands : (s : Scope) (o : BinOp) (mark : Mark) (first : Place) (object : unit.Lvalue) (known : Option ℤ) (right : Operand) → lvalue_stands s object ≡ true →
    operand_stands s right.value ≡ true → may_be_assigned_by o (operand first (a_place object known)) right ≡ true →
    assign_by_fault s.core.structs mark (a_place object known) (operand first (a_place object known)) right ≡ None →
    expr_stands s (assigned_by o mark (value_of (a_place object known)) right.value object) ≡ true
compound_stands s o mark first object known right h v may n =
    let structs = s.core.structs in
    let parts = assign_parts structs mark (a_place object known) (operand first (a_place object known)) right n in
    let changed = modifiable structs object known parts.modified in
    let operator = and_parts (not (is_comparison o)) (may_be_added o (form_of (object_value object known)) (form_of right.value)) may in
    let integer = added_right o (form_of (object_value object known)) (form_of right.value) operator.1 parts.not_pointer in
    compound_by s o mark (object_value object known) right.value object (is_pointer (object_form object)) h (integer_stands s right.value v integer)
    (object_can_move structs first object known changed.not_array parts.moves)

pub assign_by_stands : (s : Scope) (o : BinOp) (mark : Mark) (first : Place) (left : Meaning) (right : Operand) → meaning_stands s left ≡ true →
    operand_stands s right.value ≡ true → GivesStanding s (assign_by s.core.structs o mark first left right)
assign_by_stands s o mark first (a_place object known) right h v =
    let left = a_place object known in
    let made : Result Meaning Fault = Ok (a_value (assigned_by o mark (value_of left) right.value object)) in
    where_wanted (Stands s) (may_be_assigned_by o (operand first left) right) mark.at 9 (unless (assign_by_fault s.core.structs mark left (operand first left) right) made) (λ w.
    where_none (Stands s) (assign_by_fault s.core.structs mark left (operand first left) right) made (λ n. compound_stands s o mark first object known right h v w n))
assign_by_stands s o mark first (a_value value) right h v =
    let left = a_value value in
    where_wanted (Stands s) (may_be_assigned_by o (operand first left) right) mark.at 9
    (unless (assign_by_fault s.core.structs mark left (operand first left) right) (of_object mark.at left (λ object. assigned_by o mark (value_of left) right.value object))) (λ w.
    where_none (Stands s) (assign_by_fault s.core.structs mark left (operand first left) right)
    (of_object mark.at left (λ object. assigned_by o mark (value_of left) right.value object)) (λ n. tt))
assign_by_stands s o mark first (a_function id type by_name at) right h v =
    let left = a_function id type by_name at in
    where_wanted (Stands s) (may_be_assigned_by o (operand first left) right) mark.at 9
    (unless (assign_by_fault s.core.structs mark left (operand first left) right) (of_object mark.at left (λ object. assigned_by o mark (value_of left) right.value object))) (λ w.
    where_none (Stands s) (assign_by_fault s.core.structs mark left (operand first left) right)
    (of_object mark.at left (λ object. assigned_by o mark (value_of left) right.value object)) (λ n. tt))
assign_by_stands s o mark first (a_target pointer) right h v =
    let left = a_target pointer in
    where_wanted (Stands s) (may_be_assigned_by o (operand first left) right) mark.at 9
    (unless (assign_by_fault s.core.structs mark left (operand first left) right) (of_object mark.at left (λ object. assigned_by o mark (value_of left) right.value object))) (λ w.
    where_none (Stands s) (assign_by_fault s.core.structs mark left (operand first left) right)
    (of_object mark.at left (λ object. assigned_by o mark (value_of left) right.value object)) (λ n. tt))

-- ---- `?:`

-- a value in a type stands, where it is typed there
typed_stands_by : (s : Scope) (type : CType) (e : unit.Expr) (b : Bool) → is_typed_value s.core.structs (if b then e else unit.Convert Implied (unqualified type) e (expr_mark e)) ≡ true →
    expr_stands s e ≡ true → expr_stands s (if b then e else unit.Convert Implied (unqualified type) e (expr_mark e)) ≡ true
typed_stands_by s type e true t h = h
typed_stands_by s type e false t h =
    and_from (is_possible s.core.structs (unqualified type)) (expr_stands s e)
    (value_parts s.core.structs (unit.Convert Implied (unqualified type) e (expr_mark e)) t).possible h

typed_stands : (s : Scope) (type : CType) (e : unit.Expr) → is_typed_value s.core.structs (converted type e) ≡ true → expr_stands s e ≡ true → expr_stands s (converted type e) ≡ true
typed_stands s type e t h = typed_stands_by s type e (same_value_type type (type_of e)) t h

pub choice_stands : (s : Scope) (mark : Mark) (c a b : Operand) → is_typed_operand s.core.structs a.value ≡ true → is_typed_operand s.core.structs b.value ≡ true →
    operand_stands s c.value ≡ true → operand_stands s a.value ≡ true → operand_stands s b.value ≡ true → GivesStanding s (choice s.core.structs mark c a b)
choice_stands s mark c a b ta tb hc ha hb =
    let structs = s.core.structs in
    let type = branch_type a.value b.value in
    let made : Result Meaning Fault = Ok (a_value (unit.Choice c.value (converted type a.value) (converted type b.value) mark)) in
    let read = or_fault (branch_fault structs a) (branch_fault structs b) in
    where_none (Stands s) (condition_fault structs mark.at c) (unless (wants (branches_agree a.value b.value) mark.at 20) (unless read made)) (λ n.
    where_wanted (Stands s) (branches_agree a.value b.value) mark.at 20 (unless read made) (λ w.
    where_none (Stands s) read made (λ r.
    let faults = neither (branch_fault structs a) (branch_fault structs b) r in
    let condition = neither (used_fault structs c) (wants (is_scalar (form_of c.value)) mark.at 9) n in
    let branches = branches_by structs a.value b.value (are_integers (form_of a.value) (form_of b.value)) (are_void_or_struct a.value b.value) refl refl
    (read_operand structs a ta faults.first) (read_operand structs b tb faults.second) w in
    and_from (expr_stands s c.value && expr_stands s (converted type a.value)) (expr_stands s (converted type b.value))
    (and_from (expr_stands s c.value) (expr_stands s (converted type a.value))
    (scalar_stands s c.value hc (wanted (is_scalar (form_of c.value)) mark.at 9 condition.second))
    (typed_stands s type a.value branches.first.whole (read_stands s a ha faults.first)))
    (typed_stands s type b.value branches.second.whole (read_stands s b hb faults.second)))))

-- ---- members: the one of the name has its rank

record At (from : ℕ) (ms : List Member) (r : Ranked) : Type 0 where
  index : ℕ
  rank_is : r.rank ≡ from + index
  member : Member
  is_there : slice_get ms index ≡ Some member
  type_is : member.ty ≡ r.type

ranked_by : (from : ℕ) (name : List ℕ) (m : Member) (ms : List Member) (r : Ranked) (b : Bool) →
    (ranked_from (from + 1) name ms ≡ Some r → At (from + 1) ms r) →
    (if b then Some (record { rank = from; type = m.ty }) else ranked_from (from + 1) name ms) ≡ Some r → At from (m ∷ ms) r
ranked_by from name m ms r true others e =
    let rank : from ≡ r.rank = cc in
    let type : m.ty ≡ r.type = cc in
    record { index = 0; rank_is = omega (arith, rank); member = m; is_there = refl; type_is = type }
ranked_by from name m ms r false others e =
    let behind = others e in
    record { index = suc behind.index; rank_is = omega (arith, behind.rank_is); member = behind.member; is_there = behind.is_there; type_is = behind.type_is }

ranked_at : (from : ℕ) (name : List ℕ) (ms : List Member) (r : Ranked) → ranked_from from name ms ≡ Some r → At from ms r
ranked_at from name [] r e = absurd (none_ranked r e)
ranked_at from name (m ∷ ms) r e = ranked_by from name m ms r (same_text m.name name) (λ e. ranked_at (from + 1) name ms r e) e

record Located (members : Option (List Member)) (r : Ranked) : Type 0 where
  member : Member
  is_there : member_in r.rank members ≡ Some member
  type_is : member.ty ≡ r.type

located : (name : List ℕ) (members : Option (List Member)) (r : Ranked) → ranked_in name members ≡ Some r → Located members r
located name None r e = absurd (none_ranked r e)
located name (Some ms) r e =
    let there = ranked_at 0 name ms r e in
    let same : r.rank ≡ there.index = omega (arith, there.rank_is) in
    record { member = there.member; is_there = ap (slice_get ms) same ∙ there.is_there; type_is = there.type_is }

member_is_there : (structs : List Structure) (t : CType) (name : List ℕ) (r : Ranked) → member_of structs (form_of_type t) name ≡ Some r →
    member_is structs t r.rank (member_type (quals_of_type t) r.type) ≡ true
member_is_there structs t name r e =
    let there = located name (members_of_form structs (form_of_type t)) r e in
    let q = quals_of_type t in
    ap (has_type q (member_type q r.type)) there.is_there
    ∙ (ap (λ u. same_type (member_type q u) (member_type q r.type)) there.type_is ∙ type_self (member_type q r.type))

value_is_there : (structs : List Structure) (t : CType) (name : List ℕ) (r : Ranked) → member_of structs (form_of_type t) name ≡ Some r → member_value_is structs t r.rank r.type ≡ true
value_is_there structs t name r e =
    let there = located name (members_of_form structs (form_of_type t)) r e in
    ap (has_value_type r.type) there.is_there ∙ (ap (λ u. same_type (unqualified u) (unqualified r.type)) there.type_is ∙ type_self (unqualified r.type))

some_members : (o : Option (List Member)) (name : List ℕ) (r : Ranked) → ranked_in name o ≡ Some r → is_some o ≡ true
some_members None name r e = absurd (none_ranked r e)
some_members (Some ms) name r e = refl

structure_complete : (structs : List Structure) (t : CType) (name : List ℕ) (r : Ranked) → member_of structs (form_of_type t) name ≡ Some r → is_complete structs t ≡ true
structure_complete structs (typed (Struct x) q) name r e = some_members (members_of structs x) name r e
structure_complete structs (typed Void q) name r e = absurd (none_ranked r e)
structure_complete structs (typed (Integer b) q) name r e = absurd (none_ranked r e)
structure_complete structs (typed (Enum b d) q) name r e = absurd (none_ranked r e)
structure_complete structs (typed (Pointer t) q) name r e = absurd (none_ranked r e)
structure_complete structs (typed (Array t n) q) name r e = absurd (none_ranked r e)
structure_complete structs (typed (Function t ps v) q) name r e = absurd (none_ranked r e)

held_stands : (s : Scope) (id : ℕ) (e : unit.Expr) → is_typed_value s.core.structs e ≡ true → expr_stands s e ≡ true → is_complete s.core.structs (type_of e) ≡ true →
    has_automatic s id (type_of e) ≡ true → lvalue_stands s (held id e) ≡ true
held_stands s id e t h c k =
    let kept = and_parts (object_is s id (type_of e) (unit.object_of s.core.objects id)) (is_automatic (unit.object_of s.core.objects id)) k in
    rw (kept.0, kept.1, (value_parts s.core.structs e t).possible, c, h, form_self (form_of e)) refl

abbrev Kept : Scope → Both Meaning → Type 0
Kept s both = is_kept s both.made ≡ true → meaning_stands s both.made ≡ true

value_member_by : (s : Scope) (usage : Use) (e : unit.Expr) (name : Name) (mark : Mark) (m : Ranked) (state : State) (b : Bool) → is_typed_value s.core.structs e ≡ true →
    expr_stands s e ≡ true → member_of s.core.structs (form_of e) name.text ≡ Some m →
    IfOk {E = Fault} (if b then Ok (record { made = field (held state.scopes.ids e) name mark m; state = with_held usage e state })
    else Ok (record { made = a_value (unit.MemberValue e m.rank m.type name.place mark); state = state })) (Kept s)
value_member_by s usage e name mark m state true t h found =
    λ kept. and_from (lvalue_stands s (held state.scopes.ids e)) (member_is s.core.structs (type_of e) m.rank (member_type (quals_of_type (type_of e)) m.type))
    (held_stands s state.scopes.ids e t h (structure_complete s.core.structs (type_of e) name.text m found) kept) (member_is_there s.core.structs (type_of e) name.text m found)
value_member_by s usage e name mark m state false t h found =
    λ kept. and_from (expr_stands s e) (member_value_is s.core.structs (type_of e) m.rank m.type) h (value_is_there s.core.structs (type_of e) name.text m found)

member_as_stands : (s : Scope) (usage : Use) (structure : Meaning) (name : Name) (mark : Mark) (o : Option Ranked) (state : State) →
    is_typed_meaning s.core.structs structure ≡ true → meaning_stands s structure ≡ true → member_of s.core.structs (form_of_type (meaning_type structure)) name.text ≡ o →
    IfOk {E = Fault} (member_as usage structure name mark o state) (Kept s)
member_as_stands s usage (a_place object known) name mark (Some m) state t h found =
    λ kept. and_from (lvalue_stands s object) (member_is s.core.structs (object_type object) m.rank (member_type (quals_of_type (object_type object)) m.type)) h
    (member_is_there s.core.structs (object_type object) name.text m found)
member_as_stands s usage (a_value e) name mark (Some m) state t h found = value_member_by s usage e name mark m state (is_array (form_of_type m.type)) t h found
member_as_stands s usage (a_function id type by_name at) name mark (Some m) state t h found = tt
member_as_stands s usage (a_target pointer) name mark (Some m) state t h found = tt
member_as_stands s usage (a_place object known) name mark None state t h found = tt
member_as_stands s usage (a_value e) name mark None state t h found = tt
member_as_stands s usage (a_function id type by_name at) name mark None state t h found = tt
member_as_stands s usage (a_target pointer) name mark None state t h found = tt

member_stands_in : (s : Scope) (structs : List Structure) (usage : Use) (structure : Meaning) (name : Name) (mark : Mark) (state : State) → structs ≡ s.core.structs →
    is_typed_meaning s.core.structs structure ≡ true → meaning_stands s structure ≡ true →
    IfOk {E = Fault} (unless (wants (is_struct (form_of_type (meaning_type structure))) mark.at 9)
    (member_as usage structure name mark (member_of structs (form_of_type (meaning_type structure)) name.text) state)) (Kept s)
member_stands_in s structs usage structure name mark state same t h =
    let f = form_of_type (meaning_type structure) in
    where_wanted (Kept s) (is_struct f) mark.at 9 (member_as usage structure name mark (member_of structs f name.text) state) (λ w.
    member_as_stands s usage structure name mark (member_of structs f name.text) state t h (ap (λ ss. member_of ss f name.text) (sym same)))

pub member_stands : (s : Scope) (usage : Use) (structure : Meaning) (name : Name) (mark : Mark) (state : State) → state.scopes.structs ≡ s.core.structs →
    is_typed_meaning s.core.structs structure ≡ true → meaning_stands s structure ≡ true →
    IfOk (member usage structure name mark state) (λ both. is_kept s both.made ≡ true → meaning_stands s both.made ≡ true)
member_stands s usage structure name mark state same t h = member_stands_in s state.scopes.structs usage structure name mark state same t h

arrow_place_stands : (s : Scope) (o : Operand) (name : Name) (mark : Mark) (r : Option Ranked) → expr_stands s o.value ≡ true →
    member_of s.core.structs (form_of_type (pointee (form_of o.value))) name.text ≡ r → GivesStanding s (arrow_place o name mark r)
arrow_place_stands s o name mark None h found = tt
arrow_place_stands s o name mark (Some m) h found =
    let t = pointee (form_of o.value) in
    and_from (expr_stands s o.value) (member_is s.core.structs t m.rank (member_type (quals_of_type t) m.type)) h (member_is_there s.core.structs t name.text m found)

pub arrow_stands : (s : Scope) (o : Operand) (name : Name) (mark : Mark) → operand_stands s o.value ≡ true → GivesStanding s (arrow s.core.structs o name mark)
arrow_stands s o name mark h =
    let f = form_of_type (pointee (form_of o.value)) in
    where_wanted (Stands s) (points_to_object s.core.structs (form_of o.value)) o.first 12 (arrow_place o name mark (member_of s.core.structs f name.text)) (λ w.
    let pointer = object_pointer_pointer (form_of o.value) (and_parts (is_object_pointer (form_of o.value)) (can_move s.core.structs (form_of o.value)) w).0 in
    arrow_place_stands s o name mark (member_of s.core.structs f name.text) (pointer_stands s o.value h pointer) refl)

-- ---- constants, measures and strings

pub number_stands : (s : Scope) (value : ℤ) (b : Basic) (mark : Mark) → meaning_stands s (number value b mark) ≡ true
number_stands s value b mark = refl

pub measure_stands : (s : Scope) (mark : Mark) (first : Place) (type : CType) (measure : ℕ) → GivesStanding s (measured s.core.structs mark first type measure)
measure_stands s mark first type measure =
    where_wanted (Stands s) (is_complete s.core.structs type) first 22 (Ok (a_value (unit.Constant (pos measure) (integer_type basic.UnsignedLong) mark))) (λ w. refl)

pub text_stands : (s : Scope) (usage : Use) (bytes : List ℕ) (mark : Mark) (state : State) → length bytes < size_limit →
    object_is s state.scopes.ids (text_type bytes) (unit.object_of s.core.objects state.scopes.ids) ≡ true →
    IfOk {E = Fault} (text usage bytes mark state) (λ both. meaning_stands s both.made ≡ true)
text_stands s usage bytes mark state h k =
    and_from (is_possible s.core.structs (text_type bytes)) (object_is s state.scopes.ids (text_type bytes) (unit.object_of s.core.objects state.scopes.ids))
    (text_possible s.core.structs (length bytes) h) k
