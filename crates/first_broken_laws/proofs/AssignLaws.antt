-- Assignments name the first constraint that they break.
use Rattle.std.proofs.Common.{◌≡◌, ◌∙◌, ap, refl, Bool, true, false, ◌&&◌, ◌||◌, not, Result, Ok, Err, List, inl, inr, arith}
use Rattle.std.proofs.lemmas.Bool.{both_ways}
use Rattle.cake_base.specs.declared.places.Place.{Place}
use Rattle.cake_base.specs.declared.rules.Fault.{Fault}
use Rattle.model_types.specs.declared.numbers.BinOp.{BinOp}
use Rattle.model_types.specs.declared.numbers.BinOp.TheVariants as op
use Rattle.model_types.specs.declared.marks.Mark.{Mark}
use Rattle.model_types.specs.Structures.{Structure}
use Rattle.model_scopes.specs.DeclarationRules.{constraint_at}
use Rattle.model_core.specs.CoreTypes.{is_pointer}
use Rattle.model_core.specs.SameTypes.{is_integer, is_null_constant}
use Rattle.model_core.specs.TypedParts.{is_scalar, alike_pointers}
use Rattle.model_core.specs.TypedExpr.{form_of}
use Rattle.model_core.specs.Core as unit
use Rattle.model_checking.specs.State.{unless}
use Rattle.model_checking.specs.Faults.{wants, or_fault}
use Rattle.model_checking.specs.MadeCore.{operand, meaning_type, value_of}
use Rattle.model_checking.specs.Meanings.{Meaning, Operand}
use Rattle.model_checking.specs.Conversion.{passed}
use Rattle.model_checking.specs.PointerRules.{may_be_apart, moved_fault}
use Rattle.model_checking.specs.UnaryRules.{is_modifiable, of_object}
use Rattle.model_checking.specs.AssignRules.{assign_left, assigned, assign, may_be_assigned_by, assign_by_fault, assigned_by, assign_by}
use Rattle.model_constraints.specs.Pairs.{Pairs, At, Beside}
use Rattle.model_constraints.specs.BrokenValues.{broken_use, broken_giving}
use Rattle.model_constraints.specs.BrokenPointers.{points_to_complete, broken_move, broken_difference, are_pointers, is_one_null}
use Rattle.model_constraints.specs.BrokenOperators.{may_be_changed}
use Rattle.model_constraints.specs.BrokenAssignments.{broken_left_side, broken_assigned, takes_assigned, broken_assigned_by}
use Rattle.first_broken_laws.specs.FirstNamed.{Names, Answers, Precedes}
use Rattle.first_broken_laws.proofs.PairLaws.{AllBehind, Same, all_here, all_beside, all_stand, all_unbroken, stand_at, stand_beside, names_at, names_left, wanted_unless, wanted_then, fault_then, before_at, answers_same}
use Rattle.first_broken_laws.proofs.Operands.{use_stands, scalar_unbroken, move_named, unmoved, move_stands}
use Rattle.first_broken_laws.proofs.UnaryLaws.{changed_same, of_object_unbroken, object_first, unchanged_there}
use Rattle.first_broken_laws.proofs.BinaryLaws.{apart_same, summands_same, second_added, second_subtracted}
use Rattle.first_broken_laws.proofs.ConversionLaws.{giving_first, giving_stands}

-- ---- `=`

assigned_first : (structs : List Structure) (mark : Mark) (m : Meaning) (P : Pairs) (r : Result unit.Expr Fault) → is_modifiable structs m ≡ true →
    Answers P r → Answers P (assigned mark m r)
assigned_first structs mark m P (Ok value) e h = of_object_unbroken structs mark.at m (λ object. unit.Assign unit.Plain object value mark) P e h
assigned_first structs mark m P (Err fault) e h = h

pub assign_first : (structs : List Structure) (mark : Mark) (m : Meaning) (right : Operand) → Precedes mark.at right.first →
    Answers (Beside (broken_left_side structs mark.at m) (broken_assigned structs m right)) (assign structs mark m right)
assign_first structs mark m right lt =
    let G = broken_giving structs (meaning_type m) right in
    wanted_unless mark.at 10 (not (may_be_changed structs m)) (is_modifiable structs m) G (assigned mark m (passed structs right.first (meaning_type m) right.value))
    (ap not (changed_same structs m))
    (λ w. assigned_first structs mark m G (passed structs right.first (meaning_type m) right.value) w (giving_first structs (meaning_type m) right))
    (λ w. all_stand (constraint_at mark.at 10) G (giving_stands structs mark.at (meaning_type m) right lt))

-- ---- `op=`

both_before : (a b c : Place) → Precedes a b → Precedes b c → Precedes a c
both_before a b c h k = omega (arith, h, k)

-- the operands that `op=` takes
added_same : (o : BinOp) (a b : Operand) → takes_assigned o a.value b.value ≡ may_be_assigned_by o a b
added_same op.Mul a b = refl
added_same op.Div a b = refl
added_same op.Rem a b = refl
added_same op.Add a b = summands_same (is_integer (form_of a.value)) (is_integer (form_of b.value)) (is_pointer (form_of a.value)) (is_pointer (form_of b.value))
added_same op.Sub a b = refl
added_same op.ShiftLeft a b = refl
added_same op.ShiftRight a b = refl
added_same op.Less a b = refl
added_same op.Greater a b = refl
added_same op.LessEqual a b = refl
added_same op.GreaterEqual a b = refl
added_same op.Equal a b = refl
added_same op.NotEqual a b = refl
added_same op.BitAnd a b = refl
added_same op.BitXor a b = refl
added_same op.BitOr a b = refl

second_integer : (i j p : Bool) → i && j ≡ true → j || p ≡ true
second_integer true true p h = refl
second_integer true false p h = absurd (both_ways false refl h)
second_integer false j p h = absurd (both_ways false refl h)

second_assigned : (o : BinOp) (a b : Operand) → takes_assigned o a.value b.value ≡ true → is_scalar (form_of b.value) ≡ true
second_assigned op.Add a b h = second_added (is_integer (form_of a.value)) (is_integer (form_of b.value)) (is_pointer (form_of a.value)) (is_pointer (form_of b.value)) h
second_assigned op.Sub a b h = second_subtracted (is_integer (form_of a.value)) (is_integer (form_of b.value)) (is_pointer (form_of a.value)) (is_pointer (form_of b.value)) h
second_assigned op.Mul a b h = second_integer (is_integer (form_of a.value)) (is_integer (form_of b.value)) (is_pointer (form_of b.value)) h
second_assigned op.Div a b h = second_integer (is_integer (form_of a.value)) (is_integer (form_of b.value)) (is_pointer (form_of b.value)) h
second_assigned op.Rem a b h = second_integer (is_integer (form_of a.value)) (is_integer (form_of b.value)) (is_pointer (form_of b.value)) h
second_assigned op.ShiftLeft a b h = second_integer (is_integer (form_of a.value)) (is_integer (form_of b.value)) (is_pointer (form_of b.value)) h
second_assigned op.ShiftRight a b h = second_integer (is_integer (form_of a.value)) (is_integer (form_of b.value)) (is_pointer (form_of b.value)) h
second_assigned op.BitAnd a b h = second_integer (is_integer (form_of a.value)) (is_integer (form_of b.value)) (is_pointer (form_of b.value)) h
second_assigned op.BitXor a b h = second_integer (is_integer (form_of a.value)) (is_integer (form_of b.value)) (is_pointer (form_of b.value)) h
second_assigned op.BitOr a b h = second_integer (is_integer (form_of a.value)) (is_integer (form_of b.value)) (is_pointer (form_of b.value)) h
second_assigned o a b h = absurd (both_ways false refl h)

-- the pairs in the order in which they are looked for: the left operand, then the operator, then the right operand
abbrev in_order : List Structure → (at : Place) → (t : Bool) → Meaning → (a b : Operand) → Pairs
in_order structs at t m a b =
    Beside (broken_move structs t a) (Beside (broken_left_side structs at m) (Beside (broken_difference at t a.value b.value)
    (Beside (broken_move structs t b) (At b.first 16 (t && is_pointer (form_of b.value))))))

pointer_taken : (t p : Bool) → t ≡ true → (t && p) ≡ not (not p)
pointer_taken false p e = absurd (both_ways false refl e)
pointer_taken true true e = refl
pointer_taken true false e = refl

order_named : (structs : List Structure) (mark : Mark) (t : Bool) (m : Meaning) (a b : Operand) → t ≡ true → Precedes a.first mark.at → Precedes mark.at b.first →
    Names (in_order structs mark.at t m a b) (assign_by_fault structs mark m a b)
order_named structs mark t m a b e before behind =
    let at = mark.at in
    let L = broken_move structs t a in
    let C = broken_left_side structs at m in
    let D = broken_difference at t a.value b.value in
    let R = broken_move structs t b in
    let p = t && is_pointer (form_of b.value) in
    let G = At b.first 16 p in
    let d = t && are_pointers a.value b.value && not (alike_pointers (form_of a.value) (form_of b.value)) && not (is_one_null a.value b.value) in
    let last = wants (not (is_pointer (form_of b.value))) b.first 16 in
    let apart = wants (may_be_apart a.value b.value) at 19 in
    let far = both_before a.first at b.first before behind in
    fault_then L (Beside C (Beside D (Beside R G))) (moved_fault structs a) (or_fault (assign_left structs mark m) (or_fault apart (or_fault (moved_fault structs b) last)))
    (move_named structs t a e)
    (λ n. wanted_then at 10 (not (may_be_changed structs m)) (is_modifiable structs m) (Beside D (Beside R G)) (or_fault apart (or_fault (moved_fault structs b) last))
    (ap not (changed_same structs m))
    (λ w. wanted_then at 19 d (may_be_apart a.value b.value) (Beside R G) (or_fault (moved_fault structs b) last)
    (apart_same t (are_pointers a.value b.value) (alike_pointers (form_of a.value) (form_of b.value)) (is_null_constant a.value) (is_null_constant b.value) e)
    (λ v. fault_then R G (moved_fault structs b) last (move_named structs t b e)
    (λ n. names_at b.first 16 p (not (is_pointer (form_of b.value))) (pointer_taken t (is_pointer (form_of b.value)) e))
    (before_at b.first 12 (t && is_pointer (form_of b.value) && not (points_to_complete structs (form_of b.value))) G (λ h. all_here b.first 12 16 p (omega arith))))
    (λ v. all_beside (constraint_at at 19) R G (all_stand (constraint_at at 19) R (move_stands structs at t b behind))
    (all_stand (constraint_at at 19) G (stand_at at b.first 16 p (λ h. behind)))))
    (λ w. all_beside (constraint_at at 10) D (Beside R G) (all_here at 10 19 d (omega arith))
    (all_stand (constraint_at at 10) (Beside R G) (stand_beside at R G (move_stands structs at t b behind) (stand_at at b.first 16 p (λ h. behind))))))
    (before_at a.first 12 (t && is_pointer (form_of a.value) && not (points_to_complete structs (form_of a.value))) (Beside C (Beside D (Beside R G)))
    (λ h. all_stand (constraint_at a.first 12) (Beside C (Beside D (Beside R G)))
    (stand_beside a.first C (Beside D (Beside R G)) (stand_at a.first at 10 (not (may_be_changed structs m)) (λ h. before))
    (stand_beside a.first D (Beside R G) (stand_at a.first at 19 d (λ h. before))
    (stand_beside a.first R G (move_stands structs a.first t b far) (stand_at a.first b.first 16 p (λ h. far)))))))

-- the whole, as it is said and as it is looked for
reordered : (N L C D R G U : Pairs) → Same (Beside N (Beside (Beside L (Beside C (Beside D (Beside R G)))) U)) (Beside C (Beside N (Beside (Beside L (Beside D R)) (Beside G U))))
reordered N L C D R G U = record {
  to = λ place rule h. elim h [
    | inl n ↦ inr (inl n)
    | inr x ↦ elim x [
      | inl y ↦ elim y [
        | inl l ↦ inr (inr (inl (inl l)))
        | inr z ↦ elim z [
          | inl c ↦ inl c
          | inr v ↦ elim v [
            | inl d ↦ inr (inr (inl (inr (inl d))))
            | inr w ↦ elim w [
              | inl r ↦ inr (inr (inl (inr (inr r))))
              | inr g ↦ inr (inr (inr (inl g)))
            ]
          ]
        ]
      ]
      | inr u ↦ inr (inr (inr (inr u)))
    ]
  ];
  from = λ place rule h. elim h [
    | inl c ↦ inr (inl (inr (inl c)))
    | inr x ↦ elim x [
      | inl n ↦ inl n
      | inr y ↦ elim y [
        | inl z ↦ elim z [
          | inl l ↦ inr (inl (inl l))
          | inr v ↦ elim v [
            | inl d ↦ inr (inl (inr (inr (inl d))))
            | inr r ↦ inr (inl (inr (inr (inr (inl r)))))
          ]
        ]
        | inr w ↦ elim w [
          | inl g ↦ inr (inl (inr (inr (inr (inr g)))))
          | inr u ↦ inr (inr u)
        ]
      ]
    ]
  ];
}

order_behind : (structs : List Structure) (at : Place) (t : Bool) (m : Meaning) (a b : Operand) → t ≡ false → Precedes at b.first →
    AllBehind (constraint_at at 9) (in_order structs at t m a b)
order_behind structs at t m a b e behind =
    let x = constraint_at at 9 in
    let L = broken_move structs t a in
    let C = broken_left_side structs at m in
    let D = broken_difference at t a.value b.value in
    let R = broken_move structs t b in
    let p = t && is_pointer (form_of b.value) in
    let G = At b.first 16 p in
    let d = t && are_pointers a.value b.value && not (alike_pointers (form_of a.value) (form_of b.value)) && not (is_one_null a.value b.value) in
    all_beside x L (Beside C (Beside D (Beside R G))) (all_unbroken x L (unmoved structs t a e))
    (all_beside x C (Beside D (Beside R G)) (all_here at 9 10 (not (may_be_changed structs m)) (omega arith))
    (all_beside x D (Beside R G) (all_here at 9 19 d (omega arith))
    (all_beside x R G (all_stand x R (move_stands structs at t b behind)) (all_stand x G (stand_at at b.first 16 p (λ h. behind))))))

pub assign_by_first : (structs : List Structure) (o : BinOp) (mark : Mark) (first : Place) (m : Meaning) (right : Operand) → Precedes first mark.at → Precedes mark.at right.first →
    Answers (Beside (broken_left_side structs mark.at m) (broken_assigned_by structs o mark.at (operand first m) right)) (assign_by structs o mark first m right)
assign_by_first structs o mark first m right before behind =
    let a = operand first m in
    let at = mark.at in
    let t = takes_assigned o a.value right.value in
    let w = may_be_assigned_by o a right in
    let N = At at 9 (not t) in
    let O = in_order structs at t m a right in
    let U = broken_use structs right in
    let make : unit.Lvalue → unit.Expr = λ object. assigned_by o mark (value_of m) right.value object in
    let r = unless (assign_by_fault structs mark m a right) (of_object at m make) in
    let e = added_same o a right in
    let there : is_modifiable structs m ≡ false → Beside O U at 10 = λ h. inl (inr (inl (unchanged_there structs at m h))) in
    answers_same (Beside N (Beside O U)) (Beside (broken_left_side structs at m) (broken_assigned_by structs o at a right)) (assign_by structs o mark first m right)
    (reordered N (broken_move structs t a) (broken_left_side structs at m) (broken_difference at t a.value right.value) (broken_move structs t right)
    (At right.first 16 (t && is_pointer (form_of right.value))) U)
    (wanted_unless at 9 (not t) w (Beside O U) r (ap not e)
    (λ h. object_first structs at m make (Beside O U) (assign_by_fault structs mark m a right) there
    (names_left O U (assign_by_fault structs mark m a right) (order_named structs mark t m a right (e ∙ h) before behind)
    (scalar_unbroken structs right (second_assigned o a right (e ∙ h)))))
    (λ h. all_beside (constraint_at at 9) O U (order_behind structs at t m a right (e ∙ h) behind) (all_stand (constraint_at at 9) U (use_stands structs at right behind))))
