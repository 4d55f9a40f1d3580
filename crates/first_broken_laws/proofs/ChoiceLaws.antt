-- `?:`, the comma and members name the first constraint that they break.
use Rattle.std.proofs.Common.{◌≡◌, ◌∙◌, ap, refl, ℕ, ◌+◌, Bool, true, false, ◌&&◌, ◌||◌, not, if◌then◌else◌, List, [], ◌∷◌, Option, Some, None, is_some, Result, Ok, inl, inr, arith}
use Rattle.std.proofs.lemmas.Bool.{both_ways}
use Rattle.std.specs.List.{list_any}
use Rattle.cake_base.specs.declared.places.Place.{Place}
use Rattle.cake_base.specs.declared.rules.Fault.{Fault}
use Rattle.model_types.specs.declared.marks.Mark.{Mark}
use Rattle.model_types.specs.Types.{Form, Pointer, Function, form_of_type}
use Rattle.model_types.specs.Structures.{Member, Structure}
use Rattle.model_types.specs.Layout.{members_of_form}
use Rattle.model_types.specs.Texts.{same_text}
use Rattle.model_grammar.specs.declared.syntax.Name.{Name}
use Rattle.model_scopes.specs.DeclarationRules.{constraint_at}
use Rattle.model_core.specs.CoreTypes.{pointee}
use Rattle.model_core.specs.TypedParts.{is_array, is_function, is_function_pointer, is_scalar, is_struct}
use Rattle.model_core.specs.TypedExpr.{form_of}
use Rattle.model_core.specs.Core as unit
use Rattle.model_checking.specs.State.{Use, State, unless, gives}
use Rattle.model_checking.specs.Faults.{wants, or_fault}
use Rattle.model_checking.specs.HeldValues.{held, with_held}
use Rattle.model_checking.specs.MadeCore.{operand_form, meaning_type, used_fault, unread_fault, converted}
use Rattle.model_checking.specs.Meanings.{Meaning, a_place, a_value, a_function, a_target, Operand}
use Rattle.model_checking.specs.PointerRules.{points_to_object}
use Rattle.model_checking.specs.ChoiceRules.{condition_fault, branch_fault, branches_agree, branch_type, choice, comma}
use Rattle.model_checking.specs.MemberRules.{Ranked, ranked_from, ranked_in, member_of, field, member_as, member, arrow_place, arrow}
use Rattle.model_constraints.specs.Pairs.{Pairs, At, Beside, IsUnbroken}
use Rattle.model_constraints.specs.BrokenValues.{broken_use, broken_reading}
use Rattle.model_constraints.specs.BrokenPointers.{points_to_complete}
use Rattle.model_constraints.specs.BrokenOperators.{are_integers}
use Rattle.model_constraints.specs.BrokenChoices.{broken_chosen_by, are_pointers_alike, are_both_void, are_one_structure, broken_branches}
use Rattle.model_constraints.specs.BrokenMembers.{is_one_of, has_member, broken_member, broken_arrow}
use Rattle.first_broken_laws.specs.FirstNamed.{Names, Answers, Precedes, Designates}
use Rattle.first_broken_laws.proofs.PairLaws.{Same, all_beside, all_stand, all_unbroken, stand_at, at_unbroken, at_first, names_at, wanted_unless, fault_alone, fault_then, answers_same}
use Rattle.first_broken_laws.proofs.Operands.{use_named, before_use, reading_named, reading_stands, before_reading, points_same}

-- ---- `?:`

pub condition_named : (structs : List Structure) (at : Place) (c : Operand) → Precedes c.first at → Names (broken_chosen_by structs at c) (condition_fault structs at c)
condition_named structs at c before =
    let s = is_scalar (form_of c.value) in
    fault_then (broken_use structs c) (At at 9 (not s)) (used_fault structs c) (wants s at 9) (use_named structs c) (λ n. names_at at 9 (not s) s refl)
    (before_use structs c (At at 9 (not s)) (λ h. stand_at c.first at 9 (not s) (λ e. before)))

or_last : (a b c d : Bool) → (a || b || c || d) ≡ (a || b || (c || d))
or_last true b c d = refl
or_last false true c d = refl
or_last false false c d = refl

agree_same : (a b : unit.Expr) → (are_integers a b || are_pointers_alike a b || are_both_void a b || are_one_structure a b) ≡ branches_agree a b
agree_same a b = or_last (are_integers a b) (are_pointers_alike a b) (are_both_void a b) (are_one_structure a b)

both_before : (a b c : Place) → Precedes a b → Precedes b c → Precedes a c
both_before a b c h k = omega (arith, h, k)

moved_second : (A N B : Pairs) → Same (Beside N (Beside A B)) (Beside A (Beside N B))
moved_second A N B = record {
  to = λ place rule h. elim h [ inl n ↦ inr (inl n) | inr x ↦ elim x [ inl a ↦ inl a | inr b ↦ inr (inr b) ] ];
  from = λ place rule h. elim h [ inl a ↦ inr (inl a) | inr x ↦ elim x [ inl n ↦ inl n | inr b ↦ inr (inr b) ] ];
}

branches_first : (structs : List Structure) (at : Place) (a b : Operand) (x : Meaning) → Precedes at a.first → Precedes a.first b.first →
    Answers (Beside (broken_reading structs a) (broken_branches structs at a b))
    (unless (wants (branches_agree a.value b.value) at 20) (unless (or_fault (branch_fault structs a) (branch_fault structs b)) (Ok x)))
branches_first structs at a b x before between =
    let A = broken_reading structs a in
    let B = broken_reading structs b in
    let c = are_integers a.value b.value || are_pointers_alike a.value b.value || are_both_void a.value b.value || are_one_structure a.value b.value in
    let f = or_fault (branch_fault structs a) (branch_fault structs b) in
    answers_same (Beside (At at 20 (not c)) (Beside A B)) (Beside A (Beside (At at 20 (not c)) B))
    (unless (wants (branches_agree a.value b.value) at 20) (unless f (Ok x))) (moved_second A (At at 20 (not c)) B)
    (wanted_unless at 20 (not c) (branches_agree a.value b.value) (Beside A B) (unless f (Ok x)) (ap not (agree_same a.value b.value))
    (λ w. fault_alone (Beside A B) f x (fault_then A B (unread_fault structs a) (unread_fault structs b) (reading_named structs a) (λ n. reading_named structs b)
    (before_reading structs a B (reading_stands structs a.first b between))))
    (λ w. all_beside (constraint_at at 20) A B (all_stand (constraint_at at 20) A (reading_stands structs at a before))
    (all_stand (constraint_at at 20) B (reading_stands structs at b (both_before at a.first b.first before between)))))

unless_none : {A : Type 0} (P : Pairs) (f : Option Fault) (r : Result A Fault) → f ≡ None → Answers P r → Answers P (unless f r)
unless_none P None r e h = h
unless_none P (Some x) r e h = cc

-- where the condition breaks nothing
pub choice_first : (structs : List Structure) (mark : Mark) (c a b : Operand) → condition_fault structs mark.at c ≡ None → Precedes mark.at a.first → Precedes a.first b.first →
    Answers (Beside (broken_reading structs a) (broken_branches structs mark.at a b)) (choice structs mark c a b)
choice_first structs mark c a b none before between =
    let x = a_value (unit.Choice c.value (converted (branch_type a.value b.value) a.value) (converted (branch_type a.value b.value) b.value) mark) in
    let P = Beside (broken_reading structs a) (broken_branches structs mark.at a b) in
    unless_none P (condition_fault structs mark.at c)
    (unless (wants (branches_agree a.value b.value) mark.at 20) (unless (or_fault (branch_fault structs a) (branch_fault structs b)) (Ok x))) none
    (branches_first structs mark.at a b x before between)

pub comma_first : (structs : List Structure) (mark : Mark) (a b : Operand) → Precedes a.first b.first →
    Answers (Beside (broken_reading structs a) (broken_reading structs b)) (comma structs mark a b)
comma_first structs mark a b between =
    let A = broken_reading structs a in
    let B = broken_reading structs b in
    fault_alone (Beside A B) (or_fault (unread_fault structs a) (unread_fault structs b)) (a_value (unit.Comma a.value b.value mark))
    (fault_then A B (unread_fault structs a) (unread_fault structs b) (reading_named structs a) (λ n. reading_named structs b)
    (before_reading structs a B (reading_stands structs a.first b between)))

-- ---- members

some_by : (b x : Bool) (rank : ℕ) (m : Member) (o : Option Ranked) → x ≡ is_some o → (b || x) ≡ is_some (if b then Some (record { rank = rank; type = m.ty }) else o)
some_by true x rank m o e = refl
some_by false x rank m o e = e

ranked_same : (rank : ℕ) (name : List ℕ) (ms : List Member) → list_any (λ (m : Member). same_text m.name name) ms ≡ is_some (ranked_from rank name ms)
ranked_same rank name [] = refl
ranked_same rank name (m ∷ ms) =
    some_by (same_text m.name name) (list_any (λ (n : Member). same_text n.name name) ms) rank m (ranked_from (rank + 1) name ms) (ranked_same (rank + 1) name ms)

named_by : (name : List ℕ) (members : Option (List Member)) → is_one_of name members ≡ is_some (ranked_in name members)
named_by name None = refl
named_by name (Some members) = ranked_same 0 name members

has_same : (structs : List Structure) (f : Form) (name : Name) → has_member structs f name ≡ is_some (member_of structs f name.text)
has_same structs f name = named_by name.text (members_of_form structs f)

no_struct : (f : Form) → is_function f ≡ true → is_struct f ≡ false
no_struct (Function t ps v) h = refl
no_struct f h = cc

no_struct_behind : (f : Form) → is_function_pointer f ≡ true → is_struct (form_of_type (pointee f)) ≡ false
no_struct_behind (Pointer t) h = no_struct (form_of_type t) h
no_struct_behind f h = cc

-- of a member that is there
member_there : (usage : Use) (e : unit.Expr) (name : Name) (mark : Mark) (r : Ranked) (s : State) (P : Pairs) (b : Bool) → IsUnbroken P →
    Answers P (if b then gives (field (held s.scopes.ids e) name mark r) (with_held usage e s) else gives (a_value (unit.MemberValue e r.rank r.type name.place mark)) s)
member_there usage e name mark r s P true u = u
member_there usage e name mark r s P false u = u

guarded_here : (at : Place) (g c w : Bool) → g ≡ true → c ≡ w → (g && not c) ≡ not w
guarded_here at true c w e d = ap not d
guarded_here at false c w e d = absurd (both_ways false refl e)

unguarded : (g c : Bool) → g ≡ false → (g && c) ≡ false
unguarded true c e = absurd (both_ways true e refl)
unguarded false c e = refl

member_by : (usage : Use) (m : Meaning) (name : Name) (mark : Mark) (o : Option Ranked) (s : State) (c : Bool) → Designates m → is_struct (form_of_type (meaning_type m)) ≡ true →
    c ≡ not (is_some o) → Answers (At name.place 13 c) (member_as usage m name mark o s)
member_by usage (a_place object known) name mark (Some r) s c d e n = at_unbroken name.place 13 c n
member_by usage (a_value value) name mark (Some r) s c d e n =
    member_there usage value name mark r s (At name.place 13 c) (is_array (form_of_type r.type)) (at_unbroken name.place 13 c n)
member_by usage (a_function id type by_name at) name mark (Some r) s c d e n = absurd (both_ways (is_struct (form_of_type type)) (no_struct (form_of_type type) d) e)
member_by usage (a_target pointer) name mark (Some r) s c d e n =
    absurd (both_ways (is_struct (form_of_type (pointee (form_of pointer)))) (no_struct_behind (form_of pointer) d) e)
member_by usage m name mark None s c d e n = at_first name.place 13 c n

pub member_first : (usage : Use) (m : Meaning) (name : Name) (mark : Mark) (s : State) → Designates m →
    Answers (broken_member s.scopes.structs mark.at m name) (member usage m name mark s)
member_first usage m name mark s d =
    let structs = s.scopes.structs in
    let f = form_of_type (meaning_type m) in
    let g = is_struct f in
    let c = g && not (has_member structs f name) in
    let o = member_of structs f name.text in
    wanted_unless mark.at 9 (not g) g (At name.place 13 c) (member_as usage m name mark o s) refl
    (λ w. member_by usage m name mark o s c d w (guarded_here name.place g (has_member structs f name) (is_some o) w (has_same structs f name)))
    (λ w. all_unbroken (constraint_at mark.at 9) (At name.place 13 c) (at_unbroken name.place 13 c (unguarded g (not (has_member structs f name)) w)))

arrow_by : (p : Operand) (name : Name) (mark : Mark) (o : Option Ranked) (c : Bool) → c ≡ not (is_some o) → Answers (At name.place 13 c) (arrow_place p name mark o)
arrow_by p name mark None c n = at_first name.place 13 c n
arrow_by p name mark (Some r) c n = at_unbroken name.place 13 c n

pub arrow_first : (structs : List Structure) (p : Operand) (name : Name) (mark : Mark) → Answers (broken_arrow structs p name) (arrow structs p name mark)
arrow_first structs p name mark =
    let f = form_of_type (pointee (operand_form p)) in
    let g = points_to_complete structs (operand_form p) in
    let w = points_to_object structs (operand_form p) in
    let e = points_same structs (operand_form p) in
    let c = g && not (has_member structs f name) in
    let o = member_of structs f name.text in
    wanted_unless p.first 12 (not g) w (At name.place 13 c) (arrow_place p name mark o) (ap not e)
    (λ h. arrow_by p name mark o c (guarded_here name.place g (has_member structs f name) (is_some o) (e ∙ h) (has_same structs f name)))
    (λ h. all_unbroken (constraint_at p.first 12) (At name.place 13 c) (at_unbroken name.place 13 c (unguarded g (not (has_member structs f name)) (e ∙ h))))
