-- What each form of an expression is, where its parts are typed.
use Rattle.std.proofs.Common.{◌≡◌, ℕ, ℤ, nat_lt, Bool, true, List, Option, Result, length}
use Rattle.std.proofs.lemmas.Bool.{ltb-true}
use Rattle.cake_base.specs.declared.places.Place.{Place}
use Rattle.cake_base.specs.declared.rules.Fault.{Fault}
use Rattle.model_types.specs.declared.numbers.Basic.{Basic}
use Rattle.model_types.specs.declared.numbers.BinOp.{BinOp}
use Rattle.model_types.specs.declared.operators.LogicOp.{LogicOp}
use Rattle.model_types.specs.declared.operators.StepOp.{StepOp}
use Rattle.model_types.specs.declared.operators.StepSide.{StepSide}
use Rattle.model_types.specs.declared.marks.Mark.{Mark}
use Rattle.model_types.specs.Operations.{fits}
use Rattle.model_types.specs.Types.{CType}
use Rattle.model_types.specs.Structures.{Structure}
use Rattle.model_types.specs.Layout.{size_limit}
use Rattle.model_grammar.specs.declared.syntax.Name.{Name}
use Rattle.model_grammar.specs.declared.syntax.PrefixOp.{PrefixOp}
use Rattle.model_grammar.specs.SyntaxForms as syntax
use Rattle.model_core.specs.Core as unit
use Rattle.model_checking.specs.State.{Use, State, Answer, gives, then_do, unless, beside, with_state}
use Rattle.model_checking.specs.FaultsBeside.{with_fault}
use Rattle.model_checking.specs.Meanings.{Meaning, a_place, a_value, a_function, a_target, Operand}
use Rattle.model_checking.specs.Parts.{Declared}
use Rattle.model_checking.specs.Marks.{in_parentheses}
use Rattle.model_checking.specs.MadeCore.{meaning_type}
use Rattle.model_checking.specs.Literals.{number, truth_value, null_pointer, text}
use Rattle.model_checking.specs.UnaryRules.{unary, note_taken, step}
use Rattle.model_checking.specs.BinaryRules.{left_fault, binary, logic}
use Rattle.model_checking.specs.PointerRules.{index}
use Rattle.model_checking.specs.MemberRules.{member, arrow}
use Rattle.model_checking.specs.AssignRules.{assign_left, assign, assign_by}
use Rattle.model_checking.specs.ChoiceRules.{condition_fault, branch_fault, choice, comma_left, comma}
use Rattle.model_checking.specs.CastRules.{cast}
use Rattle.model_checking.specs.SizeRules.{size_of_operand, size_of_name, alignment_of_name}
use Rattle.model_checking.specs.Reading.{as_operand, declared_type, target_fault}
use Rattle.typed_rule_laws.specs.TypedMeanings.{is_typed_meaning, GivesTyped}
use Rattle.typed_rule_laws.proofs.ConstantForms.{number_is_typed, truth_is_typed, null_is_typed, text_is_typed, size_is_typed, alignment_is_typed}
use Rattle.typed_rule_laws.proofs.UnaryForms.{unary_is_typed, step_is_typed}
use Rattle.typed_rule_laws.proofs.BinaryForms.{binary_is_typed, logic_is_typed}
use Rattle.typed_rule_laws.proofs.PointerForms.{index_is_typed}
use Rattle.typed_rule_laws.proofs.MemberForms.{arrow_is_typed}
use Rattle.typed_rule_laws.proofs.AssignForms.{assign_is_typed, assign_by_is_typed}
use Rattle.typed_rule_laws.proofs.ChoiceForms.{choice_is_typed}
use Rattle.typed_rule_laws.proofs.CastForms.{cast_is_typed, comma_is_typed}
use Rattle.typed_walk_laws.specs.SoundScopes.{are_sound}
use Rattle.typed_walk_laws.specs.Behind.{Behind, SoundBoth, GivesSound}
use Rattle.typed_walk_laws.proofs.Walks.{TypedMeaning, TypedOperand, all_kept, after, after_fault, after_unless, by_rule, given, behind_here, operand_given}
use Rattle.typed_walk_laws.proofs.Declared.{scopes_parts}
use Rattle.typed_walk_laws.proofs.Operations.{after_beside, one_part, two_parts, keeps_operand, keeps_meaning, member_sound}
use Rattle.typed_walk_laws.proofs.Declarators.{PossibleDeclared}

-- a part that is sound where what is declared is
abbrev pub IsSound : {A : Type 0} → (List Structure → A → Type 0) → (State → Answer A) → Type 0
IsSound P part = (s : State) → are_sound s.scopes ≡ true → GivesSound s P (part s)

-- ---- constants and strings

pub number_form : (value : ℤ) (basic : Basic) (mark : Mark) (s : State) → fits basic value ≡ true → are_sound s.scopes ≡ true →
    GivesSound s TypedMeaning (gives (number value basic mark) s)
number_form value basic mark s c h = given TypedMeaning s (number value basic mark) h (number_is_typed s.scopes.structs value basic mark c)

pub truth_form : (value : Bool) (mark : Mark) (s : State) → are_sound s.scopes ≡ true → GivesSound s TypedMeaning (gives (truth_value value mark) s)
truth_form value mark s h = given TypedMeaning s (truth_value value mark) h (truth_is_typed s.scopes.structs value mark)

pub null_form : (mark : Mark) (s : State) → are_sound s.scopes ≡ true → GivesSound s TypedMeaning (gives (null_pointer mark) s)
null_form mark s h = given TypedMeaning s (null_pointer mark) h (null_is_typed s.scopes.structs mark)

pub text_form : (u : Use) (bytes : List ℕ) (mark : Mark) (s : State) → nat_lt (length bytes) size_limit ≡ true → are_sound s.scopes ≡ true →
    GivesSound s TypedMeaning (text u bytes mark s)
text_form u bytes mark s c h =
    (record { sound = h; kept = all_kept s.scopes.structs }, text_is_typed s.scopes.structs u bytes mark s (ltb-true (length bytes) size_limit c))

-- ---- parentheses

value_in_parentheses : (structs : List Structure) (p : Place) (e : unit.Expr) → is_typed_meaning structs (a_value e) ≡ true →
    is_typed_meaning structs (in_parentheses p (a_value e)) ≡ true
value_in_parentheses structs p (unit.Constant value type mark) h = h
value_in_parentheses structs p (unit.Load object mark) h = h
value_in_parentheses structs p (unit.Address origin object mark) h = h
value_in_parentheses structs p (unit.FunctionRef id type by_name mark) h = h
value_in_parentheses structs p (unit.Unary op e mark) h = h
value_in_parentheses structs p (unit.Binary op a b mark) h = h
value_in_parentheses structs p (unit.Logic op a b mark) h = h
value_in_parentheses structs p (unit.Choice c a b mark) h = h
value_in_parentheses structs p (unit.Convert origin type e mark) h = h
value_in_parentheses structs p (unit.Call function arguments mark) h = h
value_in_parentheses structs p (unit.Assign assignment object e mark) h = h
value_in_parentheses structs p (unit.Step op side type object mark) h = h
value_in_parentheses structs p (unit.MemberValue structure rank type name mark) h = h
value_in_parentheses structs p (unit.Comma a b mark) h = h

place_in_parentheses : (structs : List Structure) (p : Place) (object : unit.Lvalue) (known : Option ℤ) → is_typed_meaning structs (a_place object known) ≡ true →
    is_typed_meaning structs (in_parentheses p (a_place object known)) ≡ true
place_in_parentheses structs p (unit.Object id type mark) known h = h
place_in_parentheses structs p (unit.Deref pointer mark) known h = h
place_in_parentheses structs p (unit.Index is_second a b mark) known h = h
place_in_parentheses structs p (unit.Field structure rank type name mark) known h = h
place_in_parentheses structs p (unit.Arrow pointer rank type name mark) known h = h
place_in_parentheses structs p (unit.Literal origin id type values mark) known h = h

typed_in_parentheses : (structs : List Structure) (p : Place) (m : Meaning) → is_typed_meaning structs m ≡ true → is_typed_meaning structs (in_parentheses p m) ≡ true
typed_in_parentheses structs p (a_place object known) h = place_in_parentheses structs p object known h
typed_in_parentheses structs p (a_value value) h = value_in_parentheses structs p value h
typed_in_parentheses structs p (a_function id type by_name mark) h = h
typed_in_parentheses structs p (a_target pointer) h = h

pub parentheses_form : (p : Place) (s : State) (x : Answer Meaning) → GivesSound s TypedMeaning x →
    GivesSound s TypedMeaning (then_do x (λ m t. gives (in_parentheses p m) t))
parentheses_form p s x h =
    after TypedMeaning TypedMeaning s x (λ m t. gives (in_parentheses p m) t) h (λ m t behind k.
    given TypedMeaning t (in_parentheses p m) behind.sound (typed_in_parentheses t.scopes.structs p m k))

-- ---- one operand

pub member_form : (u : Use) (name : Name) (mark : Mark) (s : State) (x : Answer Meaning) → GivesSound s TypedMeaning x →
    GivesSound s TypedMeaning (then_do x (λ m t. member u m name mark t))
member_form u name mark s x h =
    after TypedMeaning TypedMeaning s x (λ m t. member u m name mark t) h (λ m t behind k. member_sound u m name mark t behind.sound k)

pub arrow_form : (e : syntax.Expr) (name : Name) (mark : Mark) (s : State) (x : Answer Meaning) → GivesSound s TypedMeaning x →
    GivesSound s TypedMeaning (then_do (as_operand e x) (λ p t. with_state (arrow t.scopes.structs p name mark) t))
arrow_form e name mark s x h =
    after TypedOperand TypedMeaning s (as_operand e x) (λ p t. with_state (arrow t.scopes.structs p name mark) t) (operand_given e s x h) (λ p t behind k.
    by_rule TypedMeaning t t (arrow t.scopes.structs p name mark) (behind_here t behind.sound)
    (arrow_is_typed t.scopes.structs p name mark (scopes_parts t.scopes behind.sound).structures k))

pub step_form : (op : StepOp) (side : StepSide) (mark : Mark) (first : Place) (s : State) (x : Answer Meaning) → GivesSound s TypedMeaning x →
    GivesSound s TypedMeaning (then_do x (λ m t. with_state (step t.scopes.structs op side mark first m) t))
step_form op side mark first s x h =
    one_part TypedMeaning s x (λ structs m. step structs op side mark first m) h (λ structs m k. step_is_typed structs op side mark first m k)

behind_taken : (u : Use) (op : PrefixOp) (m : Meaning) (s : State) → are_sound s.scopes ≡ true → Behind s (note_taken u op m s)
behind_taken u op m s h = record { sound = h; kept = all_kept s.scopes.structs }

pub unary_form : (u : Use) (op : PrefixOp) (mark : Mark) (first : Place) (s : State) (x : Answer Meaning) → GivesSound s TypedMeaning x →
    GivesSound s TypedMeaning (then_do x (λ m t. with_state (unary t.scopes.structs op mark first m) (note_taken u op m t)))
unary_form u op mark first s x h =
    after TypedMeaning TypedMeaning s x (λ m t. with_state (unary t.scopes.structs op mark first m) (note_taken u op m t)) h (λ m t behind k.
    by_rule TypedMeaning t (note_taken u op m t) (unary t.scopes.structs op mark first m) (behind_taken u op m t behind.sound)
    (unary_is_typed t.scopes.structs op mark first m k))

-- ---- sizes and alignments

pub size_form : (mark : Mark) (first : Place) (s : State) (x : Answer Meaning) → GivesSound s TypedMeaning x →
    GivesSound s TypedMeaning (then_do x (λ m t. with_state (size_of_operand t.scopes.structs mark first m) t))
size_form mark first s x h =
    one_part TypedMeaning s x (λ structs m. size_of_operand structs mark first m) h (λ structs m k. size_is_typed structs mark first (meaning_type m))

-- a measure of the type that a name gives
pub measure_form : (rule : List Structure → Place → CType → Result Meaning Fault) (s : State) (x : Answer Declared) → GivesSound s PossibleDeclared x →
    ((structs : List Structure) (first : Place) (type : CType) → GivesTyped structs (rule structs first type)) →
    GivesSound s TypedMeaning (then_do x (λ d t. with_fault d.fault (with_state (rule t.scopes.structs d.first (declared_type d)) t)))
measure_form rule s x h k =
    after PossibleDeclared TypedMeaning s x (λ d t. with_fault d.fault (with_state (rule t.scopes.structs d.first (declared_type d)) t)) h (λ d t behind p.
    after_fault (SoundBoth t TypedMeaning) d.fault (with_state (rule t.scopes.structs d.first (declared_type d)) t) (λ n.
    by_rule TypedMeaning t t (rule t.scopes.structs d.first (declared_type d)) (behind_here t behind.sound) (k t.scopes.structs d.first (declared_type d))))

pub size_of_type_form : (mark : Mark) (s : State) (x : Answer Declared) → GivesSound s PossibleDeclared x →
    GivesSound s TypedMeaning (then_do x (λ d t. with_fault d.fault (with_state (size_of_name t.scopes.structs mark d.first (declared_type d)) t)))
size_of_type_form mark s x h = measure_form (λ structs first type. size_of_name structs mark first type) s x h (λ structs first type. size_is_typed structs mark first type)

pub alignment_form : (mark : Mark) (s : State) (x : Answer Declared) → GivesSound s PossibleDeclared x →
    GivesSound s TypedMeaning (then_do x (λ d t. with_fault d.fault (with_state (alignment_of_name t.scopes.structs mark d.first (declared_type d)) t)))
alignment_form mark s x h =
    measure_form (λ structs first type. alignment_of_name structs mark first type) s x h (λ structs first type. alignment_is_typed structs mark first type)

-- ---- casts

pub cast_form : (place : Place) (e : syntax.Expr) (mark : Mark) (s : State) (x : Answer Declared) (right : State → Answer Meaning) → GivesSound s PossibleDeclared x →
    IsSound TypedMeaning right →
    GivesSound s TypedMeaning (then_do x (λ d t. unless (target_fault place d)
    (with_fault d.fault (then_do (as_operand e (right t)) (λ a v. with_state (cast v.scopes.structs mark (declared_type d) a) v)))))
cast_form place e mark s x right h k =
    after PossibleDeclared TypedMeaning s x
    (λ d t. unless (target_fault place d) (with_fault d.fault (then_do (as_operand e (right t)) (λ a v. with_state (cast v.scopes.structs mark (declared_type d) a) v)))) h
    (λ d t behind p.
    after_unless (SoundBoth t TypedMeaning) (target_fault place d)
    (with_fault d.fault (then_do (as_operand e (right t)) (λ a v. with_state (cast v.scopes.structs mark (declared_type d) a) v))) (λ f.
    after_fault (SoundBoth t TypedMeaning) d.fault (then_do (as_operand e (right t)) (λ a v. with_state (cast v.scopes.structs mark (declared_type d) a) v)) (λ n.
    after TypedOperand TypedMeaning t (as_operand e (right t)) (λ a v. with_state (cast v.scopes.structs mark (declared_type d) a) v)
    (operand_given e t (right t) (k t behind.sound)) (λ a v later q.
    by_rule TypedMeaning v v (cast v.scopes.structs mark (declared_type d) a) (behind_here v later.sound)
    (cast_is_typed v.scopes.structs mark (declared_type d) a (later.kept.possible (declared_type d) (p n)) q)))))

-- ---- two operands

pub operands_form : (x y : syntax.Expr) (fault : List Structure → Operand → Option Fault) (rule : List Structure → Operand → Operand → Result Meaning Fault) (s : State)
    (left : Answer Meaning) (right : State → Answer Meaning) → GivesSound s TypedMeaning left → IsSound TypedMeaning right →
    ((structs : List Structure) (a b : Operand) → TypedOperand structs a → TypedOperand structs b → GivesTyped structs (rule structs a b)) →
    GivesSound s TypedMeaning (then_do (as_operand x left) (λ a t. beside (fault t.scopes.structs a) (as_operand y (right t)) (λ b v. with_state (rule v.scopes.structs a b) v)))
operands_form x y fault rule s left right h k r =
    two_parts TypedOperand keeps_operand s (as_operand x left) fault (λ t. as_operand y (right t)) rule (operand_given x s left h)
    (λ t sound. operand_given y t (right t) (k t sound)) r

pub index_form : (x y : syntax.Expr) (mark : Mark) (s : State) (left : Answer Meaning) (right : State → Answer Meaning) → GivesSound s TypedMeaning left →
    IsSound TypedMeaning right →
    GivesSound s TypedMeaning (then_do (as_operand x left) (λ a t. beside (left_fault t.scopes.structs a) (as_operand y (right t)) (λ b v.
    with_state (index v.scopes.structs mark a b) v)))
index_form x y mark s left right h k =
    operands_form x y left_fault (λ structs a b. index structs mark a b) s left right h k (λ structs a b p q. index_is_typed structs mark a b p q)

pub binary_form : (x y : syntax.Expr) (op : BinOp) (mark : Mark) (s : State) (left : Answer Meaning) (right : State → Answer Meaning) → GivesSound s TypedMeaning left →
    IsSound TypedMeaning right →
    GivesSound s TypedMeaning (then_do (as_operand x left) (λ a t. beside (left_fault t.scopes.structs a) (as_operand y (right t)) (λ b v.
    with_state (binary v.scopes.structs op mark a b) v)))
binary_form x y op mark s left right h k =
    operands_form x y left_fault (λ structs a b. binary structs op mark a b) s left right h k (λ structs a b p q. binary_is_typed structs op mark a b p q)

pub logic_form : (x y : syntax.Expr) (op : LogicOp) (mark : Mark) (s : State) (left : Answer Meaning) (right : State → Answer Meaning) → GivesSound s TypedMeaning left →
    IsSound TypedMeaning right →
    GivesSound s TypedMeaning (then_do (as_operand x left) (λ a t. beside (left_fault t.scopes.structs a) (as_operand y (right t)) (λ b v.
    with_state (logic v.scopes.structs op mark a b) v)))
logic_form x y op mark s left right h k =
    operands_form x y left_fault (λ structs a b. logic structs op mark a b) s left right h k (λ structs a b p q. logic_is_typed structs op mark a b p q)

pub comma_form : (x y : syntax.Expr) (mark : Mark) (s : State) (left : Answer Meaning) (right : State → Answer Meaning) → GivesSound s TypedMeaning left →
    IsSound TypedMeaning right →
    GivesSound s TypedMeaning (then_do (as_operand x left) (λ a t. beside (comma_left t.scopes.structs a) (as_operand y (right t)) (λ b v.
    with_state (comma v.scopes.structs mark a b) v)))
comma_form x y mark s left right h k =
    operands_form x y comma_left (λ structs a b. comma structs mark a b) s left right h k (λ structs a b p q. comma_is_typed structs mark a b p q)

pub assign_form : (y : syntax.Expr) (mark : Mark) (s : State) (left : Answer Meaning) (right : State → Answer Meaning) → GivesSound s TypedMeaning left →
    IsSound TypedMeaning right →
    GivesSound s TypedMeaning (then_do left (λ m t. beside (assign_left t.scopes.structs mark m) (as_operand y (right t)) (λ b v.
    with_state (assign v.scopes.structs mark m b) v)))
assign_form y mark s left right h k =
    two_parts TypedMeaning keeps_meaning s left (λ structs m. assign_left structs mark m) (λ t. as_operand y (right t)) (λ structs m b. assign structs mark m b) h
    (λ t sound. operand_given y t (right t) (k t sound)) (λ structs m b p q. assign_is_typed structs mark m b p q)

pub assign_by_form : (y : syntax.Expr) (op : BinOp) (mark : Mark) (first : Place) (s : State) (left : Answer Meaning) (right : State → Answer Meaning) →
    GivesSound s TypedMeaning left → IsSound TypedMeaning right →
    GivesSound s TypedMeaning (then_do left (λ m t. beside (assign_left t.scopes.structs mark m) (as_operand y (right t)) (λ b v.
    with_state (assign_by v.scopes.structs op mark first m b) v)))
assign_by_form y op mark first s left right h k =
    two_parts TypedMeaning keeps_meaning s left (λ structs m. assign_left structs mark m) (λ t. as_operand y (right t))
    (λ structs m b. assign_by structs op mark first m b) h (λ t sound. operand_given y t (right t) (k t sound))
    (λ structs m b p q. assign_by_is_typed structs op mark first m b p q)

-- ---- `?:`

branches_form : (x y : syntax.Expr) (mark : Mark) (c : Operand) (s : State) (second third : State → Answer Meaning) → are_sound s.scopes ≡ true →
    TypedOperand s.scopes.structs c → IsSound TypedMeaning second → IsSound TypedMeaning third →
    GivesSound s TypedMeaning (then_do (as_operand x (second s)) (λ a t. beside (branch_fault t.scopes.structs a) (as_operand y (third t)) (λ b v.
    with_state (choice v.scopes.structs mark c a b) v)))
branches_form x y mark c s second third h p k l =
    after TypedOperand TypedMeaning s (as_operand x (second s))
    (λ a t. beside (branch_fault t.scopes.structs a) (as_operand y (third t)) (λ b v. with_state (choice v.scopes.structs mark c a b) v))
    (operand_given x s (second s) (k s h)) (λ a t behind q.
    after_beside TypedOperand TypedMeaning t (branch_fault t.scopes.structs a) (as_operand y (third t)) (λ b v. with_state (choice v.scopes.structs mark c a b) v)
    (operand_given y t (third t) (l t behind.sound)) (λ b v later r.
    by_rule TypedMeaning v v (choice v.scopes.structs mark c a b) (behind_here v later.sound)
    (choice_is_typed v.scopes.structs mark c a b
    (keeps_operand t.scopes.structs v.scopes.structs c later.kept (keeps_operand s.scopes.structs t.scopes.structs c behind.kept p))
    (keeps_operand t.scopes.structs v.scopes.structs a later.kept q) r)))

pub choice_form : (e x y : syntax.Expr) (place : Place) (mark : Mark) (s : State) (first : Answer Meaning) (second third : State → Answer Meaning) →
    GivesSound s TypedMeaning first → IsSound TypedMeaning second → IsSound TypedMeaning third →
    GivesSound s TypedMeaning (then_do (as_operand e first) (λ c t. unless (condition_fault t.scopes.structs place c)
    (then_do (as_operand x (second t)) (λ a t. beside (branch_fault t.scopes.structs a) (as_operand y (third t)) (λ b v.
    with_state (choice v.scopes.structs mark c a b) v)))))
choice_form e x y place mark s first second third h k l =
    after TypedOperand TypedMeaning s (as_operand e first)
    (λ c t. unless (condition_fault t.scopes.structs place c)
    (then_do (as_operand x (second t)) (λ a t. beside (branch_fault t.scopes.structs a) (as_operand y (third t)) (λ b v.
    with_state (choice v.scopes.structs mark c a b) v)))) (operand_given e s first h) (λ c t behind p.
    after_unless (SoundBoth t TypedMeaning) (condition_fault t.scopes.structs place c)
    (then_do (as_operand x (second t)) (λ a t. beside (branch_fault t.scopes.structs a) (as_operand y (third t)) (λ b v.
    with_state (choice v.scopes.structs mark c a b) v))) (λ n. branches_form x y mark c t second third behind.sound p k l))
