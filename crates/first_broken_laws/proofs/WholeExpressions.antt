-- Whole expressions name the first constraint that they break.
use Rattle.std.proofs.Common.{◌≡◌, sym, refl, subst, true, ◌&&◌, List, Option, Result}
use Rattle.std.proofs.lemmas.Bool.{and_parts}
use Rattle.cake_base.specs.declared.places.Place.{Place}
use Rattle.cake_base.specs.declared.rules.Fault.{Fault}
use Rattle.model_types.specs.declared.marks.Mark.{Mark}
use Rattle.model_types.specs.declared.numbers.BinOp.{BinOp}
use Rattle.model_types.specs.declared.operators.LogicOp.{LogicOp}
use Rattle.model_types.specs.declared.operators.StepSide.{StepSide}
use Rattle.model_types.specs.declared.operators.StepSide.TheVariants.{Prefix, Postfix}
use Rattle.model_types.specs.Structures.{Structure}
use Rattle.model_types.specs.Types.{form_of_type}
use Rattle.model_grammar.specs.declared.syntax.Name.{Name}
use Rattle.model_grammar.specs.SyntaxForms as syntax
use Rattle.c_tree.specs.SyntaxPlaces.{expr_first, step_first}
use Rattle.model_core.specs.PossibleTypes.{is_possible}
use Rattle.model_core.specs.TypedParts.{is_function, is_function_pointer}
use Rattle.model_core.specs.TypedExpr.{form_of}
use Rattle.model_core.specs.CoreTypes.{size_in}
use Rattle.model_checking.specs.State.{Use, Unevaluated, State, Answer, then_do, with_state}
use Rattle.model_checking.specs.Meanings.{Meaning, a_place, a_value, a_function, a_target, Operand}
use Rattle.model_checking.specs.Marks.{mark_of, in_parentheses}
use Rattle.model_checking.specs.MadeCore.{meaning_type}
use Rattle.model_checking.specs.UnaryRules.{unary, note_taken, step}
use Rattle.model_checking.specs.BinaryRules.{left_fault, binary, logic}
use Rattle.model_checking.specs.PointerRules.{index}
use Rattle.model_checking.specs.MemberRules.{member, arrow}
use Rattle.model_checking.specs.ChoiceRules.{comma_left, comma}
use Rattle.model_checking.specs.SizeRules.{size_of_operand}
use Rattle.model_checking.specs.Reading.{as_operand}
use Rattle.model_checking.specs.Elaborated.{expr}
use Rattle.model_constraints.specs.Pairs.{Pairs, Nothing, Beside, Needs}
use Rattle.model_constraints.specs.BrokenValues.{broken_use, broken_reading}
use Rattle.model_constraints.specs.BrokenNames.{broken_name}
use Rattle.model_constraints.specs.BrokenOperators.{broken_binary, broken_logic, broken_unary, broken_step}
use Rattle.model_constraints.specs.BrokenPointers.{broken_element}
use Rattle.model_constraints.specs.BrokenMembers.{broken_member, broken_arrow}
use Rattle.model_constraints.specs.BrokenCasts.{broken_measure}
use Rattle.model_constraints.specs.BrokenParts.{broken_expr}
use Rattle.typed_rule_laws.specs.TypedMeanings.{is_typed_meaning, is_typed_value}
use Rattle.typed_walk_laws.specs.SoundScopes.{are_sound}
use Rattle.typed_walk_laws.specs.Behind.{SoundBoth, GivesSound}
use Rattle.typed_walk_laws.proofs.Walks.{TypedMeaning}
use Rattle.typed_expression_laws.specs.CoveredTrees.{is_covered}
use Rattle.typed_expression_laws.proofs.WholeTrees.{expr_sound}
use Rattle.first_broken_laws.specs.FirstNamed.{Answers, Precedes, Designates}
use Rattle.first_broken_laws.specs.OrderedTrees.{stands_before, is_step_in_order, is_between, is_in_order}
use Rattle.first_broken_laws.proofs.PairLaws.{StandBehind, nothing_unbroken}
use Rattle.first_broken_laws.proofs.Operands.{use_named, reading_named}
use Rattle.first_broken_laws.proofs.UnaryLaws as unary_laws
use Rattle.first_broken_laws.proofs.BinaryLaws.{index_first}
use Rattle.first_broken_laws.proofs.CallLaws.{measure_first}
use Rattle.first_broken_laws.proofs.OperationLaws.{binary_first, logical_first}
use Rattle.first_broken_laws.proofs.ChoiceLaws.{comma_first, member_first, arrow_first}
use Rattle.first_broken_laws.proofs.Parts.{needs_first, rule_first}
use Rattle.first_broken_laws.proofs.Standing.{StandFrom, both_before, is_before, Between, between, stand_later, stand_behind, from_beside, from_at, from_needs, from_operand, name_at, use_at, reading_at, unary_from, step_from, member_from, arrow_from, binary_from, logic_from, element_from, comma_from}
use Rattle.first_broken_laws.proofs.NameLaws.{name_first}
use Rattle.first_broken_laws.proofs.OperandParts.{from_first, OperandBehind, operand_behind, made_first, operand_first, use_kept, reading_kept, LeftAlone, BothKnown, operands_first}

-- what is typed and called a function is one
designates : (structs : List Structure) (m : Meaning) → is_typed_meaning structs m ≡ true → Designates m
designates structs (a_place object known) h = refl
designates structs (a_value value) h = refl
designates structs (a_function id type by_name mark) h = (and_parts (is_possible structs type) (is_function (form_of_type type)) h).1
designates structs (a_target pointer) h = (and_parts (is_typed_value structs pointer) (is_function_pointer (form_of pointer)) h).1

-- ---- the rules of two operands

use_alone : LeftAlone left_fault broken_use
use_alone = record { names = use_named; stands = use_at; kept = use_kept }

reading_alone : LeftAlone comma_left broken_reading
reading_alone = record { names = reading_named; stands = reading_at; kept = reading_kept }

moved : (at x y : Place) (a b : Operand) → Between at x y → a.first ≡ x → b.first ≡ y → Between at a.first b.first
moved at x y a b h e f = record {
  behind_left = subst (λ (p : Place). Precedes p at) (sym e) h.behind_left;
  before_right = subst (λ (p : Place). Precedes at p) (sym f) h.before_right;
}

binary_known : (op : BinOp) (mark : Mark) (x y : Place) → Between mark.at x y →
    BothKnown x y broken_use (λ structs a b. binary structs op mark a b) (λ structs a b. broken_binary structs op mark.at a b)
binary_known op mark x y h = record {
  stands = λ structs a b e f. from_first x a.first (broken_binary structs op mark.at a b) e (binary_from structs op mark.at a b (moved mark.at x y a b h e f));
  answers = λ structs a b e f. let order = moved mark.at x y a b h e f in binary_first structs op mark a b order.behind_left order.before_right;
}

logic_known : (op : LogicOp) (mark : Mark) (x y : Place) → Between mark.at x y →
    BothKnown x y broken_use (λ structs a b. logic structs op mark a b) (λ structs a b. broken_logic structs mark.at a b)
logic_known op mark x y h = record {
  stands = λ structs a b e f. from_first x a.first (broken_logic structs mark.at a b) e (logic_from structs mark.at a b (moved mark.at x y a b h e f));
  answers = λ structs a b e f. let order = moved mark.at x y a b h e f in logical_first structs op mark a b order.behind_left order.before_right;
}

index_known : (mark : Mark) (x y : Place) → Between mark.at x y →
    BothKnown x y broken_use (λ structs a b. index structs mark a b) (λ structs a b. broken_element structs mark.at a b)
index_known mark x y h = record {
  stands = λ structs a b e f. from_first x a.first (broken_element structs mark.at a b) e (element_from structs mark.at a b (moved mark.at x y a b h e f));
  answers = λ structs a b e f. let order = moved mark.at x y a b h e f in index_first structs mark a b order.behind_left order.before_right;
}

comma_known : (mark : Mark) (x y : Place) → Between mark.at x y →
    BothKnown x y broken_reading (λ structs a b. comma structs mark a b) (λ structs a b. broken_reading structs b)
comma_known mark x y h = record {
  stands = λ structs a b e f. from_first x a.first (broken_reading structs b) e (comma_from structs mark.at a b (moved mark.at x y a b h e f));
  answers = λ structs a b e f. let order = moved mark.at x y a b h e f in
      comma_first structs mark a b (both_before a.first mark.at b.first order.behind_left order.before_right);
}

-- ---- where the pairs of a tree stand

nothing_from : (at : Place) → StandFrom at Nothing
nothing_from at place rule h = absurd h

step_stands : (side : StepSide) (first at : Place) (P : Pairs) → is_step_in_order side first at ≡ true → StandFrom first P → StandFrom (step_first side first at) P
step_stands Prefix first at P h k = stand_later at first P (is_before at first h) k
step_stands Postfix first at P h k = k

measure_from : (structs : List Structure) (at first : Place) (m : Meaning) → Precedes at first → StandFrom at (broken_measure structs first (meaning_type m))
measure_from structs at first m before =
    stand_later at first (broken_measure structs first (meaning_type m)) before (from_at first (broken_measure structs first (meaning_type m)) (λ place rule h. h.1))

operands_stand : (x y : syntax.Expr) (left : Answer Meaning) (right : State → Answer Meaning) (P : Pairs) (R : State → Pairs)
    (fault : List Structure → Operand → Option Fault) (U : List Structure → Operand → Pairs) (rule : List Structure → Operand → Operand → Result Meaning Fault)
    (Q : List Structure → Operand → Operand → Pairs) → StandFrom (expr_first x) P → ((t : State) → StandFrom (expr_first x) (R t)) → LeftAlone fault U →
    BothKnown (expr_first x) (expr_first y) U rule Q →
    StandFrom (expr_first x) (Needs (as_operand x left) P (λ a t. Beside (U t.scopes.structs a) (Needs (as_operand y (right t)) (R t) (λ c v. Q v.scopes.structs a c))))
operands_stand x y left right P R fault U rule Q h k l q =
    from_operand (expr_first x) x left P (λ a t. Beside (U t.scopes.structs a) (Needs (as_operand y (right t)) (R t) (λ c v. Q v.scopes.structs a c))) h (λ a t e.
    from_beside (expr_first x) (U t.scopes.structs a) (Needs (as_operand y (right t)) (R t) (λ c v. Q v.scopes.structs a c))
    (from_first (expr_first x) a.first (U t.scopes.structs a) e (from_at a.first (U t.scopes.structs a) (l.stands t.scopes.structs a)))
    (from_operand (expr_first x) y (right t) (R t) (λ c v. Q v.scopes.structs a c) (k t) (λ c v f. q.stands v.scopes.structs a c e f)))

-- an operand behind the left one and an operator
right_stands : (at x y : Place) (P : Pairs) → Between at x y → StandFrom y P → StandFrom x P
right_stands at x y P h k = stand_later x y P (both_before x at y h.behind_left h.before_right) k

pub expr_stands : (e : syntax.Expr) (u : Use) (s : State) → is_in_order e ≡ true → StandFrom (expr_first e) (broken_expr u s e)
expr_stands (syntax.Identifier name) u s o = from_at name.place (broken_name name s) (name_at name s)
expr_stands (syntax.Constant value basic place) u s o = nothing_from place
expr_stands (syntax.Text bytes place) u s o = nothing_from place
expr_stands (syntax.Truth value place) u s o = nothing_from place
expr_stands (syntax.Nullptr place) u s o = nothing_from place
expr_stands (syntax.Parenthesized inner place) u s o =
    let os = and_parts (stands_before place (expr_first inner)) (is_in_order inner) o in
    stand_later place (expr_first inner) (broken_expr u s inner) (is_before place (expr_first inner) os.0) (expr_stands inner u s os.1)
expr_stands (syntax.CompoundLiteral name values place) u s o = cc
expr_stands (syntax.FunctionLiteral name body place) u s o = cc
expr_stands (syntax.Index array at place) u s o =
    let os = and_parts (is_between place (expr_first array) (expr_first at)) (is_in_order array && is_in_order at) o in
    let ps = and_parts (is_in_order array) (is_in_order at) os.1 in
    let b = between place (expr_first array) (expr_first at) os.0 in
    operands_stand array at (expr u s array) (λ t. expr u t at) (broken_expr u s array) (λ t. broken_expr u t at) left_fault broken_use
    (λ structs a c. index structs (mark_of (syntax.Index array at place)) a c) (λ structs a c. broken_element structs place a c) (expr_stands array u s ps.0)
    (λ t. right_stands place (expr_first array) (expr_first at) (broken_expr u t at) b (expr_stands at u t ps.1)) use_alone
    (index_known (mark_of (syntax.Index array at place)) (expr_first array) (expr_first at) b)
expr_stands (syntax.Call function arguments place) u s o = cc
expr_stands (syntax.Member structure name place) u s o =
    let os = and_parts (stands_before (expr_first structure) place) (stands_before place name.place && is_in_order structure) o in
    let ps = and_parts (stands_before place name.place) (is_in_order structure) os.1 in
    from_needs (expr_first structure) (expr u s structure) (broken_expr u s structure) (λ m t. broken_member t.scopes.structs place m name) (expr_stands structure u s ps.1)
    (λ m t. member_from t.scopes.structs (expr_first structure) place m name (is_before (expr_first structure) place os.0) (is_before place name.place ps.0))
expr_stands (syntax.Arrow pointer name place) u s o =
    let os = and_parts (stands_before (expr_first pointer) place) (stands_before place name.place && is_in_order pointer) o in
    let ps = and_parts (stands_before place name.place) (is_in_order pointer) os.1 in
    let before = both_before (expr_first pointer) place name.place (is_before (expr_first pointer) place os.0) (is_before place name.place ps.0) in
    from_operand (expr_first pointer) pointer (expr u s pointer) (broken_expr u s pointer) (λ p t. broken_arrow t.scopes.structs p name) (expr_stands pointer u s ps.1)
    (λ p t e. from_first (expr_first pointer) p.first (broken_arrow t.scopes.structs p name) e
    (arrow_from t.scopes.structs p name (subst (λ (x : Place). Precedes x name.place) (sym e) before)))
expr_stands (syntax.Step op side object place) u s o =
    let os = and_parts (is_step_in_order side (expr_first object) place) (is_in_order object) o in
    from_needs (step_first side (expr_first object) place) (expr u s object) (broken_expr u s object) (λ m t. broken_step t.scopes.structs place (expr_first object) m)
    (step_stands side (expr_first object) place (broken_expr u s object) os.0 (expr_stands object u s os.1))
    (λ m t. step_from t.scopes.structs side place (expr_first object) m os.0)
expr_stands (syntax.Unary op e place) u s o =
    let os = and_parts (stands_before place (expr_first e)) (is_in_order e) o in
    let before = is_before place (expr_first e) os.0 in
    from_needs place (expr u s e) (broken_expr u s e) (λ m t. broken_unary t.scopes.structs op place (expr_first e) m)
    (stand_later place (expr_first e) (broken_expr u s e) before (expr_stands e u s os.1)) (λ m t. unary_from t.scopes.structs op place (expr_first e) m before)
expr_stands (syntax.SizeofExpr e place) u s o =
    let os = and_parts (stands_before place (expr_first e)) (is_in_order e) o in
    let before = is_before place (expr_first e) os.0 in
    from_needs place (expr Unevaluated s e) (broken_expr Unevaluated s e) (λ m t. broken_measure t.scopes.structs (expr_first e) (meaning_type m))
    (stand_later place (expr_first e) (broken_expr Unevaluated s e) before (expr_stands e Unevaluated s os.1))
    (λ m t. measure_from t.scopes.structs place (expr_first e) m before)
expr_stands (syntax.SizeofType name place) u s o = cc
expr_stands (syntax.Alignof name place) u s o = cc
expr_stands (syntax.Cast name e place) u s o = cc
expr_stands (syntax.Binary op left right place) u s o =
    let os = and_parts (is_between place (expr_first left) (expr_first right)) (is_in_order left && is_in_order right) o in
    let ps = and_parts (is_in_order left) (is_in_order right) os.1 in
    let b = between place (expr_first left) (expr_first right) os.0 in
    operands_stand left right (expr u s left) (λ t. expr u t right) (broken_expr u s left) (λ t. broken_expr u t right) left_fault broken_use
    (λ structs a c. binary structs op (mark_of (syntax.Binary op left right place)) a c) (λ structs a c. broken_binary structs op place a c) (expr_stands left u s ps.0)
    (λ t. right_stands place (expr_first left) (expr_first right) (broken_expr u t right) b (expr_stands right u t ps.1)) use_alone
    (binary_known op (mark_of (syntax.Binary op left right place)) (expr_first left) (expr_first right) b)
expr_stands (syntax.Logic op left right place) u s o =
    let os = and_parts (is_between place (expr_first left) (expr_first right)) (is_in_order left && is_in_order right) o in
    let ps = and_parts (is_in_order left) (is_in_order right) os.1 in
    let b = between place (expr_first left) (expr_first right) os.0 in
    operands_stand left right (expr u s left) (λ t. expr u t right) (broken_expr u s left) (λ t. broken_expr u t right) left_fault broken_use
    (λ structs a c. logic structs op (mark_of (syntax.Logic op left right place)) a c) (λ structs a c. broken_logic structs place a c) (expr_stands left u s ps.0)
    (λ t. right_stands place (expr_first left) (expr_first right) (broken_expr u t right) b (expr_stands right u t ps.1)) use_alone
    (logic_known op (mark_of (syntax.Logic op left right place)) (expr_first left) (expr_first right) b)
expr_stands (syntax.Conditional condition first second place) u s o = cc
expr_stands (syntax.Assign left right place) u s o = cc
expr_stands (syntax.AssignBy op left right place) u s o = cc
expr_stands (syntax.Comma first second place) u s o =
    let os = and_parts (is_between place (expr_first first) (expr_first second)) (is_in_order first && is_in_order second) o in
    let ps = and_parts (is_in_order first) (is_in_order second) os.1 in
    let b = between place (expr_first first) (expr_first second) os.0 in
    operands_stand first second (expr u s first) (λ t. expr u t second) (broken_expr u s first) (λ t. broken_expr u t second) comma_left broken_reading
    (λ structs a c. comma structs (mark_of (syntax.Comma first second place)) a c) (λ structs a c. broken_reading structs c) (expr_stands first u s ps.0)
    (λ t. right_stands place (expr_first first) (expr_first second) (broken_expr u t second) b (expr_stands second u t ps.1)) reading_alone
    (comma_known (mark_of (syntax.Comma first second place)) (expr_first first) (expr_first second) b)

-- ---- what is named first

prefix_before : (side : StepSide) (first at : Place) → is_step_in_order side first at ≡ true → side ≡ Prefix → Precedes at first
prefix_before Prefix first at h e = is_before at first h
prefix_before Postfix first at h e = cc

postfix_before : (side : StepSide) (first at : Place) → is_step_in_order side first at ≡ true → side ≡ Postfix → Precedes first at
postfix_before Prefix first at h e = cc
postfix_before Postfix first at h e = is_before first at h

-- a rule of one operand
one_first : (s : State) (part : Answer Meaning) (P : Pairs) (rule : List Structure → Meaning → Result Meaning Fault) (Q : List Structure → Meaning → Pairs)
    (behind : Meaning → State → State) → GivesSound s TypedMeaning part → Answers P part →
    ((structs : List Structure) (m : Meaning) → TypedMeaning structs m → Answers (Q structs m) (rule structs m)) →
    Answers (Needs part P (λ m t. Q t.scopes.structs m)) (then_do part (λ m t. with_state (rule t.scopes.structs m) (behind m t)))
one_first s part P rule Q behind h k r =
    needs_first (SoundBoth s TypedMeaning) part P (λ m t. Q t.scopes.structs m) (λ m t. with_state (rule t.scopes.structs m) (behind m t)) h k (λ x f.
    rule_first (Q x.state.scopes.structs x.made) (rule x.state.scopes.structs x.made) (behind x.made x.state) (r x.state.scopes.structs x.made f.1))

member_part : (u : Use) (name : Name) (mark : Mark) (s : State) (part : Answer Meaning) (P : Pairs) → GivesSound s TypedMeaning part → Answers P part →
    Answers (Needs part P (λ m t. broken_member t.scopes.structs mark.at m name)) (then_do part (λ m t. member u m name mark t))
member_part u name mark s part P h k =
    needs_first (SoundBoth s TypedMeaning) part P (λ m t. broken_member t.scopes.structs mark.at m name) (λ m t. member u m name mark t) h k (λ x f.
    member_first u x.made name mark x.state (designates x.state.scopes.structs x.made f.1))

arrow_part : (e : syntax.Expr) (name : Name) (mark : Mark) (s : State) (part : Answer Meaning) (P : Pairs) → GivesSound s TypedMeaning part → Answers P part →
    Answers (Needs (as_operand e part) P (λ p t. broken_arrow t.scopes.structs p name))
    (then_do (as_operand e part) (λ p t. with_state (arrow t.scopes.structs p name mark) t))
arrow_part e name mark s part P h k =
    needs_first (OperandBehind e s) (as_operand e part) P (λ p t. broken_arrow t.scopes.structs p name) (λ p t. with_state (arrow t.scopes.structs p name mark) t)
    (operand_behind e s part h) (operand_first e P part k) (λ x f.
    rule_first (broken_arrow x.state.scopes.structs x.made name) (arrow x.state.scopes.structs x.made name mark) x.state
    (arrow_first x.state.scopes.structs x.made name mark))

-- an operand's pairs stand behind the left one
right_behind : (at x y : Place) (P : Pairs) → Between at x y → StandFrom y P → StandBehind x P
right_behind at x y P h k = stand_behind x y P (both_before x at y h.behind_left h.before_right) k

pub expr_first_broken : (e : syntax.Expr) (u : Use) (s : State) → is_covered e ≡ true → is_in_order e ≡ true → are_sound s.scopes ≡ true →
    Answers (broken_expr u s e) (expr u s e)
expr_first_broken (syntax.Identifier name) u s c o h = name_first u name s
expr_first_broken (syntax.Constant value basic place) u s c o h = nothing_unbroken
expr_first_broken (syntax.Text bytes place) u s c o h = nothing_unbroken
expr_first_broken (syntax.Truth value place) u s c o h = nothing_unbroken
expr_first_broken (syntax.Nullptr place) u s c o h = nothing_unbroken
expr_first_broken (syntax.Parenthesized inner place) u s c o h =
    let os = and_parts (stands_before place (expr_first inner)) (is_in_order inner) o in
    made_first (broken_expr u s inner) (expr u s inner) (λ m. in_parentheses place m) (expr_first_broken inner u s c os.1 h)
expr_first_broken (syntax.CompoundLiteral name values place) u s c o h = cc
expr_first_broken (syntax.FunctionLiteral name body place) u s c o h = cc
expr_first_broken (syntax.Index array at place) u s c o h =
    let cs = and_parts (is_covered array) (is_covered at) c in
    let os = and_parts (is_between place (expr_first array) (expr_first at)) (is_in_order array && is_in_order at) o in
    let ps = and_parts (is_in_order array) (is_in_order at) os.1 in
    let b = between place (expr_first array) (expr_first at) os.0 in
    operands_first array at s (expr u s array) (λ t. expr u t at) (broken_expr u s array) (λ t. broken_expr u t at) left_fault broken_use
    (λ structs a d. index structs (mark_of (syntax.Index array at place)) a d) (λ structs a d. broken_element structs place a d)
    (expr_sound array u s cs.0 h) (λ t k. expr_sound at u t cs.1 k) (expr_first_broken array u s cs.0 ps.0 h) (λ t k. expr_first_broken at u t cs.1 ps.1 k)
    (λ t. right_behind place (expr_first array) (expr_first at) (broken_expr u t at) b (expr_stands at u t ps.1)) use_alone
    (index_known (mark_of (syntax.Index array at place)) (expr_first array) (expr_first at) b)
expr_first_broken (syntax.Call function arguments place) u s c o h = cc
expr_first_broken (syntax.Member structure name place) u s c o h =
    let os = and_parts (stands_before (expr_first structure) place) (stands_before place name.place && is_in_order structure) o in
    let ps = and_parts (stands_before place name.place) (is_in_order structure) os.1 in
    member_part u name (mark_of (syntax.Member structure name place)) s (expr u s structure) (broken_expr u s structure) (expr_sound structure u s c h)
    (expr_first_broken structure u s c ps.1 h)
expr_first_broken (syntax.Arrow pointer name place) u s c o h =
    let os = and_parts (stands_before (expr_first pointer) place) (stands_before place name.place && is_in_order pointer) o in
    let ps = and_parts (stands_before place name.place) (is_in_order pointer) os.1 in
    arrow_part pointer name (mark_of (syntax.Arrow pointer name place)) s (expr u s pointer) (broken_expr u s pointer) (expr_sound pointer u s c h)
    (expr_first_broken pointer u s c ps.1 h)
expr_first_broken (syntax.Step op side object place) u s c o h =
    let os = and_parts (is_step_in_order side (expr_first object) place) (is_in_order object) o in
    let mark = mark_of (syntax.Step op side object place) in
    one_first s (expr u s object) (broken_expr u s object) (λ structs m. step structs op side mark (expr_first object) m)
    (λ structs m. broken_step structs place (expr_first object) m) (λ m t. t) (expr_sound object u s c h) (expr_first_broken object u s c os.1 h) (λ structs m k.
    unary_laws.step_first structs op side mark (expr_first object) m (prefix_before side (expr_first object) place os.0) (postfix_before side (expr_first object) place os.0))
expr_first_broken (syntax.Unary op e place) u s c o h =
    let os = and_parts (stands_before place (expr_first e)) (is_in_order e) o in
    let mark = mark_of (syntax.Unary op e place) in
    one_first s (expr u s e) (broken_expr u s e) (λ structs m. unary structs op mark (expr_first e) m) (λ structs m. broken_unary structs op place (expr_first e) m)
    (λ m t. note_taken u op m t) (expr_sound e u s c h) (expr_first_broken e u s c os.1 h) (λ structs m k.
    unary_laws.unary_first structs op mark (expr_first e) m (is_before place (expr_first e) os.0) (designates structs m k))
expr_first_broken (syntax.SizeofExpr e place) u s c o h =
    let os = and_parts (stands_before place (expr_first e)) (is_in_order e) o in
    let mark = mark_of (syntax.SizeofExpr e place) in
    one_first s (expr Unevaluated s e) (broken_expr Unevaluated s e) (λ structs m. size_of_operand structs mark (expr_first e) m)
    (λ structs m. broken_measure structs (expr_first e) (meaning_type m)) (λ m t. t) (expr_sound e Unevaluated s c h) (expr_first_broken e Unevaluated s c os.1 h)
    (λ structs m k. measure_first structs mark (expr_first e) (meaning_type m) (size_in structs (meaning_type m)))
expr_first_broken (syntax.SizeofType name place) u s c o h = cc
expr_first_broken (syntax.Alignof name place) u s c o h = cc
expr_first_broken (syntax.Cast name e place) u s c o h = cc
expr_first_broken (syntax.Binary op left right place) u s c o h =
    let cs = and_parts (is_covered left) (is_covered right) c in
    let os = and_parts (is_between place (expr_first left) (expr_first right)) (is_in_order left && is_in_order right) o in
    let ps = and_parts (is_in_order left) (is_in_order right) os.1 in
    let b = between place (expr_first left) (expr_first right) os.0 in
    operands_first left right s (expr u s left) (λ t. expr u t right) (broken_expr u s left) (λ t. broken_expr u t right) left_fault broken_use
    (λ structs a d. binary structs op (mark_of (syntax.Binary op left right place)) a d) (λ structs a d. broken_binary structs op place a d)
    (expr_sound left u s cs.0 h) (λ t k. expr_sound right u t cs.1 k) (expr_first_broken left u s cs.0 ps.0 h) (λ t k. expr_first_broken right u t cs.1 ps.1 k)
    (λ t. right_behind place (expr_first left) (expr_first right) (broken_expr u t right) b (expr_stands right u t ps.1)) use_alone
    (binary_known op (mark_of (syntax.Binary op left right place)) (expr_first left) (expr_first right) b)
expr_first_broken (syntax.Logic op left right place) u s c o h =
    let cs = and_parts (is_covered left) (is_covered right) c in
    let os = and_parts (is_between place (expr_first left) (expr_first right)) (is_in_order left && is_in_order right) o in
    let ps = and_parts (is_in_order left) (is_in_order right) os.1 in
    let b = between place (expr_first left) (expr_first right) os.0 in
    operands_first left right s (expr u s left) (λ t. expr u t right) (broken_expr u s left) (λ t. broken_expr u t right) left_fault broken_use
    (λ structs a d. logic structs op (mark_of (syntax.Logic op left right place)) a d) (λ structs a d. broken_logic structs place a d)
    (expr_sound left u s cs.0 h) (λ t k. expr_sound right u t cs.1 k) (expr_first_broken left u s cs.0 ps.0 h) (λ t k. expr_first_broken right u t cs.1 ps.1 k)
    (λ t. right_behind place (expr_first left) (expr_first right) (broken_expr u t right) b (expr_stands right u t ps.1)) use_alone
    (logic_known op (mark_of (syntax.Logic op left right place)) (expr_first left) (expr_first right) b)
expr_first_broken (syntax.Conditional condition first second place) u s c o h = cc
expr_first_broken (syntax.Assign left right place) u s c o h = cc
expr_first_broken (syntax.AssignBy op left right place) u s c o h = cc
expr_first_broken (syntax.Comma first second place) u s c o h =
    let cs = and_parts (is_covered first) (is_covered second) c in
    let os = and_parts (is_between place (expr_first first) (expr_first second)) (is_in_order first && is_in_order second) o in
    let ps = and_parts (is_in_order first) (is_in_order second) os.1 in
    let b = between place (expr_first first) (expr_first second) os.0 in
    operands_first first second s (expr u s first) (λ t. expr u t second) (broken_expr u s first) (λ t. broken_expr u t second) comma_left broken_reading
    (λ structs a d. comma structs (mark_of (syntax.Comma first second place)) a d) (λ structs a d. broken_reading structs d)
    (expr_sound first u s cs.0 h) (λ t k. expr_sound second u t cs.1 k) (expr_first_broken first u s cs.0 ps.0 h) (λ t k. expr_first_broken second u t cs.1 ps.1 k)
    (λ t. right_behind place (expr_first first) (expr_first second) (broken_expr u t second) b (expr_stands second u t ps.1)) reading_alone
    (comma_known (mark_of (syntax.Comma first second place)) (expr_first first) (expr_first second) b)
