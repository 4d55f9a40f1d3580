-- What an operation on parts is, behind these.
use Rattle.std.proofs.Common.{◌≡◌, ap, refl, ℕ, Bool, true, false, ◌&&◌, ◌||◌, not, List, Option, Some, None, Result, Ok, Err, if◌then◌else◌}
use Rattle.std.specs.Result.{IfOk}
use Rattle.std.proofs.lemmas.Bool.{and_parts, and_from, or_right}
use Rattle.cake_base.specs.declared.places.Place.{Place}
use Rattle.cake_base.specs.declared.rules.Fault.{Fault}
use Rattle.model_types.specs.declared.marks.Mark.{Mark}
use Rattle.model_types.specs.Types.{CType, typed, Form, Void, Integer, Enum, Pointer, Array, Struct, Function, Types, no_types, more_types, form_of_type}
use Rattle.model_types.specs.Structures.{Structure}
use Rattle.model_types.specs.Layout.{is_complete}
use Rattle.model_grammar.specs.declared.syntax.Name.{Name}
use Rattle.model_grammar.specs.SyntaxForms as syntax
use Rattle.model_core.specs.CoreTypes.{type_of, pointee, is_void, int_type, no_quals}
use Rattle.model_core.specs.TypedParts.{is_array, is_function, is_struct, is_function_pointer}
use Rattle.model_core.specs.TypedExpr.{form_of}
use Rattle.model_core.specs.TypedScope.{is_usable, are_complete, call_is_usable}
use Rattle.model_core.specs.PossibleTypes.{is_possible, is_possible_form, are_possible, is_value_form, has_types, are_structures}
use Rattle.model_core.specs.Core as unit
use Rattle.model_checking.specs.State.{Use, Evaluated, Unevaluated, State, Both, Answer, then_do, unless, beside, with_state}
use Rattle.model_checking.specs.Faults.{wants, or_fault}
use Rattle.model_checking.specs.Meanings.{Meaning, a_place, a_value, a_function, a_target, Operand}
use Rattle.model_checking.specs.MadeCore.{meaning_type, operand_form}
use Rattle.model_checking.specs.HeldValues.{with_held}
use Rattle.model_checking.specs.MemberRules.{Ranked, member_of, value_member, member_as, member}
use Rattle.model_checking.specs.CallRules.{called_form, parameters_in, parameters_of, is_variadic_in, is_count, call_fault}
use Rattle.typed_rule_laws.specs.TypedMeanings.{is_typed_value, is_typed_object, is_typed_meaning, is_typed_operand, known_fits, GivesTyped}
use Rattle.typed_rule_laws.proofs.Values.{value_parts, object_parts}
use Rattle.typed_rule_laws.proofs.Outcomes.{neither, wanted, pointer_operand}
use Rattle.typed_rule_laws.proofs.UnaryForms.{pointee_possible, function_pointer_pointer}
use Rattle.typed_rule_laws.proofs.MemberForms.{member_is_typed}
use Rattle.typed_walk_laws.specs.SoundScopes.{are_sound}
use Rattle.typed_walk_laws.specs.Behind.{TypesKept, Behind, SoundBoth, GivesSound}
use Rattle.typed_walk_laws.proofs.Walks.{Wanted, TypedMeaning, TypedOperand, Anything, after, after_fault, after_unless, by_rule, behind_here, all_kept}
use Rattle.typed_walk_laws.proofs.KeptMeanings.{operand_kept, meaning_kept}
use Rattle.typed_walk_laws.proofs.Declared.{scopes_parts}

pub after_beside : {A B : Type 0} (P : Wanted A) (Q : Wanted B) (before : State) (left : Option Fault) (right : Answer A) (go : A → State → Answer B) →
    GivesSound before P right → ((x : A) (s : State) → Behind before s → P s.scopes.structs x → GivesSound s Q (go x s)) → GivesSound before Q (beside left right go)
after_beside P Q before left right go h k = after_fault (SoundBoth before Q) left (then_do right go) (λ n. after P Q before right go h k)

-- an operand, and the rule of it
pub one_part : {A : Type 0} (P : Wanted A) (s : State) (part : Answer A) (rule : List Structure → A → Result Meaning Fault) → GivesSound s P part →
    ((structs : List Structure) (x : A) → P structs x → GivesTyped structs (rule structs x)) →
    GivesSound s TypedMeaning (then_do part (λ x t. with_state (rule t.scopes.structs x) t))
one_part P s part rule h k =
    after P TypedMeaning s part (λ x t. with_state (rule t.scopes.structs x) t) h (λ x t behind p.
    by_rule TypedMeaning t t (rule t.scopes.structs x) (behind_here t behind.sound) (k t.scopes.structs x p))

-- two parts, of which the left one is kept behind the right one
pub two_parts : {A : Type 0} (P : Wanted A) (kept : (a b : List Structure) (x : A) → TypesKept a b → P a x → P b x) (s : State) (left : Answer A)
    (fault : List Structure → A → Option Fault) (right : State → Answer Operand) (rule : List Structure → A → Operand → Result Meaning Fault) → GivesSound s P left →
    ((t : State) → are_sound t.scopes ≡ true → GivesSound t TypedOperand (right t)) →
    ((structs : List Structure) (x : A) (b : Operand) → P structs x → TypedOperand structs b → GivesTyped structs (rule structs x b)) →
    GivesSound s TypedMeaning (then_do left (λ x t. beside (fault t.scopes.structs x) (right t) (λ b u. with_state (rule u.scopes.structs x b) u)))
two_parts P kept s left fault right rule h k r =
    after P TypedMeaning s left (λ x t. beside (fault t.scopes.structs x) (right t) (λ b u. with_state (rule u.scopes.structs x b) u)) h (λ x t behind p.
    after_beside TypedOperand TypedMeaning t (fault t.scopes.structs x) (right t) (λ b u. with_state (rule u.scopes.structs x b) u) (k t behind.sound) (λ b u later q.
    by_rule TypedMeaning u u (rule u.scopes.structs x b) (behind_here u later.sound)
    (r u.scopes.structs x b (kept t.scopes.structs u.scopes.structs x later.kept p) q)))

pub keeps_operand : (a b : List Structure) (o : Operand) → TypesKept a b → TypedOperand a o → TypedOperand b o
keeps_operand a b o k h = operand_kept a b o.value k h

pub keeps_meaning : (a b : List Structure) (m : Meaning) → TypesKept a b → TypedMeaning a m → TypedMeaning b m
keeps_meaning a b m k h = meaning_kept a b m k h

-- the type of what is typed is possible
pub meaning_possible : (structs : List Structure) (m : Meaning) → is_typed_meaning structs m ≡ true → is_possible structs (meaning_type m) ≡ true
meaning_possible structs (a_place object known) h =
    (object_parts structs object (and_parts (is_typed_object structs object) (known_fits known _) h).0).possible
meaning_possible structs (a_value value) h = (value_parts structs value h).possible
meaning_possible structs (a_function id type by_name mark) h = (and_parts (is_possible structs type) (is_function (form_of_type type)) h).0
meaning_possible structs (a_target pointer) h =
    pointee_possible structs (type_of pointer)
    (value_parts structs pointer (and_parts (is_typed_value structs pointer) (is_function_pointer (form_of pointer)) h).0).possible

-- ---- `.`, behind which there may be an object for the structure's value

abbrev Reaches : State → Both Meaning → Type 0
Reaches s x = Behind s x.state

behind_held : (u : Use) (e : unit.Expr) (s : State) → are_sound s.scopes ≡ true → Behind s (with_held u e s)
behind_held Evaluated e s h = record { sound = h; kept = all_kept s.scopes.structs }
behind_held Unevaluated e s h = record { sound = h; kept = all_kept s.scopes.structs }

value_member_behind : (u : Use) (e : unit.Expr) (name : Name) (mark : Mark) (m : Ranked) (s : State) (b : Bool) → are_sound s.scopes ≡ true →
    is_array (form_of_type m.type) ≡ b → IfOk (value_member u e name mark m s) (Reaches s)
value_member_behind u e name mark m s true h q = rw q (behind_held u e s h)
value_member_behind u e name mark m s false h q = rw q (behind_here s h)

member_as_behind : (u : Use) (m : Meaning) (name : Name) (mark : Mark) (o : Option Ranked) (s : State) → are_sound s.scopes ≡ true → IfOk (member_as u m name mark o s) (Reaches s)
member_as_behind u (a_place object known) name mark (Some m) s h = behind_here s h
member_as_behind u (a_value e) name mark (Some m) s h = value_member_behind u e name mark m s (is_array (form_of_type m.type)) h refl
member_as_behind u (a_function id type by_name at) name mark (Some m) s h = tt
member_as_behind u (a_target pointer) name mark (Some m) s h = tt
member_as_behind u m name mark None s h = tt

both_hold : (s : State) (r : Answer Meaning) → IfOk r (Reaches s) → IfOk r (λ x. is_typed_meaning s.scopes.structs x.made ≡ true) → GivesSound s TypedMeaning r
both_hold s (Ok x) h k = (h, meaning_kept s.scopes.structs x.state.scopes.structs x.made h.kept k)
both_hold s (Err fault) h k = tt

pub member_sound : (u : Use) (m : Meaning) (name : Name) (mark : Mark) (s : State) → are_sound s.scopes ≡ true → is_typed_meaning s.scopes.structs m ≡ true →
    GivesSound s TypedMeaning (member u m name mark s)
member_sound u m name mark s h k =
    let found = member_of s.scopes.structs (form_of_type (meaning_type m)) name.text in
    both_hold s (member u m name mark s)
    (after_unless (Reaches s) (wants (is_struct (form_of_type (meaning_type m))) mark.at 9) (member_as u m name mark found s) (λ n. member_as_behind u m name mark found s h))
    (member_is_typed u m name mark s (scopes_parts s.scopes h).structures k)

-- ---- calls

function_parameters : (structs : List Structure) (f : Form) → is_possible_form structs f ≡ true → are_possible structs (parameters_in f) ≡ true
function_parameters structs (Function r ps v) h =
    let possible = is_possible structs r in
    let value = is_value_form (form_of_type r) in
    (and_parts (possible && value) (are_possible structs ps) (and_parts (possible && value && are_possible structs ps) (has_types ps || not v) h).0).1
function_parameters structs Void h = refl
function_parameters structs (Integer b) h = refl
function_parameters structs (Enum b d) h = refl
function_parameters structs (Pointer t) h = refl
function_parameters structs (Array t n) h = refl
function_parameters structs (Struct id) h = refl

type_parameters : (structs : List Structure) (t : CType) → is_possible structs t ≡ true → are_possible structs (parameters_in (form_of_type t)) ≡ true
type_parameters structs (typed f q) h = function_parameters structs f h

called_is_function : (structs : List Structure) (at : Place) (f : Operand) (n : ℕ) → call_fault structs at f n ≡ None → is_function_pointer (operand_form f) ≡ true
called_is_function structs at f n e =
    wanted (is_function_pointer (operand_form f)) f.first 14
    (neither (wants (is_function_pointer (operand_form f)) f.first 14)
    (or_fault (wants (call_is_usable structs (called_form f)) f.first 22) (wants (is_count (parameters_of f) (is_variadic_in (called_form f)) n) at 15)) e).first

pub parameters_known : (structs : List Structure) (at : Place) (f : Operand) (n : ℕ) → is_typed_operand structs f.value ≡ true → call_fault structs at f n ≡ None →
    are_possible structs (parameters_of f) ≡ true
parameters_known structs at f n h e =
    let value = pointer_operand structs f.value h (function_pointer_pointer (operand_form f) (called_is_function structs at f n e)) in
    type_parameters structs (pointee (form_of_type (type_of f.value))) (pointee_possible structs (type_of f.value) (value_parts structs f.value value).possible)

usable_by : (a b : List Structure) (t : CType) → TypesKept a b → (void : Bool) → is_void t ≡ void → (void || is_complete a t) ≡ true → is_usable b t ≡ true
usable_by a b t k true e h = ap (λ x. x || is_complete b t) e
usable_by a b t k false e h = or_right (is_void t) (is_complete b t) (k.complete t h)

usable_kept : (a b : List Structure) (t : CType) → TypesKept a b → is_usable a t ≡ true → is_usable b t ≡ true
usable_kept a b t k h = usable_by a b t k (is_void t) refl h

complete_kept : (a b : List Structure) (ts : Types) → TypesKept a b → are_complete a ts ≡ true → are_complete b ts ≡ true
complete_kept a b no_types k h = refl
complete_kept a b (more_types t ts) k h =
    let parts = and_parts (is_complete a t) (are_complete a ts) h in
    and_from (is_complete b t) (are_complete b ts) (k.complete t parts.0) (complete_kept a b ts k parts.1)

call_kept : (a b : List Structure) (f : Form) → TypesKept a b → call_is_usable a f ≡ true → call_is_usable b f ≡ true
call_kept a b (Function r ps v) k h =
    let parts = and_parts (is_usable a r) (are_complete a ps) h in
    and_from (is_usable b r) (are_complete b ps) (usable_kept a b r k parts.0) (complete_kept a b ps k parts.1)
call_kept a b f k h = cc

no_faults : (p q r : Bool) (at first : Place) → p ≡ true → q ≡ true → r ≡ true → or_fault (wants p first 14) (or_fault (wants q first 22) (wants r at 15)) ≡ None
no_faults p q r at first a b c = rw (a, b, c) refl

pub call_fault_kept : (a b : List Structure) (at : Place) (f : Operand) (n : ℕ) → TypesKept a b → call_fault a at f n ≡ None → call_fault b at f n ≡ None
call_fault_kept a b at f n k e =
    let count = is_count (parameters_of f) (is_variadic_in (called_form f)) n in
    let usable = call_is_usable a (called_form f) in
    let outer = neither (wants (is_function_pointer (operand_form f)) f.first 14) (or_fault (wants usable f.first 22) (wants count at 15)) e in
    let inner = neither (wants usable f.first 22) (wants count at 15) outer.second in
    no_faults (is_function_pointer (operand_form f)) (call_is_usable b (called_form f)) count at f.first
    (wanted (is_function_pointer (operand_form f)) f.first 14 outer.first) (call_kept a b (called_form f) k (wanted usable f.first 22 inner.first)) (wanted count at 15 inner.second)
