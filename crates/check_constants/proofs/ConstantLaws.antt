-- Values of constants are values of their types.
use Rattle.std.proofs.Common.{◌≡◌, ◌∙◌, ap, sym, subst, refl, arith, to_z, of_z, FitsSigned, ℤ, pos, negsuc, ◌-ℤ◌, Bool, true, false, ◌&&◌, ◌||◌, IsTrue, if◌then◌else◌, Option, Some, None, IfSome, nat_eq}
use Rattle.std.proofs.lemmas.Bool.{and_parts, and_from}
use Rattle.std.proofs.lemmas.Int.{ints}
use Rattle.std.specs.Int.{w128}
use Rattle.model_types.specs.declared.numbers.Basic.{Basic}
use Rattle.model_types.specs.declared.numbers.Basic.TheVariants as basic
use Rattle.model_types.specs.declared.numbers.BinOp.{BinOp}
use Rattle.model_types.specs.declared.numbers.BinOp.TheVariants as op
use Rattle.model_types.specs.declared.operators.UnaryOp.{UnaryOp}
use Rattle.model_types.specs.declared.operators.UnaryOp.TheVariants as unary
use Rattle.model_types.specs.declared.marks.Mark.{Mark}
use Rattle.model_types.specs.Types.{CType, Form, Void, Integer, Enum, Pointer, Array, Struct, Function, form_of_type}
use Rattle.model_types.specs.Conversions.{is_shift, is_comparison}
use Rattle.model_types.specs.Operations.{fits, convert, wrapped, truth}
use Rattle.model_types.specs.Compatible.{same_basic}
use Rattle.model_core.specs.CoreTypes.{plain, basic_of, is_pointer, type_of, binary_type, unary_type}
use Rattle.model_core.specs.SameTypes.{is_integer, same_form, same_value_type}
use Rattle.model_core.specs.TypedParts.{is_promoted, same_promoted, is_scalar, takes, takes_one, constant_fits, alike_pointers, is_object_pointer}
use Rattle.model_core.specs.TypedExpr.{form_of, is_typed}
use Rattle.model_core.specs.Core as unit
use Rattle.check_constants.specs.IntegerValues.{is_value_in}
use Rattle.typed_rule_laws.proofs.NullConstants.{integer_not_pointer}
use Rattle.typed_rule_laws.proofs.Integers.{same_integer_is, same_basic_is}

-- ---- parts of typed expressions

pub constant_typed : (v : ℤ) (t : CType) (mark : Mark) → IsTrue (is_typed (unit.Constant v t mark)) → constant_fits v (form_of_type t) ≡ true
constant_typed v t mark h = cc

pub unary_typed : (o : UnaryOp) (e : unit.Expr) (mark : Mark) → IsTrue (is_typed (unit.Unary o e mark)) → takes_one o (form_of_type (type_of e)) ≡ true
unary_typed o e mark h =
    let t : is_typed (unit.Unary o e mark) ≡ true = cc in
    (and_parts (is_typed e) (takes_one o (form_of e)) t).1

pub binary_typed : (o : BinOp) (a b : unit.Expr) (mark : Mark) → IsTrue (is_typed (unit.Binary o a b mark)) →
    takes o (form_of_type (type_of a)) (form_of_type (type_of b)) ≡ true
binary_typed o a b mark h =
    let t : is_typed (unit.Binary o a b mark) ≡ true = cc in
    (and_parts (is_typed a && is_typed b) (takes o (form_of a) (form_of b)) t).1

-- ---- values of an integer type

pub constant_in : (v : ℤ) (f : Form) → constant_fits v f ≡ true → is_integer f ≡ true → is_value_in f v ≡ true
constant_in v Void h i = cc
constant_in v (Integer b) h i = h
constant_in v (Enum b d) h i = h
constant_in v (Pointer t) h i = cc
constant_in v (Array t n) h i = cc
constant_in v (Struct s) h i = cc
constant_in v (Function t ps w) h i = cc

pub value_from : (v : ℤ) (f : Form) → is_integer f ≡ true → IsTrue (fits (basic_of f) v) → is_value_in f v ≡ true
value_from v f i h =
    let t : fits (basic_of f) v ≡ true = cc in
    and_from (is_integer f) (fits (basic_of f) v) i t

pub value_fits : (v : ℤ) (f : Form) → is_value_in f v ≡ true → IsTrue (fits (basic_of f) v)
value_fits v f h =
    let t = (and_parts (is_integer f) (fits (basic_of f) v) h).1 in
    cc

pub truth_fits : (b : Bool) → is_value_in (Integer basic.Int) (truth b) ≡ true
truth_fits true = refl
truth_fits false = refl

-- ---- promoted types

pub promoted_wraps : (b : Basic) (v : ℤ) → is_promoted (Integer b) ≡ true → convert b v ≡ wrapped b v
promoted_wraps basic.Bool v h = cc
promoted_wraps basic.Char v h = refl
promoted_wraps basic.SignedChar v h = refl
promoted_wraps basic.UnsignedChar v h = refl
promoted_wraps basic.Short v h = refl
promoted_wraps basic.UnsignedShort v h = refl
promoted_wraps basic.Int v h = refl
promoted_wraps basic.Unsigned v h = refl
promoted_wraps basic.Long v h = refl
promoted_wraps basic.UnsignedLong v h = refl
promoted_wraps basic.LongLong v h = refl
promoted_wraps basic.UnsignedLongLong v h = refl

promoted_form : (f : Form) → is_promoted f ≡ true → f ≡ Integer (basic_of f)
promoted_form Void h = cc
promoted_form (Integer b) h = refl
promoted_form (Enum b d) h = cc
promoted_form (Pointer t) h = cc
promoted_form (Array t n) h = cc
promoted_form (Struct s) h = cc
promoted_form (Function t ps w) h = cc

pub promoted_operand : (f : Form) → takes_one unary.Complement f ≡ true → is_promoted (Integer (basic_of f)) ≡ true
promoted_operand f h = ap is_promoted (sym (promoted_form f h)) ∙ h

-- ---- what operators take of two integers: values of one promoted type, but for a shift's

no_object : (f : Form) → is_integer f ≡ true → is_object_pointer f ≡ false
no_object Void h = refl
no_object (Integer b) h = refl
no_object (Enum b d) h = refl
no_object (Pointer t) h = cc
no_object (Array t n) h = refl
no_object (Struct s) h = refl
no_object (Function t ps w) h = refl

not_alike : (f g : Form) → is_integer f ≡ true → alike_pointers f g ≡ false
not_alike Void g h = cc
not_alike (Integer b) g h = refl
not_alike (Enum b d) g h = refl
not_alike (Pointer t) g h = cc
not_alike (Array t n) g h = cc
not_alike (Struct s) g h = cc
not_alike (Function t ps w) g h = cc

neither_added : (p i j : Bool) → (p || false && i || j && false) ≡ p
neither_added true i j = refl
neither_added false i true = refl
neither_added false i false = refl

neither_left : (p i j : Bool) → (p || false && i || false && j) ≡ p
neither_left true i j = refl
neither_left false i j = refl

none_beside : (p : Bool) → (p || false) ≡ p
none_beside true = refl
none_beside false = refl

taken_alike : (o : BinOp) (f g : Form) → is_shift o ≡ false → is_integer f ≡ true → is_integer g ≡ true → takes o f g ≡ same_promoted f g
taken_alike op.Add f g s i j = rw (no_object f i, no_object g j) (neither_added (same_promoted f g) (is_integer g) (is_integer f))
taken_alike op.Sub f g s i j = rw (no_object f i) (neither_left (same_promoted f g) (is_integer g) (alike_pointers f g))
taken_alike op.ShiftLeft f g s i j = cc
taken_alike op.ShiftRight f g s i j = cc
taken_alike op.Less f g s i j = rw (no_object f i) (none_beside (same_promoted f g))
taken_alike op.Greater f g s i j = rw (no_object f i) (none_beside (same_promoted f g))
taken_alike op.LessEqual f g s i j = rw (no_object f i) (none_beside (same_promoted f g))
taken_alike op.GreaterEqual f g s i j = rw (no_object f i) (none_beside (same_promoted f g))
taken_alike op.Equal f g s i j = rw (not_alike f g i, no_object f i) (none_beside (same_promoted f g))
taken_alike op.NotEqual f g s i j = rw (not_alike f g i, no_object f i) (none_beside (same_promoted f g))
taken_alike op.Mul f g s i j = refl
taken_alike op.Div f g s i j = refl
taken_alike op.Rem f g s i j = refl
taken_alike op.BitAnd f g s i j = refl
taken_alike op.BitXor f g s i j = refl
taken_alike op.BitOr f g s i j = refl

one_form : (f g : Form) → same_promoted f g ≡ true → g ≡ f
one_form f g h =
    let parts = and_parts (is_promoted f) (same_form f g) h in
    let own = promoted_form f parts.0 in
    same_integer_is (basic_of f) g (ap (λ x. same_form x g) (sym own) ∙ parts.1) ∙ sym own

right_by : (o : BinOp) (f g : Form) (b : Bool) (v w : ℤ) → is_shift o ≡ b → takes o f g ≡ true → is_value_in f v ≡ true → is_value_in g w ≡ true →
    (b || fits (basic_of f) w) ≡ true
right_by o f g true v w s h k l = refl
right_by o f g false v w s h k l =
    let left = and_parts (is_integer f) (fits (basic_of f) v) k in
    let right = and_parts (is_integer g) (fits (basic_of g) w) l in
    let same = one_form f g (sym (taken_alike o f g s left.0 right.0) ∙ h) in
    ap (λ x. fits (basic_of x) w) (sym same) ∙ right.1

pub right_fits : (o : BinOp) (f g : Form) (v w : ℤ) → takes o f g ≡ true → is_value_in f v ≡ true → is_value_in g w ≡ true →
    IsTrue (is_shift o || fits (basic_of f) w)
right_fits o f g v w h k l =
    let t = right_by o f g (is_shift o) v w refl h k l in
    cc

-- ---- what operations give

result_in : (t u : CType) (r : ℤ) → is_integer (form_of_type t) ≡ true → is_pointer (form_of_type u) ≡ false → IsTrue (fits (basic_of (form_of_type t)) r) →
    is_value_in (form_of_type (if is_pointer (form_of_type u) then u else t)) r ≡ true
result_in t u r i p h = rw p (value_from r (form_of_type t) i h)

difference_in : (t u v : CType) (r : ℤ) → is_integer (form_of_type t) ≡ true → IsTrue (fits (basic_of (form_of_type t)) r) →
    is_value_in (form_of_type (if is_pointer (form_of_type t) then v else t)) r ≡ true
difference_in t u v r i h = rw (integer_not_pointer (form_of_type t) i) (value_from r (form_of_type t) i h)

int_in : (r : ℤ) → IsTrue (fits basic.Int r) → is_value_in (Integer basic.Int) r ≡ true
int_in r h = value_from r (Integer basic.Int) refl h

given_by : (o : BinOp) (t u : CType) (r : ℤ) → is_integer (form_of_type t) ≡ true → is_integer (form_of_type u) ≡ true →
    IsTrue (fits (if is_comparison o then basic.Int else basic_of (form_of_type t)) r) → is_value_in (form_of_type (binary_type o t u)) r ≡ true
given_by op.Mul t u r i j h = result_in t u r i (integer_not_pointer (form_of_type u) j) h
given_by op.Div t u r i j h = result_in t u r i (integer_not_pointer (form_of_type u) j) h
given_by op.Rem t u r i j h = result_in t u r i (integer_not_pointer (form_of_type u) j) h
given_by op.Add t u r i j h = result_in t u r i (integer_not_pointer (form_of_type u) j) h
given_by op.ShiftLeft t u r i j h = result_in t u r i (integer_not_pointer (form_of_type u) j) h
given_by op.ShiftRight t u r i j h = result_in t u r i (integer_not_pointer (form_of_type u) j) h
given_by op.BitAnd t u r i j h = result_in t u r i (integer_not_pointer (form_of_type u) j) h
given_by op.BitXor t u r i j h = result_in t u r i (integer_not_pointer (form_of_type u) j) h
given_by op.BitOr t u r i j h = result_in t u r i (integer_not_pointer (form_of_type u) j) h
given_by op.Sub t u r i j h = difference_in t u (if is_pointer (form_of_type u) then plain (Integer basic.Long) else t) r i h
given_by op.Less t u r i j h = int_in r h
given_by op.Greater t u r i j h = int_in r h
given_by op.LessEqual t u r i j h = int_in r h
given_by op.GreaterEqual t u r i j h = int_in r h
given_by op.Equal t u r i j h = int_in r h
given_by op.NotEqual t u r i j h = int_in r h

pub binary_fits : (o : BinOp) (t u : CType) (v w r : ℤ) → is_value_in (form_of_type t) v ≡ true → is_value_in (form_of_type u) w ≡ true →
    IsTrue (fits (if is_comparison o then basic.Int else basic_of (form_of_type t)) r) → is_value_in (form_of_type (binary_type o t u)) r ≡ true
binary_fits o t u v w r k l h =
    given_by o t u r (and_parts (is_integer (form_of_type t)) (fits (basic_of (form_of_type t)) v) k).0
    (and_parts (is_integer (form_of_type u)) (fits (basic_of (form_of_type u)) w) l).0 h

pub unary_fits : (o : UnaryOp) (t : CType) (v w : ℤ) → is_value_in (form_of_type t) v ≡ true → IsTrue (fits (basic_of (form_of_type t)) w) →
    is_value_in (form_of_type t) w ≡ true
unary_fits o t v w k h = value_from w (form_of_type t) (and_parts (is_integer (form_of_type t)) (fits (basic_of (form_of_type t)) v) k).0 h

-- ---- the operands of `?:` have one type

apart : (f g : Form) → is_integer f ≡ false → is_integer g ≡ true → same_form f g ≡ false
apart Void Void h i = cc
apart Void (Integer c) h i = refl
apart Void (Enum c e) h i = refl
apart Void (Pointer u) h i = cc
apart Void (Array u m) h i = cc
apart Void (Struct r) h i = cc
apart Void (Function u qs x) h i = cc
apart (Integer b) g h i = cc
apart (Enum b d) g h i = cc
apart (Pointer t) Void h i = cc
apart (Pointer t) (Integer c) h i = refl
apart (Pointer t) (Enum c e) h i = refl
apart (Pointer t) (Pointer u) h i = cc
apart (Pointer t) (Array u m) h i = cc
apart (Pointer t) (Struct r) h i = cc
apart (Pointer t) (Function u qs x) h i = cc
apart (Array t n) Void h i = cc
apart (Array t n) (Integer c) h i = refl
apart (Array t n) (Enum c e) h i = refl
apart (Array t n) (Pointer u) h i = cc
apart (Array t n) (Array u m) h i = cc
apart (Array t n) (Struct r) h i = cc
apart (Array t n) (Function u qs x) h i = cc
apart (Struct s) Void h i = cc
apart (Struct s) (Integer c) h i = refl
apart (Struct s) (Enum c e) h i = refl
apart (Struct s) (Pointer u) h i = cc
apart (Struct s) (Array u m) h i = cc
apart (Struct s) (Struct r) h i = cc
apart (Struct s) (Function u qs x) h i = cc
apart (Function t ps w) Void h i = cc
apart (Function t ps w) (Integer c) h i = refl
apart (Function t ps w) (Enum c e) h i = refl
apart (Function t ps w) (Pointer u) h i = cc
apart (Function t ps w) (Array u m) h i = cc
apart (Function t ps w) (Struct r) h i = cc
apart (Function t ps w) (Function u qs x) h i = cc

same_integers : (f g : Form) (v : ℤ) → same_form f g ≡ true → is_value_in g v ≡ true → is_value_in f v ≡ true
same_integers (Integer b) g v h k = ap (λ x. is_value_in x v) (sym (same_integer_is b g h)) ∙ k
same_integers (Enum b d) Void v h k = cc
same_integers (Enum b d) (Integer c) v h k = cc
same_integers (Enum b d) (Enum c e) v h k = rw (same_basic_is b c (and_parts (nat_eq d e) (same_basic b c) h).1) k
same_integers (Enum b d) (Pointer u) v h k = cc
same_integers (Enum b d) (Array u m) v h k = cc
same_integers (Enum b d) (Struct r) v h k = cc
same_integers (Enum b d) (Function u qs x) v h k = cc
same_integers Void g v h k =
    let a = apart Void g refl (and_parts (is_integer g) (fits (basic_of g) v) k).0 in
    cc
same_integers (Pointer t) g v h k =
    let a = apart (Pointer t) g refl (and_parts (is_integer g) (fits (basic_of g) v) k).0 in
    cc
same_integers (Array t n) g v h k =
    let a = apart (Array t n) g refl (and_parts (is_integer g) (fits (basic_of g) v) k).0 in
    cc
same_integers (Struct s) g v h k =
    let a = apart (Struct s) g refl (and_parts (is_integer g) (fits (basic_of g) v) k).0 in
    cc
same_integers (Function t ps w) g v h k =
    let a = apart (Function t ps w) g refl (and_parts (is_integer g) (fits (basic_of g) v) k).0 in
    cc

pub choice_value : (c a b : unit.Expr) (mark : Mark) (o : Option ℤ) → IsTrue (is_typed (unit.Choice c a b mark)) →
    IfSome o (λ v. is_value_in (form_of b) v ≡ true) → IfSome o (λ v. is_value_in (form_of_type (type_of a)) v ≡ true)
choice_value c a b mark None h k = k
choice_value c a b mark (Some v) h k =
    let t : is_typed (unit.Choice c a b mark) ≡ true = cc in
    same_integers (form_of a) (form_of b) v
    (and_parts (is_typed c && is_typed a && is_typed b && is_scalar (form_of c)) (same_value_type (type_of a) (type_of b)) t).1 k

-- ---- as the functions that find values ask for them

in_operand : (t : CType) (b : Basic) (v w : ℤ) → b ≡ basic_of (form_of_type t) → is_value_in (form_of_type t) v ≡ true → IsTrue (fits b w) →
    is_value_in (form_of_type t) w ≡ true
in_operand t b v w s k h =
    let known : fits (basic_of (form_of_type t)) w ≡ true = cc in
    and_from (is_integer (form_of_type t)) (fits (basic_of (form_of_type t)) w) (and_parts (is_integer (form_of_type t)) (fits (basic_of (form_of_type t)) v) k).0 known

pub negative_in : (o : UnaryOp) (t : CType) (b : Basic) (v : ℤ) (r : Option ℤ) → o ≡ unary.Minus → b ≡ basic_of (form_of_type t) →
    is_value_in (form_of_type t) v ≡ true → IfSome r (λ w. IsTrue (fits b w)) → IfSome r (λ w. is_value_in (form_of_type (unary_type o t)) w ≡ true)
negative_in o t b v None e s k h = h
negative_in o t b v (Some w) e s k h = ap (λ x. is_value_in (form_of_type (unary_type x t)) w) e ∙ in_operand t b v w s k h

pub complement_in : (o : UnaryOp) (t : CType) (b : Basic) (v w z : ℤ) → o ≡ unary.Complement → z ≡ w → b ≡ basic_of (form_of_type t) →
    is_value_in (form_of_type t) v ≡ true → IsTrue (fits b w) → is_value_in (form_of_type (unary_type o t)) z ≡ true
complement_in o t b v w z e q s k h =
    ap (λ x. is_value_in (form_of_type (unary_type x t)) z) e ∙ ap (is_value_in (form_of_type t)) q ∙ in_operand t b v w s k h

pub right_fits_in : (o : BinOp) (f g : Form) (b : Basic) (v w z : ℤ) → b ≡ basic_of f → z ≡ w → takes o f g ≡ true → is_value_in f v ≡ true →
    is_value_in g w ≡ true → IsTrue (is_shift o || fits b z)
right_fits_in o f g b v w z s q h k l =
    let known : (is_shift o || fits b z) ≡ true =
    ap (λ x. is_shift o || fits x z) s ∙ ap (λ x. is_shift o || fits (basic_of f) x) q ∙ right_by o f g (is_shift o) v w refl h k l in
    cc

pub operated_in : (o : BinOp) (t u : CType) (b : Basic) (v w : ℤ) (r : Option ℤ) → b ≡ basic_of (form_of_type t) → is_value_in (form_of_type t) v ≡ true →
    is_value_in (form_of_type u) w ≡ true → IfSome r (λ x. IsTrue (fits (if is_comparison o then basic.Int else b) x)) →
    IfSome r (λ x. is_value_in (form_of_type (binary_type o t u)) x ≡ true)
operated_in o t u b v w None s k l h = h
operated_in o t u b v w (Some r) s k l h = binary_fits o t u v w r k l (subst (λ (x : Basic). IsTrue (fits (if is_comparison o then basic.Int else x) r)) s h)

pub complement_is : (v : ℤ) → FitsSigned w128 v → to_z w128 (of_z w128 (negsuc 0 -ℤ to_z w128 (of_z w128 v))) ≡ pos 0 -ℤ v -ℤ pos 1
complement_is v h = omega (arith, ints, h)

pub binary_takes : (e : unit.Expr) (o : BinOp) (a b : unit.Expr) (mark : Mark) (t u : CType) → e ≡ unit.Binary o a b mark → IsTrue (is_typed e) →
    t ≡ type_of a → u ≡ type_of b → takes o (form_of_type t) (form_of_type u) ≡ true
binary_takes e o a b mark t u same h s q =
    let known : is_typed e ≡ true = cc in
    let parts : is_typed (unit.Binary o a b mark) ≡ true = sym (ap is_typed same) ∙ known in
    ap (λ x. takes o (form_of_type x) (form_of_type u)) s ∙ ap (λ x. takes o (form_of_type (type_of a)) (form_of_type x)) q
    ∙ (and_parts (is_typed a && is_typed b) (takes o (form_of a) (form_of b)) parts).1

pub second_in : (e c a b : unit.Expr) (mark : Mark) (o : Option ℤ) (t : CType) → e ≡ unit.Choice c a b mark → IsTrue (is_typed e) → t ≡ type_of a →
    IfSome o (λ v. is_value_in (form_of b) v ≡ true) → IfSome o (λ v. is_value_in (form_of_type t) v ≡ true)
second_in e c a b mark None t same h s k = k
second_in e c a b mark (Some v) t same h s k =
    let known : is_typed e ≡ true = cc in
    let parts : is_typed (unit.Choice c a b mark) ≡ true = sym (ap is_typed same) ∙ known in
    ap (λ x. is_value_in (form_of_type x) v) s
    ∙ same_integers (form_of a) (form_of b) v
    (and_parts (is_typed c && is_typed a && is_typed b && is_scalar (form_of c)) (same_value_type (type_of a) (type_of b)) parts).1 k
