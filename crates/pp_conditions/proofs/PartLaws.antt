-- Values of 64 bits, and the types in which they are operated on.
use Rattle.std.proofs.Common.{◌≡◌, ℕ, ◌^◌, ℤ, pos, neg_ℤ, ◌≤ℤ◌, ◌<ℤ◌, Bool, true, false, ◌||◌, ◌&&◌, not, IsTrue, to_z, of_z, Option, Some, None, MatchOption, refl, sym, ap, ◌∙◌, subst, arith, cond}
use Rattle.std.proofs.lemmas.Int.{ints, to_z-of_z}
use Rattle.std.specs.Int.{w128}
use Rattle.model_types.specs.declared.numbers.Basic.{Basic}
use Rattle.model_types.specs.declared.numbers.Basic.TheVariants.{Int, Long, UnsignedLong}
use Rattle.model_types.specs.declared.numbers.BinOp.{BinOp}
use Rattle.model_types.specs.declared.numbers.Const.{Const}
use Rattle.model_conditions.specs.declared.conditions.Infix.TheVariants.{Integer}
use Rattle.model_types.specs.Operations.{fits, is_signed}
use Rattle.model_types.specs.Conversions.{promoted, common, is_shift, is_comparison, operand_type, result_type, calculated, converted_operation}
use Rattle.model_conditions.specs.ConditionValues.{Valued, wide, operated_unsigned, if_defined, operated, of_binary}
use Rattle.pp_conditions.specs.Parts.{Fitting}

-- values of 64 bits, signed or unsigned
pub record IsNarrow (v : ℤ) : Type 0 where
  pub low : neg_ℤ (pos (2 ^ 63)) ≤ℤ v
  pub high : v <ℤ pos (2 ^ 64)

pub narrow : (unsigned : Bool) (v : ℤ) → IsTrue (fits (wide unsigned) v) → IsNarrow v
narrow true v h = record { low = grind (arith, ints); high = grind (arith, ints) }
narrow false v h = record { low = grind (arith, ints); high = grind (arith, ints) }

-- a value as code passes it on
pub back : (unsigned : Bool) (v : ℤ) → IsTrue (fits (wide unsigned) v) → to_z w128 (of_z w128 v) ≡ v
back unsigned v h = let n = narrow unsigned v h in to_z-of_z w128 v (omega (arith, ints, n.low, n.high))

int_is_wide : (v : ℤ) → IsTrue (fits Int v) → IsTrue (fits (wide false) v)
int_is_wide v h = grind (arith, ints)

common_wide : (left right : Bool) → common (wide left) (wide right) ≡ wide (left || right)
common_wide true true = refl
common_wide true false = refl
common_wide false true = refl
common_wide false false = refl

promoted_wide : (left : Bool) → promoted (wide left) ≡ wide left
promoted_wide true = refl
promoted_wide false = refl

type_by : (shift left right : Bool) → cond shift (promoted (wide left)) (common (wide left) (wide right)) ≡ wide (cond shift left (left || right))
type_by true left right = promoted_wide left
type_by false left right = common_wide left right

-- the type of an operation on parts
pub type_is : (op : BinOp) (left right : Bool) → operand_type op (wide left) (wide right) ≡ wide (operated_unsigned op left right)
type_is op left right = type_by (is_shift op) left right

unsigned_wide : (unsigned : Bool) → not (is_signed (wide unsigned)) ≡ unsigned
unsigned_wide true = refl
unsigned_wide false = refl

pub unsigned_is : (op : BinOp) (left right : Bool) → not (is_signed (operand_type op (wide left) (wide right))) ≡ operated_unsigned op left right
unsigned_is op left right = ap (λ t. not (is_signed t)) (type_is op left right) ∙ unsigned_wide (operated_unsigned op left right)

result_by : (compares unsigned : Bool) (t : Basic) (v : ℤ) → t ≡ wide unsigned → IsTrue (fits (cond compares Int t) v) → IsTrue (fits (wide (not compares && unsigned)) v)
result_by true unsigned t v e h = int_is_wide v h
result_by false unsigned t v e h = subst (λ (z : Basic). IsTrue (fits z v)) e h

-- a result lies in the range of its type
pub result_fits : (op : BinOp) (left right : Bool) (v : ℤ) → IsTrue (fits (result_type op (wide left) (wide right)) v) →
    IsTrue (fits (wide (not (is_comparison op) && operated_unsigned op left right)) v)
result_fits op left right v h = result_by (is_comparison op) (operated_unsigned op left right) (operand_type op (wide left) (wide right)) v (type_is op left right) h

-- what an operation on constants of these types gives lies in the range of its type
pub result_is_fitting : (op : BinOp) (left right : Bool) (l r : Const) → l.basic ≡ wide left → r.basic ≡ wide right → (o : Option ℤ) →
    MatchOption o (Unit {0}) (λ v. IsTrue (fits (result_type op l.basic r.basic) v)) →
    (unsigned : Bool) → unsigned ≡ (not (is_comparison op) && operated_unsigned op left right) → Fitting unsigned o
result_is_fitting op left right l r p q None h unsigned e = tt
result_is_fitting op left right l r p q (Some v) h unsigned e =
    let f : IsTrue (fits (result_type op (wide left) (wide right)) v) =
    subst (λ (z : Basic). IsTrue (fits (result_type op (wide left) z) v)) q (subst (λ (z : Basic). IsTrue (fits (result_type op z r.basic) v)) p h) in
    subst (λ (z : Bool). IsTrue (fits (wide z) v)) (sym e) (result_fits op left right v f)

pub operation_is : (op : BinOp) (left right : Bool) (l r : Const) → l.basic ≡ wide left → r.basic ≡ wide right →
    calculated op l r ≡ converted_operation op (wide (operated_unsigned op left right)) l.value r.value
operation_is op left right l r p q =
    let e : operand_type op l.basic r.basic ≡ wide (operated_unsigned op left right) =
    ap (λ (z : Basic). operand_type op z r.basic) p ∙ ap (operand_type op (wide left)) q ∙ type_is op left right in
    ap (λ (t : Basic). converted_operation op t l.value r.value) e

abbrev pub valued_of : Bool → Option ℤ → Valued
valued_of unsigned value = record { unsigned = unsigned; value = value }

-- an operation on two parts that are defined
pub both_is : (op : BinOp) (a b : Valued) (l r : Const) (x y : ℤ) → a.value ≡ Some x → b.value ≡ Some y → l.value ≡ x → r.value ≡ y →
    l.basic ≡ wide a.unsigned → r.basic ≡ wide b.unsigned → (unsigned : Bool) → unsigned ≡ (not (is_comparison op) && operated_unsigned op a.unsigned b.unsigned) →
    (o : Option ℤ) → o ≡ if_defined (calculated op l r) → (record { unsigned = unsigned; value = o }) ≡ of_binary (Integer op) a b
both_is op a b l r x y ax by lx ry p q unsigned u o e =
    let t : Basic = wide (operated_unsigned op a.unsigned b.unsigned) in
    let f : o ≡ operated op t (Some x) (Some y) =
    e ∙ ap if_defined (operation_is op a.unsigned b.unsigned l r p q)
    ∙ ap (λ (z : ℤ). if_defined (converted_operation op t z r.value)) lx ∙ ap (λ (z : ℤ). if_defined (converted_operation op t x z)) ry in
    let g : operated op t a.value b.value ≡ operated op t (Some x) (Some y) =
    ap (λ (z : Option ℤ). operated op t z b.value) ax ∙ ap (operated op t (Some x)) by in
    ap (λ (z : Bool). valued_of z o) u ∙ ap (valued_of (not (is_comparison op) && operated_unsigned op a.unsigned b.unsigned)) (f ∙ sym g)
