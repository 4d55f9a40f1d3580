-- The grammar of conditions: constant expressions without comma, assignment and cast (ISO/IEC
-- 9899:2024, 6.5.4 to 6.5.16, 6.6, 6.10.2).
use Rattle.std.specs.Prelude.{◌≡◌, ℕ, suc, List, [], ◌∷◌, ◌++◌}
use Rattle.model_conditions.specs.declared.conditions.ConditionToken.{ConditionToken}
use Rattle.model_conditions.specs.declared.conditions.ConditionToken.TheVariants as token
use Rattle.model_conditions.specs.declared.conditions.Infix.{Infix}
use Rattle.model_conditions.specs.declared.conditions.Infix.TheVariants.{Integer, Logic}
use Rattle.model_conditions.specs.declared.conditions.Prefix.{Prefix}
use Rattle.model_conditions.specs.declared.conditions.Prefix.TheVariants.{Plus, Minus, Complement, Not}
use Rattle.model_conditions.specs.declared.conditions.WideNumber.{WideNumber}
use Rattle.model_types.specs.declared.numbers.BinOp.TheVariants.{Mul, Div, Rem, Add, Sub, ShiftLeft, ShiftRight, Less, Greater, LessEqual, GreaterEqual, Equal, NotEqual, BitAnd, BitXor, BitOr}
use Rattle.model_types.specs.declared.operators.LogicOp.TheVariants.{And, Or}

-- the tree of a condition; parentheses leave nothing in it
pub data Condition : Type 0 where
  constant : WideNumber → Condition
  unary : Prefix → Condition → Condition
  binary : Infix → Condition → Condition → Condition
  choice : Condition → Condition → Condition → Condition

-- The kinds of expressions, from the loosest to the tightest. An expression of one kind is one of each
-- looser kind too.
abbrev pub CONDITIONAL : ℕ
CONDITIONAL = 0

abbrev pub LOGICAL_OR : ℕ
LOGICAL_OR = 1

abbrev pub LOGICAL_AND : ℕ
LOGICAL_AND = 2

abbrev pub INCLUSIVE_OR : ℕ
INCLUSIVE_OR = 3

abbrev pub EXCLUSIVE_OR : ℕ
EXCLUSIVE_OR = 4

abbrev pub AND : ℕ
AND = 5

abbrev pub EQUALITY : ℕ
EQUALITY = 6

abbrev pub RELATIONAL : ℕ
RELATIONAL = 7

abbrev pub SHIFT : ℕ
SHIFT = 8

abbrev pub ADDITIVE : ℕ
ADDITIVE = 9

abbrev pub MULTIPLICATIVE : ℕ
MULTIPLICATIVE = 10

abbrev pub UNARY : ℕ
UNARY = 11

abbrev pub PRIMARY : ℕ
PRIMARY = 12

-- the kind of expression that a binary operator makes
abbrev pub kind_of : Infix → ℕ
kind_of (Logic Or) = LOGICAL_OR
kind_of (Logic And) = LOGICAL_AND
kind_of (Integer BitOr) = INCLUSIVE_OR
kind_of (Integer BitXor) = EXCLUSIVE_OR
kind_of (Integer BitAnd) = AND
kind_of (Integer Equal) = EQUALITY
kind_of (Integer NotEqual) = EQUALITY
kind_of (Integer Less) = RELATIONAL
kind_of (Integer Greater) = RELATIONAL
kind_of (Integer LessEqual) = RELATIONAL
kind_of (Integer GreaterEqual) = RELATIONAL
kind_of (Integer ShiftLeft) = SHIFT
kind_of (Integer ShiftRight) = SHIFT
kind_of (Integer Add) = ADDITIVE
kind_of (Integer Sub) = ADDITIVE
kind_of (Integer Mul) = MULTIPLICATIVE
kind_of (Integer Div) = MULTIPLICATIVE
kind_of (Integer Rem) = MULTIPLICATIVE

-- the token of a unary operator
abbrev pub sign_of : Prefix → ConditionToken
sign_of Plus = token.Operator (Integer Add)
sign_of Minus = token.Operator (Integer Sub)
sign_of Complement = token.Complement
sign_of Not = token.Not

-- The tokens are an expression of this kind, with this tree. A binary operator has an expression of
-- its own kind on its left and a tighter one on its right.
pub data Derives : ℕ → List ConditionToken → Condition → Type 0 where
  constants : {ts : List ConditionToken} → (n : WideNumber) → ts ≡ token.Constant n ∷ [] → Derives PRIMARY ts (constant n)
  parentheses : {ts : List ConditionToken} {e : Condition} → (inner : List ConditionToken) → Derives CONDITIONAL inner e →
      ts ≡ token.Open ∷ (inner ++ token.Close ∷ []) → Derives PRIMARY ts e
  tighter : {kind : ℕ} {ts : List ConditionToken} {e : Condition} → Derives (suc kind) ts e → Derives kind ts e
  signed : {ts : List ConditionToken} {e : Condition} → (op : Prefix) (operand : List ConditionToken) → Derives UNARY operand e →
      ts ≡ sign_of op ∷ operand → Derives UNARY ts (unary op e)
  operation : {kind : ℕ} {ts : List ConditionToken} {l r : Condition} → (op : Infix) (left right : List ConditionToken) → kind ≡ kind_of op →
      Derives kind left l → Derives (suc kind) right r →
      ts ≡ left ++ token.Operator op ∷ right → Derives kind ts (binary op l r)
  chosen : {ts : List ConditionToken} {c l r : Condition} → (test first second : List ConditionToken) →
      Derives LOGICAL_OR test c → Derives CONDITIONAL first l → Derives CONDITIONAL second r →
      ts ≡ test ++ token.Question ∷ (first ++ token.Colon ∷ second) → Derives CONDITIONAL ts (choice c l r)
