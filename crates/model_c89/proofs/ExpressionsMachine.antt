-- A machine that reads an expression: it reads what stands before its suffixes, and then each suffix.
use Rattle.std.proofs.Common.{ℕ, ◌==◌, List, [], ◌∷◌, ◌++◌, Bool, not, ◌&&◌, Option, Some, None, if◌then◌else◌}
use Rattle.std.specs.Prelude.{codes}
use Rattle.std.specs.Str.{bytes_eq}
use Rattle.model_types.specs.ByteClasses.{is_digit, is_nondigit, is_word_byte, begins_with}
use Rattle.model_c89.specs.Names89.{is_among, words}
use Rattle.model_c89.specs.Signs89.{sign_text, prefix_text}
use Rattle.model_types.specs.declared.numbers.BinOp.{BinOp}
use Rattle.model_types.specs.declared.numbers.BinOp.TheVariants.{Mul, Div, Rem, Add, Sub, ShiftLeft, ShiftRight, Less, Greater, LessEqual, GreaterEqual, Equal, NotEqual, BitAnd, BitXor, BitOr}
use Rattle.model_types.specs.declared.operators.LogicOp.{LogicOp}
use Rattle.model_types.specs.declared.operators.LogicOp.TheVariants.{And, Or}
use Rattle.model_core.specs.Types89.{Type89}
use Rattle.model_core.specs.Program89.{Expr, Name, Constant, Index, Dot, Arrow, Call, Unary, Binary, Logic, Choice, Cast, Exprs, no_exprs, more_exprs, Prefix, Minus, Complement, Not, Deref, AddressOf, Suffix, Plain, U, L, UL}
use Rattle.model_c89.proofs.UniqueWords.{strip, front, behind, number}
use Rattle.model_c89.proofs.TypesMachine as types

-- what stands behind a blank, after the first expression in parentheses
pub data Operation : Type 0 where
  OfBinary : (op : BinOp) → Operation
  OfLogic : (op : LogicOp) → Operation
  OfChoice : Operation

-- where an expression stands
pub data Frame : Type 0 where
  InIndex : (left : Expr) → Frame
  InCall : (function : Expr) (done : List Expr) → Frame
  InUnary : (op : Prefix) → Frame
  InFirst : Frame
  InBinary : (op : BinOp) (left : Expr) → Frame
  InLogic : (op : LogicOp) (left : Expr) → Frame
  InSecond : (condition : Expr) → Frame
  InThird : (condition first : Expr) → Frame
  InCast : (type : Type89) → Frame

-- before an expression; in the type of a cast; behind an expression
pub data State : Type 0 where
  Want : (frames : List Frame) (text : List ℕ) → State
  InType : (frames : List Frame) (state : types.State) → State
  Have : (frames : List Frame) (value : Expr) (text : List ℕ) → State

abbrev pub exprs : List Expr → Exprs
exprs [] = no_exprs
exprs (e ∷ es) = more_exprs e (exprs es)

abbrev pub suffix_of : List ℕ → Suffix
suffix_of letters = if bytes_eq (codes "UL") letters then UL else if bytes_eq (codes "U") letters then U else if bytes_eq (codes "L") letters then L else Plain

abbrev pub at_number : List Frame → (digits rest : List ℕ) → Option State
at_number frames digits rest = Some (Have frames (Constant (number 0 digits) (suffix_of (front is_word_byte rest))) (behind is_word_byte rest))

abbrev pub at_name : List Frame → List ℕ → Option State
at_name frames text = Some (Have frames (Name (front is_word_byte text)) (behind is_word_byte text))

-- a word of the language begins a type
abbrev pub at_type : List ℕ → Bool
at_type text = begins_with is_nondigit text && is_among words (front is_word_byte text)

abbrev pub second_parenthesis : List Frame → (text : List ℕ) → Option (List ℕ) → Option State
second_parenthesis frames text None = Some (Want (InFirst ∷ frames) text)
second_parenthesis frames text (Some rest) = if at_type rest then Some (InType frames (types.Before [] rest)) else Some (Want (InFirst ∷ frames) text)

abbrev pub prefix_found : List Frame → Prefix → Option (List ℕ) → Option State → Option State
prefix_found frames op (Some rest) other = Some (Want (InUnary op ∷ frames) rest)
prefix_found frames op None other = other

abbrev pub prefix_at : List Frame → List Prefix → List ℕ → Option State
prefix_at frames [] text = second_parenthesis frames text (strip (codes "(") text)
prefix_at frames (op ∷ ops) text = prefix_found frames op (strip (prefix_text op) text) (prefix_at frames ops text)

-- behind `(`
abbrev pub opened : List Frame → List ℕ → Option State
opened frames text = prefix_at frames (Minus ∷ Complement ∷ Not ∷ Deref ∷ AddressOf ∷ []) text

abbrev pub at_parenthesis : List Frame → Option (List ℕ) → Option State
at_parenthesis frames None = None
at_parenthesis frames (Some rest) = opened frames rest

abbrev pub begin : List Frame → List ℕ → Option State
begin frames text =
    if begins_with is_digit text then at_number frames (front is_digit text) (behind is_digit text)
    else if begins_with is_nondigit text then at_name frames text
    else at_parenthesis frames (strip (codes "(") text)

abbrev pub type_ended : List Frame → Type89 → Option (List ℕ) → Option State
type_ended frames type None = None
type_ended frames type (Some rest) = Some (Want (InCast type ∷ frames) rest)

abbrev pub type_end : List Frame → types.State → Option State
type_end frames (types.Before fs text) = None
type_end frames (types.At fs base text) = None
type_end frames (types.After fs base steps name text) = type_ended frames (types.apply steps base) (strip (codes ")") text)

abbrev pub in_type : List Frame → types.State → Option types.State → Option State
in_type frames state (Some next) = Some (InType frames next)
in_type frames state None = type_end frames state

abbrev pub is_mark : ℕ → Bool
is_mark byte = not (byte == 32)

abbrev pub first_operation : List BinOp → List ℕ → Option Operation
first_operation [] text =
    if bytes_eq (codes "&&") text then Some (OfLogic And) else if bytes_eq (codes "||") text then Some (OfLogic Or)
    else if bytes_eq (codes "?") text then Some OfChoice else None
first_operation (op ∷ ops) text = if bytes_eq (sign_text op) text then Some (OfBinary op) else first_operation ops text

abbrev pub operation_of : List ℕ → Option Operation
operation_of = first_operation (Mul ∷ Div ∷ Rem ∷ Add ∷ Sub ∷ ShiftLeft ∷ ShiftRight ∷ Less ∷ Greater ∷ LessEqual ∷ GreaterEqual ∷ Equal ∷ NotEqual ∷ BitAnd ∷ BitXor ∷ BitOr ∷ [])

abbrev pub behind_operation : Operation → Expr → Frame
behind_operation (OfBinary op) left = InBinary op left
behind_operation (OfLogic op) left = InLogic op left
behind_operation OfChoice condition = InSecond condition

abbrev pub wants : List Frame → Frame → Option (List ℕ) → Option State
wants frames frame None = None
wants frames frame (Some rest) = Some (Want (frame ∷ frames) rest)

abbrev pub operates : List Frame → Expr → Option Operation → (rest : List ℕ) → Option State
operates frames left None rest = None
operates frames left (Some operation) rest = wants frames (behind_operation operation left) (strip (codes " ") rest)

abbrev pub behind_first : List Frame → Expr → Option (List ℕ) → Option State
behind_first frames left None = None
behind_first frames left (Some rest) = operates frames left (operation_of (front is_mark rest)) (behind is_mark rest)

abbrev pub has : List Frame → Expr → Option (List ℕ) → Option State
has frames e None = None
has frames e (Some rest) = Some (Have frames e rest)

abbrev pub behind_argument : List Frame → Expr → List Expr → (text : List ℕ) → Option (List ℕ) → Option State
behind_argument frames function done text (Some rest) = Some (Want (InCall function done ∷ frames) rest)
behind_argument frames function done text None = has frames (Call function (exprs done)) (strip (codes ")") text)

-- an expression has ended
abbrev pub leave : List Frame → Expr → List ℕ → Option State
leave [] e text = None
leave (InIndex left ∷ frames) e text = has frames (Index left e) (strip (codes "]") text)
leave (InCall function done ∷ frames) e text = behind_argument frames function (done ++ (e ∷ [])) text (strip (codes ", ") text)
leave (InUnary op ∷ frames) e text = has frames (Unary op e) (strip (codes ")") text)
leave (InFirst ∷ frames) e text = behind_first frames e (strip (codes " ") text)
leave (InBinary op left ∷ frames) e text = has frames (Binary op left e) (strip (codes ")") text)
leave (InLogic op left ∷ frames) e text = has frames (Logic op left e) (strip (codes ")") text)
leave (InSecond condition ∷ frames) e text = wants frames (InThird condition e) (strip (codes " : ") text)
leave (InThird condition first ∷ frames) e text = has frames (Choice condition first e) (strip (codes ")") text)
leave (InCast type ∷ frames) e text = has frames (Cast type e) (strip (codes ")") text)

abbrev pub arguments : List Frame → Expr → (text : List ℕ) → Option (List ℕ) → Option State
arguments frames function text (Some rest) = Some (Have frames (Call function no_exprs) rest)
arguments frames function text None = Some (Want (InCall function [] ∷ frames) text)

abbrev pub after_call : List Frame → Expr → (text : List ℕ) → Option (List ℕ) → Option State
after_call frames e text (Some rest) = arguments frames e rest (strip (codes ")") rest)
after_call frames e text None = leave frames e text

abbrev pub after_arrow : List Frame → Expr → (text : List ℕ) → Option (List ℕ) → Option State
after_arrow frames e text (Some rest) = Some (Have frames (Arrow e (front is_word_byte rest)) (behind is_word_byte rest))
after_arrow frames e text None = after_call frames e text (strip (codes "(") text)

abbrev pub after_dot : List Frame → Expr → (text : List ℕ) → Option (List ℕ) → Option State
after_dot frames e text (Some rest) = Some (Have frames (Dot e (front is_word_byte rest)) (behind is_word_byte rest))
after_dot frames e text None = after_arrow frames e text (strip (codes "->") text)

abbrev pub after_index : List Frame → Expr → (text : List ℕ) → Option (List ℕ) → Option State
after_index frames e text (Some rest) = Some (Want (InIndex e ∷ frames) rest)
after_index frames e text None = after_dot frames e text (strip (codes ".") text)

abbrev pub step : State → Option State
step (Want frames text) = begin frames text
step (InType frames state) = in_type frames state (types.step state)
step (Have frames e text) = after_index frames e text (strip (codes "[") text)
