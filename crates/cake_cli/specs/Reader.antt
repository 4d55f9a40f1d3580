-- The reader's steps over the tokens of a unit, from the left.
use Rattle.std.specs.Prelude.{ℕ, ◌+◌, pos, ◌==◌, List, [], ◌∷◌, Option, Some, None, if◌then◌else◌}
use Rattle.cake_base.specs.declared.places.Place.{Place}
use Rattle.model_types.specs.declared.numbers.BinOp.{BinOp}
use Rattle.model_types.specs.declared.numbers.BinOp.TheVariants.{Mul}
use Rattle.model_tokens.specs.declared.tokens.CTok.{CTok}
use Rattle.model_core.specs.Core.{Expr}
use Rattle.c_model.specs.FirstUnit.{int_constant, int_operation, in_parentheses}
use Rattle.cake_cli.specs.Sorts.{Sort, IntWord, MainName, OpenParenthesis, VoidWord, CloseParenthesis, OpenBrace, ReturnWord, Constant, Sign, Semicolon, CloseBrace, Other, sort_of}

-- a left operand that waits for its right one
pub record Waiting : Type 0 where
  pub op : BinOp
  pub left : Expr
  pub place : Place

-- the operands that wait between two parentheses: of a sum, and of a product
pub record Open : Type 0 where
  pub sum : Option Waiting
  pub product : Option Waiting

abbrev pub nothing_open : Open
nothing_open = record { sum = None; product = None }

abbrev pub joined : Option Waiting → Expr → Expr
joined None right = right
joined (Some w) right = int_operation w.op w.left right w.place

-- the expression between two parentheses
abbrev pub closed : Open → Expr → Expr
closed here operand = joined here.sum (joined here.product operand)

-- the operands that wait outside of a parenthesis that is open, and where it stands
pub record Enclosing : Type 0 where
  pub here : Open
  pub parenthesis : Place

-- how far a unit has been read; the innermost of the outer parentheses is the first
pub data Stage : Type 0 where
  Front : (count : ℕ) → Stage
  Operand : (here : Open) (outer : List Enclosing) → Stage
  Operator : (operand : Expr) (here : Open) (outer : List Enclosing) → Stage
  Tail : (value : Expr) → Stage
  Whole : (value : Expr) → Stage

-- the rank of a word before the expression; 7 where it is none
abbrev pub front_rank : Sort → ℕ
front_rank IntWord = 0
front_rank MainName = 1
front_rank OpenParenthesis = 2
front_rank VoidWord = 3
front_rank CloseParenthesis = 4
front_rank OpenBrace = 5
front_rank ReturnWord = 6
front_rank (Constant number) = 7
front_rank (Sign op) = 7
front_rank Semicolon = 7
front_rank CloseBrace = 7
front_rank Other = 7

-- behind one more word of the front
abbrev pub past_word : ℕ → Stage
past_word count = if count == 6 then Operand nothing_open [] else Front (count + 1)

-- where a word of the front is wanted
abbrev pub past_front : ℕ → Sort → Option Stage
past_front count sort = if front_rank sort == count then Some (past_word count) else None

-- behind an operator
abbrev pub past_product : Place → Expr → Open → Open
past_product place operand here = record { sum = here.sum; product = Some (record { op = Mul; left = joined here.product operand; place = place }) }

abbrev pub past_sum : BinOp → Place → Expr → Open → Open
past_sum op place operand here = record { sum = Some (record { op = op; left = closed here operand; place = place }); product = None }

abbrev pub past_sign : BinOp → Place → Expr → Open → List Enclosing → Stage
past_sign Mul place operand here outer = Operand (past_product place operand here) outer
past_sign op place operand here outer = Operand (past_sum op place operand here) outer

-- behind a closing parenthesis, where one is open
abbrev pub past_close : Expr → Open → List Enclosing → Option Stage
past_close operand here [] = None
past_close operand here (around ∷ outer) = Some (Operator (in_parentheses around.parenthesis (closed here operand)) around.here outer)

-- behind the semicolon, where no parenthesis is open
abbrev pub past_end : Expr → Open → List Enclosing → Option Stage
past_end operand here [] = Some (Tail (closed here operand))
past_end operand here (around ∷ outer) = None

-- where an operand is wanted
abbrev pub past_begin : Sort → Place → Open → List Enclosing → Option Stage
past_begin OpenParenthesis place here outer = Some (Operand nothing_open (record { here = here; parenthesis = place } ∷ outer))
past_begin (Constant number) place here outer = Some (Operator (int_constant (pos number) place) here outer)
past_begin IntWord place here outer = None
past_begin MainName place here outer = None
past_begin VoidWord place here outer = None
past_begin CloseParenthesis place here outer = None
past_begin OpenBrace place here outer = None
past_begin ReturnWord place here outer = None
past_begin (Sign op) place here outer = None
past_begin Semicolon place here outer = None
past_begin CloseBrace place here outer = None
past_begin Other place here outer = None

-- behind an operand
abbrev pub past_operand : Sort → Place → Expr → Open → List Enclosing → Option Stage
past_operand (Sign op) place operand here outer = Some (past_sign op place operand here outer)
past_operand CloseParenthesis place operand here outer = past_close operand here outer
past_operand Semicolon place operand here outer = past_end operand here outer
past_operand IntWord place operand here outer = None
past_operand MainName place operand here outer = None
past_operand OpenParenthesis place operand here outer = None
past_operand VoidWord place operand here outer = None
past_operand OpenBrace place operand here outer = None
past_operand ReturnWord place operand here outer = None
past_operand (Constant number) place operand here outer = None
past_operand CloseBrace place operand here outer = None
past_operand Other place operand here outer = None

-- behind the semicolon
abbrev pub past_tail : Sort → Expr → Option Stage
past_tail CloseBrace value = Some (Whole value)
past_tail IntWord value = None
past_tail MainName value = None
past_tail OpenParenthesis value = None
past_tail VoidWord value = None
past_tail CloseParenthesis value = None
past_tail OpenBrace value = None
past_tail ReturnWord value = None
past_tail (Constant number) value = None
past_tail (Sign op) value = None
past_tail Semicolon value = None
past_tail Other value = None

-- behind one more token, where the unit can go on with it
abbrev pub read_sort : Stage → Sort → Place → Option Stage
read_sort (Front count) sort place = past_front count sort
read_sort (Operand here outer) sort place = past_begin sort place here outer
read_sort (Operator operand here outer) sort place = past_operand sort place operand here outer
read_sort (Tail value) sort place = past_tail sort value
read_sort (Whole value) sort place = None

abbrev pub read_token : Stage → CTok → Option Stage
read_token stage token = read_sort stage (sort_of token.kind) token.place

-- what reading gives: the place of the token with which the unit can't go on, or its value
pub data Reading : Type 0 where
  Stops : (place : Place) → Reading
  Reads : (value : Expr) → Reading

abbrev pub at_end : Stage → Place → Reading
at_end (Whole value) end = Reads value
at_end (Front count) end = Stops end
at_end (Operand here outer) end = Stops end
at_end (Operator operand here outer) end = Stops end
at_end (Tail value) end = Stops end

-- goes on where there is a stage
abbrev pub on_stage : Option Stage → Place → (Stage → Reading) → Reading
on_stage None place next = Stops place
on_stage (Some stage) place next = next stage

-- reads the tokens from this stage on
abbrev pub read_from : Stage → List CTok → (end : Place) → Reading
read_from stage [] end = at_end stage end
read_from stage (token ∷ tokens) end = on_stage (read_token stage token) token.place (λ next. read_from next tokens end)

abbrev pub read_unit : List CTok → (end : Place) → Reading
read_unit tokens end = read_from (Front 0) tokens end
