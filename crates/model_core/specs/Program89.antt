-- C89 programs (ISO/IEC 9899:1990, 6.3 to 6.7), as far as a text is written in them.
use Rattle.std.specs.Prelude.{ℕ, Bool, true, false, ◌&&◌, List, [], ◌∷◌, Option, Some, None, if◌then◌else◌}
use Rattle.std.specs.Str.{bytes_eq}
use Rattle.model_types.specs.declared.numbers.BinOp.{BinOp}
use Rattle.model_types.specs.declared.operators.LogicOp.{LogicOp}
use Rattle.model_core.specs.Types89.{Type89, Types89, no_types, more_types, Function as FunctionType}

-- the letters behind a constant, which say its type: int, unsigned int, long or unsigned long
pub data Suffix : Type 0 where
  Plain : Suffix
  U : Suffix
  L : Suffix
  UL : Suffix

-- a unary operator
pub data Prefix : Type 0 where
  Minus : Prefix
  Complement : Prefix
  Not : Prefix
  Deref : Prefix
  AddressOf : Prefix

mutual
  -- an expression; a constant is a number without a sign
  pub data Expr : Type 0 where
    Name : (name : List ℕ) → Expr
    Constant : (number : ℕ) (suffix : Suffix) → Expr
    Index : (left right : Expr) → Expr
    Dot : (structure : Expr) (name : List ℕ) → Expr
    Arrow : (pointer : Expr) (name : List ℕ) → Expr
    Call : (function : Expr) (arguments : Exprs) → Expr
    Unary : (op : Prefix) (operand : Expr) → Expr
    Binary : (op : BinOp) (left right : Expr) → Expr
    Logic : (op : LogicOp) (left right : Expr) → Expr
    Choice : (condition first second : Expr) → Expr
    Cast : (type : Type89) (operand : Expr) → Expr

  pub data Exprs : Type 0 where
    no_exprs : Exprs
    more_exprs : (first : Expr) (others : Exprs) → Exprs

-- an object of a type, or a member or parameter
pub record Declaration : Type 0 where
  pub type : Type89
  pub name : List ℕ

pub data Label : Type 0 where
  Case : (value : Expr) → Label
  Default : Label

mutual
  pub data Stat : Type 0 where
    Evaluate : (value : Expr) → Stat
    Assign : (left right : Expr) → Stat
    Empty : Stat
    Block : (objects : List Declaration) (body : Stats) → Stat
    If : (condition : Expr) (objects : List Declaration) (body : Stats) → Stat
    IfElse : (condition : Expr) (objects : List Declaration) (body : Stats) (other_objects : List Declaration) (other_body : Stats) → Stat
    Forever : (objects : List Declaration) (body : Stats) → Stat
    Switch : (value : Expr) (items : Items) → Stat
    Break : Stat
    Continue : Stat
    ReturnNothing : Stat
    Return : (value : Expr) → Stat

  pub data Stats : Type 0 where
    no_stats : Stats
    more_stats : (first : Stat) (others : Stats) → Stats

  -- the body of a switch: statements, each behind its labels
  pub data Items : Type 0 where
    no_items : Items
    an_item : (labels : List Label) (stat : Stat) (others : Items) → Items

mutual
  -- an initial value: an expression, a string without the zero behind its bytes, or braces with one at least
  pub data Init : Type 0 where
    Value : (value : Expr) → Init
    Text : (bytes : List ℕ) → Init
    Braces : (first : Init) (others : Inits) → Init

  pub data Inits : Type 0 where
    no_inits : Inits
    more_inits : (first : Init) (others : Inits) → Inits

-- the storage class that a declaration is written with
pub data Storage : Type 0 where
  Plainly : Storage
  Static : Storage
  Extern : Storage

-- a structure: its tag alone, or with members
pub data Structure89 : Type 0 where
  Tag : (name : List ℕ) → Structure89
  Members : (name : List ℕ) (first : Declaration) (others : List Declaration) → Structure89

-- a declaration outside of functions, with its initial value where it has one
pub record Outer : Type 0 where
  pub storage : Storage
  pub type : Type89
  pub name : List ℕ
  pub init : Option Init

-- a defined function, whose parameters have names
pub record Function : Type 0 where
  pub is_static : Bool
  pub result : Type89
  pub name : List ℕ
  pub parameters : List Declaration
  pub is_variadic : Bool
  pub objects : List Declaration
  pub body : Stats

pub record Program : Type 0 where
  pub structures : List Structure89
  pub outers : List Outer
  pub functions : List Function

-- the types of declarations
abbrev pub types_of : List Declaration → Types89
types_of [] = no_types
types_of (d ∷ ds) = more_types d.type (types_of ds)

-- the type of a defined function
abbrev pub function_type : Function → Type89
function_type f = FunctionType f.result (types_of f.parameters) f.is_variadic

-- the function of a name
abbrev pub function_of : List Function → List ℕ → Option Function
function_of [] name = None
function_of (f ∷ fs) name = if bytes_eq f.name name then Some f else function_of fs name

abbrev pub is_external : Storage → Option Init → Bool
is_external Plainly init = true
is_external Static init = false
is_external Extern None = false
is_external Extern (Some init) = true

abbrev pub is_object : Type89 → Bool
is_object (FunctionType result parameters is_variadic) = false
is_object type = true

-- the external object of a name, where it is defined
abbrev pub external_object : List Outer → List ℕ → Option Outer
external_object [] name = None
external_object (o ∷ os) name =
    if is_object o.type && is_external o.storage o.init && bytes_eq o.name name then Some o else external_object os name
