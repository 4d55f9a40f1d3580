-- The typed core of a translation unit (ISO/IEC 9899:2024, 6.5 to 6.9): every name is bound and every
-- conversion is written out; an array or function value is its address. Objects and functions stand by
-- their numbers.
use Rattle.std.specs.Prelude.{ℕ, ◌==◌, ℤ, Bool, false, ◌&&◌, List, [], ◌∷◌, Option, Some, None, if◌then◌else◌}
use Rattle.std.specs.Str.{bytes_eq}
use Rattle.cake_base.specs.declared.places.Place.{Place}
use Rattle.model_types.specs.declared.numbers.BinOp.{BinOp}
use Rattle.model_types.specs.declared.operators.UnaryOp.{UnaryOp}
use Rattle.model_types.specs.declared.operators.LogicOp.{LogicOp}
use Rattle.model_types.specs.declared.operators.StepOp.{StepOp}
use Rattle.model_types.specs.declared.operators.StepSide.{StepSide}
use Rattle.model_types.specs.declared.marks.Mark.{Mark}
use Rattle.model_types.specs.declared.marks.Span.{Span}
use Rattle.model_types.specs.declared.marks.Origin.{Origin}
use Rattle.model_types.specs.Types.{CType}
use Rattle.model_types.specs.Structures.{Structure}

-- how an assignment gets its value: as it is, or by an operator that is done in a type
pub data Assignment : Type 0 where
  Plain : Assignment
  Compound : (op : BinOp) (type : CType) → Assignment

mutual
  -- an expression that has a value; its mark is where it stands
  pub data Expr : Type 0 where
    Constant : (value : ℤ) (type : CType) (mark : Mark) → Expr
    Load : (object : Lvalue) (mark : Mark) → Expr
    Address : (origin : Origin) (object : Lvalue) (mark : Mark) → Expr
    FunctionRef : (id : ℕ) (type : CType) (by_name : Bool) (mark : Mark) → Expr
    Unary : (op : UnaryOp) (operand : Expr) (mark : Mark) → Expr
    Binary : (op : BinOp) (left right : Expr) (mark : Mark) → Expr
    Logic : (op : LogicOp) (left right : Expr) (mark : Mark) → Expr
    Choice : (condition first second : Expr) (mark : Mark) → Expr
    Convert : (origin : Origin) (type : CType) (operand : Expr) (mark : Mark) → Expr
    Call : (function : Expr) (arguments : Exprs) (mark : Mark) → Expr
    Assign : (assignment : Assignment) (object : Lvalue) (value : Expr) (mark : Mark) → Expr
    Step : (op : StepOp) (side : StepSide) (type : CType) (object : Lvalue) (mark : Mark) → Expr
    MemberValue : (structure : Expr) (rank : ℕ) (type : CType) (name : Place) (mark : Mark) → Expr
    Comma : (first second : Expr) (mark : Mark) → Expr

  -- an expression that designates an object (6.3.3.1); of an index, `is_second` says that the pointer is
  -- the second operand. A literal's object gets its values each time: that of a compound literal, which is
  -- written, or the one that is implied where an array member of a structure's value is asked for (6.2.4)
  pub data Lvalue : Type 0 where
    Object : (id : ℕ) (type : CType) (mark : Mark) → Lvalue
    Deref : (pointer : Expr) (mark : Mark) → Lvalue
    Index : (is_second : Bool) (first second : Expr) (mark : Mark) → Lvalue
    Field : (structure : Lvalue) (rank : ℕ) (type : CType) (name : Place) (mark : Mark) → Lvalue
    Arrow : (pointer : Expr) (rank : ℕ) (type : CType) (name : Place) (mark : Mark) → Lvalue
    Literal : (origin : Origin) (id : ℕ) (type : CType) (values : Initials) (mark : Mark) → Lvalue

  pub data Exprs : Type 0 where
    no_exprs : Exprs
    more_exprs : (first : Expr) (others : Exprs) → Exprs

  -- initial values in order of offset, zeros for what is missing: the ranks of the members and elements
  -- that lead to each, its offset in bytes, its type, and the value
  pub data Initials : Type 0 where
    no_initials : Initials
    more_initials : (path : List ℕ) (offset : ℕ) (type : CType) (value : Expr) (others : Initials) → Initials

pub data MaybeExpr : Type 0 where
  no_expr : MaybeExpr
  an_expr : (value : Expr) → MaybeExpr

mutual
  -- a statement; a block's objects are those of automatic storage that are declared in it, and a
  -- switch's those of its body; the place of a defer is that of its word
  pub data Stat : Type 0 where
    Evaluate : (value : Expr) (span : Span) → Stat
    Start : (id : ℕ) (type : CType) (values : Initials) (mark : Mark) → Stat
    Block : (objects : List ℕ) (body : Stats) (span : Span) → Stat
    If : (condition : Expr) (first : Stat) (second : MaybeStat) (span : Span) → Stat
    Switch : (value : Expr) (objects : List ℕ) (body : Cases) (span : Span) → Stat
    While : (condition : Expr) (body : Stat) (span : Span) → Stat
    DoWhile : (body : Stat) (condition : Expr) (span : Span) → Stat
    For : (first condition step : MaybeExpr) (body : Stat) (span : Span) → Stat
    Break : (place : Place) → Stat
    Continue : (place : Place) → Stat
    Return : (value : MaybeExpr) (place : Place) → Stat
    Defer : (body : Stat) (place : Place) (span : Span) → Stat

  pub data Stats : Type 0 where
    no_stats : Stats
    more_stats : (first : Stat) (others : Stats) → Stats

  pub data MaybeStat : Type 0 where
    no_stat : MaybeStat
    a_stat : (stat : Stat) → MaybeStat

  -- the body of a switch: labels and statements
  pub data Cases : Type 0 where
    no_cases : Cases
    a_case : (value : ℤ) (place : Place) (others : Cases) → Cases
    a_default : (place : Place) (others : Cases) → Cases
    a_stat_then : (stat : Stat) (others : Cases) → Cases

-- what an object is: of automatic storage; a parameter; of static storage, with its values; declared and
-- nowhere defined; or that of a string literal, without the zero behind its bytes
pub data Storage : Type 0 where
  Automatic : Storage
  Parameter : Storage
  Static : (values : Initials) → Storage
  Declared : Storage
  Text : (bytes : List ℕ) → Storage

-- an object, with its name where it has one in the source, whether its address is taken, its place, and
-- the place that counts for its name where units are joined
pub record DeclaredObject : Type 0 where
  pub id : ℕ
  pub name : Option (List ℕ)
  pub type : CType
  pub is_external : Bool
  pub storage : Storage
  pub is_address_taken : Bool
  pub place : Place
  pub joint_place : Place

-- the name of a function, or the place of a function literal
pub data FunctionName : Type 0 where
  Named : (name : List ℕ) → FunctionName
  Lambda : (place : Place) → FunctionName

-- a function, with its parameters, and its body where it is defined
pub record Function : Type 0 where
  pub id : ℕ
  pub name : FunctionName
  pub type : CType
  pub is_external : Bool
  pub parameters : List ℕ
  pub body : MaybeStat
  pub place : Place
  pub joint_place : Place

-- a unit, with the place and type of each object and function that is declared, of each member, and of the
-- type-name of each cast and literal; typedefs and what `sizeof` and its kin measure aren't among them. The
-- object of a compound literal at file scope is one of static storage without a name (6.5.3.6)
pub record Core : Type 0 where
  pub objects : List DeclaredObject
  pub functions : List Function
  pub structs : List Structure
  pub named_types : List (Place × CType)

-- the statements of a list
abbrev pub stats : List Stat → Stats
stats [] = no_stats
stats (first ∷ others) = more_stats first (stats others)

-- the expressions of a list
abbrev pub exprs : List Expr → Exprs
exprs [] = no_exprs
exprs (first ∷ others) = more_exprs first (exprs others)

abbrev pub object_of : List DeclaredObject → (id : ℕ) → Option DeclaredObject
object_of [] id = None
object_of (o ∷ os) id = if o.id == id then Some o else object_of os id

-- the name of a function is this one
abbrev pub is_named : FunctionName → List ℕ → Bool
is_named (Named other) name = bytes_eq other name
is_named (Lambda place) name = false

-- the external function of a name
abbrev pub function_of : List Function → List ℕ → Option Function
function_of [] name = None
function_of (f ∷ fs) name = if f.is_external && is_named f.name name then Some f else function_of fs name

abbrev pub is_object_named : Option (List ℕ) → List ℕ → Bool
is_object_named None name = false
is_object_named (Some other) name = bytes_eq other name

-- the external object of a name
abbrev pub external_object : List DeclaredObject → List ℕ → Option DeclaredObject
external_object [] name = None
external_object (o ∷ os) name = if o.is_external && is_object_named o.name name then Some o else external_object os name

abbrev pub function_by_id : List Function → (id : ℕ) → Option Function
function_by_id [] id = None
function_by_id (f ∷ fs) id = if f.id == id then Some f else function_by_id fs id
