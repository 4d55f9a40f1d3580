-- What stands in a C89 program as a word or number: names are names and constants have the values of their
-- types (ISO/IEC 9899:1990, 6.1.2, 6.1.3.2).
use Rattle.std.specs.Prelude.{ℕ, Bool, true, false, ◌<◌, ◌≤◌, List, [], ◌∷◌, Option, Some, None}
use Rattle.model_c89.specs.Names89.{IsName}
use Rattle.model_core.specs.Types89.{Base, Void, Struct, Type89, Based, Pointer, Array, Function as FunctionType, Types89, no_types, more_types}
use Rattle.model_core.specs.Program89 as text

-- the greatest value of a constant with these letters
abbrev pub greatest : text.Suffix → ℕ
greatest text.Plain = 2147483647
greatest text.U = 4294967295
greatest text.L = 9223372036854775807
greatest text.UL = 18446744073709551615

abbrev pub WrittenBase : Base → Type 0
WrittenBase (Struct name) = IsName name
WrittenBase base = Unit {0}

-- a length is a number of bytes that there can be
abbrev pub WrittenCount : Option ℕ → Type 0
WrittenCount None = Unit {0}
WrittenCount (Some count) = count < 18446744073709551616

-- no parameter has type void, which says that there is none
abbrev pub IsNoVoid : Type89 → Type 0
IsNoVoid (Based false Void) = ⊥
IsNoVoid type = Unit {0}

-- where there may be more arguments there is a parameter before them
abbrev pub HasFirst : Types89 → (is_variadic : Bool) → Type 0
HasFirst no_types true = ⊥
HasFirst types is_variadic = Unit {0}

abbrev mutual
  pub WrittenType : Type89 → Type 0
  WrittenType (Based is_const base) = WrittenBase base
  WrittenType (Pointer is_const to) = WrittenType to
  WrittenType (Array count of) = WrittenCount count × WrittenType of
  WrittenType (FunctionType result parameters is_variadic) = WrittenType result × WrittenTypes parameters × HasFirst parameters is_variadic

  pub WrittenTypes : Types89 → Type 0
  WrittenTypes no_types = Unit {0}
  WrittenTypes (more_types first others) = WrittenType first × IsNoVoid first × WrittenTypes others

abbrev mutual
  pub WrittenExpr : text.Expr → Type 0
  WrittenExpr (text.Name name) = IsName name
  WrittenExpr (text.Constant number suffix) = number ≤ greatest suffix
  WrittenExpr (text.Index left right) = WrittenExpr left × WrittenExpr right
  WrittenExpr (text.Dot structure name) = WrittenExpr structure × IsName name
  WrittenExpr (text.Arrow pointer name) = WrittenExpr pointer × IsName name
  WrittenExpr (text.Call function arguments) = WrittenExpr function × WrittenExprs arguments
  WrittenExpr (text.Unary op operand) = WrittenExpr operand
  WrittenExpr (text.Binary op left right) = WrittenExpr left × WrittenExpr right
  WrittenExpr (text.Logic op left right) = WrittenExpr left × WrittenExpr right
  WrittenExpr (text.Choice condition first second) = WrittenExpr condition × WrittenExpr first × WrittenExpr second
  WrittenExpr (text.Cast type operand) = WrittenType type × WrittenExpr operand

  pub WrittenExprs : text.Exprs → Type 0
  WrittenExprs text.no_exprs = Unit {0}
  WrittenExprs (text.more_exprs first others) = WrittenExpr first × WrittenExprs others

abbrev pub WrittenDeclarations : List text.Declaration → Type 0
WrittenDeclarations [] = Unit {0}
WrittenDeclarations (d ∷ ds) = WrittenType d.type × IsName d.name × WrittenDeclarations ds

abbrev pub WrittenLabels : List text.Label → Type 0
WrittenLabels [] = Unit {0}
WrittenLabels (text.Case value ∷ labels) = WrittenExpr value × WrittenLabels labels
WrittenLabels (text.Default ∷ labels) = WrittenLabels labels

abbrev mutual
  pub WrittenStat : text.Stat → Type 0
  WrittenStat (text.Evaluate value) = WrittenExpr value
  WrittenStat (text.Assign left right) = WrittenExpr left × WrittenExpr right
  WrittenStat text.Empty = Unit {0}
  WrittenStat (text.Block objects body) = WrittenDeclarations objects × WrittenStats body
  WrittenStat (text.If condition objects body) = WrittenExpr condition × WrittenDeclarations objects × WrittenStats body
  WrittenStat (text.IfElse condition objects body other_objects other_body) =
      WrittenExpr condition × WrittenDeclarations objects × WrittenStats body × WrittenDeclarations other_objects × WrittenStats other_body
  WrittenStat (text.Forever objects body) = WrittenDeclarations objects × WrittenStats body
  WrittenStat (text.Switch value items) = WrittenExpr value × WrittenItems items
  WrittenStat text.Break = Unit {0}
  WrittenStat text.Continue = Unit {0}
  WrittenStat text.ReturnNothing = Unit {0}
  WrittenStat (text.Return value) = WrittenExpr value

  pub WrittenStats : text.Stats → Type 0
  WrittenStats text.no_stats = Unit {0}
  WrittenStats (text.more_stats stat stats) = WrittenStat stat × WrittenStats stats

  -- a statement has a label before it where it is the first
  pub WrittenItems : text.Items → Type 0
  WrittenItems text.no_items = Unit {0}
  WrittenItems (text.an_item labels stat items) = WrittenLabels labels × WrittenStat stat × WrittenItems items

-- the bytes of a string
abbrev pub WrittenBytes : List ℕ → Type 0
WrittenBytes [] = Unit {0}
WrittenBytes (byte ∷ bytes) = (byte < 256) × WrittenBytes bytes

abbrev mutual
  pub WrittenInit : text.Init → Type 0
  WrittenInit (text.Value value) = WrittenExpr value
  WrittenInit (text.Text bytes) = WrittenBytes bytes
  WrittenInit (text.Braces first others) = WrittenInit first × WrittenInits others

  pub WrittenInits : text.Inits → Type 0
  WrittenInits text.no_inits = Unit {0}
  WrittenInits (text.more_inits first others) = WrittenInit first × WrittenInits others

abbrev pub WrittenValue : Option text.Init → Type 0
WrittenValue None = Unit {0}
WrittenValue (Some init) = WrittenInit init

abbrev pub WrittenOuters : List text.Outer → Type 0
WrittenOuters [] = Unit {0}
WrittenOuters (o ∷ os) = WrittenType o.type × IsName o.name × WrittenValue o.init × WrittenOuters os

abbrev pub WrittenStructures : List text.Structure89 → Type 0
WrittenStructures [] = Unit {0}
WrittenStructures (text.Tag name ∷ structures) = IsName name × WrittenStructures structures
WrittenStructures (text.Members name first others ∷ structures) = IsName name × WrittenDeclarations (first ∷ others) × WrittenStructures structures

abbrev pub WrittenFunctions : List text.Function → Type 0
WrittenFunctions [] = Unit {0}
WrittenFunctions (f ∷ fs) =
    WrittenType f.result × IsName f.name × (WrittenDeclarations f.parameters × HasFirst (text.types_of f.parameters) f.is_variadic)
    × WrittenDeclarations f.objects × WrittenStats f.body × WrittenFunctions fs

pub record Written (program : text.Program) : Type 0 where
  pub structures : WrittenStructures program.structures
  pub outers : WrittenOuters program.outers
  pub functions : WrittenFunctions program.functions
