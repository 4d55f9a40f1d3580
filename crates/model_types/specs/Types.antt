-- The types of the language (ISO/IEC 9899:2024, 6.2.5).
use Rattle.std.specs.Prelude.{ℕ, ◌+◌, Bool, List, [], ◌∷◌, Option}
use Rattle.model_types.specs.declared.numbers.Basic.{Basic}
use Rattle.model_types.specs.declared.types.Quals.{Quals}
use Rattle.model_types.specs.declared.types.StructId.{StructId}

mutual
  -- a form with its qualifiers
  pub data CType : Type 0 where
    typed : Form → Quals → CType

  -- an enumeration has its underlying type and the order of the word `enum` that made it; an array
  -- its element and its length; a function its result, its parameters, and whether it is variadic
  pub data Form : Type 0 where
    Void : Form
    Integer : Basic → Form
    Enum : Basic → ℕ → Form
    Pointer : CType → Form
    Array : CType → Option ℕ → Form
    Struct : StructId → Form
    Function : CType → Types → Bool → Form

  -- a list of types
  pub data Types : Type 0 where
    no_types : Types
    more_types : CType → Types → Types

abbrev pub form_of_type : CType → Form
form_of_type (typed f q) = f

abbrev pub quals_of_type : CType → Quals
quals_of_type (typed f q) = q

-- a list of types, of its items
abbrev pub types : List CType → Types
types [] = no_types
types (t ∷ ts) = more_types t (types ts)

abbrev mutual
  -- how many types a type holds, itself counted
  pub type_nodes : CType → ℕ
  type_nodes (typed f q) = 1 + form_nodes f

  pub form_nodes : Form → ℕ
  form_nodes Void = 0
  form_nodes (Integer b) = 0
  form_nodes (Enum b e) = 0
  form_nodes (Pointer t) = type_nodes t
  form_nodes (Array t n) = type_nodes t
  form_nodes (Struct s) = 0
  form_nodes (Function r ps v) = type_nodes r + types_nodes ps

  pub types_nodes : Types → ℕ
  types_nodes no_types = 0
  types_nodes (more_types t ts) = 1 + type_nodes t + types_nodes ts
