-- Calls in a unit (ISO/IEC 9899:2024, 6.5.3.3, 6.9.2): of a function that it defines, of one that it only
-- declares, and of what is no function.
use Rattle.std.specs.Prelude.{ℕ, Bool, true, false, ◌&&◌, not, List, [], ◌∷◌, Option, Some, None, is_some, if◌then◌else◌}
use Rattle.std.specs.Str.{bytes_eq}
use Rattle.model_types.specs.declared.numbers.Basic.TheVariants.{Char}
use Rattle.model_types.specs.declared.types.Quals.{Quals}
use Rattle.model_types.specs.declared.types.StructId.{StructId}
use Rattle.model_types.specs.Types.{CType, typed, Form, Void, Integer, Enum, Pointer, Array, Struct, Function, Types, no_types, more_types, quals_of_type}
use Rattle.model_types.specs.Structures.{Structure, members_of}
use Rattle.model_types.specs.Compatible.{compatible}
use Rattle.model_runs.specs.Memory.{Value}
use Rattle.model_runs.specs.Outside.{Passed, Answering, NoAnswer, IntegerAnswer, HandleAnswer, OtherAnswer}
use Rattle.model_core.specs.BuiltinTypes.{Builtin, Malloc, Calloc, Free, Exit, Abort, builtin_name, builtin_type}

-- qualifiers without those of ownership
abbrev pub unowned : Quals → Quals
unowned quals = record quals { has_owner = false; has_view = false; has_opt = false }

abbrev mutual
  -- a type without qualifiers of ownership
  pub without_owners : CType → CType
  without_owners (typed form quals) = typed (form_without_owners form) (unowned quals)

  pub form_without_owners : Form → Form
  form_without_owners Void = Void
  form_without_owners (Integer basic) = Integer basic
  form_without_owners (Enum basic order) = Enum basic order
  form_without_owners (Pointer type) = Pointer (without_owners type)
  form_without_owners (Array type count) = Array (without_owners type) count
  form_without_owners (Struct id) = Struct id
  form_without_owners (Function result parameters variadic) = Function (without_owners result) (types_without_owners parameters) variadic

  pub types_without_owners : Types → Types
  types_without_owners no_types = no_types
  types_without_owners (more_types type types) = more_types (without_owners type) (types_without_owners types)

-- the one of this name and type
abbrev pub first_builtin : List Builtin → (name : List ℕ) → CType → Option Builtin
first_builtin [] name type = None
first_builtin (b ∷ bs) name type =
    if bytes_eq (builtin_name b) name && compatible (without_owners type) (builtin_type b) then Some b else first_builtin bs name type

abbrev pub builtin_of : (name : List ℕ) → CType → Option Builtin
builtin_of = first_builtin (Malloc ∷ Calloc ∷ Free ∷ Exit ∷ Abort ∷ [])

-- char, or an enumeration with that underlying type, which is compatible with it
abbrev pub is_char : Form → Bool
is_char (Integer Char) = true
is_char (Enum Char order) = true
is_char form = false

-- a string is read at a pointer to const char; in the variable part, at one to char as well
abbrev pub is_text_parameter : CType → Bool
is_text_parameter (typed (Pointer (typed form quals)) outer) = is_char form && quals.has_const
is_text_parameter _ = false

abbrev pub is_text_argument : CType → Bool
is_text_argument (typed (Pointer (typed form quals)) outer) = is_char form
is_text_argument _ = false

-- what the arguments are to an outside function with these parameters
abbrev pub passed : Types → List CType → List Value → List Passed
passed parameters types [] = []
passed parameters [] (v ∷ vs) = []
passed no_types (type ∷ types) (v ∷ vs) =
    record { value = v; is_text = is_text_argument type; is_owner = false } ∷ passed no_types types vs
passed (more_types parameter parameters) (type ∷ types) (v ∷ vs) =
    record { value = v; is_text = is_text_parameter parameter; is_owner = (quals_of_type parameter).has_owner } ∷ passed parameters types vs

-- the unit completes the structure nowhere
abbrev pub is_incomplete : List Structure → StructId → Bool
is_incomplete structs id = not (is_some (members_of structs id))

-- what an outside function with this result answers
abbrev pub answering : List Structure → CType → Answering
answering structs (typed Void quals) = NoAnswer
answering structs (typed (Integer basic) quals) = IntegerAnswer basic
answering structs (typed (Enum basic order) quals) = IntegerAnswer basic
answering structs (typed (Pointer (typed (Struct id) inner)) quals) = if is_incomplete structs id then HandleAnswer quals.has_owner else OtherAnswer
answering structs _ = OtherAnswer
