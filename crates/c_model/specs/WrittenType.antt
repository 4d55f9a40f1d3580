-- How the text writes a type of the unit (ISO/IEC 9899:1990, 6.1.2.5): long long as long, bool as unsigned
-- char, an enumeration as its underlying type, const only behind pointers, and nothing of ownership.
use Rattle.std.specs.Prelude.{ℕ, Bool, true, false, List}
use Rattle.model_types.specs.declared.types.StructId.{StructId}
use Rattle.model_types.specs.Types as source
use Rattle.model_core.specs.Types89.{Void, Struct, base_of, Type89, Based, Pointer, Array, Function, Types89, no_types, more_types}

-- the names that a text gives the structures
abbrev pub StructNames : Type 0
StructNames = StructId → List ℕ

abbrev mutual
  -- a type behind a pointer, with its const
  pub written_behind : StructNames → source.CType → Type89
  written_behind names (source.typed form quals) = written_form names quals.has_const form

  pub written_form : StructNames → (is_const : Bool) → source.Form → Type89
  written_form names is_const source.Void = Based is_const Void
  written_form names is_const (source.Integer basic) = Based is_const (base_of basic)
  written_form names is_const (source.Enum basic order) = Based is_const (base_of basic)
  written_form names is_const (source.Pointer type) = Pointer is_const (written_behind names type)
  written_form names is_const (source.Array type count) = Array count (written_element names is_const type)
  written_form names is_const (source.Struct id) = Based is_const (Struct (names id))
  written_form names is_const (source.Function result parameters is_variadic) =
      Function (written_value names result) (written_types names parameters) is_variadic

  -- an element has the const of its array
  pub written_element : StructNames → (is_const : Bool) → source.CType → Type89
  written_element names true (source.typed form quals) = written_form names true form
  written_element names false (source.typed form quals) = written_form names quals.has_const form

  -- a parameter or result, whose own const doesn't count
  pub written_value : StructNames → source.CType → Type89
  written_value names (source.typed form quals) = written_form names false form

  pub written_types : StructNames → source.Types → Types89
  written_types names source.no_types = no_types
  written_types names (source.more_types type types) = more_types (written_value names type) (written_types names types)

-- a type without the const of its elements
abbrev pub without_const : Type89 → Type89
without_const (Based is_const base) = Based false base
without_const (Pointer is_const to) = Pointer false to
without_const (Array count of) = Array count (without_const of)
without_const (Function result parameters is_variadic) = Function result parameters is_variadic

-- the type of a declared object or function: const of an object isn't written
abbrev pub written_type : StructNames → source.CType → Type89
written_type names type = without_const (written_value names type)
