-- Composite types of two compatible types (ISO/IEC 9899:2024, 6.2.7): each length that one of them
-- knows is known, and an enumeration stands before its underlying type. A type is compatible with the
-- composite type exactly where it is compatible with both.
use Rattle.std.specs.Prelude.{ℕ, Option, Some, None}
use Rattle.model_types.specs.Types.{CType, typed, Form, Integer, Enum, Pointer, Array, Function, Types, more_types}

abbrev pub known_length : Option ℕ → Option ℕ → Option ℕ
known_length (Some m) n = Some m
known_length None n = n

abbrev mutual
  pub composite : CType → CType → CType
  composite (typed f p) (typed g q) = typed (composite_form f g) p

  pub composite_form : Form → Form → Form
  composite_form (Integer b) (Enum c e) = Enum c e
  composite_form (Pointer t) (Pointer u) = Pointer (composite t u)
  composite_form (Array t m) (Array u n) = Array (composite t u) (known_length m n)
  composite_form (Function r ps v) (Function s qs w) = Function (composite r s) (composite_types ps qs) v
  composite_form f g = f

  pub composite_types : Types → Types → Types
  composite_types (more_types t ts) (more_types u us) = more_types (composite t u) (composite_types ts us)
  composite_types ts us = ts

-- the length of an earlier array, where the later one has none
abbrev pub with_length : CType → CType → CType
with_length (typed (Array t (Some n)) p) (typed (Array u None) q) = typed (Array u (Some n)) q
with_length t u = u
