-- The values that objects of a C89 program may begin with (ISO/IEC 9899:1990, 6.4): integer constant
-- expressions, null pointers, and addresses at constant offsets through pointer casts.
use Rattle.std.specs.Prelude.{Bool, true, false, ◌&&◌, ◌||◌, is_some}
use Rattle.model_types.specs.declared.numbers.BinOp.TheVariants.{Add, Sub}
use Rattle.model_c89.specs.TargetTypes.{Names, type_of, is_pointer}
use Rattle.model_c89.specs.TargetValues.{is_function}
use Rattle.model_c89.specs.Constants89.{constant_of}
use Rattle.model_c89.specs.TypedParts89.{is_array, is_null_constant}
use Rattle.model_core.specs.Program89 as text

abbrev pub is_integer_constant : Names → text.Expr → Bool
is_integer_constant names e = is_some (constant_of names e)

-- an array or a function by itself is its address
abbrev pub decays : Names → text.Expr → Bool
decays names e = is_array (type_of names e) || is_function (type_of names e)

-- a null pointer, through pointer casts
abbrev pub is_null_pointer : Names → text.Expr → Bool
is_null_pointer names (text.Cast type e) = is_pointer type && (is_null_pointer names e || is_null_constant names e)
is_null_pointer names e = false

abbrev mutual
  -- the address of a function or of an object of static storage, at a constant offset
  pub is_address : Names → text.Expr → Bool
  is_address names (text.Name name) = decays names (text.Name name)
  is_address names (text.Index a b) =
      decays names (text.Index a b)
      && ((is_address names a && is_integer_constant names b) || (is_integer_constant names a && is_address names b))
  is_address names (text.Dot structure name) = decays names (text.Dot structure name) && is_static_place names structure
  is_address names (text.Arrow pointer name) = decays names (text.Arrow pointer name) && is_address names pointer
  is_address names (text.Unary text.AddressOf e) = is_function (type_of names e) || is_static_place names e
  is_address names (text.Unary text.Deref e) = decays names (text.Unary text.Deref e) && is_address names e
  is_address names (text.Cast type e) = is_pointer type && is_address names e
  is_address names (text.Binary Add a b) = (is_address names a && is_integer_constant names b) || (is_integer_constant names a && is_address names b)
  is_address names (text.Binary Sub a b) = is_address names a && is_integer_constant names b
  is_address names e = false

  pub is_static_place : Names → text.Expr → Bool
  is_static_place names (text.Name name) = true
  is_static_place names (text.Index a b) = (is_address names a && is_integer_constant names b) || (is_integer_constant names a && is_address names b)
  is_static_place names (text.Dot structure name) = is_static_place names structure
  is_static_place names (text.Arrow pointer name) = is_address names pointer
  is_static_place names (text.Unary text.Deref e) = is_address names e
  is_static_place names e = false

abbrev pub is_constant : Names → text.Expr → Bool
is_constant names e = is_integer_constant names e || is_null_pointer names e || is_address names e
