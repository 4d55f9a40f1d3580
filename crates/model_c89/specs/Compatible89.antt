-- Compatible types of a C89 program (ISO/IEC 9899:1990, 6.1.2.6).
use Rattle.std.specs.Prelude.{ℕ, nat_eq, Bool, true, false, ◌&&◌}
use Rattle.std.specs.Str.{bytes_eq}
use Rattle.model_types.specs.Compatible.{same_bool, lengths_agree}
use Rattle.model_core.specs.Types89.{Base, Void, Char, SignedChar, UnsignedChar, Short, UnsignedShort, Int, UnsignedInt, Long, UnsignedLong, Struct}
use Rattle.model_core.specs.Types89.{Type89, Based, Pointer, Array, Function, Types89, no_types, more_types}

abbrev pub base_ordinal : Base → ℕ
base_ordinal Void = 0
base_ordinal Char = 1
base_ordinal SignedChar = 2
base_ordinal UnsignedChar = 3
base_ordinal Short = 4
base_ordinal UnsignedShort = 5
base_ordinal Int = 6
base_ordinal UnsignedInt = 7
base_ordinal Long = 8
base_ordinal UnsignedLong = 9
base_ordinal (Struct name) = 10

abbrev pub same_base : Base → Base → Bool
same_base (Struct x) (Struct y) = bytes_eq x y
same_base a b = nat_eq (base_ordinal a) (base_ordinal b)

abbrev mutual
  -- the same but for a length that one of two arrays doesn't have
  pub compatible : Type89 → Type89 → Bool
  compatible (Based c a) (Based d b) = same_bool c d && same_base a b
  compatible (Pointer c t) (Pointer d u) = same_bool c d && compatible t u
  compatible (Array m t) (Array n u) = lengths_agree m n && compatible t u
  compatible (Function t ps v) (Function u qs w) = compatible t u && compatible_lists ps qs && same_bool v w
  compatible _ _ = false

  pub compatible_lists : Types89 → Types89 → Bool
  compatible_lists no_types no_types = true
  compatible_lists (more_types t ts) (more_types u us) = compatible t u && compatible_lists ts us
  compatible_lists _ _ = false
