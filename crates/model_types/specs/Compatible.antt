-- Compatible types (ISO/IEC 9899:2024, 6.2.7, 6.7.4.1, 6.7.7.2 to 6.7.7.4), with the qualifiers of
-- ownership.
use Rattle.std.specs.Prelude.{ℕ, nat_eq, Bool, true, false, ◌&&◌, Option, Some, None}
use Rattle.model_types.specs.declared.numbers.Basic.{Basic}
use Rattle.model_types.specs.declared.numbers.Basic.TheVariants.{Bool as bool, Char, SignedChar, UnsignedChar, Short, UnsignedShort, Int, Unsigned, Long, UnsignedLong, LongLong, UnsignedLongLong}
use Rattle.model_types.specs.declared.types.Quals.{Quals}
use Rattle.model_types.specs.Types.{CType, typed, Form, Void, Integer, Enum, Pointer, Array, Struct, Function, Types, no_types, more_types}

-- the place of an integer type in their list
abbrev pub ordinal : Basic → ℕ
ordinal bool = 0
ordinal Char = 1
ordinal SignedChar = 2
ordinal UnsignedChar = 3
ordinal Short = 4
ordinal UnsignedShort = 5
ordinal Int = 6
ordinal Unsigned = 7
ordinal Long = 8
ordinal UnsignedLong = 9
ordinal LongLong = 10
ordinal UnsignedLongLong = 11

abbrev pub same_basic : Basic → Basic → Bool
same_basic b c = nat_eq (ordinal b) (ordinal c)

abbrev pub same_bool : Bool → Bool → Bool
same_bool true b = b
same_bool false true = false
same_bool false false = true

-- the qualifiers of ownership agree
abbrev pub same_ownership : Quals → Quals → Bool
same_ownership p q = same_bool p.has_owner q.has_owner && same_bool p.has_view q.has_view && same_bool p.has_opt q.has_opt

-- all qualifiers agree
abbrev pub same_quals : Quals → Quals → Bool
same_quals p q = same_bool p.has_const q.has_const && same_bool p.has_restrict q.has_restrict && same_ownership p q

-- two lengths agree where there are both
abbrev pub lengths_agree : Option ℕ → Option ℕ → Bool
lengths_agree (Some m) (Some n) = nat_eq m n
lengths_agree (Some m) None = true
lengths_agree None n = true

-- the closed list of cases: both void; the same integer type; an enumeration and itself or its
-- underlying type; pointers to compatible types; arrays of compatible elements whose lengths agree;
-- the same structure; functions of compatible results and parameters, both variadic or neither
abbrev mutual
  -- qualifiers at every depth agree
  pub compatible : CType → CType → Bool
  compatible (typed f p) (typed g q) = same_quals p q && compatible_forms f g

  -- of a parameter or result itself, only the qualifiers of ownership count
  pub compatible_passed : CType → CType → Bool
  compatible_passed (typed f p) (typed g q) = same_ownership p q && compatible_forms f g

  pub compatible_forms : Form → Form → Bool
  compatible_forms Void Void = true
  compatible_forms (Integer b) (Integer c) = same_basic b c
  compatible_forms (Integer b) (Enum c e) = same_basic b c
  compatible_forms (Enum b d) (Integer c) = same_basic b c
  compatible_forms (Enum b d) (Enum c e) = nat_eq d e && same_basic b c
  compatible_forms (Pointer t) (Pointer u) = compatible t u
  compatible_forms (Array t m) (Array u n) = compatible t u && lengths_agree m n
  compatible_forms (Struct s) (Struct r) = nat_eq s.0 r.0
  compatible_forms (Function t ps v) (Function u qs w) = compatible_passed t u && compatible_lists ps qs && same_bool v w
  compatible_forms _ _ = false

  -- equally many, one by one
  pub compatible_lists : Types → Types → Bool
  compatible_lists no_types no_types = true
  compatible_lists (more_types t ts) (more_types u us) = compatible_passed t u && compatible_lists ts us
  compatible_lists _ _ = false
