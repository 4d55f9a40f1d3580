-- When a name of a type may be declared again (ISO/IEC 9899:2024, 6.7.1, 6.7.9): the types are the same
-- in every part, `const` and `restrict` of a parameter or a result itself aside.
use Rattle.std.specs.Prelude.{nat_eq, Bool, true, false, ◌&&◌}
use Rattle.model_types.specs.Types.{CType, typed, Form, Void, Integer, Enum, Pointer, Array, Struct, Function, Types, no_types, more_types}
use Rattle.model_types.specs.Compatible.{same_basic, same_bool, same_ownership, same_quals}
use Rattle.model_core.specs.SameTypes.{same_length}

abbrev mutual
  pub same_typedef : CType → CType → Bool
  same_typedef (typed f p) (typed g q) = same_quals p q && same_typedef_forms f g

  -- of a parameter or a result
  pub same_passed : CType → CType → Bool
  same_passed (typed f p) (typed g q) = same_ownership p q && same_typedef_forms f g

  pub same_typedef_forms : Form → Form → Bool
  same_typedef_forms Void Void = true
  same_typedef_forms (Integer b) (Integer c) = same_basic b c
  same_typedef_forms (Enum b d) (Enum c e) = nat_eq d e && same_basic b c
  same_typedef_forms (Pointer t) (Pointer u) = same_typedef t u
  same_typedef_forms (Array t m) (Array u n) = same_typedef t u && same_length m n
  same_typedef_forms (Struct s) (Struct r) = nat_eq s.0 r.0
  same_typedef_forms (Function t ps v) (Function u qs w) = same_passed t u && same_passed_lists ps qs && same_bool v w
  same_typedef_forms _ _ = false

  pub same_passed_lists : Types → Types → Bool
  same_passed_lists no_types no_types = true
  same_passed_lists (more_types t ts) (more_types u us) = same_passed t u && same_passed_lists ts us
  same_passed_lists _ _ = false
