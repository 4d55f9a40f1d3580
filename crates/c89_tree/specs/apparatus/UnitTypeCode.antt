-- How the logic stores the types of a C89 program.
use Rattle.std.specs.Prelude.{◌≡◌, zero, suc, refl}
use Rattle.std.specs.Coded.{Coded}
use base.Stored.{Gv, gnil, gnum, gcons}
use Rattle.model_types.specs.apparatus.TypesCode.{one_to_one, put_bool, get_bool, bool_back, put_length, get_length, length_back}
use Rattle.model_types.specs.apparatus.LeafCode.{put_text, get_text, text_back}
use Rattle.model_core.specs.Types89 as m

abbrev pub put_base : m.Base → Gv
put_base m.Void = gnil
put_base m.Char = gcons (gnum 0) gnil
put_base m.SignedChar = gcons (gnum 1) gnil
put_base m.UnsignedChar = gcons (gnum 2) gnil
put_base m.Short = gcons (gnum 3) gnil
put_base m.UnsignedShort = gcons (gnum 4) gnil
put_base m.Int = gcons (gnum 5) gnil
put_base m.UnsignedInt = gcons (gnum 6) gnil
put_base m.Long = gcons (gnum 7) gnil
put_base m.UnsignedLong = gcons (gnum 8) gnil
put_base (m.Struct name) = gcons (gnum 9) (put_text name)

abbrev pub get_base : Gv → m.Base
get_base (gcons (gnum zero) a) = m.Char
get_base (gcons (gnum (suc zero)) a) = m.SignedChar
get_base (gcons (gnum (suc (suc zero))) a) = m.UnsignedChar
get_base (gcons (gnum (suc (suc (suc zero)))) a) = m.Short
get_base (gcons (gnum (suc (suc (suc (suc zero))))) a) = m.UnsignedShort
get_base (gcons (gnum (suc (suc (suc (suc (suc zero)))))) a) = m.Int
get_base (gcons (gnum (suc (suc (suc (suc (suc (suc zero))))))) a) = m.UnsignedInt
get_base (gcons (gnum (suc (suc (suc (suc (suc (suc (suc zero)))))))) a) = m.Long
get_base (gcons (gnum (suc (suc (suc (suc (suc (suc (suc (suc zero))))))))) a) = m.UnsignedLong
get_base (gcons (gnum (suc (suc (suc (suc (suc (suc (suc (suc (suc zero)))))))))) a) = m.Struct (get_text a)
get_base _ = m.Void

pub base_back : (x : m.Base) → get_base (put_base x) ≡ x
base_back m.Void = refl
base_back m.Char = refl
base_back m.SignedChar = refl
base_back m.UnsignedChar = refl
base_back m.Short = refl
base_back m.UnsignedShort = refl
base_back m.Int = refl
base_back m.UnsignedInt = refl
base_back m.Long = refl
base_back m.UnsignedLong = refl
base_back (m.Struct name) = λ i. m.Struct (text_back name i)

abbrev mutual
  pub put_type : m.Type89 → Gv
  put_type (m.Based is_const base) = gcons (gnum 0) (gcons (put_bool is_const) (put_base base))
  put_type (m.Pointer is_const to) = gcons (gnum 1) (gcons (put_bool is_const) (put_type to))
  put_type (m.Array count of) = gcons (gnum 2) (gcons (put_length count) (put_type of))
  put_type (m.Function result parameters is_variadic) = gcons (gnum 3) (gcons (put_type result) (gcons (put_types parameters) (put_bool is_variadic)))

  pub put_types : m.Types89 → Gv
  put_types m.no_types = gnil
  put_types (m.more_types first others) = gcons (put_type first) (put_types others)

abbrev mutual
  pub get_type : Gv → m.Type89
  get_type (gcons (gnum zero) (gcons a b)) = m.Based (get_bool a) (get_base b)
  get_type (gcons (gnum (suc zero)) (gcons a b)) = m.Pointer (get_bool a) (get_type b)
  get_type (gcons (gnum (suc (suc zero))) (gcons a b)) = m.Array (get_length a) (get_type b)
  get_type (gcons (gnum (suc (suc (suc zero)))) (gcons a (gcons b c))) = m.Function (get_type a) (get_types b) (get_bool c)
  get_type _ = m.Based (get_bool gnil) (get_base gnil)

  pub get_types : Gv → m.Types89
  get_types (gcons a b) = m.more_types (get_type a) (get_types b)
  get_types _ = m.no_types

mutual
  pub type_back : (t : m.Type89) → get_type (put_type t) ≡ t
  type_back (m.Based is_const base) = λ i. m.Based (bool_back is_const i) (base_back base i)
  type_back (m.Pointer is_const to) = λ i. m.Pointer (bool_back is_const i) (type_back to i)
  type_back (m.Array count of) = λ i. m.Array (length_back count i) (type_back of i)
  type_back (m.Function result parameters is_variadic) = λ i. m.Function (type_back result i) (types_back parameters i) (bool_back is_variadic i)

  pub types_back : (x : m.Types89) → get_types (put_types x) ≡ x
  types_back m.no_types = refl
  types_back (m.more_types first others) = λ i. m.more_types (type_back first i) (types_back others i)

abbrev pub coded_type : Coded m.Type89
coded_type = record { code = put_type; inj = one_to_one put_type get_type type_back }
