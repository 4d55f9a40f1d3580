-- How the logic stores types and structures.
use Rattle.std.specs.Prelude.{◌≡◌, ℕ, zero, suc, Bool, true, false, List, Option, Some, None, refl}
use Rattle.std.specs.Coded.{Coded, code_by, coded×, coded_ℕ, coded_bool, coded_list, coded_option}
use Rattle.std.proofs.Common.{sym, ◌∙◌, ap}
use base.Stored.{Gv, gnil, gnum, gcons}
use Rattle.cake_base.specs.declared.places.Place.{Place}
use Rattle.model_types.specs.declared.numbers.Basic.{Basic}
use Rattle.model_types.specs.declared.numbers.Basic.TheVariants as basic
use Rattle.model_types.specs.declared.types.Quals.{Quals}
use Rattle.model_types.specs.Types.{CType, typed, Form, Void, Integer, Enum, Pointer, Array, Struct, Function, Types, no_types, more_types}
use Rattle.model_types.specs.Structures.{Member, Structure}

-- what can be had back has a code of its own
pub one_to_one : {A : Type 0} (put : A → Gv) (get : Gv → A) → ((x : A) → get (put x) ≡ x) → (x y : A) → put x ≡ put y → x ≡ y
one_to_one put get back x y e = sym (back x) ∙ ap get e ∙ back y

abbrev pub put_bool : Bool → Gv
put_bool false = gnil
put_bool true = gnum 0

abbrev pub get_bool : Gv → Bool
get_bool gnil = false
get_bool _ = true

pub bool_back : (b : Bool) → get_bool (put_bool b) ≡ b
bool_back false = refl
bool_back true = refl

abbrev pub put_quals : Quals → Gv
put_quals q =
    gcons (put_bool q.has_const) (gcons (put_bool q.has_restrict) (gcons (put_bool q.has_owner) (gcons (put_bool q.has_view) (put_bool q.has_opt))))

abbrev pub get_quals : Gv → Quals
get_quals (gcons a (gcons b (gcons c (gcons d e)))) =
    record { has_const = get_bool a; has_restrict = get_bool b; has_owner = get_bool c; has_view = get_bool d; has_opt = get_bool e }
get_quals _ = record { has_const = false; has_restrict = false; has_owner = false; has_view = false; has_opt = false }

pub quals_back : (q : Quals) → get_quals (put_quals q) ≡ q
quals_back q = λ i. record {
  has_const = bool_back q.has_const i;
  has_restrict = bool_back q.has_restrict i;
  has_owner = bool_back q.has_owner i;
  has_view = bool_back q.has_view i;
  has_opt = bool_back q.has_opt i;
}

abbrev pub put_basic : Basic → Gv
put_basic basic.Bool = gnum 0
put_basic basic.Char = gnum 1
put_basic basic.SignedChar = gnum 2
put_basic basic.UnsignedChar = gnum 3
put_basic basic.Short = gnum 4
put_basic basic.UnsignedShort = gnum 5
put_basic basic.Int = gnum 6
put_basic basic.Unsigned = gnum 7
put_basic basic.Long = gnum 8
put_basic basic.UnsignedLong = gnum 9
put_basic basic.LongLong = gnum 10
put_basic basic.UnsignedLongLong = gnum 11

abbrev pub get_basic : Gv → Basic
get_basic (gnum zero) = basic.Bool
get_basic (gnum (suc zero)) = basic.Char
get_basic (gnum (suc (suc zero))) = basic.SignedChar
get_basic (gnum (suc (suc (suc zero)))) = basic.UnsignedChar
get_basic (gnum (suc (suc (suc (suc zero))))) = basic.Short
get_basic (gnum (suc (suc (suc (suc (suc zero)))))) = basic.UnsignedShort
get_basic (gnum (suc (suc (suc (suc (suc (suc zero))))))) = basic.Int
get_basic (gnum (suc (suc (suc (suc (suc (suc (suc zero)))))))) = basic.Unsigned
get_basic (gnum (suc (suc (suc (suc (suc (suc (suc (suc zero))))))))) = basic.Long
get_basic (gnum (suc (suc (suc (suc (suc (suc (suc (suc (suc zero)))))))))) = basic.UnsignedLong
get_basic (gnum (suc (suc (suc (suc (suc (suc (suc (suc (suc (suc zero))))))))))) = basic.LongLong
get_basic _ = basic.UnsignedLongLong

pub basic_back : (b : Basic) → get_basic (put_basic b) ≡ b
basic_back basic.Bool = refl
basic_back basic.Char = refl
basic_back basic.SignedChar = refl
basic_back basic.UnsignedChar = refl
basic_back basic.Short = refl
basic_back basic.UnsignedShort = refl
basic_back basic.Int = refl
basic_back basic.Unsigned = refl
basic_back basic.Long = refl
basic_back basic.UnsignedLong = refl
basic_back basic.LongLong = refl
basic_back basic.UnsignedLongLong = refl

abbrev pub put_length : Option ℕ → Gv
put_length None = gnil
put_length (Some n) = gnum n

abbrev pub get_length : Gv → Option ℕ
get_length (gnum n) = Some n
get_length _ = None

pub length_back : (n : Option ℕ) → get_length (put_length n) ≡ n
length_back None = refl
length_back (Some n) = refl

abbrev mutual
  pub put_type : CType → Gv
  put_type (typed f q) = gcons (put_quals q) (put_form f)

  pub put_form : Form → Gv
  put_form Void = gnil
  put_form (Integer b) = gcons (gnum 0) (put_basic b)
  put_form (Pointer t) = gcons (gnum 1) (put_type t)
  put_form (Array t n) = gcons (gnum 2) (gcons (put_length n) (put_type t))
  put_form (Struct s) = gcons (gnum 3) (gnum s.0)
  put_form (Function r ps v) = gcons (gnum 4) (gcons (put_bool v) (gcons (put_type r) (put_types ps)))
  put_form (Enum b e) = gcons (gnum 5) (gcons (put_basic b) (gnum e))

  pub put_types : Types → Gv
  put_types no_types = gnil
  put_types (more_types t ts) = gcons (put_type t) (put_types ts)

abbrev mutual
  pub get_type : Gv → CType
  get_type (gcons a b) = typed (get_form b) (get_quals a)
  get_type _ = typed Void (get_quals gnil)

  pub get_form : Gv → Form
  get_form (gcons (gnum zero) a) = Integer (get_basic a)
  get_form (gcons (gnum (suc zero)) a) = Pointer (get_type a)
  get_form (gcons (gnum (suc (suc zero))) (gcons a b)) = Array (get_type b) (get_length a)
  get_form (gcons (gnum (suc (suc (suc zero)))) (gnum n)) = Struct record { 0 = n }
  get_form (gcons (gnum (suc (suc (suc (suc zero))))) (gcons a (gcons b c))) = Function (get_type b) (get_types c) (get_bool a)
  get_form (gcons (gnum (suc (suc (suc (suc (suc zero)))))) (gcons a (gnum n))) = Enum (get_basic a) n
  get_form _ = Void

  pub get_types : Gv → Types
  get_types (gcons a b) = more_types (get_type a) (get_types b)
  get_types _ = no_types

mutual
  pub type_back : (t : CType) → get_type (put_type t) ≡ t
  type_back (typed f q) = λ i. typed (form_back f i) (quals_back q i)

  pub form_back : (f : Form) → get_form (put_form f) ≡ f
  form_back Void = refl
  form_back (Integer b) = λ i. Integer (basic_back b i)
  form_back (Enum b e) = λ i. Enum (basic_back b i) e
  form_back (Pointer t) = λ i. Pointer (type_back t i)
  form_back (Array t n) = λ i. Array (type_back t i) (length_back n i)
  form_back (Struct s) = refl
  form_back (Function r ps v) = λ i. Function (type_back r i) (types_back ps i) (bool_back v i)

  pub types_back : (ts : Types) → get_types (put_types ts) ≡ ts
  types_back no_types = refl
  types_back (more_types t ts) = λ i. more_types (type_back t i) (types_back ts i)

abbrev pub coded_type : Coded CType
coded_type = record { code = put_type; inj = one_to_one put_type get_type type_back }

abbrev pub coded_place : Coded Place
coded_place =
    code_by (ℕ × (ℕ × (ℕ × ℕ))) (coded× coded_ℕ (coded× coded_ℕ (coded× coded_ℕ coded_ℕ)))
    (λ p. (p.file, (p.line, (p.column, p.order)))) (λ p. record { file = p.0; line = p.1.0; column = p.1.1.0; order = p.1.1.1 }) (λ _. refl)

abbrev pub coded_member : Coded Member
coded_member =
    code_by (List ℕ × (CType × Place)) (coded× (coded_list coded_ℕ) (coded× coded_type coded_place))
    (λ m. (m.name, (m.ty, m.place))) (λ p. record { name = p.0; ty = p.1.0; place = p.1.1 }) (λ _. refl)

abbrev pub coded_structure : Coded Structure
coded_structure =
    code_by (Option (List ℕ) × (Bool × (Place × Option (List Member))))
    (coded× (coded_option (coded_list coded_ℕ)) (coded× coded_bool (coded× coded_place (coded_option (coded_list coded_member)))))
    (λ s. (s.tag, (s.outer, (s.place, s.members)))) (λ p. record { tag = p.0; outer = p.1.0; place = p.1.1.0; members = p.1.1.1 }) (λ _. refl)
