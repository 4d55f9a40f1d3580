-- Types that are the same are equal.
use Rattle.std.proofs.Common.{◌≡◌, ap, sym, refl, ℕ, nat_eq, Bool, true, false, ◌&&◌, Option, Some, None}
use Rattle.std.proofs.lemmas.Bool.{and_parts, eqb-true}
use Rattle.model_types.specs.declared.types.Quals.{Quals}
use Rattle.model_types.specs.Types.{CType, typed, Form, Void, Integer, Enum, Pointer, Array, Struct, Function, Types, no_types, more_types}
use Rattle.model_types.specs.Compatible.{same_basic, same_bool, same_ownership, same_quals}
use Rattle.model_core.specs.SameTypes.{same_type, same_form, same_types, same_length}
use Rattle.typed_rule_laws.proofs.Integers.{same_basic_is}

bool_is : (a b : Bool) → same_bool a b ≡ true → a ≡ b
bool_is true b h = sym h
bool_is false false h = refl
bool_is false true h = cc

quals_are : (p q : Quals) → same_quals p q ≡ true → p ≡ q
quals_are p q h =
    let last = and_parts (same_bool p.has_const q.has_const && same_bool p.has_restrict q.has_restrict) (same_ownership p q) h in
    let first = and_parts (same_bool p.has_const q.has_const) (same_bool p.has_restrict q.has_restrict) last.0 in
    let own = and_parts (same_bool p.has_owner q.has_owner && same_bool p.has_view q.has_view) (same_bool p.has_opt q.has_opt) last.1 in
    let two = and_parts (same_bool p.has_owner q.has_owner) (same_bool p.has_view q.has_view) own.0 in
    let const = bool_is p.has_const q.has_const first.0 in
    let restrict = bool_is p.has_restrict q.has_restrict first.1 in
    let owner = bool_is p.has_owner q.has_owner two.0 in
    let view = bool_is p.has_view q.has_view two.1 in
    let opt = bool_is p.has_opt q.has_opt own.1 in
    λ i. record { has_const = const i; has_restrict = restrict i; has_owner = owner i; has_view = view i; has_opt = opt i }

length_is : (m n : Option ℕ) → same_length m n ≡ true → m ≡ n
length_is (Some m) (Some n) h = ap Some (eqb-true m n h)
length_is (Some m) None h = cc
length_is None (Some n) h = cc
length_is None None h = refl

mutual
  pub same_type_is : (t u : CType) → same_type t u ≡ true → t ≡ u
  same_type_is (typed f p) (typed g q) h =
      let parts = and_parts (same_quals p q) (same_form f g) h in
      let quals = quals_are p q parts.0 in
      let form = same_form_is f g parts.1 in
      λ i. typed (form i) (quals i)

  pub same_form_is : (f g : Form) → same_form f g ≡ true → f ≡ g
  same_form_is Void Void h = refl
  same_form_is (Integer b) (Integer c) h = ap Integer (same_basic_is b c h)
  same_form_is (Enum b d) (Enum c e) h =
      let parts = and_parts (nat_eq d e) (same_basic b c) h in
      let basic = same_basic_is b c parts.1 in
      let order = eqb-true d e parts.0 in
      λ i. Enum (basic i) (order i)
  same_form_is (Pointer t) (Pointer u) h = ap Pointer (same_type_is t u h)
  same_form_is (Array t m) (Array u n) h =
      let parts = and_parts (same_type t u) (same_length m n) h in
      let item = same_type_is t u parts.0 in
      let count = length_is m n parts.1 in
      λ i. Array (item i) (count i)
  same_form_is (Struct s) (Struct r) h = ap (λ n. Struct (record { 0 = n })) (eqb-true s.0 r.0 h)
  same_form_is (Function t ps v) (Function u qs w) h =
      let last = and_parts (same_type t u && same_types ps qs) (same_bool v w) h in
      let first = and_parts (same_type t u) (same_types ps qs) last.0 in
      let result = same_type_is t u first.0 in
      let parameters = same_types_are ps qs first.1 in
      let variadic = bool_is v w last.1 in
      λ i. Function (result i) (parameters i) (variadic i)
  same_form_is f g h = cc

  same_types_are : (ts us : Types) → same_types ts us ≡ true → ts ≡ us
  same_types_are no_types no_types h = refl
  same_types_are no_types (more_types u us) h = cc
  same_types_are (more_types t ts) no_types h = cc
  same_types_are (more_types t ts) (more_types u us) h =
      let parts = and_parts (same_type t u) (same_types ts us) h in
      let first = same_type_is t u parts.0 in
      let others = same_types_are ts us parts.1 in
      λ i. more_types (first i) (others i)
