-- Composite types: each of two compatible types is compatible with theirs, and it is possible where they are.
use Rattle.std.proofs.Common.{◌≡◌, ◌∙◌, ap, sym, refl, ℕ, nat_eq, nat_lt, Bool, true, false, ◌&&◌, ◌||◌, not, Option, Some, None, is_some, option_map, List}
use Rattle.std.specs.Option.{option_and_then}
use Rattle.std.proofs.lemmas.Bool.{and_parts, and_from, eqb-true}
use Rattle.model_types.specs.declared.numbers.Basic.{Basic}
use Rattle.model_types.specs.declared.types.Quals.{Quals}
use Rattle.model_types.specs.declared.types.StructId.{StructId}
use Rattle.model_types.specs.Types.{CType, typed, Form, Void, Integer, Enum, Pointer, Array, Struct, Function, Types, no_types, more_types, form_of_type}
use Rattle.model_types.specs.Structures.{Structure}
use Rattle.model_types.specs.Layout.{Layout, scalar, basic_size, repeated, type_layout, form_layout, layout_in, within_limit, is_complete, is_complete_form}
use Rattle.model_types.specs.Compatible.{same_basic, same_bool, same_ownership, same_quals, lengths_agree, compatible, compatible_passed, compatible_forms, compatible_lists}
use Rattle.model_core.specs.CoreTypes.{is_void}
use Rattle.model_core.specs.PossibleTypes.{is_possible, is_possible_form, are_possible, is_value_form, length_fits, has_types}
use Rattle.model_scopes.specs.CompositeTypes.{known_length, composite, composite_form, composite_types}
use Rattle.typed_rule_laws.proofs.TypeForms.{basic_self, bool_self, quals_self, ownership_self, number_self}
use Rattle.typed_rule_laws.proofs.Integers.{same_basic_is}

-- ---- tests of equality are symmetric

basic_symmetric : (b c : Basic) → same_basic b c ≡ true → same_basic c b ≡ true
basic_symmetric b c h = ap (λ x. same_basic c x) (same_basic_is b c h) ∙ basic_self c

number_symmetric : (m n : ℕ) → nat_eq m n ≡ true → nat_eq n m ≡ true
number_symmetric m n h = ap (λ x. nat_eq n x) (eqb-true m n h) ∙ number_self n

bool_symmetric : (a b : Bool) → same_bool a b ≡ true → same_bool b a ≡ true
bool_symmetric true true h = refl
bool_symmetric false false h = refl
bool_symmetric true false h = cc
bool_symmetric false true h = cc

ownership_symmetric : (p q : Quals) → same_ownership p q ≡ true → same_ownership q p ≡ true
ownership_symmetric p q h =
    let last = and_parts (same_bool p.has_owner q.has_owner && same_bool p.has_view q.has_view) (same_bool p.has_opt q.has_opt) h in
    let first = and_parts (same_bool p.has_owner q.has_owner) (same_bool p.has_view q.has_view) last.0 in
    rw (bool_symmetric p.has_owner q.has_owner first.0, bool_symmetric p.has_view q.has_view first.1, bool_symmetric p.has_opt q.has_opt last.1) refl

quals_symmetric : (p q : Quals) → same_quals p q ≡ true → same_quals q p ≡ true
quals_symmetric p q h =
    let last = and_parts (same_bool p.has_const q.has_const && same_bool p.has_restrict q.has_restrict) (same_ownership p q) h in
    let first = and_parts (same_bool p.has_const q.has_const) (same_bool p.has_restrict q.has_restrict) last.0 in
    and_from (same_bool q.has_const p.has_const && same_bool q.has_restrict p.has_restrict) (same_ownership q p)
    (and_from (same_bool q.has_const p.has_const) (same_bool q.has_restrict p.has_restrict)
    (bool_symmetric p.has_const q.has_const first.0) (bool_symmetric p.has_restrict q.has_restrict first.1)) (ownership_symmetric p q last.1)

-- ---- each type is compatible with the composite one

left_length : (m n : Option ℕ) → lengths_agree m (known_length m n) ≡ true
left_length (Some m) n = number_self m
left_length None n = refl

right_length : (m n : Option ℕ) → lengths_agree m n ≡ true → lengths_agree n (known_length m n) ≡ true
right_length (Some m) (Some n) h = number_symmetric m n h
right_length (Some m) None h = refl
right_length None (Some n) h = number_self n
right_length None None h = refl

mutual
  pub with_composite : (t u : CType) → compatible t u ≡ true → compatible t (composite t u) ≡ true
  with_composite (typed f p) (typed g q) h = and_from (same_quals p p) (compatible_forms f (composite_form f g)) (quals_self p) (left_form f g (and_parts (same_quals p q) (compatible_forms f g) h).1)

  left_passed : (t u : CType) → compatible_passed t u ≡ true → compatible_passed t (composite t u) ≡ true
  left_passed (typed f p) (typed g q) h =
      and_from (same_ownership p p) (compatible_forms f (composite_form f g)) (ownership_self p) (left_form f g (and_parts (same_ownership p q) (compatible_forms f g) h).1)

  left_form : (f g : Form) → compatible_forms f g ≡ true → compatible_forms f (composite_form f g) ≡ true
  left_form Void Void h = refl
  left_form (Integer b) (Integer c) h = basic_self b
  left_form (Integer b) (Enum c e) h = h
  left_form (Enum b d) (Integer c) h = and_from (nat_eq d d) (same_basic b b) (number_self d) (basic_self b)
  left_form (Enum b d) (Enum c e) h = and_from (nat_eq d d) (same_basic b b) (number_self d) (basic_self b)
  left_form (Pointer t) (Pointer u) h = with_composite t u h
  left_form (Array t m) (Array u n) h =
      and_from (compatible t (composite t u)) (lengths_agree m (known_length m n)) (with_composite t u (and_parts (compatible t u) (lengths_agree m n) h).0) (left_length m n)
  left_form (Struct s) (Struct r) h = number_self s.0
  left_form (Function t ps v) (Function u qs w) h =
      let last = and_parts (compatible_passed t u && compatible_lists ps qs) (same_bool v w) h in
      let first = and_parts (compatible_passed t u) (compatible_lists ps qs) last.0 in
      and_from (compatible_passed t (composite t u) && compatible_lists ps (composite_types ps qs)) (same_bool v v)
      (and_from (compatible_passed t (composite t u)) (compatible_lists ps (composite_types ps qs)) (left_passed t u first.0) (left_list ps qs first.1)) (bool_self v)
  left_form f g h = cc

  left_list : (ts us : Types) → compatible_lists ts us ≡ true → compatible_lists ts (composite_types ts us) ≡ true
  left_list no_types no_types h = refl
  left_list no_types (more_types u us) h = cc
  left_list (more_types t ts) no_types h = cc
  left_list (more_types t ts) (more_types u us) h =
      let parts = and_parts (compatible_passed t u) (compatible_lists ts us) h in
      and_from (compatible_passed t (composite t u)) (compatible_lists ts (composite_types ts us)) (left_passed t u parts.0) (left_list ts us parts.1)

mutual
  pub composite_with : (t u : CType) → compatible t u ≡ true → compatible u (composite t u) ≡ true
  composite_with (typed f p) (typed g q) h =
      let parts = and_parts (same_quals p q) (compatible_forms f g) h in
      and_from (same_quals q p) (compatible_forms g (composite_form f g)) (quals_symmetric p q parts.0) (right_form f g parts.1)

  right_passed : (t u : CType) → compatible_passed t u ≡ true → compatible_passed u (composite t u) ≡ true
  right_passed (typed f p) (typed g q) h =
      let parts = and_parts (same_ownership p q) (compatible_forms f g) h in
      and_from (same_ownership q p) (compatible_forms g (composite_form f g)) (ownership_symmetric p q parts.0) (right_form f g parts.1)

  right_form : (f g : Form) → compatible_forms f g ≡ true → compatible_forms g (composite_form f g) ≡ true
  right_form Void Void h = refl
  right_form (Integer b) (Integer c) h = basic_symmetric b c h
  right_form (Integer b) (Enum c e) h = and_from (nat_eq e e) (same_basic c c) (number_self e) (basic_self c)
  right_form (Enum b d) (Integer c) h = basic_symmetric b c h
  right_form (Enum b d) (Enum c e) h =
      let parts = and_parts (nat_eq d e) (same_basic b c) h in
      and_from (nat_eq e d) (same_basic c b) (number_symmetric d e parts.0) (basic_symmetric b c parts.1)
  right_form (Pointer t) (Pointer u) h = composite_with t u h
  right_form (Array t m) (Array u n) h =
      let parts = and_parts (compatible t u) (lengths_agree m n) h in
      and_from (compatible u (composite t u)) (lengths_agree n (known_length m n)) (composite_with t u parts.0) (right_length m n parts.1)
  right_form (Struct s) (Struct r) h = number_symmetric s.0 r.0 h
  right_form (Function t ps v) (Function u qs w) h =
      let last = and_parts (compatible_passed t u && compatible_lists ps qs) (same_bool v w) h in
      let first = and_parts (compatible_passed t u) (compatible_lists ps qs) last.0 in
      and_from (compatible_passed u (composite t u) && compatible_lists qs (composite_types ps qs)) (same_bool w v)
      (and_from (compatible_passed u (composite t u)) (compatible_lists qs (composite_types ps qs)) (right_passed t u first.0) (right_list ps qs first.1))
      (bool_symmetric v w last.1)
  right_form f g h = cc

  right_list : (ts us : Types) → compatible_lists ts us ≡ true → compatible_lists us (composite_types ts us) ≡ true
  right_list no_types no_types h = refl
  right_list no_types (more_types u us) h = cc
  right_list (more_types t ts) no_types h = cc
  right_list (more_types t ts) (more_types u us) h =
      let parts = and_parts (compatible_passed t u) (compatible_lists ts us) h in
      and_from (compatible_passed u (composite t u)) (compatible_lists us (composite_types ts us)) (right_passed t u parts.0) (right_list ts us parts.1)

-- ---- two compatible types that are complete have one layout, which the composite one has too

abbrev Layouts : Type 0
Layouts = StructId → Option Layout

mutual
  same_layout : (layouts : Layouts) (structs : List Structure) (t u : CType) → compatible t u ≡ true → is_complete structs t ≡ true → is_complete structs u ≡ true →
      type_layout layouts t ≡ type_layout layouts u
  same_layout layouts structs (typed f p) (typed g q) h c d = same_form_layout layouts structs f g (and_parts (same_quals p q) (compatible_forms f g) h).1 c d

  same_form_layout : (layouts : Layouts) (structs : List Structure) (f g : Form) → compatible_forms f g ≡ true → is_complete_form structs f ≡ true →
      is_complete_form structs g ≡ true → form_layout layouts f ≡ form_layout layouts g
  same_form_layout layouts structs Void Void h c d = refl
  same_form_layout layouts structs (Integer a) (Integer b) h c d = ap (λ x. Some (scalar (basic_size x))) (same_basic_is a b h)
  same_form_layout layouts structs (Integer a) (Enum b e) h c d = ap (λ x. Some (scalar (basic_size x))) (same_basic_is a b h)
  same_form_layout layouts structs (Enum a e) (Integer b) h c d = ap (λ x. Some (scalar (basic_size x))) (same_basic_is a b h)
  same_form_layout layouts structs (Enum a e) (Enum b o) h c d =
      ap (λ x. Some (scalar (basic_size x))) (same_basic_is a b (and_parts (nat_eq e o) (same_basic a b) h).1)
  same_form_layout layouts structs (Pointer t) (Pointer u) h c d = refl
  same_form_layout layouts structs (Array t (Some m)) (Array u (Some n)) h c d =
      let parts = and_parts (compatible t u) (nat_eq m n) h in
      let count = eqb-true m n parts.1 in
      let item = same_layout layouts structs t u parts.0 c d in
      λ i. option_map (repeated (count i)) (item i)
  same_form_layout layouts structs (Array t None) (Array u n) h c d = cc
  same_form_layout layouts structs (Array t (Some m)) (Array u None) h c d = cc
  same_form_layout layouts structs (Struct s) (Struct r) h c d = ap (λ n. layouts (record { 0 = n })) (eqb-true s.0 r.0 h)
  same_form_layout layouts structs (Function t ps v) (Function u qs w) h c d = refl
  same_form_layout layouts structs f g h c d = cc

mutual
  composite_layout : (layouts : Layouts) (structs : List Structure) (t u : CType) → compatible t u ≡ true → is_complete structs t ≡ true → is_complete structs u ≡ true →
      type_layout layouts (composite t u) ≡ type_layout layouts t
  composite_layout layouts structs (typed f p) (typed g q) h c d = composite_form_layout layouts structs f g (and_parts (same_quals p q) (compatible_forms f g) h).1 c d

  composite_form_layout : (layouts : Layouts) (structs : List Structure) (f g : Form) → compatible_forms f g ≡ true → is_complete_form structs f ≡ true →
      is_complete_form structs g ≡ true → form_layout layouts (composite_form f g) ≡ form_layout layouts f
  composite_form_layout layouts structs Void Void h c d = refl
  composite_form_layout layouts structs (Integer a) (Integer b) h c d = refl
  composite_form_layout layouts structs (Integer a) (Enum b e) h c d = ap (λ x. Some (scalar (basic_size x))) (sym (same_basic_is a b h))
  composite_form_layout layouts structs (Enum a e) (Integer b) h c d = refl
  composite_form_layout layouts structs (Enum a e) (Enum b o) h c d = refl
  composite_form_layout layouts structs (Pointer t) (Pointer u) h c d = refl
  composite_form_layout layouts structs (Array t (Some m)) (Array u (Some n)) h c d =
      ap (option_map (repeated m)) (composite_layout layouts structs t u (and_parts (compatible t u) (nat_eq m n) h).0 c d)
  composite_form_layout layouts structs (Array t None) (Array u n) h c d = cc
  composite_form_layout layouts structs (Array t (Some m)) (Array u None) h c d = cc
  composite_form_layout layouts structs (Struct s) (Struct r) h c d = refl
  composite_form_layout layouts structs (Function t ps v) (Function u qs w) h c d = refl
  composite_form_layout layouts structs f g h c d = cc

mutual
  composite_complete : (structs : List Structure) (t u : CType) → compatible t u ≡ true → is_complete structs t ≡ true → is_complete structs u ≡ true →
      is_complete structs (composite t u) ≡ true
  composite_complete structs (typed f p) (typed g q) h c d = composite_form_complete structs f g (and_parts (same_quals p q) (compatible_forms f g) h).1 c d

  composite_form_complete : (structs : List Structure) (f g : Form) → compatible_forms f g ≡ true → is_complete_form structs f ≡ true → is_complete_form structs g ≡ true →
      is_complete_form structs (composite_form f g) ≡ true
  composite_form_complete structs Void Void h c d = cc
  composite_form_complete structs (Integer a) (Integer b) h c d = refl
  composite_form_complete structs (Integer a) (Enum b e) h c d = refl
  composite_form_complete structs (Enum a e) (Integer b) h c d = refl
  composite_form_complete structs (Enum a e) (Enum b o) h c d = refl
  composite_form_complete structs (Pointer t) (Pointer u) h c d = refl
  composite_form_complete structs (Array t (Some m)) (Array u (Some n)) h c d = composite_complete structs t u (and_parts (compatible t u) (nat_eq m n) h).0 c d
  composite_form_complete structs (Array t None) (Array u n) h c d = cc
  composite_form_complete structs (Array t (Some m)) (Array u None) h c d = cc
  composite_form_complete structs (Struct s) (Struct r) h c d = c
  composite_form_complete structs (Function t ps v) (Function u qs w) h c d = cc
  composite_form_complete structs f g h c d = cc

-- ---- the composite type of possible types is possible

element_fits : (structs : List Structure) (t u : CType) (n : ℕ) → type_layout (layout_in structs) t ≡ type_layout (layout_in structs) u →
    length_fits structs u (Some n) ≡ true → length_fits structs t (Some n) ≡ true
element_fits structs t u n same h =
    ap (λ l. nat_lt 0 n && is_some (option_and_then (λ l. within_limit l.size) (option_map (repeated n) l))) same ∙ h

length_of_composite : (structs : List Structure) (t u : CType) (m n : Option ℕ) → compatible t u ≡ true → is_complete structs t ≡ true → is_complete structs u ≡ true →
    length_fits structs t m ≡ true → length_fits structs u n ≡ true → length_fits structs (composite t u) (known_length m n) ≡ true
length_of_composite structs t u (Some m) n h c d fm fn = element_fits structs (composite t u) t m (composite_layout (layout_in structs) structs t u h c d) fm
length_of_composite structs t u None (Some n) h c d fm fn =
    element_fits structs (composite t u) u n (composite_layout (layout_in structs) structs t u h c d ∙ same_layout (layout_in structs) structs t u h c d) fn
length_of_composite structs t u None None h c d fm fn = refl

composite_value : (f g : Form) → compatible_forms f g ≡ true → is_value_form f ≡ true → is_value_form (composite_form f g) ≡ true
composite_value Void Void h v = refl
composite_value (Integer a) (Integer b) h v = refl
composite_value (Integer a) (Enum b e) h v = refl
composite_value (Enum a e) (Integer b) h v = refl
composite_value (Enum a e) (Enum b o) h v = refl
composite_value (Pointer t) (Pointer u) h v = refl
composite_value (Array t m) (Array u n) h v = cc
composite_value (Struct s) (Struct r) h v = refl
composite_value (Function t ps w) (Function u qs x) h v = cc
composite_value f g h v = cc

composite_of_value : (t u : CType) → compatible_passed t u ≡ true → is_value_form (form_of_type t) ≡ true → is_value_form (form_of_type (composite t u)) ≡ true
composite_of_value (typed f p) (typed g q) h v = composite_value f g (and_parts (same_ownership p q) (compatible_forms f g) h).1 v

composite_void : (f g : Form) (p q : Quals) → compatible_forms f g ≡ true → not (is_void (typed f p)) ≡ true → not (is_void (typed (composite_form f g) q)) ≡ true
composite_void Void Void p q h v = cc
composite_void (Integer a) (Integer b) p q h v = refl
composite_void (Integer a) (Enum b e) p q h v = refl
composite_void (Enum a e) (Integer b) p q h v = refl
composite_void (Enum a e) (Enum b o) p q h v = refl
composite_void (Pointer t) (Pointer u) p q h v = refl
composite_void (Array t m) (Array u n) p q h v = refl
composite_void (Struct s) (Struct r) p q h v = refl
composite_void (Function t ps w) (Function u qs x) p q h v = refl
composite_void f g p q h v = cc

composite_not_void : (t u : CType) → compatible_passed t u ≡ true → not (is_void t) ≡ true → not (is_void (composite t u)) ≡ true
composite_not_void (typed f p) (typed g q) h v = composite_void f g p p (and_parts (same_ownership p q) (compatible_forms f g) h).1 v

composite_has_types : (ts us : Types) → has_types (composite_types ts us) ≡ has_types ts
composite_has_types no_types us = refl
composite_has_types (more_types t ts) no_types = refl
composite_has_types (more_types t ts) (more_types u us) = refl

mutual
  pub composite_possible : (structs : List Structure) (t u : CType) → compatible t u ≡ true → is_possible structs t ≡ true → is_possible structs u ≡ true →
      is_possible structs (composite t u) ≡ true
  composite_possible structs (typed f p) (typed g q) h a b = possible_forms structs f g (and_parts (same_quals p q) (compatible_forms f g) h).1 a b

  possible_passed : (structs : List Structure) (t u : CType) → compatible_passed t u ≡ true → is_possible structs t ≡ true → is_possible structs u ≡ true →
      is_possible structs (composite t u) ≡ true
  possible_passed structs (typed f p) (typed g q) h a b = possible_forms structs f g (and_parts (same_ownership p q) (compatible_forms f g) h).1 a b

  possible_forms : (structs : List Structure) (f g : Form) → compatible_forms f g ≡ true → is_possible_form structs f ≡ true → is_possible_form structs g ≡ true →
      is_possible_form structs (composite_form f g) ≡ true
  possible_forms structs Void Void h a b = refl
  possible_forms structs (Integer x) (Integer y) h a b = refl
  possible_forms structs (Integer x) (Enum y e) h a b = refl
  possible_forms structs (Enum x e) (Integer y) h a b = refl
  possible_forms structs (Enum x e) (Enum y o) h a b = refl
  possible_forms structs (Pointer t) (Pointer u) h a b = composite_possible structs t u h a b
  possible_forms structs (Array t m) (Array u n) h a b =
      let same = (and_parts (compatible t u) (lengths_agree m n) h).0 in
      let left = and_parts (is_possible structs t && is_complete structs t) (length_fits structs t m) a in
      let left_item = and_parts (is_possible structs t) (is_complete structs t) left.0 in
      let right = and_parts (is_possible structs u && is_complete structs u) (length_fits structs u n) b in
      let right_item = and_parts (is_possible structs u) (is_complete structs u) right.0 in
      and_from (is_possible structs (composite t u) && is_complete structs (composite t u)) (length_fits structs (composite t u) (known_length m n))
      (and_from (is_possible structs (composite t u)) (is_complete structs (composite t u)) (composite_possible structs t u same left_item.0 right_item.0)
      (composite_complete structs t u same left_item.1 right_item.1))
      (length_of_composite structs t u m n same left_item.1 right_item.1 left.1 right.1)
  possible_forms structs (Struct s) (Struct r) h a b = a
  possible_forms structs (Function t ps v) (Function u qs w) h a b =
      let last = and_parts (compatible_passed t u && compatible_lists ps qs) (same_bool v w) h in
      let first = and_parts (compatible_passed t u) (compatible_lists ps qs) last.0 in
      let left = and_parts (is_possible structs t && is_value_form (form_of_type t) && are_possible structs ps) (has_types ps || not v) a in
      let left_two = and_parts (is_possible structs t && is_value_form (form_of_type t)) (are_possible structs ps) left.0 in
      let left_one = and_parts (is_possible structs t) (is_value_form (form_of_type t)) left_two.0 in
      let right = and_parts (is_possible structs u && is_value_form (form_of_type u) && are_possible structs qs) (has_types qs || not w) b in
      let right_two = and_parts (is_possible structs u && is_value_form (form_of_type u)) (are_possible structs qs) right.0 in
      let right_one = and_parts (is_possible structs u) (is_value_form (form_of_type u)) right_two.0 in
      let whole = is_possible structs (composite t u) in
      let value = is_value_form (form_of_type (composite t u)) in
      let lists = are_possible structs (composite_types ps qs) in
      and_from (whole && value && lists) (has_types (composite_types ps qs) || not v)
      (and_from (whole && value) lists
      (and_from whole value (possible_passed structs t u first.0 left_one.0 right_one.0) (composite_of_value t u first.0 left_one.1))
      (possible_lists structs ps qs first.1 left_two.1 right_two.1))
      (ap (λ b. b || not v) (composite_has_types ps qs) ∙ left.1)
  possible_forms structs f g h a b = cc

  possible_lists : (structs : List Structure) (ts us : Types) → compatible_lists ts us ≡ true → are_possible structs ts ≡ true → are_possible structs us ≡ true →
      are_possible structs (composite_types ts us) ≡ true
  possible_lists structs no_types no_types h a b = refl
  possible_lists structs no_types (more_types u us) h a b = cc
  possible_lists structs (more_types t ts) no_types h a b = cc
  possible_lists structs (more_types t ts) (more_types u us) h a b =
      let same = and_parts (compatible_passed t u) (compatible_lists ts us) h in
      let left = and_parts (is_possible structs t && is_value_form (form_of_type t) && not (is_void t)) (are_possible structs ts) a in
      let left_two = and_parts (is_possible structs t && is_value_form (form_of_type t)) (not (is_void t)) left.0 in
      let left_one = and_parts (is_possible structs t) (is_value_form (form_of_type t)) left_two.0 in
      let right = and_parts (is_possible structs u && is_value_form (form_of_type u) && not (is_void u)) (are_possible structs us) b in
      let right_two = and_parts (is_possible structs u && is_value_form (form_of_type u)) (not (is_void u)) right.0 in
      let right_one = and_parts (is_possible structs u) (is_value_form (form_of_type u)) right_two.0 in
      let whole = is_possible structs (composite t u) in
      let value = is_value_form (form_of_type (composite t u)) in
      and_from (whole && value && not (is_void (composite t u))) (are_possible structs (composite_types ts us))
      (and_from (whole && value) (not (is_void (composite t u)))
      (and_from whole value (possible_passed structs t u same.0 left_one.0 right_one.0) (composite_of_value t u same.0 left_one.1))
      (composite_not_void t u same.0 left_two.1))
      (possible_lists structs ts us same.1 left.1 right.1)
