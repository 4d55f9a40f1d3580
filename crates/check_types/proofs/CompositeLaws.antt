-- A type is compatible with the composite type of two compatible types exactly where it is with both.
use Rattle.std.proofs.Common.{◌≡◌, ℕ, Bool, true, false, ◌&&◌, nat_eq, Option, Some, None, refl, ap, sym, ◌∙◌}
use Rattle.std.proofs.lemmas.Bool.{and_parts}
use borrow.Author.Tests.{eqb-true}
use Rattle.model_types.specs.declared.numbers.Basic.{Basic}
use Rattle.model_types.specs.declared.types.Quals.{Quals}
use Rattle.model_types.specs.Types.{CType, typed, Form, Void, Integer, Enum, Pointer, Array, Struct, Function, Types, no_types, more_types}
use Rattle.model_types.specs.Compatible.{ordinal, same_basic, same_bool, same_ownership, same_quals, lengths_agree, compatible, compatible_passed, compatible_forms, compatible_lists}
use Rattle.model_scopes.specs.CompositeTypes.{known_length, composite, composite_form, composite_types}

twice : (a : Bool) → a ≡ (a && a)
twice true = refl
twice false = refl

as_both : (a b : Bool) → a ≡ b → a ≡ (a && b)
as_both a b e = twice a ∙ ap (λ z. a && z) e

medial : (b c y z : Bool) → ((b && c) && (y && z)) ≡ ((b && y) && (c && z))
medial true true true z = refl
medial true true false z = refl
medial true false true z = refl
medial true false false z = refl
medial false true y z = refl
medial false false y z = refl

pair : (a b c x y z : Bool) → a ≡ (b && c) → x ≡ (y && z) → (a && x) ≡ ((b && y) && (c && z))
pair a b c x y z p q = (λ i. p i && q i) ∙ medial b c y z

bool_as : (a b : Bool) → same_bool a b ≡ true → a ≡ b
bool_as true b e = sym e
bool_as false false e = refl
bool_as false true e = cc

ownership_as : (p q r : Quals) → same_ownership p q ≡ true → same_ownership p r ≡ same_ownership q r
ownership_as p q r e =
    let last = and_parts (same_bool p.has_owner q.has_owner && same_bool p.has_view q.has_view) (same_bool p.has_opt q.has_opt) e in
    let first = and_parts (same_bool p.has_owner q.has_owner) (same_bool p.has_view q.has_view) last.0 in
    let owner = bool_as p.has_owner q.has_owner first.0 in
    let view = bool_as p.has_view q.has_view first.1 in
    let opt = bool_as p.has_opt q.has_opt last.1 in
    λ i. (same_bool (owner i) r.has_owner && same_bool (view i) r.has_view) && same_bool (opt i) r.has_opt

quals_as : (p q r : Quals) → same_quals p q ≡ true → same_quals p r ≡ same_quals q r
quals_as p q r e =
    let last = and_parts (same_bool p.has_const q.has_const && same_bool p.has_restrict q.has_restrict) (same_ownership p q) e in
    let first = and_parts (same_bool p.has_const q.has_const) (same_bool p.has_restrict q.has_restrict) last.0 in
    let const = bool_as p.has_const q.has_const first.0 in
    let restrict = bool_as p.has_restrict q.has_restrict first.1 in
    let own = ownership_as p q r last.1 in
    λ i. (same_bool (const i) r.has_const && same_bool (restrict i) r.has_restrict) && own i

basic_as : (b c d : Basic) → same_basic b c ≡ true → same_basic b d ≡ same_basic c d
basic_as b c d e = ap (λ n. nat_eq n (ordinal d)) (eqb-true (ordinal b) (ordinal c) e)

number_as : (m n k : ℕ) → nat_eq m n ≡ true → nat_eq m k ≡ nat_eq n k
number_as m n k e = ap (λ x. nat_eq x k) (eqb-true m n e)

and_true : (a : Bool) → a ≡ (a && true)
and_true true = refl
and_true false = refl

lengths_law : (m n k : Option ℕ) → lengths_agree m n ≡ true → lengths_agree (known_length m n) k ≡ (lengths_agree m k && lengths_agree n k)
lengths_law (Some a) (Some b) (Some c) e = as_both _ _ (number_as a b c e)
lengths_law (Some a) (Some b) None e = refl
lengths_law (Some a) None (Some c) e = and_true (nat_eq a c)
lengths_law (Some a) None None e = refl
lengths_law None n k e = refl

under : (n x y : Bool) → x ≡ y → (n && x) ≡ (y && (n && x))
under true true y e = ap (λ z. z && true) e
under true false y e = ap (λ z. z && false) e
under false true y e = ap (λ z. z && false) e
under false false y e = ap (λ z. z && false) e

after : (n x y : Bool) → x ≡ y → (n && x) ≡ ((n && x) && y)
after true x y e = as_both x y e
after false x y e = refl

integer_law : (b c : Basic) (h : Form) → same_basic b c ≡ true → compatible_forms (Integer b) h ≡ (compatible_forms (Integer b) h && compatible_forms (Integer c) h)
integer_law b c Void e = refl
integer_law b c (Integer d) e = as_both _ _ (basic_as b c d e)
integer_law b c (Enum d k) e = as_both _ _ (basic_as b c d e)
integer_law b c (Pointer t) e = refl
integer_law b c (Array t n) e = refl
integer_law b c (Struct s) e = refl
integer_law b c (Function r ps v) e = refl

to_enum_law : (b c : Basic) (o : ℕ) (h : Form) → same_basic b c ≡ true → compatible_forms (Enum c o) h ≡ (compatible_forms (Integer b) h && compatible_forms (Enum c o) h)
to_enum_law b c o Void e = refl
to_enum_law b c o (Integer d) e = under true (same_basic c d) (same_basic b d) (sym (basic_as b c d e))
to_enum_law b c o (Enum d k) e = under (nat_eq o k) (same_basic c d) (same_basic b d) (sym (basic_as b c d e))
to_enum_law b c o (Pointer t) e = refl
to_enum_law b c o (Array t n) e = refl
to_enum_law b c o (Struct s) e = refl
to_enum_law b c o (Function r ps v) e = refl

from_enum_law : (b c : Basic) (o : ℕ) (h : Form) → same_basic b c ≡ true → compatible_forms (Enum b o) h ≡ (compatible_forms (Enum b o) h && compatible_forms (Integer c) h)
from_enum_law b c o Void e = refl
from_enum_law b c o (Integer d) e = as_both _ _ (basic_as b c d e)
from_enum_law b c o (Enum d k) e = after (nat_eq o k) (same_basic b d) (same_basic c d) (basic_as b c d e)
from_enum_law b c o (Pointer t) e = refl
from_enum_law b c o (Array t n) e = refl
from_enum_law b c o (Struct s) e = refl
from_enum_law b c o (Function r ps v) e = refl

enum_law : (b c : Basic) (o p : ℕ) (h : Form) → same_basic b c ≡ true → nat_eq o p ≡ true
    → compatible_forms (Enum b o) h ≡ (compatible_forms (Enum b o) h && compatible_forms (Enum c p) h)
enum_law b c o p Void e n = refl
enum_law b c o p (Integer d) e n = as_both _ _ (basic_as b c d e)
enum_law b c o p (Enum d k) e n = as_both _ _ (λ i. number_as o p k n i && basic_as b c d e i)
enum_law b c o p (Pointer t) e n = refl
enum_law b c o p (Array t m) e n = refl
enum_law b c o p (Struct s) e n = refl
enum_law b c o p (Function r ps v) e n = refl

struct_law : (s r : ℕ) (h : Form) → nat_eq s r ≡ true
    → compatible_forms (Struct (record { 0 = s })) h ≡ (compatible_forms (Struct (record { 0 = s })) h && compatible_forms (Struct (record { 0 = r })) h)
struct_law s r (Struct x) e = as_both _ _ (number_as s r x.0 e)
struct_law s r Void e = refl
struct_law s r (Integer d) e = refl
struct_law s r (Enum d k) e = refl
struct_law s r (Pointer t) e = refl
struct_law s r (Array t m) e = refl
struct_law s r (Function a ps v) e = refl

mutual
  pub composite_law : (t u v : CType) → compatible t u ≡ true → compatible (composite t u) v ≡ (compatible t v && compatible u v)
  composite_law (typed f p) (typed g q) (typed h r) e =
      let parts = and_parts (same_quals p q) (compatible_forms f g) e in
      pair (same_quals p r) (same_quals p r) (same_quals q r) (compatible_forms (composite_form f g) h) (compatible_forms f h) (compatible_forms g h)
      (as_both _ _ (quals_as p q r parts.0)) (forms_law f g h parts.1)

  passed_law : (t u v : CType) → compatible_passed t u ≡ true → compatible_passed (composite t u) v ≡ (compatible_passed t v && compatible_passed u v)
  passed_law (typed f p) (typed g q) (typed h r) e =
      let parts = and_parts (same_ownership p q) (compatible_forms f g) e in
      pair (same_ownership p r) (same_ownership p r) (same_ownership q r) (compatible_forms (composite_form f g) h) (compatible_forms f h) (compatible_forms g h)
      (as_both _ _ (ownership_as p q r parts.0)) (forms_law f g h parts.1)

  forms_law : (f g h : Form) → compatible_forms f g ≡ true → compatible_forms (composite_form f g) h ≡ (compatible_forms f h && compatible_forms g h)
  forms_law Void Void h e = twice (compatible_forms Void h)
  forms_law (Integer b) (Integer c) h e = integer_law b c h e
  forms_law (Integer b) (Enum c o) h e = to_enum_law b c o h e
  forms_law (Enum b o) (Integer c) h e = from_enum_law b c o h e
  forms_law (Enum b o) (Enum c p) h e = let parts = and_parts (nat_eq o p) (same_basic b c) e in enum_law b c o p h parts.1 parts.0
  forms_law (Struct s) (Struct r) h e = struct_law s.0 r.0 h e
  forms_law (Pointer t) (Pointer u) (Pointer v) e = composite_law t u v e
  forms_law (Pointer t) (Pointer u) h e = refl
  forms_law (Array t m) (Array u n) (Array v k) e =
      let parts = and_parts (compatible t u) (lengths_agree m n) e in
      pair (compatible (composite t u) v) (compatible t v) (compatible u v) (lengths_agree (known_length m n) k) (lengths_agree m k) (lengths_agree n k)
      (composite_law t u v parts.0) (lengths_law m n k parts.1)
  forms_law (Array t m) (Array u n) h e = refl
  forms_law (Function t ps v) (Function u qs w) (Function s rs x) e =
      let last = and_parts (compatible_passed t u && compatible_lists ps qs) (same_bool v w) e in
      let first = and_parts (compatible_passed t u) (compatible_lists ps qs) last.0 in
      pair (compatible_passed (composite t u) s && compatible_lists (composite_types ps qs) rs) (compatible_passed t s && compatible_lists ps rs) (compatible_passed u s && compatible_lists qs rs)
      (same_bool v x) (same_bool v x) (same_bool w x)
      (pair (compatible_passed (composite t u) s) (compatible_passed t s) (compatible_passed u s) (compatible_lists (composite_types ps qs) rs) (compatible_lists ps rs) (compatible_lists qs rs)
      (passed_law t u s first.0) (lists_law ps qs rs first.1))
      (as_both _ _ (ap (λ b. same_bool b x) (bool_as v w last.1)))
  forms_law (Function t ps v) (Function u qs w) h e = refl
  forms_law f g h e = cc

  lists_law : (ts us vs : Types) → compatible_lists ts us ≡ true → compatible_lists (composite_types ts us) vs ≡ (compatible_lists ts vs && compatible_lists us vs)
  lists_law no_types no_types vs e = twice (compatible_lists no_types vs)
  lists_law no_types (more_types u us) vs e = cc
  lists_law (more_types t ts) no_types vs e = cc
  lists_law (more_types t ts) (more_types u us) no_types e = refl
  lists_law (more_types t ts) (more_types u us) (more_types v vs) e =
      let parts = and_parts (compatible_passed t u) (compatible_lists ts us) e in
      pair (compatible_passed (composite t u) v) (compatible_passed t v) (compatible_passed u v) (compatible_lists (composite_types ts us) vs) (compatible_lists ts vs) (compatible_lists us vs)
      (passed_law t u v parts.0) (lists_law ts us vs parts.1)
