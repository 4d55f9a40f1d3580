-- A layout that is there stays as it is while the table of structures grows.
use Rattle.std.proofs.Common.{◌≡◌, ℕ, zero, suc, ◌+◌, ◌≤◌, ◌<◌, Bool, true, false, List, [], ◌∷◌, ◌++◌, length, Option, Some, None, is_some, slice_get, IsTrue, if◌then◌else◌, arith, length-append, refl, sym, ◌∙◌, ap, subst}
use Rattle.std.specs.Option.{option_map}
use Rattle.std.specs.List.{list_all}
use Rattle.std.proofs.lemmas.Bool.{and_parts, and_from, ltb-true, lt-ltb}
use Rattle.model_types.specs.declared.types.StructId.{StructId}
use Rattle.model_types.specs.Types.{CType, typed, Form, Void, Integer, Enum, Pointer, Array, Struct, Function, Types, no_types, more_types}
use Rattle.model_types.specs.Structures.{Member, Structure, members_in, members_of, completed, names_below, form_names_below, types_names_below, members_below, knows, is_closed}
use Rattle.model_types.specs.Layout.{Layout, type_layout, repeated, before_others, member_layouts, layout_of_members, struct_layout, complete_count, layout_in, layout_of, padded, in_a_row}

none_some : {A : Type 0} (x : A) → None ≡ Some x → ⊥
none_some x e = cc

-- what the first gives, the second gives too
unfoldable pub Extends : {A B : Type 0} → (A → Option B) → (A → Option B) → Type 0
Extends {A} {B} f g = (x : A) (y : B) → f x ≡ Some y → g x ≡ Some y

map_extends : {A B : Type 0} (f : A → B) (o p : Option A) → ((x : A) → o ≡ Some x → p ≡ Some x) → (y : B) → option_map f o ≡ Some y → option_map f p ≡ Some y
map_extends f None p h y e = cc
map_extends f (Some x) p h y e = rw (h x refl) e

pub type_extends : (f g : StructId → Option Layout) → Extends f g → Extends (type_layout f) (type_layout g)
unfolding Extends
type_extends f g h (typed Void q) l e = e
type_extends f g h (typed (Integer b) q) l e = e
type_extends f g h (typed (Enum b d) q) l e = e
type_extends f g h (typed (Pointer t) q) l e = e
type_extends f g h (typed (Array t None) q) l e = e
type_extends f g h (typed (Array t (Some n)) q) l e = map_extends (repeated n) (type_layout f t) (type_layout g t) (type_extends f g h t) l e
type_extends f g h (typed (Struct s) q) l e = h s l e
type_extends f g h (typed (Function r ps v) q) l e = e

before_extends : (o p : Option Layout) (os ps : Option (List Layout)) → ((x : Layout) → o ≡ Some x → p ≡ Some x) → ((xs : List Layout) → os ≡ Some xs → ps ≡ Some xs)
    → (ls : List Layout) → before_others o os ≡ Some ls → before_others p ps ≡ Some ls
before_extends None p os ps h k ls e = cc
before_extends (Some x) p None ps h k ls e = cc
before_extends (Some x) p (Some xs) ps h k ls e = rw (h x refl, k xs refl) e

pub members_extend : (f g : CType → Option Layout) → Extends f g → Extends (member_layouts f) (member_layouts g)
unfolding Extends
members_extend f g h [] ls e = e
members_extend f g h (m ∷ ms) ls e =
    before_extends (f m.ty) (g m.ty) (member_layouts f ms) (member_layouts g ms) (h m.ty) (members_extend f g h ms) ls e

whole_extends : (f g : CType → Option Layout) → Extends f g → (o p : Option (List Member)) → ((ms : List Member) → o ≡ Some ms → p ≡ Some ms)
    → (l : Layout) → layout_of_members f o ≡ Some l → layout_of_members g p ≡ Some l
unfolding Extends
whole_extends f g h None p k l e = cc
whole_extends f g h (Some ms) p k l e =
    rw (k ms refl) (map_extends (λ ls. padded (in_a_row ls)) (member_layouts f ms) (member_layouts g ms) (members_extend f g h ms) l e)

-- deeper nesting and more complete structures
pub struct_extends : (c d : ℕ) → c ≤ d → (f g : StructId → Option (List Member)) → Extends f g → Extends (struct_layout c f) (struct_layout d g)
unfolding Extends
struct_extends zero d h f g k s l e = cc
struct_extends (suc c) zero h f g k s l e = absurd (omega (arith, h))
struct_extends (suc c) (suc d) h f g k s l e =
    whole_extends (type_layout (struct_layout c f)) (type_layout (struct_layout d g))
    (type_extends (struct_layout c f) (struct_layout d g) (struct_extends c d (omega (arith, h)) f g k)) (f s) (g s) (k s) l e

-- an incomplete structure has no layout
pub none_incomplete : (d : ℕ) (f : StructId → Option (List Member)) (s : StructId) → f s ≡ None → struct_layout d f s ≡ None
none_incomplete zero f s e = refl
none_incomplete (suc d) f s e = rw e refl

-- ---- an incomplete structure more

member_push : (xs : List Structure) (x : Structure) → x.members ≡ None → (k : ℕ) → members_in (slice_get (xs ++ x ∷ []) k) ≡ members_in (slice_get xs k)
member_push [] x e zero = e
member_push [] x e (suc k) = refl
member_push (y ∷ ys) x e zero = refl
member_push (y ∷ ys) x e (suc k) = member_push ys x e k

count_push : (xs : List Structure) (x : Structure) → x.members ≡ None → complete_count (xs ++ x ∷ []) ≡ complete_count xs
count_push [] x e = rw e refl
count_push (y ∷ ys) x e = ap (λ (n : ℕ). if is_some y.members then 1 + n else n) (count_push ys x e)

pub layout_push : (xs : List Structure) (x : Structure) → x.members ≡ None → (s : StructId) → layout_in (xs ++ x ∷ []) s ≡ layout_in xs s
layout_push xs x e s = λ i. struct_layout (count_push xs x e i) (λ (r : StructId). member_push xs x e r.0 i) s

-- ---- names of structures that are there

mutual
  pub names_more : (m n : ℕ) → m ≤ n → (t : CType) → names_below m t ≡ true → names_below n t ≡ true
  names_more m n h (typed f q) e = form_names_more m n h f e

  form_names_more : (m n : ℕ) → m ≤ n → (f : Form) → form_names_below m f ≡ true → form_names_below n f ≡ true
  form_names_more m n h Void e = e
  form_names_more m n h (Integer b) e = e
  form_names_more m n h (Enum b d) e = e
  form_names_more m n h (Pointer t) e = names_more m n h t e
  form_names_more m n h (Array t k) e = names_more m n h t e
  form_names_more m n h (Struct s) e = lt-ltb s.0 n (omega (arith, h, ltb-true s.0 m e))
  form_names_more m n h (Function r ps v) e =
      let parts = and_parts (names_below m r) (types_names_below m ps) e in
      and_from (names_below n r) (types_names_below n ps) (names_more m n h r parts.0) (types_names_more m n h ps parts.1)

  types_names_more : (m n : ℕ) → m ≤ n → (ts : Types) → types_names_below m ts ≡ true → types_names_below n ts ≡ true
  types_names_more m n h no_types e = e
  types_names_more m n h (more_types t ts) e =
      let parts = and_parts (names_below m t) (types_names_below m ts) e in
      and_from (names_below n t) (types_names_below n ts) (names_more m n h t parts.0) (types_names_more m n h ts parts.1)

all_more : {A : Type 0} (p q : A → Bool) → ((x : A) → p x ≡ true → q x ≡ true) → (xs : List A) → list_all p xs ≡ true → list_all q xs ≡ true
all_more p q h [] e = refl
all_more p q h (x ∷ xs) e =
    let parts = and_parts (p x) (list_all p xs) e in
    and_from (q x) (list_all q xs) (h x parts.0) (all_more p q h xs parts.1)

members_more : (m n : ℕ) → m ≤ n → (o : Option (List Member)) → members_below m o ≡ true → members_below n o ≡ true
members_more m n h None e = refl
members_more m n h (Some ms) e = all_more (λ (x : Member). names_below m x.ty) (λ (x : Member). names_below n x.ty) (λ x. names_more m n h x.ty) ms e

all_push : (n : ℕ) (xs : List Structure) (x : Structure) → x.members ≡ None → list_all (λ (s : Structure). members_below n s.members) xs ≡ true
    → list_all (λ (s : Structure). members_below n s.members) (xs ++ x ∷ []) ≡ true
all_push n [] x h e = rw h refl
all_push n (y ∷ ys) x h e =
    let parts = and_parts (members_below n y.members) (list_all (λ (s : Structure). members_below n s.members) ys) e in
    and_from (members_below n y.members) (list_all (λ (s : Structure). members_below n s.members) (ys ++ x ∷ [])) parts.0 (all_push n ys x h parts.1)

closed_more : (m n : ℕ) → m ≤ n → (xs : List Structure) → list_all (λ (s : Structure). members_below m s.members) xs ≡ true
    → list_all (λ (s : Structure). members_below n s.members) xs ≡ true
closed_more m n h xs e = all_more (λ (s : Structure). members_below m s.members) (λ (s : Structure). members_below n s.members) (λ s. members_more m n h s.members) xs e

pub closed_push : (xs : List Structure) (x : Structure) → x.members ≡ None → IsTrue (is_closed xs) → IsTrue (is_closed (xs ++ x ∷ []))
closed_push xs x h e =
    all_push (length (xs ++ x ∷ [])) xs x h (closed_more (length xs) (length (xs ++ x ∷ [])) (omega (arith, length-append xs (x ∷ []))) xs e)

-- ---- a structure completed

pub length_completed : (xs : List Structure) (k : ℕ) (ms : List Member) → length (completed xs k ms) ≡ length xs
length_completed [] k ms = refl
length_completed (x ∷ xs) zero ms = refl
length_completed (x ∷ xs) (suc k) ms = ap suc (length_completed xs k ms)

count_step : (b : Bool) (m n : ℕ) → m ≡ suc n → (if b then 1 + m else m) ≡ suc (if b then 1 + n else n)
count_step true m n e = omega (arith, e)
count_step false m n e = e

count_completed : (xs : List Structure) (k : ℕ) (ms : List Member) → k < length xs → members_in (slice_get xs k) ≡ None → complete_count (completed xs k ms) ≡ suc (complete_count xs)
count_completed [] k ms h e = absurd (omega (arith, h))
count_completed (x ∷ xs) zero ms h e = rw e (omega arith)
count_completed (x ∷ xs) (suc k) ms h e =
    count_step (is_some x.members) (complete_count (completed xs k ms)) (complete_count xs) (count_completed xs k ms (omega (arith, h)) e)

-- what a completed table has at a rank
pub same_completed : (xs : List Structure) (k : ℕ) (ms : List Member) → k < length xs → members_in (slice_get (completed xs k ms) k) ≡ Some ms
same_completed [] k ms h = absurd (omega (arith, h))
same_completed (x ∷ xs) zero ms h = refl
same_completed (x ∷ xs) (suc k) ms h = same_completed xs k ms (omega (arith, h))

pub other_completed : (xs : List Structure) (k j : ℕ) (ms : List Member) → (j ≡ k → ⊥) → members_in (slice_get (completed xs k ms) j) ≡ members_in (slice_get xs j)
other_completed [] k j ms h = refl
other_completed (x ∷ xs) zero zero ms h = absurd (h refl)
other_completed (x ∷ xs) zero (suc j) ms h = refl
other_completed (x ∷ xs) (suc k) zero ms h = refl
other_completed (x ∷ xs) (suc k) (suc j) ms h = other_completed xs k j ms (λ e. h (ap suc e))

completed_extends : (xs : List Structure) (k : ℕ) (ms : List Member) → members_in (slice_get xs k) ≡ None → Extends (members_of xs) (members_of (completed xs k ms))
unfolding Extends
completed_extends xs k ms e s y f = other_completed xs k s.0 ms impossible ∙ f
  where
    impossible : s.0 ≡ k → ⊥
    impossible same = none_some y (sym e ∙ ap (λ (j : ℕ). members_in (slice_get xs j)) (sym same) ∙ f)

-- the layout of what has one stays, where a structure without members is completed
pub layout_completed : (xs : List Structure) (k : ℕ) (ms : List Member) → k < length xs → members_in (slice_get xs k) ≡ None
    → (s : StructId) (l : Layout) → layout_in xs s ≡ Some l → layout_in (completed xs k ms) s ≡ Some l
unfolding Extends
layout_completed xs k ms h e =
    struct_extends (complete_count xs) (complete_count (completed xs k ms)) (omega (arith, count_completed xs k ms h e)) (members_of xs) (members_of (completed xs k ms))
    (completed_extends xs k ms e)

-- the structure that is completed itself
pub layout_of_completed : (xs : List Structure) (id : StructId) (ms : List Member) → id.0 < length xs → members_of xs id ≡ None
    → (l : Layout) → layout_of_members (layout_of xs) (Some ms) ≡ Some l → layout_in (completed xs id.0 ms) id ≡ Some l
layout_of_completed xs id ms h e l given =
    ap (λ (n : ℕ). struct_layout n (members_of ys) id) (count_completed xs id.0 ms h e)
    ∙ ap (layout_of_members (type_layout (struct_layout (complete_count xs) (members_of ys)))) (same_completed xs id.0 ms h)
    ∙ whole_extends (layout_of xs) (type_layout (struct_layout (complete_count xs) (members_of ys))) more (Some ms) (Some ms) (λ _ r. r) l given
  where
    ys : List Structure
    ys = completed xs id.0 ms

    more : Extends (layout_of xs) (type_layout (struct_layout (complete_count xs) (members_of ys)))
    more = type_extends (layout_in xs) (struct_layout (complete_count xs) (members_of ys))
        (struct_extends (complete_count xs) (complete_count xs) (omega arith) (members_of xs) (members_of ys) (completed_extends xs id.0 ms e))

all_completed : (n : ℕ) (xs : List Structure) (k : ℕ) (ms : List Member) → list_all (λ (m : Member). names_below n m.ty) ms ≡ true
    → list_all (λ (s : Structure). members_below n s.members) xs ≡ true → list_all (λ (s : Structure). members_below n s.members) (completed xs k ms) ≡ true
all_completed n [] k ms h e = refl
all_completed n (x ∷ xs) zero ms h e =
    let parts = and_parts (members_below n x.members) (list_all (λ (s : Structure). members_below n s.members) xs) e in
    and_from (list_all (λ (m : Member). names_below n m.ty) ms) (list_all (λ (s : Structure). members_below n s.members) xs) h parts.1
all_completed n (x ∷ xs) (suc k) ms h e =
    let parts = and_parts (members_below n x.members) (list_all (λ (s : Structure). members_below n s.members) xs) e in
    and_from (members_below n x.members) (list_all (λ (s : Structure). members_below n s.members) (completed xs k ms)) parts.0 (all_completed n xs k ms h parts.1)

pub closed_completed : (xs : List Structure) (k : ℕ) (ms : List Member) → list_all (λ (m : Member). knows xs m.ty) ms ≡ true
    → IsTrue (is_closed xs) → IsTrue (is_closed (completed xs k ms))
closed_completed xs k ms h e =
    subst (λ (n : ℕ). list_all (λ (s : Structure). members_below n s.members) (completed xs k ms) ≡ true) (sym (length_completed xs k ms))
    (all_completed (length xs) xs k ms h e)
