-- Offsets of members.
use Rattle.std.proofs.Common.{◌≡◌, ℕ, zero, suc, ◌≤◌, ◌<◌, List, [], ◌∷◌, length, take, get_or, Option, Some, None, is_some, slice_get, arith, refl, sym, ◌∙◌, ap, ap₂, if◌then◌else◌}
use Rattle.std.specs.Option.{option_map, option_and_then}
use Rattle.std.specs.List.{fold}
use Rattle.std.specs.Int.{next_multiple_of}
use Rattle.std.proofs.lemmas.Option.{same_Some}
use Rattle.model_types.specs.declared.types.StructId.{StructId}
use Rattle.model_types.specs.Types.{CType, typed, Void, Integer, Enum, Pointer, Array, Struct, Function, form_of_type}
use Rattle.model_types.specs.Structures.{Member, Structure, members_of}
use Rattle.model_types.specs.Layout as m
use Rattle.c_types.specs.Extents as s
use Rattle.c_types.specs.declared.extents.Extent.{Extent}
use Rattle.c_types.proofs.Saturation.{kept_behind}
use Rattle.c_types.proofs.Growth.{Extends, struct_extends, type_extends, members_extend}

-- both parts of a list of layouts that is there
both_parts : (o : Option m.Layout) (os : Option (List m.Layout)) (ls : List m.Layout) → m.before_others o os ≡ Some ls
    → (l : m.Layout) × (rest : List m.Layout) × (o ≡ Some l) × (os ≡ Some rest) × (ls ≡ l ∷ rest)
both_parts None os ls h = cc
both_parts (Some l) None ls h = cc
both_parts (Some l) (Some rest) ls h = (l, rest, refl, refl, sym (same_Some (l ∷ rest) ls h))

-- the layouts of the first members
pub taken_layouts : (f : CType → Option m.Layout) (ms : List Member) (ls : List m.Layout) (k : ℕ) → m.member_layouts f ms ≡ Some ls → m.member_layouts f (take k ms) ≡ Some (take k ls)
taken_layouts f ms ls zero h = refl
taken_layouts f [] ls (suc k) h = ap (λ (xs : List m.Layout). Some (take (suc k) xs)) (same_Some [] ls h)
taken_layouts f (x ∷ xs) ls (suc k) h =
    let p = both_parts (f x.ty) (m.member_layouts f xs) ls h in
    ap₂ m.before_others p.2 (taken_layouts f xs p.1 k p.3) ∙ ap (λ (ys : List m.Layout). Some (take (suc k) ys)) (sym p.4)

-- the layout of a member
pub layout_at : (f : CType → Option m.Layout) (ms : List Member) (ls : List m.Layout) (k : ℕ) (x : Member) → m.member_layouts f ms ≡ Some ls → k < length ms → x ≡ get_or ms k x
    → f x.ty ≡ slice_get ls k
layout_at f [] ls k x h lt is = absurd (omega (arith, lt))
layout_at f (y ∷ ys) ls zero x h lt is =
    let p = both_parts (f y.ty) (m.member_layouts f ys) ls h in
    ap (λ (z : Member). f z.ty) is ∙ p.2 ∙ ap (λ (xs : List m.Layout). slice_get xs 0) (sym p.4)
layout_at f (y ∷ ys) ls (suc k) x h lt is =
    let p = both_parts (f y.ty) (m.member_layouts f ys) ls h in
    layout_at f ys p.1 k x p.3 (omega (arith, lt)) is ∙ ap (λ (xs : List m.Layout). slice_get xs (suc k)) (sym p.4)

-- past the last member
none_at : (f : CType → Option m.Layout) (ms : List Member) (ls : List m.Layout) (k : ℕ) → m.member_layouts f ms ≡ Some ls → length ms ≤ k → slice_get ls k ≡ None
none_at f [] ls k h le = ap (λ (xs : List m.Layout). slice_get xs k) (sym (same_Some [] ls h))
none_at f (y ∷ ys) ls zero h le = absurd (omega (arith, le))
none_at f (y ∷ ys) ls (suc k) h le =
    let p = both_parts (f y.ty) (m.member_layouts f ys) ls h in
    ap (λ (xs : List m.Layout). slice_get xs (suc k)) p.4 ∙ none_at f ys p.1 k p.3 (omega (arith, le))

-- a row grows
row_grows : (b : m.Layout) (ls : List m.Layout) → b.size ≤ (fold m.followed_by b ls).size
row_grows b [] = omega arith
row_grows b (l ∷ ls) = omega (arith, row_grows (m.followed_by b l) ls)

taken_below : (b : m.Layout) (ls : List m.Layout) (k : ℕ) → (fold m.followed_by b (take k ls)).size ≤ (fold m.followed_by b ls).size
taken_below b ls zero = row_grows b ls
taken_below b [] (suc k) = omega arith
taken_below b (l ∷ ls) (suc k) = taken_below (m.followed_by b l) ls k

pub offset_none : (f : CType → Option m.Layout) (ms : List Member) (ls : List m.Layout) (k : ℕ) → m.member_layouts f ms ≡ Some ls → length ms ≤ k → None ≡ m.offset_in ls k
offset_none f ms ls k h le = sym (ap (option_map (m.offset_behind (take k ls))) (none_at f ms ls k h le))

-- the row before a member has a layout
pub row_there : (f : CType → Option m.Layout) (ms : List Member) (ls : List m.Layout) (k : ℕ) → m.member_layouts f ms ≡ Some ls
    → None ≡ option_map (s.more_behind s.no_member) (m.member_layouts f (take k ms)) → ⊥
row_there f ms ls k h n = impossible (n ∙ ap (option_map (s.more_behind s.no_member)) (taken_layouts f ms ls k h))
  where
    impossible : None ≡ Some (s.more_behind s.no_member (take k ls)) → ⊥
    impossible e = cc

kept_none : (o : Option m.Layout) → None ≡ option_map s.kept o → o ≡ None
kept_none None h = refl
kept_none (Some l) h = cc

pub member_none : (f : CType → Option m.Layout) (ms : List Member) (ls : List m.Layout) (k : ℕ) (x : Member) → m.member_layouts f ms ≡ Some ls → k < length ms → x ≡ get_or ms k x
    → None ≡ option_map s.kept (f x.ty) → None ≡ m.offset_in ls k
member_none f ms ls k x h lt is n =
    sym (ap (option_map (m.offset_behind (take k ls))) (sym (layout_at f ms ls k x h lt is) ∙ kept_none (f x.ty) n))

-- the size of the row before a member is within the limit
row_size : (f : CType → Option m.Layout) (ms : List Member) (ls : List m.Layout) (k : ℕ) (row : Extent) → m.member_layouts f ms ≡ Some ls → (m.in_a_row ls).size ≤ m.size_limit
    → Some row ≡ option_map (s.more_behind s.no_member) (m.member_layouts f (take k ms)) → row.size ≡ (m.in_a_row (take k ls)).size
row_size f ms ls k row h small r =
    let whole : row ≡ s.kept (m.in_a_row (take k ls)) =
    same_Some row (s.more_behind s.no_member (take k ls)) (r ∙ ap (option_map (s.more_behind s.no_member)) (taken_layouts f ms ls k h))
    ∙ kept_behind m.no_member (take k ls) in
    let size : row.size ≡ s.limited (m.in_a_row (take k ls)).size = ap (λ (e : Extent). e.size) whole in
    omega (arith, size, taken_below m.no_member ls k, small)

offset_of_kept : (before : List m.Layout) (o : Option m.Layout) (e : Extent) (n : ℕ) → Some e ≡ option_map s.kept o → n ≡ (m.in_a_row before).size
    → Some (next_multiple_of n e.align) ≡ option_map (m.offset_behind before) o
offset_of_kept before None e n h size = cc
offset_of_kept before (Some l) e n h size =
    ap₂ (λ (x y : ℕ). Some (next_multiple_of x y)) size (ap (λ (x : Extent). x.align) (same_Some e (s.kept l) h))

pub offset_some : (f : CType → Option m.Layout) (ms : List Member) (ls : List m.Layout) (k : ℕ) (x : Member) (row e : Extent) (r : ℕ)
    → m.member_layouts f ms ≡ Some ls → (m.in_a_row ls).size ≤ m.size_limit → k < length ms → x ≡ get_or ms k x
    → Some row ≡ option_map (s.more_behind s.no_member) (m.member_layouts f (take k ms)) → Some e ≡ option_map s.kept (f x.ty)
    → r ≡ next_multiple_of row.size e.align → Some r ≡ m.offset_in ls k
offset_some f ms ls k x row e r h small lt is there laid made =
    ap Some made
    ∙ offset_of_kept (take k ls) (slice_get ls k) e row.size (laid ∙ ap (option_map s.kept) (layout_at f ms ls k x h lt is)) (row_size f ms ls k row h small there)

from_map : {A B : Type 0} (f : A → B) (o : Option A) (y : B) → option_map f o ≡ Some y → (x : A) × (o ≡ Some x) × (f x ≡ y)
from_map f None y h = cc
from_map f (Some x) y h = (x, refl, same_Some (f x) y h)

-- a structure that has a layout, by its members
struct_row : (d : ℕ) (g : StructId → Option (List Member)) (id : StructId) (l : m.Layout) (ms : List Member) → m.struct_layout d g id ≡ Some l → g id ≡ Some ms
    → (ls : List m.Layout) × (m.member_layouts (m.type_layout (m.struct_layout d g)) ms ≡ Some ls) × (m.padded (m.in_a_row ls) ≡ l)
unfolding Extends
struct_row zero g id l ms h e = cc
struct_row (suc d) g id l ms h e =
    let f : CType → Option m.Layout = m.type_layout (m.struct_layout d g) in
    let found = from_map (λ ls. m.padded (m.in_a_row ls)) (m.member_layouts f ms) l (ap (m.layout_of_members f) (sym e) ∙ h) in
    (found.0, members_extend f (m.type_layout (m.struct_layout (suc d) g)) (type_extends (m.struct_layout d g) (m.struct_layout (suc d) g) (deeper d g)) ms found.0 found.1, found.2)
  where
    deeper : (d : ℕ) (g : StructId → Option (List Member)) → Extends (m.struct_layout d g) (m.struct_layout (suc d) g)
    deeper d g = struct_extends d (suc d) (omega arith) g g (λ x y r. r)

sized : (o : Option m.Layout) (n : ℕ) → Some n ≡ option_and_then (λ l. m.within_limit l.size) o → (l : m.Layout) × (o ≡ Some l) × (l.size ≤ m.size_limit)
sized None n h = cc
sized (Some l) n h = (l, refl, grind arith)

offset_laid : (structs : List Structure) (t : CType) (k n : ℕ) (ms : List Member) (ls : List m.Layout) (r : Option ℕ) → Some n ≡ m.size_of structs t
    → Some ms ≡ m.members_of_form structs (form_of_type t) → m.member_layouts (m.layout_of structs) ms ≡ Some ls → r ≡ m.offset_in ls k → r ≡ m.member_offset structs t k
offset_laid structs t k n ms ls r size there laid e =
    e ∙ sym (ap (option_and_then (λ (xs : List m.Layout). m.offset_in xs k)) laid)
    ∙ ap (λ (o : Option (List Member)). m.offset_of (m.layout_of structs) o k) there
    ∙ sym (ap (λ (o : Option ℕ). if is_some o then m.offset_of (m.layout_of structs) (m.members_of_form structs (form_of_type t)) k else None) (sym size))

-- the offset that a row gives is that of the member
pub offset_case : (structs : List Structure) (t : CType) (k n : ℕ) (ms : List Member) (r : Option ℕ) → Some n ≡ m.size_of structs t
    → Some ms ≡ m.members_of_form structs (form_of_type t)
    → ((ls : List m.Layout) → m.member_layouts (m.layout_of structs) ms ≡ Some ls → (m.in_a_row ls).size ≤ m.size_limit → r ≡ m.offset_in ls k)
    → r ≡ m.member_offset structs t k
offset_case structs (typed (Struct id) q) k n ms r size there given =
    let l = sized (m.layout_in structs id) n size in
    let row = struct_row (m.complete_count structs) (members_of structs) id l.0 ms l.1 (sym there) in
    let whole : (m.padded (m.in_a_row row.0)).size ≡ l.0.size = ap (λ (x : m.Layout). x.size) row.2 in
    offset_laid structs (typed (Struct id) q) k n ms row.0 r size there row.1 (given row.0 row.1 (omega (arith, whole, l.2)))
offset_case structs (typed Void q) k n ms r size there given = cc
offset_case structs (typed (Integer b) q) k n ms r size there given = cc
offset_case structs (typed (Enum b d) q) k n ms r size there given = cc
offset_case structs (typed (Pointer t) q) k n ms r size there given = cc
offset_case structs (typed (Array t c) q) k n ms r size there given = cc
offset_case structs (typed (Function t ps v) q) k n ms r size there given = cc
