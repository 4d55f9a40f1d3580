-- One more incomplete structure: the types that there were are there still, and structures that fit do.
use Rattle.std.proofs.Common.{◌≡◌, ◌∙◌, ap, sym, refl, ℕ, zero, suc, ◌+◌, ◌<◌, nat_lt, Bool, true, false, ◌&&◌, ◌||◌, not, List, [], ◌∷◌, ◌++◌, length, length-append, Option, Some, None, is_some, slice_get, arith, if◌then◌else◌}
use Rattle.std.specs.List.{list_all}
use Rattle.std.specs.Option.{option_and_then}
use Rattle.std.proofs.lemmas.Bool.{and_parts, and_from, lt-ltb, ltb-true}
use Rattle.model_types.specs.declared.types.StructId.{StructId}
use Rattle.model_types.specs.Types.{CType, typed, Form, Void, Integer, Enum, Pointer, Array, Struct, Function, Types, no_types, more_types, form_of_type}
use Rattle.model_types.specs.Structures.{Member, Structure, members_in, members_of}
use Rattle.model_types.specs.Layout.{Layout, within_limit, struct_layout, complete_count, layout_in, is_complete, is_complete_form, type_layout}
use Rattle.model_core.specs.CoreTypes.{plain, is_void}
use Rattle.model_core.specs.PossibleTypes.{is_sized, length_fits, is_value_form, has_types, is_possible, is_possible_form, are_possible, is_whole, members_whole, has_order, member_fits, members_fit, structures_fit, are_structures}
use Rattle.typed_walk_laws.specs.Behind.{TypesKept}

-- ---- what a table with one more incomplete structure says of its structures

same_members_at : (ss : List Structure) (x : Structure) (k : ℕ) → x.members ≡ None → members_in (slice_get (ss ++ x ∷ []) k) ≡ members_in (slice_get ss k)
same_members_at [] x zero h = h
same_members_at [] x (suc k) h = refl
same_members_at (s ∷ ss) x zero h = refl
same_members_at (s ∷ ss) x (suc k) h = same_members_at ss x k h

same_members : (ss : List Structure) (x : Structure) → x.members ≡ None → members_of (ss ++ x ∷ []) ≡ members_of ss
same_members ss x h = λ i id. same_members_at ss x id.0 h i

abbrev counted : (o : Option (List Member)) (n : ℕ) → ℕ
counted o n = if is_some o then 1 + n else n

same_count : (ss : List Structure) (x : Structure) → x.members ≡ None → complete_count (ss ++ x ∷ []) ≡ complete_count ss
same_count [] x h = ap (λ o. counted o 0) h
same_count (s ∷ ss) x h = ap (counted s.members) (same_count ss x h)

same_layouts : (ss : List Structure) (x : Structure) → x.members ≡ None → layout_in (ss ++ x ∷ []) ≡ layout_in ss
same_layouts ss x h =
    let count = same_count ss x h in
    let members = same_members ss x h in
    λ i. struct_layout (count i) (members i)

mutual
  complete_more : (ss : List Structure) (x : Structure) (t : CType) → x.members ≡ None → is_complete (ss ++ x ∷ []) t ≡ is_complete ss t
  complete_more ss x (typed f q) h = complete_form_more ss x f h

  complete_form_more : (ss : List Structure) (x : Structure) (f : Form) → x.members ≡ None → is_complete_form (ss ++ x ∷ []) f ≡ is_complete_form ss f
  complete_form_more ss x Void h = refl
  complete_form_more ss x (Integer b) h = refl
  complete_form_more ss x (Enum b d) h = refl
  complete_form_more ss x (Pointer t) h = refl
  complete_form_more ss x (Array t None) h = refl
  complete_form_more ss x (Array t (Some n)) h = complete_more ss x t h
  complete_form_more ss x (Struct id) h = ap is_some (same_members_at ss x id.0 h)
  complete_form_more ss x (Function t ps v) h = refl

abbrev sized_by : (StructId → Option Layout) → CType → Bool
sized_by layouts t = is_some (option_and_then (λ l. within_limit l.size) (type_layout layouts t))

sized_more : (ss : List Structure) (x : Structure) (t : CType) → x.members ≡ None → is_sized (ss ++ x ∷ []) t ≡ is_sized ss t
sized_more ss x t h = ap (λ layouts. sized_by layouts t) (same_layouts ss x h)

length_more : (ss : List Structure) (x : Structure) (t : CType) (n : Option ℕ) → x.members ≡ None → length_fits (ss ++ x ∷ []) t n ≡ length_fits ss t n
length_more ss x t None h = refl
length_more ss x t (Some n) h = ap (λ b. nat_lt 0 n && b) (sized_more ss x (plain (Array t (Some n))) h)

order_more : (depth : ℕ) (ss : List Structure) (x : Structure) (id : StructId) → x.members ≡ None → has_order depth (ss ++ x ∷ []) id ≡ has_order depth ss id
order_more zero ss x id h = refl
order_more (suc depth) ss x id h =
    let members = same_members_at ss x id.0 h in
    let orders = order_more depth ss x in
    λ i. members_whole (λ other. orders other h i) (members i)

below_more : (ss : List Structure) (x : Structure) (k : ℕ) → nat_lt k (length ss) ≡ true → nat_lt k (length (ss ++ x ∷ [])) ≡ true
below_more ss x k h =
    let less : k < length ss = ltb-true k (length ss) h in
    let more : length (ss ++ x ∷ []) ≡ length ss + 1 = length-append ss (x ∷ []) in
    lt-ltb k (length (ss ++ x ∷ [])) (omega (arith, less, more))

mutual
  possible_more : (ss : List Structure) (x : Structure) (t : CType) → x.members ≡ None → is_possible ss t ≡ true → is_possible (ss ++ x ∷ []) t ≡ true
  possible_more ss x (typed f q) e h = possible_form_more ss x f e h

  possible_form_more : (ss : List Structure) (x : Structure) (f : Form) → x.members ≡ None → is_possible_form ss f ≡ true → is_possible_form (ss ++ x ∷ []) f ≡ true
  possible_form_more ss x Void e h = refl
  possible_form_more ss x (Integer b) e h = refl
  possible_form_more ss x (Enum b d) e h = refl
  possible_form_more ss x (Pointer t) e h = possible_more ss x t e h
  possible_form_more ss x (Array t n) e h =
      let parts = and_parts (is_possible ss t && is_complete ss t) (length_fits ss t n) h in
      let item = and_parts (is_possible ss t) (is_complete ss t) parts.0 in
      and_from (is_possible (ss ++ x ∷ []) t && is_complete (ss ++ x ∷ []) t) (length_fits (ss ++ x ∷ []) t n)
      (and_from (is_possible (ss ++ x ∷ []) t) (is_complete (ss ++ x ∷ []) t) (possible_more ss x t e item.0) (complete_more ss x t e ∙ item.1))
      (length_more ss x t n e ∙ parts.1)
  possible_form_more ss x (Struct id) e h = below_more ss x id.0 h
  possible_form_more ss x (Function t ps v) e h =
      let last = and_parts (is_possible ss t && is_value_form (form_of_type t) && are_possible ss ps) (has_types ps || not v) h in
      let two = and_parts (is_possible ss t && is_value_form (form_of_type t)) (are_possible ss ps) last.0 in
      let one = and_parts (is_possible ss t) (is_value_form (form_of_type t)) two.0 in
      let whole = is_possible (ss ++ x ∷ []) t in
      and_from (whole && is_value_form (form_of_type t) && are_possible (ss ++ x ∷ []) ps) (has_types ps || not v)
      (and_from (whole && is_value_form (form_of_type t)) (are_possible (ss ++ x ∷ []) ps)
      (and_from whole (is_value_form (form_of_type t)) (possible_more ss x t e one.0) one.1) (are_possible_more ss x ps e two.1)) last.1

  are_possible_more : (ss : List Structure) (x : Structure) (ts : Types) → x.members ≡ None → are_possible ss ts ≡ true → are_possible (ss ++ x ∷ []) ts ≡ true
  are_possible_more ss x no_types e h = refl
  are_possible_more ss x (more_types t ts) e h =
      let last = and_parts (is_possible ss t && is_value_form (form_of_type t) && not (is_void t)) (are_possible ss ts) h in
      let two = and_parts (is_possible ss t && is_value_form (form_of_type t)) (not (is_void t)) last.0 in
      let one = and_parts (is_possible ss t) (is_value_form (form_of_type t)) two.0 in
      let whole = is_possible (ss ++ x ∷ []) t in
      and_from (whole && is_value_form (form_of_type t) && not (is_void t)) (are_possible (ss ++ x ∷ []) ts)
      (and_from (whole && is_value_form (form_of_type t)) (not (is_void t))
      (and_from whole (is_value_form (form_of_type t)) (possible_more ss x t e one.0) one.1) two.1) (are_possible_more ss x ts e last.1)

pub kept_more : (ss : List Structure) (x : Structure) → x.members ≡ None → TypesKept ss (ss ++ x ∷ [])
kept_more ss x e = record {
  possible = λ t h. possible_more ss x t e h;
  complete = λ t h. complete_more ss x t e ∙ h;
  length = λ t n h. length_more ss x t n e ∙ h;
}

-- ---- structures that fit

member_more : (ss : List Structure) (x : Structure) (m : Member) → x.members ≡ None → member_fits ss m ≡ true → member_fits (ss ++ x ∷ []) m ≡ true
member_more ss x m e h =
    let parts = and_parts (is_possible ss m.ty) (is_complete ss m.ty) h in
    and_from (is_possible (ss ++ x ∷ []) m.ty) (is_complete (ss ++ x ∷ []) m.ty) (possible_more ss x m.ty e parts.0) (complete_more ss x m.ty e ∙ parts.1)

list_more : (ss : List Structure) (x : Structure) (ms : List Member) → x.members ≡ None → list_all (member_fits ss) ms ≡ true → list_all (member_fits (ss ++ x ∷ [])) ms ≡ true
list_more ss x [] e h = refl
list_more ss x (m ∷ ms) e h =
    let parts = and_parts (member_fits ss m) (list_all (member_fits ss) ms) h in
    and_from (member_fits (ss ++ x ∷ []) m) (list_all (member_fits (ss ++ x ∷ [])) ms) (member_more ss x m e parts.0) (list_more ss x ms e parts.1)

order_counted : (ss : List Structure) (x : Structure) (id : StructId) → x.members ≡ None →
    has_order (complete_count (ss ++ x ∷ [])) (ss ++ x ∷ []) id ≡ has_order (complete_count ss) ss id
order_counted ss x id e = ap (λ n. has_order n (ss ++ x ∷ []) id) (same_count ss x e) ∙ order_more (complete_count ss) ss x id e

members_more : (ss : List Structure) (x : Structure) (rank : ℕ) (o : Option (List Member)) → x.members ≡ None → members_fit ss rank o ≡ true →
    members_fit (ss ++ x ∷ []) rank o ≡ true
members_more ss x rank None e h = refl
members_more ss x rank (Some []) e h = cc
members_more ss x rank (Some (m ∷ ms)) e h =
    let id : StructId = record { 0 = rank } in
    let all = list_all (member_fits ss) (m ∷ ms) in
    let size = is_sized ss (plain (Struct id)) in
    let last = and_parts (all && size) (has_order (complete_count ss) ss id) h in
    let first = and_parts all size last.0 in
    let more = list_all (member_fits (ss ++ x ∷ [])) (m ∷ ms) in
    let sized = is_sized (ss ++ x ∷ []) (plain (Struct id)) in
    and_from (more && sized) (has_order (complete_count (ss ++ x ∷ [])) (ss ++ x ∷ []) id)
    (and_from more sized (list_more ss x (m ∷ ms) e first.0) (sized_more ss x (plain (Struct id)) e ∙ first.1)) (order_counted ss x id e ∙ last.1)

one_fits : (ss : List Structure) (rank : ℕ) (x : Structure) → x.members ≡ None → structures_fit ss rank (x ∷ []) ≡ true
one_fits ss rank x e = ap (λ o. members_fit ss rank o && true) e

fitting_more : (ss : List Structure) (x : Structure) (rank : ℕ) (others : List Structure) → x.members ≡ None → structures_fit ss rank others ≡ true →
    structures_fit (ss ++ x ∷ []) rank (others ++ x ∷ []) ≡ true
fitting_more ss x rank [] e h = one_fits (ss ++ x ∷ []) rank x e
fitting_more ss x rank (s ∷ others) e h =
    let parts = and_parts (members_fit ss rank s.members) (structures_fit ss (suc rank) others) h in
    and_from (members_fit (ss ++ x ∷ []) rank s.members) (structures_fit (ss ++ x ∷ []) (suc rank) (others ++ x ∷ []))
    (members_more ss x rank s.members e parts.0) (fitting_more ss x (suc rank) others e parts.1)

pub structures_more : (ss : List Structure) (x : Structure) → x.members ≡ None → are_structures ss ≡ true → are_structures (ss ++ x ∷ []) ≡ true
structures_more ss x e h = fitting_more ss x 0 ss e h
