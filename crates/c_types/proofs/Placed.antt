-- Offsets of members as the table keeps them.
use Rattle.std.proofs.Common.{◌≡◌, ℕ, zero, suc, ◌+◌, ◌<◌, ◌≤◌, Bool, true, false, nat_lt, cond, List, [], ◌∷◌, length, take, drop, get_or, Option, Some, None, IfSome, slice_get, slice_set, arith, refl, sym, ◌∙◌, ap, ap₂, subst, ⊎_elim, lit≤, lit<}
use Rattle.std.proofs.lemmas.Option.{same_Some}
use Rattle.std.proofs.lemmas.Bool.{ltb-true, cases_eq}
use Rattle.std.proofs.lemmas.List.{drop_all}
use Rattle.std.specs.Option.{option_map, option_and_then}
use Rattle.std.specs.List.{fold}
use Rattle.std.specs.Int.{next_multiple_of}
use Rattle.model_types.specs.declared.types.StructId.{StructId}
use Rattle.model_types.specs.Types.{CType}
use Rattle.model_types.specs.Structures.{Member, Structure, members_of}
use Rattle.model_types.specs.Layout as m
use Rattle.c_types.specs.Extents as s
use Rattle.c_types.specs.declared.extents.Extent.{Extent}
use Rattle.c_types.specs.declared.structs.Body.{Body}
use Rattle.c_types.specs.declared.structs.Entry.{Entry}
use Rattle.c_types.specs.Tables.{structures, body_of, offset_kept, ArePlaced, IsOffset, IsTable}
use Rattle.c_types.proofs.Kept.{members_kept}
use Rattle.c_types.proofs.Rows.{IsRow, rest_of, row_step}
use Rattle.c_types.proofs.Offsets.{offset_some, taken_layouts, layout_at}

-- ---- while members are laid in a row

-- the row of the members before a rank, with their offsets
pub record IsLaid (structs : List Structure) (ms : List Member) (i at : ℕ) (row : Extent) (offsets : List ℕ) : Type 0 where
  pub same : at ≡ i
  pub rest : IsRow structs ms i row
  pub front : (ls : List m.Layout) → m.member_layouts (m.layout_of structs) ms ≡ Some ls → row ≡ s.more_behind s.no_member (take i ls)
  pub each : (ls : List m.Layout) → m.member_layouts (m.layout_of structs) ms ≡ Some ls → (m.in_a_row ls).size ≤ m.size_limit
      → (k o : ℕ) → k < i → slice_get offsets k ≡ Some o → m.offset_in ls k ≡ Some o

behind_step : (b : Extent) (ls : List m.Layout) (i : ℕ) (l : m.Layout) → slice_get ls i ≡ Some l
    → s.more_behind b (take (suc i) ls) ≡ s.followed_by (s.more_behind b (take i ls)) (s.kept l)
behind_step b [] i l h = cc
behind_step b (x ∷ xs) zero l h = ap (λ (y : m.Layout). s.followed_by b (s.kept y)) (same_Some x l h)
behind_step b (x ∷ xs) (suc i) l h = behind_step (s.followed_by b (s.kept x)) xs i l h

of_kept : (e : Extent) (o : Option m.Layout) → Some e ≡ option_map s.kept o → (l : m.Layout) × (o ≡ Some l) × (e ≡ s.kept l)
of_kept e None h = cc
of_kept e (Some l) h = (l, refl, same_Some e (s.kept l) h)

set_same : (xs : List ℕ) (k o w : ℕ) → slice_get (slice_set xs k w) k ≡ Some o → o ≡ w
set_same [] k o w h = cc
set_same (x ∷ xs) zero o w h = sym (same_Some w o h)
set_same (x ∷ xs) (suc k) o w h = set_same xs k o w h

set_other : (xs : List ℕ) (i k w : ℕ) → (k ≡ i → ⊥) → slice_get (slice_set xs i w) k ≡ slice_get xs k
set_other [] i k w h = refl
set_other (x ∷ xs) zero zero w h = absurd (h refl)
set_other (x ∷ xs) zero (suc k) w h = refl
set_other (x ∷ xs) (suc i) zero w h = refl
set_other (x ∷ xs) (suc i) (suc k) w h = set_other xs i k w (λ e. h (ap suc e))

-- before the first member
pub none_laid : (structs : List Structure) (ms : List Member) (offsets : List ℕ) → IsLaid structs ms 0 0 s.no_member offsets
none_laid structs ms offsets = record {
  same = refl;
  rest = record { rest = refl; bounded = record { size = lit≤ tt; positive = lit< tt; small = lit≤ tt } };
  front = λ ls h. refl;
  each = λ ls h small k o lt e. absurd (omega (arith, lt));
}

-- a member more
pub laid_step : (structs : List Structure) (ms : List Member) (i at : ℕ) (x : Member) (row e next : Extent) (offsets after : List ℕ) (place : ℕ) → i < length ms
    → x ≡ get_or ms i x → Some e ≡ option_map s.kept (m.layout_of structs x.ty) → next ≡ s.followed_by row e → s.IsBounded e → place ≡ next_multiple_of row.size e.align
    → after ≡ slice_set offsets at place → IsLaid structs ms i at row offsets → IsLaid structs ms (i + 1) (at + 1) next after
laid_step structs ms i at x row e next offsets after place h is laid made small here kept p = record {
  same = ap (λ (n : ℕ). n + 1) p.same;
  rest = row_step structs ms i x row e next h is laid made small p.rest;
  front = front;
  each = each;
}
  where
    f : CType → Option m.Layout
    f = m.layout_of structs

    front : (ls : List m.Layout) → m.member_layouts f ms ≡ Some ls → next ≡ s.more_behind s.no_member (take (i + 1) ls)
    front ls k =
        let l = of_kept e (f x.ty) laid in
        let z : suc i ≡ i + 1 = omega arith in
        subst (λ (n : ℕ). next ≡ s.more_behind s.no_member (take n ls)) z
        (made ∙ ap₂ s.followed_by (p.front ls k) l.2 ∙ sym (behind_step s.no_member ls i l.0 (sym (layout_at f ms ls i x k h is) ∙ l.1)))

    offset : (ls : List m.Layout) → m.member_layouts f ms ≡ Some ls → (m.in_a_row ls).size ≤ m.size_limit → Some place ≡ m.offset_in ls i
    offset ls k fits =
        offset_some f ms ls i x row e place k fits h is
        (ap Some (p.front ls k) ∙ sym (ap (option_map (s.more_behind s.no_member)) (taken_layouts f ms ls i k))) laid here

    each : (ls : List m.Layout) → m.member_layouts f ms ≡ Some ls → (m.in_a_row ls).size ≤ m.size_limit
        → (k o : ℕ) → k < i + 1 → slice_get after k ≡ Some o → m.offset_in ls k ≡ Some o
    each ls k fits j o lt found = ⊎_elim same other (cases_eq j i)
      where
        stored : slice_get (slice_set offsets at place) j ≡ Some o
        stored = ap (λ (xs : List ℕ). slice_get xs j) (sym kept) ∙ found

        same : j ≡ i → m.offset_in ls j ≡ Some o
        same eq =
            let there : slice_get (slice_set offsets at place) at ≡ Some o =
            ap (λ (n : ℕ). slice_get (slice_set offsets at place) n) (p.same ∙ sym eq) ∙ stored in
            ap (m.offset_in ls) eq ∙ sym (offset ls k fits) ∙ ap Some (sym (set_same offsets at o place there))

        other : (j ≡ i → ⊥) → m.offset_in ls j ≡ Some o
        other ne = p.each ls k fits j o (omega (arith, ne, lt)) (sym (set_other offsets at j place (λ eq. ne (eq ∙ p.same))) ∙ stored)

-- behind the last member
pub all_laid : (structs : List Structure) (ms : List Member) (i at : ℕ) (row : Extent) (offsets : List ℕ) → length ms ≤ i → IsLaid structs ms i at row offsets
    → ArePlaced (m.layout_of structs) ms offsets
all_laid structs ms i at row offsets h p = record {
  layouts = whole.0;
  laid = whole.1;
  each = λ fits k o found. by (nat_lt k (length ms)) fits k o refl found;
}
  where
    there : (o : Option (List m.Layout)) → Some row ≡ option_map (s.more_behind s.no_member) o → (ls : List m.Layout) × (o ≡ Some ls)
    there None e = cc
    there (Some ls) e = (ls, refl)

    whole : (ls : List m.Layout) × (m.member_layouts (m.layout_of structs) ms ≡ Some ls)
    whole = there (m.member_layouts (m.layout_of structs) ms) (ap (rest_of structs row) (sym (drop_all i ms h)) ∙ p.rest.rest)

    by : (b : Bool) (fits : (m.in_a_row whole.0).size ≤ m.size_limit) (k o : ℕ) → nat_lt k (length ms) ≡ b → cond b (slice_get offsets k) None ≡ Some o → m.offset_in whole.0 k ≡ Some o
    by true fits k o e found = p.each whole.0 whole.1 fits k o (omega (arith, ltb-true k (length ms) e, h)) found
    by false fits k o e found = cc

-- ---- what a table keeps

kept_among : (f : CType → Option m.Layout) (ms : List Member) (offsets : List ℕ) (k : ℕ) (ls : List m.Layout) → ArePlaced f ms offsets → m.member_layouts f ms ≡ Some ls
    → (m.in_a_row ls).size ≤ m.size_limit → IfSome (offset_kept ms offsets k) (λ o. m.offset_in ls k ≡ Some o)
kept_among f ms offsets k ls p h fits = by (offset_kept ms offsets k) refl
  where
    same : p.layouts ≡ ls
    same = same_Some p.layouts ls (sym p.laid ∙ h)

    by : (o : Option ℕ) → offset_kept ms offsets k ≡ o → IfSome o (λ n. m.offset_in ls k ≡ Some n)
    by None e = tt
    by (Some n) e =
        subst (λ (xs : List m.Layout). m.offset_in xs k ≡ Some n) same
        (p.each (subst (λ (xs : List m.Layout). (m.in_a_row xs).size ≤ m.size_limit) (sym same) fits) k n e)

-- what a table keeps for the member of a rank is its offset
pub kept_found : (structs : List Structure) (es ds : List Entry) (id : StructId) (b : Body) (k : ℕ) (o : Option ℕ) → structures es ≡ structs → ds ≡ es
    → Some b ≡ body_of (slice_get ds id.0) → IsTable es → o ≡ offset_kept b.members b.offsets k → IsOffset structs (members_of structs id) k o
kept_found structs es ds id b k o e d found t made ls h fits =
    subst (λ (x : Option ℕ). IfSome x (λ n. m.offset_in ls k ≡ Some n)) (sym made)
    (kept_among (m.layout_of (structures es)) b.members b.offsets k ls (t.placed id b body) laid fits)
  where
    body : body_of (slice_get es id.0) ≡ Some b
    body = ap (λ (xs : List Entry). body_of (slice_get xs id.0)) (sym d) ∙ sym found

    members : members_of structs id ≡ Some b.members
    members = ap (λ (xs : List Structure). members_of xs id) (sym e) ∙ members_kept es id ∙ ap (option_map (λ (x : Body). x.members)) body

    laid : m.member_layouts (m.layout_of (structures es)) b.members ≡ Some ls
    laid = ap (λ (xs : List Structure). m.member_layouts (m.layout_of xs) b.members) e
        ∙ sym (ap (option_and_then (m.member_layouts (m.layout_of structs))) members) ∙ h
