-- Members in a row, as a loop goes over them.
use Rattle.std.proofs.Common.{◌≡◌, ℕ, ◌+◌, ◌<◌, List, ◌∷◌, drop, drop-cons, add-one, get_or, length, Option, Some, None, arith, refl, sym, ◌∙◌, ap, subst, suc}
use Rattle.std.proofs.lemmas.Option.{same_Some}
use Rattle.std.specs.Option.{option_map}
use Rattle.model_types.specs.Structures.{Member, Structure}
use Rattle.model_types.specs.Layout as m
use Rattle.c_types.specs.Extents as s
use Rattle.c_types.specs.declared.extents.Extent.{Extent}
use Rattle.c_types.proofs.Saturation.{kept_behind, kept_padded}

-- what the members from a rank on make of those before
abbrev pub rest_of : List Structure → Extent → List Member → Option Extent
rest_of structs row ms = option_map (s.more_behind row) (m.member_layouts (m.layout_of structs) ms)

-- the row of the members before a rank
pub record IsRow (structs : List Structure) (ms : List Member) (i : ℕ) (row : Extent) : Type 0 where
  pub rest : rest_of structs row (drop i ms) ≡ rest_of structs s.no_member ms
  pub bounded : s.IsBounded row

pub followed_bounded : (row e : Extent) → s.IsBounded row → s.IsBounded e → s.IsBounded (s.followed_by row e)
followed_bounded row e h k =
    record { size = omega arith; positive = omega (arith, h.positive, k.positive); small = omega (arith, h.small, k.small) }

one_behind : (row : Extent) (l : m.Layout) (os : Option (List m.Layout))
    → option_map (s.more_behind (s.followed_by row (s.kept l))) os ≡ option_map (s.more_behind row) (m.before_others (Some l) os)
one_behind row l None = refl
one_behind row l (Some ls) = refl

laid_behind : (row e : Extent) (o : Option m.Layout) (os : Option (List m.Layout)) → Some e ≡ option_map s.kept o
    → option_map (s.more_behind (s.followed_by row e)) os ≡ option_map (s.more_behind row) (m.before_others o os)
laid_behind row e None os h = cc
laid_behind row e (Some l) os h = ap (λ (x : Extent). option_map (s.more_behind (s.followed_by row x)) os) (same_Some e (s.kept l) h) ∙ one_behind row l os

-- a step of the loop
pub row_step : (structs : List Structure) (ms : List Member) (i : ℕ) (x : Member) (row e next : Extent) → i < length ms → x ≡ get_or ms i x
    → Some e ≡ option_map s.kept (m.layout_of structs x.ty) → next ≡ s.followed_by row e → s.IsBounded e → IsRow structs ms i row → IsRow structs ms (i + 1) next
row_step structs ms i x row e next h is laid made small r = record {
  rest =
      ap (λ (y : Extent). rest_of structs y (drop (i + 1) ms)) made
      ∙ laid_behind row e (m.layout_of structs x.ty) (m.member_layouts (m.layout_of structs) (drop (i + 1) ms)) laid
      ∙ ap (rest_of structs row) (sym (first ms i x h is)) ∙ r.rest;
  bounded = subst s.IsBounded (sym made) (followed_bounded row e r.bounded small);
}
  where
    first : (ms : List Member) (i : ℕ) (x : Member) → i < length ms → x ≡ get_or ms i x → drop i ms ≡ x ∷ drop (i + 1) ms
    first ms i x h is = rw (add-one) (drop-cons ms i x h ∙ ap (λ (y : Member). y ∷ drop (suc i) ms) (sym is))

-- the whole structure of a row
pub whole_row : (o : Option (List m.Layout)) (row whole : Extent) → Some row ≡ option_map (s.more_behind s.no_member) o → whole ≡ s.padded row
    → Some whole ≡ option_map s.kept (option_map (λ ls. m.padded (m.in_a_row ls)) o)
whole_row None row whole h e = cc
whole_row (Some ls) row whole h e =
    ap Some (e ∙ ap s.padded (same_Some row (s.more_behind s.no_member ls) h ∙ kept_behind m.no_member ls) ∙ kept_padded (m.in_a_row ls))
