-- The table of structures as the code keeps it, while it grows.
use Rattle.std.proofs.Common.{◌≡◌, ℕ, zero, suc, ◌<◌, true, List, [], ◌∷◌, ◌++◌, length, Option, Some, None, IfSome, slice_get, slice_set, slice_index_or, IsTrue, arith, length-append, refl, sym, ◌∙◌, ap, subst, ⊎_elim}
use Rattle.std.proofs.lemmas.List.{map-append, length-map}
use Rattle.std.proofs.lemmas.Option.{slice_get-map, same_Some}
use Rattle.std.proofs.lemmas.Bool.{and_parts, cases_eq}
use Rattle.std.specs.Option.{option_map}
use Rattle.std.specs.List.{list_all}
use Rattle.model_types.specs.declared.types.StructId.{StructId}
use Rattle.model_types.specs.Types.{CType}
use Rattle.model_types.specs.Structures.{Member, Structure, members_in, members_of, completed, members_below, is_closed, knows}
use Rattle.model_types.specs.Layout.{Layout, layout_in, layout_of, layout_of_members, complete_count}
use Rattle.c_types.specs.declared.extents.Extent.{Extent}
use Rattle.c_types.specs.declared.structs.Body.{Body}
use Rattle.c_types.specs.declared.structs.Entry.{Entry}
use Rattle.c_types.specs.Extents.{kept}
use Rattle.c_types.specs.Tables.{structure_of, structures, body_of, with_body, extent_in, ArePlaced, IsTable}
use Rattle.c_types.proofs.Growth.{Extends, type_extends, members_extend, layout_push, closed_push, other_completed, none_incomplete, layout_completed, layout_of_completed, closed_completed}

members_in-map : (o : Option Entry) → members_in (option_map structure_of o) ≡ option_map (λ b. b.members) (body_of o)
members_in-map None = refl
members_in-map (Some e) = refl

-- the members that the table keeps are those of its structures
pub members_kept : (es : List Entry) (s : StructId) → members_of (structures es) s ≡ option_map (λ b. b.members) (body_of (slice_get es s.0))
members_kept es s = ap members_in (slice_get-map structure_of es s.0) ∙ members_in-map (slice_get es s.0)

body_push : (es : List Entry) (e : Entry) → e.body ≡ None → (k : ℕ) → body_of (slice_get (es ++ e ∷ []) k) ≡ body_of (slice_get es k)
body_push [] e h zero = h
body_push [] e h (suc k) = refl
body_push (d ∷ ds) e h zero = refl
body_push (d ∷ ds) e h (suc k) = body_push ds e h k

members_none : (e : Entry) → e.body ≡ None → (structure_of e).members ≡ None
members_none e h = ap (option_map (λ b. b.members)) h

-- ---- offsets that are kept stay those of the members

placed_extends : (f g : CType → Option Layout) → Extends f g → (ms : List Member) (offsets : List ℕ) → ArePlaced f ms offsets → ArePlaced g ms offsets
unfolding Extends
placed_extends f g h ms offsets p = record { layouts = p.layouts; laid = members_extend f g h ms p.layouts p.laid; each = p.each }

push_extends : (es : List Entry) (e : Entry) → e.body ≡ None → Extends (layout_of (structures es)) (layout_of (structures (es ++ e ∷ [])))
unfolding Extends
push_extends es e h =
    type_extends (layout_in (structures es)) (layout_in (structures (es ++ e ∷ [])))
    (λ s l r. ap (λ (xs : List Structure). layout_in xs s) (map-append structure_of es (e ∷ [])) ∙ layout_push (structures es) (structure_of e) (members_none e h) s ∙ r)

-- one more incomplete structure
pub table_push : (es : List Entry) (e : Entry) → e.body ≡ None → length es < 4294967295 → IsTable es → IsTable (es ++ e ∷ [])
table_push es e h n t = record {
  few = omega (arith, length-append es (e ∷ []), n);
  laid = λ s.
      ap (option_map (λ (b : Body). b.extent)) (body_push es e h s.0) ∙ t.laid s
      ∙ ap (option_map kept) (sym (layout_push (structures es) (structure_of e) (members_none e h) s))
      ∙ ap (λ (xs : List Structure). option_map kept (layout_in xs s)) (sym (map-append structure_of es (e ∷ [])));
  placed = λ s b found.
      placed_extends (layout_of (structures es)) (layout_of (structures (es ++ e ∷ []))) (push_extends es e h) b.members b.offsets
      (t.placed s b (sym (body_push es e h s.0) ∙ found));
  closed =
      subst (λ (xs : List Structure). IsTrue (is_closed xs)) (sym (map-append structure_of es (e ∷ [])))
      (closed_push (structures es) (structure_of e) (members_none e h) t.closed);
}

closed_at : (n : ℕ) (xs : List Structure) (k : ℕ) → list_all (λ (x : Structure). members_below n x.members) xs ≡ true → members_below n (members_in (slice_get xs k)) ≡ true
closed_at n [] k h = refl
closed_at n (x ∷ xs) zero h = (and_parts (members_below n x.members) (list_all (λ (x : Structure). members_below n x.members) xs) h).0
closed_at n (x ∷ xs) (suc k) h = closed_at n xs k (and_parts (members_below n x.members) (list_all (λ (x : Structure). members_below n x.members) xs) h).1

-- what a member of the table names is there
pub known_members : (xs : List Structure) (s : StructId) (o : Option (List Member)) → IsTrue (is_closed xs) → o ≡ members_of xs s → IfSome o (λ ms. IsTrue (list_all (λ (x : Member). knows xs x.ty) ms))
known_members xs s None h e = tt
known_members xs s (Some ms) h e = ap (members_below (length xs)) e ∙ closed_at (length xs) xs s.0 h

-- there are as many entries as structures
pub count_kept : (structs : List Structure) (es : List Entry) → structures es ≡ structs → length structs < 4294967295 → length es < 4294967295
count_kept structs es e h = omega (arith, length-map es structure_of, ap length e, h)

-- what a search in the table finds
pub found : (structs : List Structure) (es ds : List Entry) (id : StructId) (o : Option Body) → structures es ≡ structs → ds ≡ es
    → o ≡ body_of (slice_get ds id.0) → option_map (λ b. b.members) o ≡ members_of structs id
found structs es ds id o e d h =
    ap (option_map (λ (b : Body). b.members)) (h ∙ ap (λ (xs : List Entry). body_of (slice_get xs id.0)) d) ∙ sym (members_kept es id)
    ∙ ap (λ (xs : List Structure). members_of xs id) e

pub found_known : (structs : List Structure) (es ds : List Entry) (id : StructId) (b : Body) → structures es ≡ structs → ds ≡ es
    → Some b ≡ body_of (slice_get ds id.0) → IsTrue (is_closed (structures es)) → IsTrue (list_all (λ (x : Member). knows structs x.ty) b.members)
found_known structs es ds id b e d h k =
    known_members structs id (Some b.members) (subst (λ (xs : List Structure). IsTrue (is_closed xs)) e k) (found structs es ds id (Some b) e d h)

length_with : (es : List Entry) (k : ℕ) (b : Body) → length (with_body es k b) ≡ length es
length_with [] k b = refl
length_with (e ∷ es) zero b = refl
length_with (e ∷ es) (suc k) b = ap suc (length_with es k b)

pub structures_with : (es : List Entry) (k : ℕ) (b : Body) → structures (with_body es k b) ≡ completed (structures es) k b.members
structures_with [] k b = refl
structures_with (e ∷ es) zero b = refl
structures_with (e ∷ es) (suc k) b = ap (λ (xs : List Structure). structure_of e ∷ xs) (structures_with es k b)

same_body : (es : List Entry) (k : ℕ) (b : Body) → k < length es → body_of (slice_get (with_body es k b) k) ≡ Some b
same_body [] k b h = absurd (omega (arith, h))
same_body (e ∷ es) zero b h = refl
same_body (e ∷ es) (suc k) b h = same_body es k b (omega (arith, h))

other_body : (es : List Entry) (k j : ℕ) (b : Body) → (j ≡ k → ⊥) → body_of (slice_get (with_body es k b) j) ≡ body_of (slice_get es j)
other_body [] k j b h = refl
other_body (e ∷ es) zero zero b h = absurd (h refl)
other_body (e ∷ es) zero (suc j) b h = refl
other_body (e ∷ es) (suc k) zero b h = refl
other_body (e ∷ es) (suc k) (suc j) b h = other_body es k j b (λ same. h (ap suc same))

completed_extends : (es : List Entry) (id : StructId) (b : Body) → id.0 < length es → members_of (structures es) id ≡ None
    → Extends (layout_of (structures es)) (layout_of (structures (with_body es id.0 b)))
unfolding Extends
completed_extends es id b h e =
    type_extends (layout_in (structures es)) (layout_in (structures (with_body es id.0 b)))
    (λ s l r. ap (λ (xs : List Structure). layout_in xs s) (structures_with es id.0 b)
    ∙ layout_completed (structures es) id.0 b.members (omega (arith, length-map es structure_of, h)) e s l r)

-- what is kept comes from a layout
from_kept : (e : Extent) (o : Option Layout) → Some e ≡ option_map kept o → (l : Layout) × (o ≡ Some l) × (Some e ≡ Some (kept l))
from_kept e None h = cc
from_kept e (Some l) h = (l, refl, h)

other_laid : (es : List Entry) (id : StructId) (ms : List Member) (s : StructId) → IsTable es → id.0 < length es → members_of (structures es) id ≡ None → (s.0 ≡ id.0 → ⊥)
    → (o : Option Body) → body_of (slice_get es s.0) ≡ o
    → option_map (λ b. b.extent) o ≡ option_map kept (layout_in (completed (structures es) id.0 ms) s)
other_laid es id ms s t h e ne None f =
    let none : members_of (structures es) s ≡ None = members_kept es s ∙ ap (option_map (λ (b : Body). b.members)) f in
    sym (ap (option_map kept) (none_incomplete (complete_count (completed (structures es) id.0 ms)) (members_of (completed (structures es) id.0 ms)) s
    (other_completed (structures es) id.0 s.0 ms ne ∙ none)))
other_laid es id ms s t h e ne (Some b) f =
    let found = from_kept b.extent (layout_in (structures es) s) (sym (ap (option_map (λ (x : Body). x.extent)) f) ∙ t.laid s) in
    found.2 ∙ sym (ap (option_map kept) (layout_completed (structures es) id.0 ms (omega (arith, length-map es structure_of, h)) e s found.0 found.1))

-- a structure completed
pub table_completed : (es : List Entry) (id : StructId) (b : Body) → IsTable es → id.0 < length es → members_of (structures es) id ≡ None
    → list_all (λ (x : Member). knows (structures es) x.ty) b.members ≡ true
    → Some b.extent ≡ option_map kept (layout_of_members (layout_of (structures es)) (Some b.members))
    → ArePlaced (layout_of (structures es)) b.members b.offsets → IsTable (with_body es id.0 b)
table_completed es id b t h e known given placed = record {
  few = omega (arith, length_with es id.0 b, t.few);
  laid = λ s. ⊎_elim (same s) (other s) (cases_eq s.0 id.0) ∙ ap (λ (xs : List Structure). option_map kept (layout_in xs s)) (sym (structures_with es id.0 b));
  placed = λ s x found. placed_extends (layout_of (structures es)) (layout_of (structures (with_body es id.0 b))) more x.members x.offsets (⊎_elim (own s x found) (others s x found) (cases_eq s.0 id.0));
  closed = subst (λ (xs : List Structure). IsTrue (is_closed xs)) (sym (structures_with es id.0 b)) (closed_completed (structures es) id.0 b.members known t.closed);
}
  where
    more : Extends (layout_of (structures es)) (layout_of (structures (with_body es id.0 b)))
    more = completed_extends es id b h e

    own : (s : StructId) (x : Body) → body_of (slice_get (with_body es id.0 b) s.0) ≡ Some x → s.0 ≡ id.0 → ArePlaced (layout_of (structures es)) x.members x.offsets
    own s x found f =
        let is : Some b ≡ Some x = sym (same_body es id.0 b h) ∙ ap (λ (n : ℕ). body_of (slice_get (with_body es id.0 b) n)) (sym f) ∙ found in
        subst (λ (y : Body). ArePlaced (layout_of (structures es)) y.members y.offsets) (same_Some b x is) placed

    others : (s : StructId) (x : Body) → body_of (slice_get (with_body es id.0 b) s.0) ≡ Some x → (s.0 ≡ id.0 → ⊥) → ArePlaced (layout_of (structures es)) x.members x.offsets
    others s x found ne = t.placed s x (sym (other_body es id.0 s.0 b ne) ∙ found)

    here : (l : Layout) → layout_of_members (layout_of (structures es)) (Some b.members) ≡ Some l → layout_in (completed (structures es) id.0 b.members) id ≡ Some l
    here = layout_of_completed (structures es) id b.members (omega (arith, length-map es structure_of, h)) e

    same_id : extent_in (with_body es id.0 b) id ≡ option_map kept (layout_in (completed (structures es) id.0 b.members) id)
    same_id =
        let found = from_kept b.extent (layout_of_members (layout_of (structures es)) (Some b.members)) given in
        ap (option_map (λ (x : Body). x.extent)) (same_body es id.0 b h) ∙ found.2 ∙ sym (ap (option_map kept) (here found.0 found.1))

    same : (s : StructId) → s.0 ≡ id.0 → extent_in (with_body es id.0 b) s ≡ option_map kept (layout_in (completed (structures es) id.0 b.members) s)
    same s f = subst (λ (n : ℕ). extent_in (with_body es id.0 b) (record { 0 = n }) ≡ option_map kept (layout_in (completed (structures es) id.0 b.members) (record { 0 = n }))) (sym f) same_id

    other : (s : StructId) → (s.0 ≡ id.0 → ⊥) → extent_in (with_body es id.0 b) s ≡ option_map kept (layout_in (completed (structures es) id.0 b.members) s)
    other s ne = ap (option_map (λ (x : Body). x.extent)) (other_body es id.0 s.0 b ne) ∙ other_laid es id b.members s t h e ne (body_of (slice_get es s.0)) refl

set_is : (es : List Entry) (k : ℕ) (d : Entry) (b : Body) → k < length es
    → slice_set es k (record { tag = (slice_index_or es k d).tag; outer = (slice_index_or es k d).outer; place = (slice_index_or es k d).place; body = Some b }) ≡ with_body es k b
set_is [] k d b h = absurd (omega (arith, h))
set_is (e ∷ es) zero d b h = refl
set_is (e ∷ es) (suc k) d b h = ap (λ (xs : List Entry). e ∷ xs) (set_is es k d b (omega (arith, h)))

pub set_found : (es : List Entry) (k : ℕ) (x : Entry) (b : Body) → k < length es → x ≡ slice_index_or es k x
    → slice_set es k (record { tag = x.tag; outer = x.outer; place = x.place; body = Some b }) ≡ with_body es k b
set_found es k x b h is =
    ap (λ (y : Entry). slice_set es k (record { tag = y.tag; outer = y.outer; place = y.place; body = Some b })) is ∙ set_is es k x b h
