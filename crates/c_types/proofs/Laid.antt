-- A type has a layout exactly where it is complete.
use Rattle.std.proofs.Common.{◌≡◌, ℕ, ◌<◌, true, false, List, [], ◌∷◌, length, Option, Some, None, is_some, slice_get, arith, refl, sym, ◌∙◌, ap, subst}
use Rattle.std.proofs.lemmas.List.{length-map}
use Rattle.std.proofs.lemmas.Bool.{and_parts}
use Rattle.std.specs.Option.{option_map}
use Rattle.std.specs.List.{list_all}
use Rattle.model_types.specs.declared.types.StructId.{StructId}
use Rattle.model_types.specs.Types.{CType, typed, Void, Integer, Enum, Pointer, Array, Struct, Function}
use Rattle.model_types.specs.Structures.{Member, Structure, members_of, completed, knows}
use Rattle.model_types.specs.Layout.{Layout, is_complete, layout_in, layout_of, repeated, before_others, member_layouts, layout_of_members, padded, in_a_row}
use Rattle.c_types.specs.declared.structs.Body.{Body}
use Rattle.c_types.specs.declared.structs.Entry.{Entry}
use Rattle.c_types.specs.Extents.{kept}
use Rattle.c_types.specs.Tables.{structure_of, structures, body_of, with_body, ArePlaced, IsTable}
use Rattle.c_types.proofs.Kept.{members_kept, table_completed, structures_with}

some_map : {A B : Type 0} (f : A → B) (o : Option A) → is_some (option_map f o) ≡ is_some o
some_map f None = refl
some_map f (Some x) = refl

struct_laid : (es : List Entry) → IsTable es → (s : StructId) → is_some (members_of (structures es) s) ≡ is_some (layout_in (structures es) s)
struct_laid es t s =
    ap is_some (members_kept es s) ∙ some_map (λ (b : Body). b.members) (body_of (slice_get es s.0))
    ∙ sym (some_map (λ (b : Body). b.extent) (body_of (slice_get es s.0))) ∙ ap is_some (t.laid s)
    ∙ some_map kept (layout_in (structures es) s)

-- in a table, to be complete is to have a layout
pub type_laid : (es : List Entry) → IsTable es → (t : CType) → is_complete (structures es) t ≡ is_some (layout_of (structures es) t)
type_laid es h (typed Void q) = refl
type_laid es h (typed (Integer b) q) = refl
type_laid es h (typed (Enum b d) q) = refl
type_laid es h (typed (Pointer t) q) = refl
type_laid es h (typed (Array t None) q) = refl
type_laid es h (typed (Array t (Some n)) q) = type_laid es h t ∙ sym (some_map (repeated n) (layout_of (structures es) t))
type_laid es h (typed (Struct s) q) = struct_laid es h s
type_laid es h (typed (Function r ps v) q) = refl

before_some : (o : Option Layout) (os : Option (List Layout)) → is_some o ≡ true → is_some os ≡ true → is_some (before_others o os) ≡ true
before_some None os h k = cc
before_some (Some l) None h k = cc
before_some (Some l) (Some ls) h k = refl

members_laid : (es : List Entry) → IsTable es → (ms : List Member) → list_all (λ (x : Member). is_complete (structures es) x.ty) ms ≡ true
    → is_some (member_layouts (layout_of (structures es)) ms) ≡ true
members_laid es h [] e = refl
members_laid es h (x ∷ xs) e =
    let parts = and_parts (is_complete (structures es) x.ty) (list_all (λ (x : Member). is_complete (structures es) x.ty) xs) e in
    before_some (layout_of (structures es) x.ty) (member_layouts (layout_of (structures es)) xs) (sym (type_laid es h x.ty) ∙ parts.0) (members_laid es h xs parts.1)

-- a structure of complete members has a layout
pub whole_laid : (es : List Entry) (structs : List Structure) → structures es ≡ structs → IsTable es → (ms : List Member)
    → list_all (λ (x : Member). is_complete structs x.ty) ms ≡ true → None ≡ option_map kept (layout_of_members (layout_of structs) (Some ms)) → ⊥
whole_laid es structs e h ms c n = impossible (ap is_some n ∙ some_map kept (layout_of_members (layout_of structs) (Some ms)) ∙ there)
  where
    impossible : false ≡ true → ⊥
    impossible f = cc

    complete : list_all (λ (x : Member). is_complete (structures es) x.ty) ms ≡ true
    complete = ap (λ (xs : List Structure). list_all (λ (x : Member). is_complete xs x.ty) ms) e ∙ c

    there : is_some (layout_of_members (layout_of structs) (Some ms)) ≡ true
    there =
        ap (λ (xs : List Structure). is_some (layout_of_members (layout_of xs) (Some ms))) (sym e)
        ∙ some_map (λ (ls : List Layout). padded (in_a_row ls)) (member_layouts (layout_of (structures es)) ms) ∙ members_laid es h ms complete

-- a structure completed, as the code knows it
pub completed_table : (es ds : List Entry) (structs : List Structure) (id : StructId) (b : Body) (ms : List Member) → structures es ≡ structs → ds ≡ with_body es id.0 b
    → IsTable es → id.0 < length structs → members_of structs id ≡ None → list_all (λ (x : Member). knows structs x.ty) b.members ≡ true
    → ms ≡ b.members → Some b.extent ≡ option_map kept (layout_of_members (layout_of structs) (Some ms)) → ArePlaced (layout_of structs) ms b.offsets → IsTable ds
completed_table es ds structs id b ms e d h there none known same given placed =
    subst IsTable (sym d)
    (table_completed es id b h (omega (arith, length-map es structure_of, ap length e, there)) (ap (λ (xs : List Structure). members_of xs id) e ∙ none)
    (ap (λ (xs : List Structure). list_all (λ (x : Member). knows xs x.ty) b.members) e ∙ known)
    (given ∙ ap (λ (xs : List Member). option_map kept (layout_of_members (layout_of structs) (Some xs))) same
    ∙ ap (λ (xs : List Structure). option_map kept (layout_of_members (layout_of xs) (Some b.members))) (sym e))
    (subst (λ (xs : List Structure). ArePlaced (layout_of xs) b.members b.offsets) (sym e)
    (subst (λ (xs : List Member). ArePlaced (layout_of structs) xs b.offsets) same placed)))

pub completed_view : (es ds : List Entry) (structs : List Structure) (k : ℕ) (b : Body) → structures es ≡ structs → ds ≡ with_body es k b
    → structures ds ≡ completed structs k b.members
completed_view es ds structs k b e d =
    ap structures d ∙ structures_with es k b ∙ ap (λ (xs : List Structure). completed xs k b.members) e
