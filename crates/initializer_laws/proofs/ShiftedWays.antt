-- Ways within a subobject, and the same ways from the object round it.
use Rattle.std.proofs.Common.{◌≡◌, ◌∙◌, ap, refl, ℕ, zero, suc, ◌+◌, Bool, true, false, cond, List, [], ◌∷◌, ◌++◌, map, reverse, find, Option, Some, None, option_map}
use Rattle.std.specs.Option.{option_or}
use mathlib.Core.List.{reverse-append, map-append}
use Rattle.model_types.specs.declared.types.StructId.{StructId}
use Rattle.model_types.specs.Types.{CType, typed, Form, Void, Integer, Enum, Pointer, Array, Struct, Function, form_of_type}
use Rattle.model_types.specs.Structures.{Structure}
use Rattle.model_types.specs.Layout.{complete_count}
use Rattle.model_checking.specs.Ways.{Step, Bare, reached, ranks, step, behind, takes, inward, inward_form, inward_step, inward_struct, taker}

abbrev pub Way : Type 0
Way = List Step

abbrev pub Given : Type 0
Given = CType → StructId → Way → List Way

pub reached_further : (object : CType) (way further : Way) → reached object (further ++ way) ≡ reached (reached object way) further
reached_further object way [] = refl
reached_further object way (s ∷ further) = refl

pub ranks_further : (way further : Way) → ranks (further ++ way) ≡ ranks way ++ ranks further
ranks_further way further =
    ap (map (λ (s : Step). s.rank)) (reverse-append further way) ∙ map-append (λ (s : Step). s.rank) (reverse way) (reverse further)

behind_one : (o : Option Step) (way further : Way) (r k q : Option Way) → q ≡ option_or (option_map (λ v. v ++ way) r) k →
    option_or (option_map (λ l. l ∷ (further ++ way)) o) q ≡ option_or (option_map (λ v. v ++ way) (option_or (option_map (λ l. l ∷ further) o) r)) k
behind_one None way further r k q e = e
behind_one (Some l) way further r k q e = refl

pub behind_further : (structs : List Structure) (way further : Way) →
    behind structs (further ++ way) ≡ option_or (option_map (λ v. v ++ way) (behind structs further)) (behind structs way)
behind_further structs way [] = refl
behind_further structs way (s ∷ further) =
    behind_one (step structs s.whole (s.rank + 1)) way further (behind structs further) (behind structs way) (behind structs (further ++ way)) (behind_further structs way further)

-- ---- what takes it

abbrev Shifts : Given → Way → Type 0
Shifts given way = (whole : CType) (id : StructId) (v : Way) → given whole id (v ++ way) ≡ map (λ w. w ++ way) (given whole id v)

mutual
  inward_further : (given : Given) (way : Way) (shifts : Shifts given way) (type : CType) (further : Way) →
      inward given type (further ++ way) ≡ map (λ w. w ++ way) (inward given type further)
  inward_further given way shifts (typed form quals) further = ap (λ ws. (further ++ way) ∷ ws) (inward_form_further given way shifts (typed form quals) form further)

  inward_form_further : (given : Given) (way : Way) (shifts : Shifts given way) (whole : CType) (form : Form) (further : Way) →
      inward_form given whole form (further ++ way) ≡ map (λ w. w ++ way) (inward_form given whole form further)
  inward_form_further given way shifts whole Void further = refl
  inward_form_further given way shifts whole (Integer basic) further = refl
  inward_form_further given way shifts whole (Enum basic order) further = refl
  inward_form_further given way shifts whole (Pointer type) further = refl
  inward_form_further given way shifts whole (Array type length) further = inward_further given way shifts type (record { whole = whole; rank = 0; part = type } ∷ further)
  inward_form_further given way shifts whole (Struct id) further = shifts whole id further
  inward_form_further given way shifts whole (Function result parameters variadic) further = refl

step_further : (given : Given) (way : Way) (shifts : Shifts given way) (o : Option Step) (further : Way) →
    inward_step given o (further ++ way) ≡ map (λ w. w ++ way) (inward_step given o further)
step_further given way shifts None further = refl
step_further given way shifts (Some last) further = inward_further given way shifts last.part (last ∷ further)

struct_further : (depth : ℕ) (structs : List Structure) (way : Way) → Shifts (inward_struct depth structs) way
struct_further zero structs way whole id v = refl
struct_further (suc depth) structs way whole id v =
    step_further (inward_struct depth structs) way (struct_further depth structs way) (step structs whole 0) v

found_mapped : (b : Bool) (way x : Way) (o p : Option Way) → o ≡ option_map (λ w. w ++ way) p →
    cond b (Some (x ++ way)) o ≡ option_map (λ w. w ++ way) (cond b (Some x) p)
found_mapped true way x o p e = refl
found_mapped false way x o p e = e

found_further : (q p : Way → Bool) (way : Way) (same : (v : Way) → q (v ++ way) ≡ p v) (ways : List Way) →
    find q (map (λ w. w ++ way) ways) ≡ option_map (λ w. w ++ way) (find p ways)
found_further q p way same [] = refl
found_further q p way same (x ∷ xs) =
    ap (λ b. cond b (Some (x ++ way)) (find q (map (λ w. w ++ way) xs))) (same x)
    ∙ found_mapped (p x) way x (find q (map (λ w. w ++ way) xs)) (find p xs) (found_further q p way same xs)

pub taker_further : (structs : List Structure) (bare : Bare) (object : CType) (way further : Way) →
    taker structs bare object (further ++ way) ≡ option_map (λ w. w ++ way) (taker structs bare (reached object way) further)
taker_further structs bare object way further =
    ap (λ t. find (λ v. takes bare (form_of_type (reached object v))) (inward (inward_struct (complete_count structs) structs) t (further ++ way))) (reached_further object way further)
    ∙ ap (find (λ v. takes bare (form_of_type (reached object v))))
    (inward_further (inward_struct (complete_count structs) structs) way (struct_further (complete_count structs) structs way) (reached (reached object way) further) further)
    ∙ found_further (λ v. takes bare (form_of_type (reached object v))) (λ v. takes bare (form_of_type (reached (reached object way) v))) way
    (λ v. ap (λ t. takes bare (form_of_type t)) (reached_further object way v))
    (inward (inward_struct (complete_count structs) structs) (reached (reached object way) further) further)
