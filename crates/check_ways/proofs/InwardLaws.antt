-- The search inward, step by step.
use Rattle.std.proofs.Common.{◌≡◌, ◌∙◌, ap, sym, refl, arith, cond, ◌+◌, ◌-◌, ◌<◌, [], ◌∷◌, List, ℕ, zero, suc, Bool, true, false, Option, Some, None, option_map}
use Rattle.std.specs.Prelude.{find}
use Rattle.model_types.specs.declared.types.StructId.{StructId}
use Rattle.model_types.specs.Types.{CType, typed, form_of_type}
use Rattle.model_types.specs.Structures.{Structure}
use Rattle.model_checking.specs.Ways.{Step, Bare, reached, takes, step, step_to, inward, inward_form, inward_step, inward_struct}
use Rattle.check_ways.specs.Seen.{as_way, is_taken}
use Rattle.check_ways.proofs.InwardSteps.{inward_steps, form_steps, part_steps, struct_steps}

-- a subobject comes before those inside it
pub inward_is : (given : CType → StructId → List Step → List (List Step)) (type : CType) (way : List Step) → inward given type way ≡ way ∷ inward_form given type (form_of_type type) way
inward_is given (typed form quals) way = refl

pub steps_is : (given : CType → StructId → ℕ) (type : CType) → inward_steps given type ≡ 2 + form_steps given type (form_of_type type)
steps_is given (typed form quals) = refl

found_first : (P : List Step → Bool) (way : List Step) (others : List (List Step)) → P way ≡ true → Some way ≡ find P (way ∷ others)
found_first P way others h = ap (λ b. cond b (Some way) (find P others)) (sym h)

not_first : (P : List Step → Bool) (way : List Step) (others : List (List Step)) → P way ≡ false → find P others ≡ find P (way ∷ others)
not_first P way others h = ap (λ b. cond b (Some way) (find P others)) (sym h)

-- a subobject that takes it itself
pub taken_here : (given : CType → StructId → List Step → List (List Step)) (bare : Bare) (object : CType) (way : List Step) → takes bare (form_of_type (reached object way)) ≡ true → Some way ≡ find (is_taken bare object) (inward given (reached object way) way)
taken_here given bare object way h =
    found_first (is_taken bare object) way (inward_form given (reached object way) (form_of_type (reached object way)) way) h
    ∙ ap (find (is_taken bare object)) (sym (inward_is given (reached object way) way))

-- one that doesn't
pub taken_inside : (given : CType → StructId → List Step → List (List Step)) (bare : Bare) (object : CType) (way : List Step) → takes bare (form_of_type (reached object way)) ≡ false → find (is_taken bare object) (inward_form given (reached object way) (form_of_type (reached object way)) way) ≡ find (is_taken bare object) (inward given (reached object way) way)
taken_inside given bare object way h =
    not_first (is_taken bare object) way (inward_form given (reached object way) (form_of_type (reached object way)) way) h
    ∙ ap (find (is_taken bare object)) (sym (inward_is given (reached object way) way))

in_step : (given : CType → StructId → List Step → List (List Step)) (object : CType) (o : Option Step) (way to : List Step) → Some to ≡ option_map (λ last. last ∷ way) o → inward_step given o way ≡ inward given (reached object to) to
in_step given object None way to e = cc
in_step given object (Some last) way to e = let same : last ∷ way ≡ to = cc in ap (λ z. inward given (reached object z) z) same

no_step : (given : CType → StructId → List Step → List (List Step)) (o : Option Step) (way : List Step) → None ≡ option_map (λ last. last ∷ way) o → inward_step given o way ≡ []
no_step given None way e = refl
no_step given (Some last) way e = cc

-- in a structure, its first member
pub first_member : (depth n : ℕ) (structs : List Structure) (object whole : CType) (id : StructId) (way to : List Step) → depth ≡ suc n → Some to ≡ step_to structs whole 0 way → inward_struct depth structs whole id way ≡ inward (inward_struct n structs) (reached object to) to
first_member depth n structs object whole id way to h e =
    ap (λ d. inward_struct d structs whole id way) h ∙ in_step (inward_struct n structs) object (step structs whole 0) way to e

pub no_member : (depth n : ℕ) (structs : List Structure) (whole : CType) (id : StructId) (way : List Step) → depth ≡ suc n → None ≡ step_to structs whole 0 way → inward_struct depth structs whole id way ≡ []
no_member depth n structs whole id way h e =
    ap (λ d. inward_struct d structs whole id way) h ∙ no_step (inward_struct n structs) (step structs whole 0) way e

falls_in : (given : CType → StructId → ℕ) (object : CType) (o : Option Step) (way to : List Step) → Some to ≡ option_map (λ last. last ∷ way) o → inward_steps given (reached object to) < part_steps given o
falls_in given object None way to e = cc
falls_in given object (Some last) way to e =
    let same : last ∷ way ≡ to = cc in
    let n : inward_steps given last.part ≡ inward_steps given (reached object to) = ap (λ z. inward_steps given (reached object z)) same in omega (arith, n)

-- which lies less far inward
pub steps_fall : (depth n : ℕ) (structs : List Structure) (object whole : CType) (id : StructId) (way to : List Step) → depth ≡ suc n → Some to ≡ step_to structs whole 0 way → inward_steps (struct_steps structs n) (reached object to) < struct_steps structs depth whole id
steps_fall depth n structs object whole id way to h e = rw h (falls_in (struct_steps structs n) object (step structs whole 0) way to e)
