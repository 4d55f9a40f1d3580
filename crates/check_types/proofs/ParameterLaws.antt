-- Types of parameters, as loops go over them.
use Rattle.std.proofs.Common.{◌≡◌, ℕ, zero, suc, ◌+◌, ◌<◌, ◌≤◌, Bool, List, [], ◌∷◌, ◌++◌, length, drop, get_or, Option, Some, None, refl, ap, sym, ◌∙◌, cond, arith, slice_get}
use Rattle.std.proofs.lemmas.List.{append-nil, drop_all}
use Rattle.model_types.specs.Types.{CType, Types, no_types, more_types, types}
use Rattle.model_scopes.specs.CompositeTypes.{composite, composite_types}
use Rattle.model_types.specs.Types.{Function, form_of_type, type_nodes, types_nodes, typed}
use Rattle.c_types.specs.declared.types.TypeForm.{TypeForm}
use Rattle.c_types.specs.declared.types.TypeForm.TheVariants as form
use Rattle.c_types.specs.Forms.{form_of}
use Rattle.check_types.specs.Parameters.{composite_if_any, composites}

pub composites_types : (ps qs : List CType) → types (composites ps qs) ≡ composite_types (types ps) (types qs)
composites_types [] qs = refl
composites_types (p ∷ ps) [] = ap (more_types p) (composites_rest ps)
  where
    composites_rest : (ps : List CType) → types (composites ps []) ≡ types ps
    composites_rest [] = refl
    composites_rest (p ∷ ps) = ap (more_types p) (composites_rest ps)
composites_types (p ∷ ps) (q ∷ qs) = ap (more_types (composite p q)) (composites_types ps qs)

drop_none : (i : ℕ) → drop i (let none : List CType = [] in none) ≡ []
drop_none zero = refl
drop_none (suc i) = refl

pub composites_step : (ps qs : List CType) (i : ℕ) (p : CType) → slice_get ps i ≡ Some p
    → composites (drop i ps) (drop i qs) ≡ composite_if_any p (slice_get qs i) ∷ composites (drop (i + 1) ps) (drop (i + 1) qs)
composites_step [] qs i p h = cc
composites_step (a ∷ ps) [] zero p h = let same : a ≡ p = cc in ap (λ (x : CType). x ∷ composites ps []) same
composites_step (a ∷ ps) (b ∷ qs) zero p h = let same : a ≡ p = cc in ap (λ (x : CType). composite x b ∷ composites ps qs) same
composites_step (a ∷ ps) [] (suc i) p h = let z : suc i + 1 ≡ suc (i + 1) = omega arith in
    rw z (ap (composites (drop i ps)) (sym (drop_none i)) ∙ composites_step ps [] i p h ∙ ap (λ qs. p ∷ composites (drop (i + 1) ps) qs) (drop_none (i + 1)))
composites_step (a ∷ ps) (b ∷ qs) (suc i) p h = let z : suc i + 1 ≡ suc (i + 1) = omega arith in rw z (composites_step ps qs i p h)

-- ---- types in a type are smaller

pub type_in_list : (ts : List CType) (i : ℕ) (t : CType) → i < length ts → t ≡ get_or ts i t → 1 + type_nodes t ≤ types_nodes (types ts)
type_in_list [] i t h is = absurd (omega (arith, h))
type_in_list (u ∷ ts) zero t h is = let e : type_nodes t ≡ type_nodes u = ap type_nodes is in omega (arith, e)
type_in_list (u ∷ ts) (suc i) t h is = let l : i < length ts = omega (arith, h) in omega (arith, type_in_list ts i t l is)

pub parameters_in_type : (t : CType) (f : TypeForm) (r : CType) (ps : List CType) (v : Bool) → form_of f ≡ form_of_type t → f ≡ form.Function r ps v
    → 1 + types_nodes (types ps) ≤ type_nodes t
parameters_in_type (typed g q) f r ps v h is =
    let e : Function r (types ps) v ≡ g = sym (ap form_of is) ∙ h in
    let n : type_nodes (typed (Function r (types ps) v) q) ≡ type_nodes (typed g q) = ap (λ g. type_nodes (typed g q)) e in
    omega (arith, n)

-- all of them, behind the last
pub composed_all : (made ps qs : List CType) (i : ℕ) → length ps ≤ i → made ++ composites (drop i ps) (drop i qs) ≡ composites ps qs
    → types made ≡ composite_types (types ps) (types qs)
composed_all made ps qs i h k =
    ap types (sym (append-nil made) ∙ ap (λ rest. made ++ composites rest (drop i qs)) (sym (drop_all i ps h)) ∙ k) ∙ composites_types ps qs
