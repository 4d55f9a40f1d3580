-- Objects and functions have no name of a temporary.
use Rattle.std.proofs.Common.{◌≡◌, ◌∙◌, ap, sym, refl, arith, ℕ, zero, suc, ◌+◌, ◌<◌, ◌≤◌, ◌^◌, true, false, true≢false, List, [], ◌∷◌, ◌++◌, length, Some, ◌⊎◌, inl, inr}
use Rattle.std.specs.Prelude.{codes}
use Rattle.std.specs.Fmt.{decimal}
use Rattle.model_core.specs.Core.{Core}
use Rattle.model_c89.specs.Names89.{is_among}
use Rattle.model_c89.proofs.UniqueWords.{decimal_is_number}
use Rattle.model_lowering.specs.TextNames.{Wish, Keeps, Wants, made, made_number, free_from, all_named, naming_of, external_names, object_ids, function_ids}
use Rattle.lowering_laws.specs.Wishes.{IsGood, AreGood, wishes_of, is_declared}
use Rattle.lowering_laws.specs.Numbers.{behind_declared}
use Rattle.lowering_laws.proofs.FreeNumbers.{made_is_free}
use Rattle.lowering_laws.proofs.DifferentNames.{found_behind}
use Rattle.lowering_laws.proofs.ListedNames.{no_made, IsEntry, each_entry, wish_there, good_at}
use Rattle.lowering_laws.proofs.UnitNames.{position, named_length, both_length}

made_is_not_external : (externals : List (List ℕ)) (front : List ℕ) (k : ℕ) → made_number externals front k + length externals < 2 ^ 64 →
    is_among externals (made front (made_number externals front k)) ≡ false
made_is_not_external externals front zero small =
    let a = found_behind (length externals) externals (made front) 1 in made_is_free externals front 1 (omega (arith, a, small))
made_is_not_external externals front (suc k) small =
    let a = found_behind (length externals) externals (made front) (suc (made_number externals front k)) in
    made_is_free externals front (suc (made_number externals front k)) (omega (arith, a, small))

abbrev sixth : List ℕ → ℕ
sixth (a ∷ b ∷ c ∷ d ∷ e ∷ f ∷ others) = f
sixth others = 0

no_temporary : (externals : List (List ℕ)) (w : Wish) (name : List ℕ) (first last n : ℕ) → last < 2 ^ 64 → n < 2 ^ 64 → IsGood externals w → IsEntry externals w name first last →
    is_among externals (made (codes "cake_t") n) ≡ false → name ≡ made (codes "cake_t") n → ⊥
no_temporary externals (Keeps kept) name first last n small few (inl among) x free same =
    true≢false (sym among ∙ ap (is_among externals) (sym x ∙ same) ∙ free)
no_temporary externals (Keeps kept) name first last n small few (inr (m, below, string)) x free same =
    let e : 115 ≡ 116 = ap sixth (sym string ∙ sym x ∙ same) in absurd (omega (arith, e))
no_temporary externals (Wants front) name first last n small few good x free same =
    no_made 116 refl (λ e. absurd (omega (arith, e))) x.front (decimal x.number) (decimal n) (decimal_is_number x.number (omega (arith, x.below, small))).all
    (decimal_is_number n few).all (sym x.is ∙ same)

pub declared_is_no_temporary : (core : Core) (id number : ℕ) → behind_declared core + length (external_names core) < 2 ^ 64 →
    made_number (external_names core) (codes "cake_t") number + length (external_names core) < 2 ^ 64 → AreGood (external_names core) (wishes_of core) →
    is_declared core id ≡ true → (naming_of core).declared id ≡ (naming_of core).temporary number → ⊥
declared_is_no_temporary core id number small few good h same =
    let ids = object_ids core.objects ++ function_ids core.functions in
    let ws = wishes_of core in
    let names = (all_named (external_names core) 1 ws).made in
    let x = position ids names id (both_length (external_names core) 0 core.objects core.functions ∙ named_length (external_names core) 1 ws) h in
    let w = wish_there (external_names core) 1 ws x.at x.name x.there in
    no_temporary (external_names core) w.wish x.name 1 (behind_declared core) (made_number (external_names core) (codes "cake_t") number) (omega (arith, small)) (omega (arith, few))
    (good_at (external_names core) ws x.at w.wish good w.there) (each_entry (external_names core) 1 ws x.at w.wish x.name small w.there x.there)
    (made_is_not_external (external_names core) (codes "cake_t") number few) (sym x.is ∙ same)
