-- Names with their ids, of entries whose keys have a text.
use Rattle.std.proofs.Common.{◌≡◌, ℕ, Bool, true, false, List, [], ◌∷◌, ◌++◌, map, Option, Some, None, refl, ap, sym, ◌∙◌, cond}
use Rattle.std.specs.Map.{lookup as lookup_by}
use Rattle.std.proofs.lemmas.List.{map-append}
use Rattle.model_scopes.specs.Binding.{bound}
use Rattle.indexmap.specs.IndexMap.{insert_entry}
use Rattle.model_types.specs.Texts.{same_text}

abbrev pub seen : {K : Type 0} → (K → List ℕ) → List (K × ℕ) → List (List ℕ × ℕ)
seen text es = map (λ e. (text e.0, e.1)) es

pub bound-lookup : {K : Type 0} (text : K → List ℕ) (name : List ℕ) (es : List (K × ℕ)) → lookup_by (λ q. same_text name (text q)) es ≡ bound name (seen text es)
bound-lookup text name [] = refl
bound-lookup text name (e ∷ es) = ap (λ o. cond (same_text name (text e.0)) (Some e.1) o) (bound-lookup text name es)

pub lookup-none : {K : Type 0} (text : K → List ℕ) (name : List ℕ) (es : List (K × ℕ)) → bound name (seen text es) ≡ None → lookup_by (λ q. same_text name (text q)) es ≡ None
lookup-none text name es h = bound-lookup text name es ∙ h

pub insert-new : {K V : Type 0} (test : K → K → Bool) (es : List (K × V)) (k : K) (v : V) → lookup_by (test k) es ≡ None → insert_entry test es k v ≡ es ++ (k, v) ∷ []
insert-new test [] k v = λ h. refl
insert-new test (e ∷ es) k v =
    elim (test k e.0) as (λ t. cond t (Some e.1) (lookup_by (test k) es) ≡ None → cond t ((e.0, v) ∷ es) (e ∷ insert_entry test es k v) ≡ e ∷ (es ++ (k, v) ∷ [])) [
      | true ↦ λ h. cc
      | false ↦ λ h. ap (λ z. e ∷ z) (insert-new test es k v h)
    ]

pub added-name : {K : Type 0} (text : K → List ℕ) (k : K) (id : ℕ) (es : List (K × ℕ)) → lookup_by (λ q. same_text (text k) (text q)) es ≡ None →
    seen text (insert_entry (λ a b. same_text (text a) (text b)) es k id) ≡ seen text es ++ (text k, id) ∷ []
added-name text k id es h = ap (seen text) (insert-new (λ a b. same_text (text a) (text b)) es k id h) ∙ map-append (λ e. (text e.0, e.1)) es ((k, id) ∷ [])
