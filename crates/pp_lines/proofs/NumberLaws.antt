-- The numbers of files by their names, as contracts see a map of them.
use Rattle.std.proofs.Common.{◌≡◌, ℕ, Bool, true, false, List, [], ◌∷◌, ◌++◌, map, Some, None, refl, ap, ◌∙◌, cond}
use Rattle.std.specs.Map.{lookup as lookup_by}
use Rattle.std.proofs.lemmas.List.{map-append}
use Rattle.indexmap.specs.IndexMap.{insert_entry}
use Rattle.model_preprocessing.specs.Sources.{number_of}
use Rattle.pp_lines.specs.Numbers.{texts}
use Rattle.model_types.specs.Texts.{same_text}

pub number-lookup : {K : Type 0} (text : K → List ℕ) (name : List ℕ) (es : List (K × ℕ)) → lookup_by (λ q. same_text name (text q)) es ≡ number_of name (texts text es)
number-lookup text name [] = refl
number-lookup text name (e ∷ es) = ap (λ o. cond (same_text name (text e.0)) (Some e.1) o) (number-lookup text name es)

insert-new : {K V : Type 0} (test : K → K → Bool) (es : List (K × V)) (k : K) (v : V) → lookup_by (test k) es ≡ None → insert_entry test es k v ≡ es ++ (k, v) ∷ []
insert-new test [] k v = λ h. refl
insert-new test (e ∷ es) k v =
    elim (test k e.0) as (λ t. cond t (Some e.1) (lookup_by (test k) es) ≡ None → cond t ((e.0, v) ∷ es) (e ∷ insert_entry test es k v) ≡ e ∷ (es ++ (k, v) ∷ [])) [
      | true ↦ λ h. cc
      | false ↦ λ h. ap (λ z. e ∷ z) (insert-new test es k v h)
    ]

pub texts-added : {K : Type 0} (text : K → List ℕ) (es : List (K × ℕ)) (k : K) (v : ℕ) → number_of (text k) (texts text es) ≡ None →
    texts text (insert_entry (λ a b. same_text (text a) (text b)) es k v) ≡ texts text es ++ (text k, v) ∷ []
texts-added text es k v h =
    ap (texts text) (insert-new (λ a b. same_text (text a) (text b)) es k v (number-lookup text (text k) es ∙ h)) ∙ map-append (λ e. (text e.0, e.1)) es ((k, v) ∷ [])
