-- The spellings that are kept are those of the tokens before.
use Rattle.std.proofs.Common.{◌≡◌, ℕ, Bool, true, false, List, [], ◌∷◌, ◌++◌, map, Some, None, refl, ap, sym, ◌∙◌, cond}
use Rattle.std.specs.Map.{lookup as lookup_by}
use Rattle.std.specs.Str.{bytes_eq}
use Rattle.indexmap.specs.IndexMap.{insert_entry}
use Rattle.c_parser.specs.Ranks.{Spelled, ranked, known_or, with_spelling}

pub ranked_lookup : {K : Type 0} (text : K → List ℕ) (spelling : List ℕ) (es : List (K × ℕ)) → lookup_by (λ q. bytes_eq spelling (text q)) es ≡ ranked spelling (map (λ e. (text e.0, e.1)) es)
ranked_lookup text spelling [] = refl
ranked_lookup text spelling (e ∷ es) = ap (λ o. cond (bytes_eq spelling (text e.0)) (Some e.1) o) (ranked_lookup text spelling es)

pub insert_new : {K V : Type 0} (test : K → K → Bool) (es : List (K × V)) (k : K) (v : V) → lookup_by (test k) es ≡ None → insert_entry test es k v ≡ es ++ (k, v) ∷ []
insert_new test [] k v = λ h. refl
insert_new test (e ∷ es) k v =
    elim (test k e.0) as (λ t. cond t (Some e.1) (lookup_by (test k) es) ≡ None → cond t ((e.0, v) ∷ es) (e ∷ insert_entry test es k v) ≡ e ∷ (es ++ (k, v) ∷ [])) [
      | true ↦ λ h. cc
      | false ↦ λ h. ap (λ z. e ∷ z) (insert_new test es k v h)
    ]

map_end : {A B : Type 0} (f : A → B) (xs : List A) (x : A) → map f (xs ++ x ∷ []) ≡ map f xs ++ f x ∷ []
map_end f [] x = refl
map_end f (y ∷ ys) x = ap (λ z. f y ∷ z) (map_end f ys x)

pub found_rank : {K : Type 0} (text : K → List ℕ) (spelling : List ℕ) (rank first : ℕ) (es : List (K × ℕ)) (view : List Spelled) → map (λ e. (text e.0, e.1)) es ≡ view → Some first ≡ lookup_by (λ q. bytes_eq spelling (text q)) es → (first ≡ known_or rank (ranked spelling view)) × (view ≡ with_spelling (ranked spelling view) spelling rank view)
found_rank text spelling rank first es view h e = let q : ranked spelling view ≡ Some first = ap (ranked spelling) (sym h) ∙ sym (ranked_lookup text spelling es) ∙ sym e in (ap (known_or rank) (sym q), ap (λ o. with_spelling o spelling rank view) (sym q))

pub new_rank : {K : Type 0} (text : K → List ℕ) (spelling : List ℕ) (rank : ℕ) (es : List (K × ℕ)) (view : List Spelled) → map (λ e. (text e.0, e.1)) es ≡ view → None ≡ lookup_by (λ q. bytes_eq spelling (text q)) es → rank ≡ known_or rank (ranked spelling view)
new_rank text spelling rank es view h e = let q : ranked spelling view ≡ None = ap (ranked spelling) (sym h) ∙ sym (ranked_lookup text spelling es) ∙ sym e in ap (known_or rank) (sym q)

pub new_entry : {K : Type 0} (text : K → List ℕ) (k : K) (rank : ℕ) (es : List (K × ℕ)) (view : List Spelled) → map (λ e. (text e.0, e.1)) es ≡ view → None ≡ lookup_by (λ q. bytes_eq (text k) (text q)) es → map (λ e. (text e.0, e.1)) (insert_entry (λ a b. bytes_eq (text a) (text b)) es k rank) ≡ with_spelling (ranked (text k) view) (text k) rank view
new_entry text k rank es view h e =
    let q : ranked (text k) view ≡ None = ap (ranked (text k)) (sym h) ∙ sym (ranked_lookup text (text k) es) ∙ sym e in
    ap (map (λ e. (text e.0, e.1))) (insert_new (λ a b. bytes_eq (text a) (text b)) es k rank (sym e)) ∙ map_end (λ e. (text e.0, e.1)) es (k, rank) ∙ ap (λ z. z ++ (text k, rank) ∷ []) h ∙ ap (λ o. with_spelling o (text k) rank view) (sym q)
