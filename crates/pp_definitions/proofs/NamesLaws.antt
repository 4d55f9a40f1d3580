-- Ranks in lists of names, and in the keys of maps.
use Rattle.std.proofs.Common.{◌≡◌, ℕ, suc, ◌+◌, Bool, true, false, List, [], ◌∷◌, ◌++◌, map, length, Option, Some, None, refl, ap, sym, ◌∙◌, arith, cond, not, nat_lt, ◌||◌}
use Rattle.std.specs.List.{position, position_or_len, list_any}
use Rattle.std.proofs.lemmas.List.{map-append}
use Rattle.std.specs.Option.{option_map, is_some}
use Rattle.model_macros.specs.ReplacementLists.{rank, one_more}
use Rattle.model_types.specs.Texts.{same_text}

less_next : (a b : ℕ) → nat_lt (suc a) (suc b) ≡ nat_lt a b
less_next a b = grind arith

less_zero : (b : ℕ) → nat_lt 0 (suc b) ≡ true
less_zero b = grind arith

first_of_test : (b : Bool) (n len : ℕ) → cond (nat_lt (cond (not b) (1 + n) 0) (suc len)) (Some (cond (not b) (1 + n) 0)) None ≡ cond b (Some 0) (option_map suc (cond (nat_lt n len) (Some n) None))
first_of_test true n len = ap (λ u. cond u (Some 0) None) (less_zero len)
first_of_test false n len = grind (arith, less_next)

pub position_first : {X : Type 0} (p : X → Bool) (x : X) (xs : List X) → position p (x ∷ xs) ≡ cond (p x) (Some 0) (option_map suc (position p xs))
position_first p x xs = first_of_test (p x) (position_or_len p xs) (length xs)

one_more-is : (o : Option ℕ) → one_more o ≡ option_map suc o
one_more-is None = refl
one_more-is (Some k) = refl

pub rank-position : {K : Type 0} (text : K → List ℕ) (name : List ℕ) (ks : List K) → position (λ q. same_text name (text q)) ks ≡ rank name (map text ks)
rank-position text name [] = refl
rank-position text name (k ∷ ks) =
    position_first (λ q. same_text name (text q)) k ks
    ∙ ap (λ o. cond (same_text name (text k)) (Some 0) o) (ap (option_map suc) (rank-position text name ks) ∙ sym (one_more-is (rank name (map text ks))))

some_more : (o : Option ℕ) → is_some (one_more o) ≡ is_some o
some_more None = refl
some_more (Some k) = refl

-- a name has a rank where it is in the list
pub rank-any : {K : Type 0} (text : K → List ℕ) (name : List ℕ) (ks : List K) → is_some (rank name (map text ks)) ≡ list_any (λ q. same_text name (text q)) ks
rank-any text name [] = refl
rank-any text name (k ∷ ks) =
    elim (same_text name (text k)) as (λ b. is_some (cond b (Some 0) (one_more (rank name (map text ks)))) ≡ (b || list_any (λ q. same_text name (text q)) ks)) [
      | true ↦ refl
      | false ↦ some_more (rank name (map text ks)) ∙ rank-any text name ks
    ]

-- the names after one more: they stay where it is among them, and else it goes last
pub names-insert : {K : Type 0} (text : K → List ℕ) (k : K) (ks : List K) →
    map text (cond (list_any (λ q. same_text (text k) (text q)) ks) ks (ks ++ k ∷ [])) ≡ cond (is_some (rank (text k) (map text ks))) (map text ks) (map text ks ++ text k ∷ [])
names-insert text k ks =
    rw (rank-any text (text k) ks) (elim (list_any (λ q. same_text (text k) (text q)) ks) as (λ b. map text (cond b ks (ks ++ k ∷ [])) ≡ cond b (map text ks) (map text ks ++ text k ∷ [])) [
      | true ↦ refl
      | false ↦ map-append text ks (k ∷ [])
    ])
