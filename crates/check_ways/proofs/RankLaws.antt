-- The rank of a member by its name.
use Rattle.std.proofs.Common.{◌≡◌, ◌∙◌, ap, sym, refl, arith, ℕ, zero, suc, ◌+◌, nat_eq, nat_lt, Bool, true, false, not, cond, if◌then◌else◌, ◌&&◌, List, [], ◌∷◌, length, Option, Some, None, option_map}
use Rattle.std.specs.List.{position, position_or_len}
use Rattle.model_types.specs.Structures.{Member}
use Rattle.model_types.specs.Texts.{same_text}
use Rattle.model_checking.specs.Ways.{rank_from}

less_next : (a b : ℕ) → nat_lt (suc a) (suc b) ≡ nat_lt a b
less_next a b = grind arith

less_zero : (b : ℕ) → nat_lt 0 (suc b) ≡ true
less_zero b = grind arith

first_of_test : (b : Bool) (n len : ℕ) → cond (nat_lt (cond (not b) (1 + n) 0) (suc len)) (Some (cond (not b) (1 + n) 0)) None ≡ cond b (Some 0) (option_map suc (cond (nat_lt n len) (Some n) None))
first_of_test true n len = ap (λ u. cond u (Some 0) None) (less_zero len)
first_of_test false n len = grind (arith, less_next)

position_first : {X : Type 0} (p : X → Bool) (x : X) (xs : List X) → position p (x ∷ xs) ≡ cond (p x) (Some 0) (option_map suc (position p xs))
position_first p x xs = first_of_test (p x) (position_or_len p xs) (length xs)

same_number : (a b : ℕ) → nat_eq a b ≡ nat_eq b a
same_number a b = grind arith

same_either_way : (a b : List ℕ) → same_text a b ≡ same_text b a
same_either_way [] [] = refl
same_either_way [] (y ∷ ys) = refl
same_either_way (x ∷ xs) [] = refl
same_either_way (x ∷ xs) (y ∷ ys) = ap (λ b. b && same_text xs ys) (same_number x y) ∙ ap (λ b. nat_eq y x && b) (same_either_way xs ys)

one_further : (b : Bool) (from : ℕ) (o : Option ℕ) → (if b then Some from else option_map (λ r. from + 1 + r) o) ≡ option_map (λ r. from + r) (cond b (Some 0) (option_map suc o))
one_further true from o = let e : from ≡ from + 0 = omega arith in ap (λ n. Some n) e
one_further false from None = refl
one_further false from (Some n) = let e : from + 1 + n ≡ from + suc n = omega arith in ap (λ n. Some n) e

counted_from : (name : List ℕ) (from : ℕ) (ms : List Member) → rank_from name from ms ≡ option_map (λ r. from + r) (position (λ (m : Member). same_text name m.name) ms)
counted_from name from [] = refl
counted_from name from (m ∷ ms) =
    ap (λ b. if b then Some from else rank_from name (from + 1) ms) (same_either_way m.name name)
    ∙ ap (λ (o : Option ℕ). if same_text name m.name then Some from else o) (counted_from name (from + 1) ms)
    ∙ one_further (same_text name m.name) from (position (λ (m : Member). same_text name m.name) ms)
    ∙ ap (option_map (λ r. from + r)) (sym (position_first (λ (m : Member). same_text name m.name) m ms))

from_zero : (o : Option ℕ) → option_map (λ r. 0 + r) o ≡ o
from_zero None = refl
from_zero (Some n) = let e : 0 + n ≡ n = omega arith in ap (λ n. Some n) e

-- the rank of the first member of a name is its position
pub rank_is_position : (name : List ℕ) (ms : List Member) → rank_from name 0 ms ≡ position (λ (m : Member). same_text name m.name) ms
rank_is_position name ms = counted_from name 0 ms ∙ from_zero (position (λ (m : Member). same_text name m.name) ms)
