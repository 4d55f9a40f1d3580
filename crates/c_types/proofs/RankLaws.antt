-- The ranks of members by their names.
use Rattle.std.proofs.Common.{◌≡◌, ℕ, zero, suc, ◌+◌, ◌<◌, Bool, true, false, nat_lt, List, [], ◌∷◌, ◌++◌, length, length-append, map, Option, Some, None, Result, Ok, Err, OnOk, OnErr, refl, ap, sym, subst, ◌∙◌, cond, not, arith}
use Rattle.std.specs.Option.{option_map}
use Rattle.std.specs.List.{position, position_or_len}
use Rattle.std.specs.Map.{lookup as lookup_by}
use Rattle.std.proofs.lemmas.List.{map-append}
use Rattle.indexmap.specs.IndexMap.{insert_entry}
use lib.Pointwise.{bytes_decides}
use Rattle.model_types.specs.Texts.{same_text}
use Rattle.model_types.specs.Structures.{Member}
use Rattle.c_types.specs.Ranks.{rank_in, noted, noted_by, rank_of, IsRanked}

-- ---- names with their ranks as the entries of a map

abbrev pub seen : {K : Type 0} → (K → List ℕ) → List (K × ℕ) → List (List ℕ × ℕ)
seen text es = map (λ e. (text e.0, e.1)) es

pub rank_lookup : {K : Type 0} (text : K → List ℕ) (name : List ℕ) (es : List (K × ℕ)) → lookup_by (λ q. same_text name (text q)) es ≡ rank_in name (seen text es)
rank_lookup text name [] = refl
rank_lookup text name (e ∷ es) = ap (λ o. cond (same_text name (text e.0)) (Some e.1) o) (rank_lookup text name es)

pub insert_new : {K V : Type 0} (test : K → K → Bool) (es : List (K × V)) (k : K) (v : V) → lookup_by (test k) es ≡ None → insert_entry test es k v ≡ es ++ (k, v) ∷ []
insert_new test [] k v = λ h. refl
insert_new test (e ∷ es) k v =
    elim (test k e.0) as (λ t. cond t (Some e.1) (lookup_by (test k) es) ≡ None → cond t ((e.0, v) ∷ es) (e ∷ insert_entry test es k v) ≡ e ∷ (es ++ (k, v) ∷ [])) [
      | true ↦ λ h. cc
      | false ↦ λ h. ap (λ z. e ∷ z) (insert_new test es k v h)
    ]

pub added_rank : {K : Type 0} (text : K → List ℕ) (k : K) (rank : ℕ) (es : List (K × ℕ)) → lookup_by (λ q. same_text (text k) (text q)) es ≡ None →
    seen text (insert_entry (λ a b. same_text (text a) (text b)) es k rank) ≡ seen text es ++ (text k, rank) ∷ []
added_rank text k rank es h = ap (seen text) (insert_new (λ a b. same_text (text a) (text b)) es k rank h) ∙ map-append (λ e. (text e.0, e.1)) es ((k, rank) ∷ [])

-- ---- one more member

abbrev or_rank : Option ℕ → Option ℕ → Option ℕ
or_rank (Some r) o = Some r
or_rank None o = o

less_next : (a b : ℕ) → nat_lt (suc a) (suc b) ≡ nat_lt a b
less_next a b = grind arith

less_zero : (b : ℕ) → nat_lt 0 (suc b) ≡ true
less_zero b = grind arith

first_of_test : (b : Bool) (n len : ℕ) → cond (nat_lt (cond (not b) (1 + n) 0) (suc len)) (Some (cond (not b) (1 + n) 0)) None ≡ cond b (Some 0) (option_map suc (cond (nat_lt n len) (Some n) None))
first_of_test true n len = ap (λ u. cond u (Some 0) None) (less_zero len)
first_of_test false n len = grind (arith, less_next)

position_first : {X : Type 0} (p : X → Bool) (x : X) (xs : List X) → position p (x ∷ xs) ≡ cond (p x) (Some 0) (option_map suc (position p xs))
position_first p x xs = first_of_test (p x) (position_or_len p xs) (length xs)

later_rank : (b : Bool) (n : ℕ) (o : Option ℕ) → option_map suc (or_rank o (cond b (Some n) None)) ≡ or_rank (option_map suc o) (cond b (Some (suc n)) None)
later_rank true n None = refl
later_rank true n (Some r) = refl
later_rank false n None = refl
later_rank false n (Some r) = refl

position_step : (t b : Bool) (n : ℕ) (o : Option ℕ) → cond t (Some 0) (option_map suc (or_rank o (cond b (Some n) None))) ≡ or_rank (cond t (Some 0) (option_map suc o)) (cond b (Some (suc n)) None)
position_step true b n o = refl
position_step false b n o = later_rank b n o

position_push : {X : Type 0} (p : X → Bool) (xs : List X) (y : X) → position p (xs ++ y ∷ []) ≡ or_rank (position p xs) (cond (p y) (Some (length xs)) None)
position_push p [] y = position_first p y []
position_push p (x ∷ xs) y =
    position_first p x (xs ++ y ∷ []) ∙ ap (λ (o : Option ℕ). cond (p x) (Some 0) (option_map suc o)) (position_push p xs y)
    ∙ position_step (p x) (p y) (length xs) (position p xs)
    ∙ ap (λ (o : Option ℕ). or_rank o (cond (p y) (Some (suc (length xs))) None)) (sym (position_first p x xs))

rank_step : (t b : Bool) (r rank : ℕ) (o : Option ℕ) → cond t (Some r) (or_rank o (cond b (Some rank) None)) ≡ or_rank (cond t (Some r) o) (cond b (Some rank) None)
rank_step true b r rank o = refl
rank_step false b r rank o = refl

rank_push : (name text : List ℕ) (rank : ℕ) (es : List (List ℕ × ℕ)) → rank_in name (es ++ (text, rank) ∷ []) ≡ or_rank (rank_in name es) (cond (same_text name text) (Some rank) None)
rank_push name text rank [] = refl
rank_push name text rank (e ∷ es) =
    ap (λ (o : Option ℕ). cond (same_text name e.0) (Some e.1) o) (rank_push name text rank es)
    ∙ rank_step (same_text name e.0) (same_text name text) e.1 rank (rank_in name es)

-- where a name has a rank, one more member of it changes nothing
kept_rank : (o : Option ℕ) (b : Bool) (n r : ℕ) → (b ≡ true → o ≡ Some r) → o ≡ or_rank o (cond b (Some n) None)
kept_rank (Some s) b n r h = refl
kept_rank None true n r h = absurd (none_some (h refl))
  where
    none_some : None ≡ Some r → ⊥
    none_some e = cc
kept_rank None false n r h = refl

noted_push : (o : Option ℕ) (name text : List ℕ) (n : ℕ) (es : List (List ℕ × ℕ)) → rank_in text es ≡ o
    → rank_in name (noted_by o text n es) ≡ or_rank (rank_in name es) (cond (same_text name text) (Some n) None)
noted_push (Some r) name text n es e =
    kept_rank (rank_in name es) (same_text name text) n r (λ same. ap (λ (t : List ℕ). rank_in t es) ((bytes_decides name text).0 same) ∙ e)
noted_push None name text n es e = rank_push name text n es

-- the ranks stay those of the members, with one member more
ranks_push : (ms : List Member) (es : List (List ℕ × ℕ)) (m : Member) → length ms < 4294967295 → IsRanked ms es → IsRanked (ms ++ m ∷ []) (noted m.name (length ms) es)
ranks_push ms es m n h = record {
  few = omega (arith, length-append ms (m ∷ []), n);
  each = λ name.
      noted_push (rank_in m.name es) name m.name (length ms) es refl
      ∙ ap (λ (o : Option ℕ). or_rank o (cond (same_text name m.name) (Some (length ms)) None)) (h.each name)
      ∙ sym (position_push (λ (x : Member). same_text name x.name) ms m);
}

-- the same where a member may have been refused
pub put_ranked : {A E : Type 0} (r : Result A E) (ms after : List Member) (es then_es : List (List ℕ × ℕ)) (m : Member) → length ms < 4294967295 → IsRanked ms es
    → OnOk r ((after ≡ ms ++ m ∷ []) × (then_es ≡ noted m.name (length ms) es)) → OnErr r ((after ≡ ms) × (then_es ≡ es)) → IsRanked after then_es
put_ranked (Ok a) ms after es then_es m n h ok err =
    subst (λ (xs : List Member). IsRanked xs then_es) (sym ok.0)
    (subst (λ (zs : List (List ℕ × ℕ)). IsRanked (ms ++ m ∷ []) zs) (sym ok.1) (ranks_push ms es m n h))
put_ranked (Err e) ms after es then_es m n h ok err =
    subst (λ (xs : List Member). IsRanked xs then_es) (sym err.0) (subst (λ (zs : List (List ℕ × ℕ)). IsRanked ms zs) (sym err.1) h)
