-- What the table tells is what the list of declared names says.
use Rattle.std.proofs.Common.{◌≡◌, ℕ, zero, suc, ◌+◌, ◌<◌, Bool, true, false, cond, List, [], ◌∷◌, ◌++◌, map, length, drop, refl, ap, sym, subst, ◌∙◌, arith, eqb-true, nat_eq, Some, slice_get, append_assoc}
use Rattle.std.specs.Prelude.{get_or, set, replicate, reverse, fold}
use Rattle.std.proofs.lemmas.Bool.{eq-eqb}
use Rattle.std.proofs.lemmas.Option.{get_or_from_slice_get, slice_get_read}
use Rattle.std.proofs.lemmas.List.{map-append, length-append, reverse-append, get_or-set_same, get_or-set_other, set-get_or, set-append_left}
use Rattle.model_grammar.specs.declared.grammar.Entry.{Entry}
use Rattle.model_grammar.specs.NameScopes.{is_type}
use Rattle.c_parser.specs.declared.entries.Kept.{Kept}
use Rattle.c_parser.specs.Hiding.{type_at, Tells, IsWider}

fold_end : {A B : Type 0} (f : B → A → B) (b : B) (xs : List A) (x : A) → fold f b (xs ++ x ∷ []) ≡ f (fold f b xs) x
fold_end f b [] x = refl
fold_end f b (y ∷ ys) x = fold_end f (f b y) ys x

is_type_end : (xs : List Entry) (e : Entry) (n : ℕ) → is_type (xs ++ e ∷ []) n ≡ cond (nat_eq e.name n) e.is_type (is_type xs n)
is_type_end xs e n = fold_end _ false xs e

twice : {A : Type 0} (xs : List A) → reverse (reverse xs) ≡ xs
twice [] = refl
twice (x ∷ xs) = ap reverse (reverse-append (x ∷ []) xs) ∙ reverse-append (reverse xs) (x ∷ []) ∙ ap (λ z. x ∷ z) (twice xs)

entries_of : List Kept → List Entry
entries_of ks = map (λ k. k.entry) ks

entries_end : (ks : List Kept) (k : Kept) → map (λ k. k.entry) (reverse (k ∷ ks)) ≡ map (λ k. k.entry) (reverse ks) ++ k.entry ∷ []
entries_end ks k = ap (map (λ k. k.entry)) (reverse-append (k ∷ []) ks) ∙ map-append (λ k. k.entry) (reverse ks) (k ∷ [])

differ : (a b : ℕ) → nat_eq a b ≡ false → a ≡ b → ⊥
differ a b h e = let q = eq-eqb a b e in cc

tells_latest : (types : List Bool) (ks : List Kept) (n : ℕ) → Tells types ks → type_at types n ≡ is_type (map (λ k. k.entry) (reverse ks)) n
tells_latest types [] n h = h n
tells_latest types (k ∷ ks) n h = by (nat_eq k.entry.name n) refl (tells_latest (set types k.entry.name k.hidden) ks n h.2) ∙ sym (is_type_end (map (λ k. k.entry) (reverse ks)) k.entry n) ∙ ap (λ z. is_type z n) (sym (entries_end ks k))
  where
    by : (b : Bool) → nat_eq k.entry.name n ≡ b → type_at (set types k.entry.name k.hidden) n ≡ is_type (map (λ k. k.entry) (reverse ks)) n → type_at types n ≡ cond (nat_eq k.entry.name n) k.entry.is_type (is_type (map (λ k. k.entry) (reverse ks)) n)
    by true e q = ap (type_at types) (sym (eqb-true k.entry.name n e)) ∙ h.1 ∙ ap (λ b. cond b k.entry.is_type (is_type (map (λ k. k.entry) (reverse ks)) n)) (sym e)
    by false e q = sym (get_or-set_other types k.entry.name n k.hidden false (λ q. differ k.entry.name n e (sym q))) ∙ q ∙ ap (λ b. cond b k.entry.is_type (is_type (map (λ k. k.entry) (reverse ks)) n)) (sym e)

-- the table tells the latest declaration of each name
pub tells_type : (types : List Bool) (ks : List Kept) (view : List Entry) (n : ℕ) → Tells types (reverse ks) → map (λ k. k.entry) ks ≡ view → type_at types n ≡ is_type view n
tells_type types ks view n h e = tells_latest types (reverse ks) n h ∙ ap (λ z. is_type (map (λ k. k.entry) z) n) (twice ks) ∙ ap (λ z. is_type z n) e

no_type : (m n : ℕ) → get_or (replicate m false) n false ≡ false
no_type zero n = refl
no_type (suc m) zero = refl
no_type (suc m) (suc n) = no_type m n

wider_at : (types : List Bool) (m n : ℕ) → get_or (types ++ replicate m false) n false ≡ get_or types n false
wider_at [] m n = no_type m n
wider_at (t ∷ ts) m zero = refl
wider_at (t ∷ ts) m (suc n) = wider_at ts m n

wider_tells : (types : List Bool) (ks : List Kept) (m : ℕ) → Tells types ks → Tells (types ++ replicate m false) ks
wider_tells types [] m h = λ n. wider_at types m n ∙ h n
wider_tells types (k ∷ ks) m h =
    let l = length-append types (replicate m false) in
    (omega (arith, l, h.0), wider_at types m k.entry.name ∙ h.1, subst (λ z. Tells z ks) (sym (set-append_left types (replicate m false) k.entry.name k.hidden h.0)) (wider_tells (set types k.entry.name k.hidden) ks m h.2))

-- a wider table tells the same
pub wider : (old new : List Bool) (ks : List Kept) (n : ℕ) → Tells old ks → IsWider n old new → Tells new ks
wider old new ks n h w = subst (λ z. Tells z ks) (sym w.added) (wider_tells old ks w.more h)

set_twice : (ts : List Bool) (i : ℕ) (a b : Bool) → set (set ts i a) i b ≡ set ts i b
set_twice [] i a b = refl
set_twice (t ∷ ts) zero a b = refl
set_twice (t ∷ ts) (suc i) a b = ap (λ z. t ∷ z) (set_twice ts i a b)

length_set : (ts : List Bool) (i : ℕ) (a : Bool) → length (set ts i a) ≡ length ts
length_set [] i a = refl
length_set (t ∷ ts) zero a = refl
length_set (t ∷ ts) (suc i) a = ap suc (length_set ts i a)

-- one more declaration, which the table tells, and keeps what it hides
pub one_more : (types : List Bool) (ks : List Kept) (k : Kept) → Tells types (reverse ks) → k.entry.name < length types → k.hidden ≡ type_at types k.entry.name → Tells (set types k.entry.name k.entry.is_type) (reverse (ks ++ k ∷ []))
one_more types ks k h r e =
    subst (λ z. Tells (set types k.entry.name k.entry.is_type) z) (sym (reverse-append ks (k ∷ []))) (
      subst (λ z. k.entry.name < z) (sym (length_set types k.entry.name k.entry.is_type)) r,
      get_or-set_same types k.entry.name k.entry.is_type false r,
      subst (λ z. Tells z (reverse ks)) (sym (set_twice types k.entry.name k.entry.is_type k.hidden ∙ ap (set types k.entry.name) e ∙ set-get_or types k.entry.name false)) h,
    )

-- without the latest declaration the table tells what it hid
pub one_less : (types : List Bool) (ks : List Kept) (k : Kept) → Tells types (reverse (ks ++ k ∷ [])) → (k.entry.name < length types) × Tells (set types k.entry.name k.hidden) (reverse ks)
one_less types ks k h = let q = subst (λ z. Tells types z) (reverse-append ks (k ∷ [])) h in (q.0, q.2)

-- the same of what is read of the table
pub read_type : (types read : List Bool) (ks : List Kept) (view : List Entry) (n : ℕ) (b : Bool) → Tells types (reverse ks) → map (λ k. k.entry) ks ≡ view → read ≡ types → b ≡ get_or read n false → b ≡ is_type view n
read_type types read ks view n b h e r g = g ∙ ap (λ z. get_or z n false) r ∙ tells_type types ks view n h e

pub at_default : (types : List Bool) (n : ℕ) (b : Bool) → n < length types → b ≡ get_or types n b → b ≡ get_or types n false
at_default types n b l e = sym (get_or_from_slice_get types n b false (slice_get_read types (length types) n b refl l e))

-- ---- the declarations from a number on

drop_next : (ks : List Kept) (n : ℕ) (k : Kept) → slice_get ks n ≡ Some k → drop n (map (λ k. k.entry) ks) ≡ k.entry ∷ drop (n + 1) (map (λ k. k.entry) ks)
drop_next [] zero k e = cc
drop_next [] (suc n) k e = cc
drop_next (x ∷ ks) zero k e = let q : x ≡ k = cc in rw q refl
drop_next (x ∷ ks) (suc n) k e = let q : slice_get ks n ≡ Some k = grind arith in let z : suc n + 1 ≡ suc (n + 1) = omega arith in rw z (drop_next ks n k q)

pub goes_on : (ks : List Kept) (view out later goal : List Entry) (n : ℕ) (k : Kept) → map (λ k. k.entry) ks ≡ view → Some k ≡ slice_get ks n → out ++ drop n view ≡ goal → later ≡ out ++ k.entry ∷ [] → later ++ drop (n + 1) view ≡ goal
goes_on ks view out later goal n k e g h l =
    let d : drop n view ≡ k.entry ∷ drop (n + 1) view = ap (drop n) (sym e) ∙ drop_next ks n k (sym g) ∙ ap (λ z. k.entry ∷ drop (n + 1) z) e in
    ap (λ z. z ++ drop (n + 1) view) l ∙ append_assoc out (k.entry ∷ []) (drop (n + 1) view) ∙ ap (λ z. out ++ z) (sym d) ∙ h

pub goes_on_at : (ks read : List Kept) (view out later goal : List Entry) (n : ℕ) (k : Kept) → map (λ k. k.entry) ks ≡ view → read ≡ ks → n < length read → k ≡ get_or read n k → out ++ drop n view ≡ goal → later ≡ out ++ k.entry ∷ [] → later ++ drop (n + 1) view ≡ goal
goes_on_at ks read view out later goal n k e r l g h q = goes_on ks view out later goal n k e (sym (slice_get_read read (length read) n k refl l g) ∙ ap (λ z. slice_get z n) r) h q
