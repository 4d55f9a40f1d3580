-- Lists of kinds as sets.
use Rattle.std.proofs.Common.{◌≡◌, ℕ, Bool, true, false, not, ◌&&◌, ◌||◌, List, [], ◌∷◌, ◌++◌, refl}
use Rattle.std.proofs.lemmas.Bool.{eqb-true, eq-eqb}
use Rattle.std.specs.Prelude.{◌==◌, if◌then◌else◌}
use Rattle.model_grammar.specs.GrammarForm.{mem}
use Rattle.grammar_laws.specs.FirstTokens.{Tables}
use Rattle.grammar_laws.specs.apparatus.DecidedTable.{within, apart}
use mathlib.Core.Logic.{◌⊎◌, inl, inr}

pub and_left : (a b : Bool) → (a && b) ≡ true → a ≡ true
and_left true b h = refl
and_left false b h = h

pub and_right : (a b : Bool) → (a && b) ≡ true → b ≡ true
and_right true b h = h
and_right false b h = absurd (cc)

pub or_cases : (a b : Bool) → (a || b) ≡ true → (a ≡ true) ⊎ (b ≡ true)
or_cases true b h = inl refl
or_cases false b h = inr h

pub or_right : (a b : Bool) → b ≡ true → (a || b) ≡ true
or_right true b h = refl
or_right false b h = h

pub not_true : (a : Bool) → not a ≡ true → a ≡ false
not_true true h = absurd (cc)
not_true false h = refl

pub clash : (b : Bool) → b ≡ true → b ≡ false → ⊥
clash b p q = cc

-- In a list of both
pub mem_left : (k : ℕ) (xs ys : List ℕ) → mem k xs ≡ true → mem k (xs ++ ys) ≡ true
unfolding mem
mem_left k [] ys h = absurd (cc)
mem_left k (x ∷ xs) ys h = elim (or_cases (k == x) (mem k xs) h) [
  | inl e ↦ rw e refl
  | inr m ↦ or_right (k == x) _ (mem_left k xs ys m)
]

pub mem_right : (k : ℕ) (xs ys : List ℕ) → mem k ys ≡ true → mem k (xs ++ ys) ≡ true
unfolding mem
mem_right k [] ys h = h
mem_right k (x ∷ xs) ys h = or_right (k == x) _ (mem_right k xs ys h)

pub mem_cases : (k : ℕ) (xs ys : List ℕ) → mem k (xs ++ ys) ≡ true → (mem k xs ≡ true) ⊎ (mem k ys ≡ true)
unfolding mem
mem_cases k [] ys h = inr h
mem_cases k (x ∷ xs) ys h = elim (or_cases (k == x) (mem k (xs ++ ys)) h) [
  | inl e ↦ inl (rw e refl)
  | inr m ↦ elim (mem_cases k xs ys m) [ inl a ↦ inl (or_right (k == x) _ a) | inr b ↦ inr b ]
]

module _ (T : Tables) where
  pub within_mem : (k : ℕ) (xs F : List ℕ) → within T xs F ≡ true → mem k xs ≡ true → mem k F ≡ true
  unfolding mem within
  within_mem k [] F w h = absurd (cc)
  within_mem k (x ∷ xs) F w h = elim (or_cases (k == x) (mem k xs) h) [
    | inl e ↦ let p : k ≡ x = eqb-true k x e in rw p (and_left (mem x F) (within T xs F) w)
    | inr m ↦ within_mem k xs F (and_right (mem x F) (within T xs F) w) m
  ]

  pub apart_mem : (k : ℕ) (xs F : List ℕ) → apart T xs F ≡ true → mem k xs ≡ true → mem k F ≡ true → ⊥
  unfolding mem apart
  apart_mem k [] F w h f = absurd (cc)
  apart_mem k (x ∷ xs) F w h f = elim (or_cases (k == x) (mem k xs) h) [
    | inl e ↦ let p : k ≡ x = eqb-true k x e in clash (mem x F) (rw (← p) f) (not_true (mem x F) (and_left (not (mem x F)) (apart T xs F) w))
    | inr m ↦ apart_mem k xs F (and_right (not (mem x F)) (apart T xs F) w) m f
  ]

pub mem_one : (j k : ℕ) → j ≡ k → mem j (k ∷ []) ≡ true
unfolding mem
mem_one j k e = let p : (j == k) ≡ true = eq-eqb j k e in rw p refl

pub one_mem : (j k : ℕ) → mem j (k ∷ []) ≡ true → j ≡ k
unfolding mem
one_mem j k h = elim (or_cases (j == k) false h) [ inl e ↦ eqb-true j k e | inr m ↦ absurd (cc) ]

-- first f ++ what comes where the form is nullable
pub mem_behind : (k : ℕ) (b : Bool) (xs ys : List ℕ) → b ≡ true → mem k ys ≡ true → mem k (xs ++ (if b then ys else [])) ≡ true
mem_behind k b xs ys e h = rw e (mem_right k xs ys h)

pub mem_split : (k : ℕ) (b : Bool) (xs ys : List ℕ) → mem k (xs ++ (if b then ys else [])) ≡ true → (mem k xs ≡ true) ⊎ ((b ≡ true) × (mem k ys ≡ true))
unfolding mem
mem_split k true xs ys h = elim (mem_cases k xs ys h) [ inl a ↦ inl a | inr b ↦ inr (refl, b) ]
mem_split k false xs ys h = elim (mem_cases k xs [] h) [ inl a ↦ inl a | inr b ↦ absurd (cc) ]

pub mem_append : (k : ℕ) (xs ys : List ℕ) → mem k (xs ++ ys) ≡ (mem k xs || mem k ys)
unfolding mem
mem_append k [] ys = refl
mem_append k (x ∷ xs) ys = rw (mem_append k xs ys) (or_assoc (k == x) (mem k xs) (mem k ys))
  where
    or_assoc : (a b c : Bool) → (a || (b || c)) ≡ ((a || b) || c)
    or_assoc true b c = refl
    or_assoc false b c = refl

pub mem_then : (k : ℕ) (b : Bool) (xs ys : List ℕ) → mem k (xs ++ (if b then ys else [])) ≡ (mem k xs || (b && mem k ys))
unfolding mem
mem_then k true xs ys = mem_append k xs ys
mem_then k false xs ys = mem_append k xs []
