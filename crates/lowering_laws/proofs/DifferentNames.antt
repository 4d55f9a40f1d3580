-- Names of one list that are all numbered are different: their numbers grow.
use Rattle.std.proofs.Common.{◌≡◌, ◌∙◌, ap, sym, refl, subst, arith, ℕ, zero, suc, ◌+◌, ◌<◌, ◌≤◌, ◌^◌, Bool, true, false, true≢false, List, [], ◌∷◌, length, Option, Some, None, slice_get, if◌then◌else◌}
use Rattle.model_c89.specs.Names89.{is_among}
use Rattle.model_lowering.specs.TextNames as t
use Rattle.model_lowering.specs.TextNames.{Wish, Keeps, Wants, numbered, free_number, free_from, all_named}
use Rattle.lowering_laws.proofs.NumberedNames.{numbers_differ}

-- ---- the search goes up

further_by : (b : Bool) (number further : ℕ) → suc number ≤ further → number ≤ (if b then further else number)
further_by true number further h = omega (arith, h)
further_by false number further h = omega arith

pub found_behind : (tries : ℕ) (externals : List (List ℕ)) (name_of : ℕ → List ℕ) (number : ℕ) → number ≤ free_number tries externals name_of number
found_behind zero externals name_of number = omega arith
found_behind (suc tries) externals name_of number =
    further_by (is_among externals (name_of number)) number (free_number tries externals name_of (suc number)) (found_behind tries externals name_of (suc number))

some_is : (a b : List ℕ) → Some a ≡ Some b → a ≡ b
some_is a b e = cc

-- ---- lists of which each gets a number

abbrev pub AllWant : List Wish → Type 0
AllWant [] = Unit {0}
AllWant (Keeps name ∷ ws) = ⊥
AllWant (Wants front ∷ ws) = AllWant ws

-- a name with a number from one on, below another
record Numbered (name : List ℕ) (first last : ℕ) : Type 0 where
  front : List ℕ
  number : ℕ
  is : name ≡ numbered front number
  from : first ≤ number
  below : number < last

abbrev number_for : (externals : List (List ℕ)) → (next : ℕ) → (front : List ℕ) → ℕ
number_for externals next front = free_from externals (numbered front) next

pub next_grows : (externals : List (List ℕ)) (next : ℕ) (ws : List Wish) → AllWant ws → next ≤ (all_named externals next ws).next
next_grows externals next [] h = omega arith
next_grows externals next (Keeps name ∷ ws) h = absurd h
next_grows externals next (Wants front ∷ ws) h =
    let a = found_behind (length externals) externals (numbered front) next in
    let b = next_grows externals (suc (number_for externals next front)) ws h in
    omega (arith, a, b)

wider : (name : List ℕ) (first other last : ℕ) → first ≤ other → Numbered name other last → Numbered name first last
wider name first other last h x = record { front = x.front; number = x.number; is = x.is; from = omega (arith, h, x.from); below = x.below }

each_numbered : (externals : List (List ℕ)) (next : ℕ) (ws : List Wish) (k : ℕ) (name : List ℕ) → AllWant ws → slice_get (all_named externals next ws).made k ≡ Some name →
    Numbered name next (all_named externals next ws).next
each_numbered externals next [] k name h e = cc
each_numbered externals next (Keeps other ∷ ws) k name h e = absurd h
each_numbered externals next (Wants front ∷ ws) zero name h e =
    let b = next_grows externals (suc (number_for externals next front)) ws h in
    record {
      front = front;
      number = number_for externals next front;
      is = some_is name (numbered front (number_for externals next front)) (sym e);
      from = found_behind (length externals) externals (numbered front) next;
      below = omega (arith, b);
    }
each_numbered externals next (Wants front ∷ ws) (suc k) name h e =
    let a = found_behind (length externals) externals (numbered front) next in
    wider name next (suc (number_for externals next front)) (all_named externals (suc (number_for externals next front)) ws).next (omega (arith, a))
    (each_numbered externals (suc (number_for externals next front)) ws k name h e)

none_some : (a : List ℕ) → None ≡ Some a → ⊥
none_some a e = cc

-- two names of the list are different
pub names_differ : (externals : List (List ℕ)) (next : ℕ) (ws : List Wish) (i j : ℕ) (a b : List ℕ) → AllWant ws → (all_named externals next ws).next ≤ 2 ^ 64 → i < j →
    slice_get (all_named externals next ws).made i ≡ Some a → slice_get (all_named externals next ws).made j ≡ Some b → a ≡ b → ⊥
names_differ externals next [] i j a b h small less e g same = absurd (none_some a e)
names_differ externals next (Keeps name ∷ ws) i j a b h small less e g same = absurd h
names_differ externals next (Wants front ∷ ws) i zero a b h small less e g same = absurd (omega (arith, less))
names_differ externals next (Wants front ∷ ws) zero (suc j) a b h small less e g same =
    let n = number_for externals next front in
    let x = each_numbered externals (suc n) ws j b h g in
    let grows = next_grows externals (suc n) ws h in
    let equal : n ≡ x.number = numbers_differ front x.front n x.number (omega (arith, grows, small)) (omega (arith, x.below, small))
    (sym (some_is a (numbered front n) (sym e)) ∙ same ∙ x.is) in
    absurd (omega (arith, equal, x.from))
names_differ externals next (Wants front ∷ ws) (suc i) (suc j) a b h small less e g same =
    names_differ externals (suc (number_for externals next front)) ws i j a b h small (omega (arith, less)) e g same
