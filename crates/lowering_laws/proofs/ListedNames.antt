-- Names of one list, some of which are kept: all of them are different where those that are kept are.
use Rattle.std.proofs.Common.{◌≡◌, ◌∙◌, ap, sym, refl, subst, arith, ℕ, zero, suc, ◌+◌, ◌<◌, ◌≤◌, ◌^◌, Bool, true, false, true≢false, List, [], ◌∷◌, ◌++◌, length, Option, Some, None, slice_get, ◌⊎◌, inl, inr}
use Rattle.std.specs.Prelude.{codes}
use Rattle.std.specs.Fmt.{decimal}
use Rattle.model_types.specs.ByteClasses.{is_digit, AllBytes}
use Rattle.model_c89.specs.Names89.{is_among}
use Rattle.model_c89.proofs.UniqueWords.{decimal_is_number}
use Rattle.model_lowering.specs.TextNames.{Wish, Keeps, Wants, numbered, made, free_from, all_named}
use Rattle.lowering_laws.specs.Wishes.{IsGood, AreGood, NotKept, KeptApart}
use Rattle.lowering_laws.proofs.FreeNumbers.{numbered_is_free}
use Rattle.lowering_laws.proofs.NumberedNames.{numbers_differ}
use Rattle.lowering_laws.proofs.DifferentNames.{found_behind}

-- ---- a name with a number isn't that of a string

abbrev tail_of : List ℕ → List ℕ
tail_of [] = []
tail_of (first ∷ others) = others

abbrev head_of : List ℕ → ℕ
head_of [] = 0
head_of (first ∷ others) = first

-- what stands behind a `_` that no other follows
no_mark : (front digits others : List ℕ) → AllBytes is_digit others → front ++ 95 ∷ digits ≡ others → ⊥
no_mark [] digits [] h e = absurd (omega (arith, ap length e))
no_mark [] digits (c ∷ cs) h e = true≢false (sym h.0 ∙ ap is_digit (sym (ap head_of e)))
no_mark (c ∷ front) digits [] h e = absurd (omega (arith, ap length e))
no_mark (c ∷ front) digits (d ∷ others) h e = no_mark front digits others h.1 (ap tail_of e)

no_made_by : (letter : ℕ) → is_digit letter ≡ false → (95 ≡ letter → ⊥) → (front digits others : List ℕ) → AllBytes is_digit digits → AllBytes is_digit others → front ++ 95 ∷ digits ≡ 95 ∷ letter ∷ others → ⊥
no_made_by letter other apart [] digits others h k e = true≢false (sym (subst (AllBytes is_digit) (ap tail_of e) h).0 ∙ other)
no_made_by letter other apart (c ∷ []) digits others h k e = apart (ap (λ x. head_of (tail_of x)) e)
no_made_by letter other apart (c ∷ d ∷ front) digits others h k e = no_mark front digits others k (ap (λ x. tail_of (tail_of x)) e)

step_back : (front digits others : List ℕ) (first : ℕ) → ((front : List ℕ) → front ++ 95 ∷ digits ≡ others → ⊥) → (first ≡ 95 → ⊥) → front ++ 95 ∷ digits ≡ first ∷ others → ⊥
step_back [] digits others first go apart e = apart (sym (ap head_of e))
step_back (c ∷ front) digits others first go apart e = go front (ap tail_of e)

pub no_made : (letter : ℕ) → is_digit letter ≡ false → (95 ≡ letter → ⊥) → (front digits others : List ℕ) → AllBytes is_digit digits → AllBytes is_digit others →
    front ++ 95 ∷ digits ≡ 99 ∷ 97 ∷ 107 ∷ 101 ∷ 95 ∷ letter ∷ others → ⊥
no_made letter other apart front digits others h k e =
    step_back front digits (97 ∷ 107 ∷ 101 ∷ 95 ∷ letter ∷ others) 99 (λ front e.
    step_back front digits (107 ∷ 101 ∷ 95 ∷ letter ∷ others) 97 (λ front e.
    step_back front digits (101 ∷ 95 ∷ letter ∷ others) 107 (λ front e.
    step_back front digits (95 ∷ letter ∷ others) 101 (λ front e. no_made_by letter other apart front digits others h k e) (λ e. absurd (omega (arith, e))) e)
    (λ e. absurd (omega (arith, e))) e) (λ e. absurd (omega (arith, e))) e) (λ e. absurd (omega (arith, e))) e

no_string : (front digits others : List ℕ) → AllBytes is_digit digits → AllBytes is_digit others → front ++ 95 ∷ digits ≡ codes "cake_s" ++ others → ⊥
no_string front digits others h k e = no_made 115 refl (λ same. absurd (omega (arith, same))) front digits others h k e

-- ---- what each name is

-- a name with a number from one on, below another, that isn't external
pub record NumberedFree (externals : List (List ℕ)) (name : List ℕ) (first last : ℕ) : Type 0 where
  pub front : List ℕ
  pub number : ℕ
  pub is : name ≡ numbered front number
  pub from : first ≤ number
  pub below : number < last
  pub free : is_among externals name ≡ false

abbrev pub IsEntry : (externals : List (List ℕ)) → Wish → (name : List ℕ) → (first last : ℕ) → Type 0
IsEntry externals (Keeps kept) name first last = name ≡ kept
IsEntry externals (Wants front) name first last = NumberedFree externals name first last

abbrev number_for : (externals : List (List ℕ)) → (next : ℕ) → (front : List ℕ) → ℕ
number_for externals next front = free_from externals (numbered front) next

pub ends_behind : (externals : List (List ℕ)) (next : ℕ) (ws : List Wish) → next ≤ (all_named externals next ws).next
ends_behind externals next [] = omega arith
ends_behind externals next (Keeps name ∷ ws) = ends_behind externals next ws
ends_behind externals next (Wants front ∷ ws) =
    let a = found_behind (length externals) externals (numbered front) next in
    let b = ends_behind externals (suc (number_for externals next front)) ws in
    omega (arith, a, b)

wider : (externals : List (List ℕ)) (w : Wish) (name : List ℕ) (first other last : ℕ) → first ≤ other → IsEntry externals w name other last → IsEntry externals w name first last
wider externals (Keeps kept) name first other last h x = x
wider externals (Wants front) name first other last h x =
    record { front = x.front; number = x.number; is = x.is; from = omega (arith, h, x.from); below = x.below; free = x.free }

some_is : (a b : List ℕ) → Some a ≡ Some b → a ≡ b
some_is a b e = cc

same_wish : (v w : Wish) → Some v ≡ Some w → v ≡ w
same_wish v w e = cc

no_wish : (w : Wish) → None ≡ Some w → ⊥
no_wish w e = cc

first_kept : (externals : List (List ℕ)) (kept name : List ℕ) (w : Wish) (first last : ℕ) → Keeps kept ≡ w → kept ≡ name → IsEntry externals w name first last
first_kept externals kept name w first last e g = subst (λ x. IsEntry externals x name first last) e (sym g)

first_numbered : (externals : List (List ℕ)) (front name : List ℕ) (w : Wish) (first last : ℕ) → Wants front ≡ w → NumberedFree externals name first last → IsEntry externals w name first last
first_numbered externals front name w first last e x = subst (λ y. IsEntry externals y name first last) e x

pub each_entry : (externals : List (List ℕ)) (next : ℕ) (ws : List Wish) (k : ℕ) (w : Wish) (name : List ℕ) → (all_named externals next ws).next + length externals < 2 ^ 64 →
    slice_get ws k ≡ Some w → slice_get (all_named externals next ws).made k ≡ Some name → IsEntry externals w name next (all_named externals next ws).next
each_entry externals next [] k w name small e g = absurd (no_wish w e)
each_entry externals next (Keeps kept ∷ ws) zero w name small e g =
    first_kept externals kept name w next (all_named externals next ws).next (same_wish (Keeps kept) w e) (some_is kept name g)
each_entry externals next (Keeps kept ∷ ws) (suc k) w name small e g = each_entry externals next ws k w name small e g
each_entry externals next (Wants front ∷ ws) zero w name small e g =
    let n = number_for externals next front in
    let last = (all_named externals (suc n) ws).next in
    let a = found_behind (length externals) externals (numbered front) next in
    let b = ends_behind externals (suc n) ws in
    let is : name ≡ numbered front n = sym (some_is (numbered front n) name g) in
    first_numbered externals front name w next last (same_wish (Wants front) w e) (record {
      front = front;
      number = n;
      is = is;
      from = a;
      below = omega (arith, b);
      free = ap (is_among externals) is ∙ numbered_is_free externals front next (omega (arith, a, b, small));
    })
each_entry externals next (Wants front ∷ ws) (suc k) w name small e g =
    let n = number_for externals next front in
    let a = found_behind (length externals) externals (numbered front) next in
    wider externals w name next (suc n) (all_named externals (suc n) ws).next (omega (arith, a))
    (each_entry externals (suc n) ws k w name small e g)

-- ---- two names

pub good_at : (externals : List (List ℕ)) (ws : List Wish) (k : ℕ) (w : Wish) → AreGood externals ws → slice_get ws k ≡ Some w → IsGood externals w
good_at externals [] k w h e = absurd (no_wish w e)
good_at externals (v ∷ ws) zero w h e = subst (IsGood externals) (same_wish v w e) h.0
good_at externals (v ∷ ws) (suc k) w h e = good_at externals ws k w h.1 e

kept_is : (x y : List ℕ) → Keeps x ≡ Keeps y → x ≡ y
kept_is x y e = cc

wanted_is_not : (front x : List ℕ) → Wants front ≡ Keeps x → ⊥
wanted_is_not front x e = cc

not_kept_at : (name : List ℕ) (ws : List Wish) (k : ℕ) (other : List ℕ) → NotKept name ws → slice_get ws k ≡ Some (Keeps other) → name ≡ other → ⊥
not_kept_at name [] k other h e same = no_wish (Keeps other) e
not_kept_at name (Wants front ∷ ws) zero other h e same = wanted_is_not front other (same_wish (Wants front) (Keeps other) e)
not_kept_at name (Wants front ∷ ws) (suc k) other h e same = not_kept_at name ws k other h e same
not_kept_at name (Keeps first ∷ ws) zero other h e same = h.0 (same ∙ sym (kept_is first other (same_wish (Keeps first) (Keeps other) e)))
not_kept_at name (Keeps first ∷ ws) (suc k) other h e same = not_kept_at name ws k other h.1 e same

-- one that is kept, and one with a number
kept_and_numbered : (externals : List (List ℕ)) (kept name : List ℕ) (first last : ℕ) → last < 2 ^ 64 → IsGood externals (Keeps kept) → NumberedFree externals name first last → kept ≡ name → ⊥
kept_and_numbered externals kept name first last small (inl among) x same = true≢false (sym among ∙ ap (is_among externals) same ∙ x.free)
kept_and_numbered externals kept name first last small (inr (n, below, string)) x same =
    no_string x.front (decimal x.number) (decimal n) (decimal_is_number x.number (omega (arith, x.below, small))).all (decimal_is_number n below).all
    (sym x.is ∙ sym same ∙ string)

kept_first : (externals : List (List ℕ)) (kept : List ℕ) (w : Wish) (name : List ℕ) (first last : ℕ) → last < 2 ^ 64 → IsGood externals (Keeps kept) → IsGood externals w →
    ((other : List ℕ) → w ≡ Keeps other → kept ≡ other → ⊥) → IsEntry externals w name first last → kept ≡ name → ⊥
kept_first externals kept (Keeps other) name first last small h k apart x same = apart other refl (same ∙ x)
kept_first externals kept (Wants front) name first last small h k apart x same = kept_and_numbered externals kept name first last small h x same

numbered_first : (externals : List (List ℕ)) (front : List ℕ) (n : ℕ) (a : List ℕ) (w : Wish) (name : List ℕ) (first last : ℕ) → last < 2 ^ 64 → n < first → first ≤ last → a ≡ numbered front n →
    is_among externals a ≡ false → IsGood externals w → IsEntry externals w name first last → a ≡ name → ⊥
numbered_first externals front n a (Keeps other) name first last small less up is free k x same =
    kept_and_numbered externals other a 0 last small k
    (record { front = front; number = n; is = is; from = omega arith; below = omega (arith, less, up); free = free }) (sym x ∙ sym same)
numbered_first externals front n a (Wants other) name first last small less up is free k x same =
    let equal : n ≡ x.number = numbers_differ front x.front n x.number (omega (arith, less, x.from, x.below, small)) (omega (arith, x.below, small)) (sym is ∙ same ∙ x.is) in
    absurd (omega (arith, equal, less, x.from))

pub record There (ws : List Wish) (k : ℕ) : Type 0 where
  pub wish : Wish
  pub there : slice_get ws k ≡ Some wish

nothing_there : (name : List ℕ) → None ≡ Some name → ⊥
nothing_there name e = cc

pub wish_there : (externals : List (List ℕ)) (next : ℕ) (ws : List Wish) (k : ℕ) (name : List ℕ) → slice_get (all_named externals next ws).made k ≡ Some name → There ws k
wish_there externals next [] k name e = absurd (nothing_there name e)
wish_there externals next (Keeps kept ∷ ws) zero name e = record { wish = Keeps kept; there = refl }
wish_there externals next (Wants front ∷ ws) zero name e = record { wish = Wants front; there = refl }
wish_there externals next (Keeps kept ∷ ws) (suc k) name e =
    let x = wish_there externals next ws k name e in record { wish = x.wish; there = x.there }
wish_there externals next (Wants front ∷ ws) (suc k) name e =
    let x = wish_there externals (suc (number_for externals next front)) ws k name e in record { wish = x.wish; there = x.there }

-- two names of the list are different
pub listed_differ : (externals : List (List ℕ)) (next : ℕ) (ws : List Wish) (i j : ℕ) (a b : List ℕ) → AreGood externals ws → KeptApart ws →
    (all_named externals next ws).next + length externals < 2 ^ 64 → i < j →
    slice_get (all_named externals next ws).made i ≡ Some a → slice_get (all_named externals next ws).made j ≡ Some b → a ≡ b → ⊥
listed_differ externals next [] i j a b good apart small less e g same = nothing_there a e
listed_differ externals next (Keeps kept ∷ ws) i zero a b good apart small less e g same = absurd (omega (arith, less))
listed_differ externals next (Wants front ∷ ws) i zero a b good apart small less e g same = absurd (omega (arith, less))
listed_differ externals next (Keeps kept ∷ ws) zero (suc j) a b good apart small less e g same =
    let x = wish_there externals next ws j b g in
    kept_first externals kept x.wish b next (all_named externals next ws).next (omega (arith, small)) good.0 (good_at externals ws j x.wish good.1 x.there)
    (λ other is. not_kept_at kept ws j other apart.0 (x.there ∙ ap (λ w. Some w) is))
    (each_entry externals next ws j x.wish b small x.there g) (some_is kept a e ∙ same)
listed_differ externals next (Wants front ∷ ws) zero (suc j) a b good apart small less e g same =
    let n = number_for externals next front in
    let x = wish_there externals (suc n) ws j b g in
    let behind = found_behind (length externals) externals (numbered front) next in
    let ends = ends_behind externals (suc n) ws in
    let is : a ≡ numbered front n = sym (some_is (numbered front n) a e) in
    numbered_first externals front n a x.wish b (suc n) (all_named externals (suc n) ws).next (omega (arith, small)) (omega arith) ends is
    (ap (is_among externals) is ∙ numbered_is_free externals front next (omega (arith, behind, ends, small)))
    (good_at externals ws j x.wish good.1 x.there) (each_entry externals (suc n) ws j x.wish b small x.there g) same
listed_differ externals next (Keeps kept ∷ ws) (suc i) (suc j) a b good apart small less e g same =
    listed_differ externals next ws i j a b good.1 apart.1 small (omega (arith, less)) e g same
listed_differ externals next (Wants front ∷ ws) (suc i) (suc j) a b good apart small less e g same =
    listed_differ externals (suc (number_for externals next front)) ws i j a b good.1 apart small (omega (arith, less)) e g same
