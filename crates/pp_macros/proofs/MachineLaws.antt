-- The steps of a replacement.
use Rattle.std.proofs.Common.{◌≡◌, ℕ, zero, suc, ◌+◌, ◌≤◌, Bool, true, false, not, ◌&&◌, ◌||◌, max, List, [], ◌∷◌, ◌++◌, length, map, Option, Some, None, Ok, Err, refl, ap, subst, sym, ◌∙◌, arith, cond, append_assoc, append-nil, slice_get, slice_set}
use Rattle.model_macros.specs.Macros.{Macros}
use Rattle.model_macros.specs.MacroArguments.{Painted, Run}
use Rattle.model_macros.specs.Substitution.{Argument, Use, unreplaced, written, with_run, with_replaced, variable_rank, wanted, waits, is_unreplaced, varies, substituted}
use Rattle.model_macros.specs.Expansion.{Answer, Stop, MADE, Call, Expands, Fills}
use Rattle.model_macros.specs.apparatus.ExpansionRules.{with_front, Fills-body, Fills-other, Fills-stopped, Fills-next, Expands-nil, Stays}
use Rattle.model_macros.specs.apparatus.ExpansionTotal.{weight}
use Rattle.pp_macros.specs.Machine.{Waiting, from_wanted, Ends, Gives, GoesOn, argument_weight, arguments_weight}

-- ---- answers

pub with_front-twice : (xs ys : Run) (a : Answer) → with_front xs (with_front ys a) ≡ with_front (xs ++ ys) a
with_front-twice xs ys (Ok v) = ap (λ (z : Run). let r : Answer = Ok (z, v.1) in r) (sym (append_assoc xs ys v.0))
with_front-twice xs ys (Err e) = refl

pub with_front-nil : (a : Answer) → with_front [] a ≡ a
with_front-nil (Ok v) = refl
with_front-nil (Err e) = refl

pub Ends-stopped : (table : Macros) (fs : List Waiting) (e : Stop × ℕ) → Ends table fs (Err e) (Err e)
Ends-stopped table [] e = refl
Ends-stopped table (f ∷ fs) e = refl

-- ---- uses

pub Fills-from_wanted : (table : Macros) (c : Call) (us : List Use) (args : List Argument) (made : ℕ) (a : Answer) →
    Fills table c (from_wanted args (variable_rank c.def) us) args made a → Fills table c us args made a
Fills-from_wanted table c [] args made a = λ x. x
Fills-from_wanted table c (u ∷ us) args made a =
    elim (wanted args (variable_rank c.def) u) as (λ b. wanted args (variable_rank c.def) u ≡ b → Fills table c (cond b (u ∷ us) (from_wanted args (variable_rank c.def) us)) args made a → Fills table c (u ∷ us) args made a) [
      | true ↦ λ h x. x
      | false ↦ λ h x. Fills-other table c u us args made a h (Fills-from_wanted table c us args made a x)
    ] refl

pub wanted-first : (args : List Argument) (last : ℕ) (us : List Use) (u : Use) (rest : List Use) → from_wanted args last us ≡ u ∷ rest → wanted args last u ≡ true
wanted-first args last [] u rest = λ h. cc
wanted-first args last (x ∷ xs) u rest =
    elim (wanted args last x) as (λ b. wanted args last x ≡ b → cond b (x ∷ xs) (from_wanted args last xs) ≡ u ∷ rest → wanted args last u ≡ true) [
      | true ↦ λ h e. let q : x ≡ u = cc in ap (wanted args last) (sym q) ∙ h
      | false ↦ λ h e. wanted-first args last xs u rest e
    ] refl

-- ---- arguments

twice_set : (args : List Argument) (k : ℕ) (a b : Argument) → slice_set (slice_set args k a) k b ≡ slice_set args k b
twice_set [] k a b = refl
twice_set (x ∷ xs) zero a b = refl
twice_set (x ∷ xs) (suc k) a b = ap (λ z. x ∷ z) (twice_set xs k a b)

set_nothing : (args : List Argument) (k : ℕ) (a b : Argument) → slice_get args k ≡ None → slice_set args k a ≡ slice_set args k b
set_nothing [] k a b h = refl
set_nothing (x ∷ xs) zero a b h = cc
set_nothing (x ∷ xs) (suc k) a b h = ap (λ z. x ∷ z) (set_nothing xs k a b h)

get_set : (args : List Argument) (k : ℕ) (a : Argument) (x : Argument) → slice_get args k ≡ Some x → slice_get (slice_set args k a) k ≡ Some a
get_set [] k a x h = cc
get_set (y ∷ ys) zero a x h = refl
get_set (y ∷ ys) (suc k) a x h = get_set ys k a x h

pub replaced_twice : (args : List Argument) (k : ℕ) (v w : Run) → with_replaced (with_replaced args k v) k w ≡ with_replaced args k w
replaced_twice args k v w =
    elim (slice_get args k) as (λ o. slice_get args k ≡ o → slice_set (slice_set args k (with_run v (slice_get args k))) k (with_run w (slice_get (slice_set args k (with_run v (slice_get args k))) k)) ≡ slice_set args k (with_run w (slice_get args k))) [
      | None ↦ λ h. twice_set args k _ _ ∙ set_nothing args k _ _ h
      | Some x ↦ λ h. twice_set args k _ _
          ∙ ap (λ o. slice_set args k (with_run w o)) (get_set args k (with_run v (slice_get args k)) x h)
          ∙ ap (λ (r : Run). slice_set args k (record { written = r; replaced = Some w })) (refl)
    ] refl

pub lighter : (args : List Argument) (k : ℕ) (v : Run) → arguments_weight (with_replaced args k v) ≤ arguments_weight args
lighter [] k v = omega arith
lighter (a ∷ rest) zero v = omega arith
lighter (a ∷ rest) (suc k) v = let ih = lighter rest k v in omega (arith, ih)

waits-weight : (r : Run) (o : Option Run) → waits o ≡ true → argument_weight (record { written = r; replaced = o }) ≡ 1 + length r
waits-weight r o h = ap (λ b. cond b (1 + length r) 0) h

pub lighter_by : (args : List Argument) (k : ℕ) (v : Run) → is_unreplaced (slice_get args k) ≡ true → arguments_weight (with_replaced args k v) + 1 + length (written args k) ≡ arguments_weight args
lighter_by [] k v h = cc
lighter_by (a ∷ rest) zero v h = let e = waits-weight a.written a.replaced h in omega (arith, e)
lighter_by (a ∷ rest) (suc k) v h = let ih = lighter_by rest k v h in omega (arith, ih)

and-first : (a b : Bool) → (a && b) ≡ true → a ≡ true
and-first true b h = refl
and-first false b h = h

pub wanted-unreplaced : (args : List Argument) (last : ℕ) (u : Use) → wanted args last u ≡ true → is_unreplaced (slice_get args u.rank) ≡ true
wanted-unreplaced args last u h = and-first (is_unreplaced (slice_get args u.rank)) (not u.optional || varies args last) h

pub unreplaced-weight : (runs : List Run) → arguments_weight (map unreplaced runs) ≡ weight runs
unreplaced-weight [] = refl
unreplaced-weight (r ∷ rs) = let ih = unreplaced-weight rs in omega (arith, ih)

-- ---- a call goes on

-- the call that waits for its next argument
abbrev pub asking : Waiting → Use → List Use → Waiting
asking f u us = record f { uses = us; args = with_replaced f.args u.rank []; rank = u.rank }

pub asks : (table : Macros) (f : Waiting) (fs : List Waiting) (u : Use) (us : List Use) (made : ℕ) (a : Answer) →
    from_wanted f.args (variable_rank f.call.def) f.uses ≡ u ∷ us → Gives table (asking f u us ∷ fs) (written f.args u.rank) [] made a → GoesOn table f fs made a
asks table f fs u us made a h g =
    let w = wanted-first f.args (variable_rank f.call.def) f.uses u us h in
    let lift : (c : Answer) → Fills table f.call (u ∷ us) f.args made c → Fills table f.call f.uses f.args made c =
    λ c x. Fills-from_wanted table f.call f.uses f.args made c (subst (λ (z : List Use). Fills table f.call z f.args made c) (sym h) x) in
    elim g.inner as (λ b. Expands table (written f.args u.rank) made b → Ends table (asking f u us ∷ fs) (with_front [] b) a → GoesOn table f fs made a) [
      | Err e ↦ λ x y. record { inner = Err e; fills = lift (Err e) (Fills-stopped table f.call u us f.args made e w x); ends = subst (λ (z : Answer). Ends table fs (Err e) z) (sym y) (Ends-stopped table fs e) }
      | Ok v ↦ λ x y. record {
        inner = y.0;
        fills = lift y.0 (Fills-next table f.call u us f.args made v.0 v.1 y.0 w x (subst (λ (z : List Argument). Fills table f.call us z v.1 y.0) (replaced_twice f.args u.rank [] v.0) y.1));
        ends = y.2;
      }
    ] g.expands g.ends

pub goes_body : (table : Macros) (f : Waiting) (fs : List Waiting) (made : ℕ) (body : Run) (more : ℕ) (a : Answer) →
    from_wanted f.args (variable_rank f.call.def) f.uses ≡ [] → substituted table.files f.call.name f.call.hides f.call.def f.args ≡ Some body → more ≡ made + max 1 (length body) → more ≤ MADE →
    Gives table fs (body ++ f.call.rest) f.out more a → GoesOn table f fs made a
goes_body table f fs made body more a none is count fits g = record {
  inner = g.inner;
  fills = Fills-from_wanted table f.call f.uses f.args made g.inner (subst (λ (z : List Use). Fills table f.call z f.args made g.inner) (sym none) (Fills-body table f.call f.args made body more g.inner is count fits g.expands));
  ends = g.ends;
}

pub goes_stopped : (table : Macros) (f : Waiting) (fs : List Waiting) (made : ℕ) (e : Stop × ℕ) → from_wanted f.args (variable_rank f.call.def) f.uses ≡ [] → Fills table f.call [] f.args made (Err e) → GoesOn table f fs made (Err e)
goes_stopped table f fs made e none x = record {
  inner = Err e;
  fills = Fills-from_wanted table f.call f.uses f.args made (Err e) (subst (λ (z : List Use). Fills table f.call z f.args made (Err e)) (sym none) x);
  ends = Ends-stopped table fs e;
}

-- ---- a list is worked through

pub kept : (table : Macros) (fs : List Waiting) (p : Painted) (ps out all : Run) (made : ℕ) (a : Answer) → Stays table p ps → all ≡ out ++ p ∷ [] → Gives table fs ps all made a → Gives table fs (p ∷ ps) out made a
kept table fs p ps out all made a s is g = record {
  inner = with_front (p ∷ []) g.inner;
  expands = s.stays made g.inner g.expands;
  ends = subst (λ (z : Answer). Ends table fs z a) (ap (λ (z : Run). with_front z g.inner) is ∙ sym (with_front-twice out (p ∷ []) g.inner)) g.ends;
}

-- the innermost list is done
pub resumed : (table : Macros) (f : Waiting) (fs : List Waiting) (out : Run) (made : ℕ) (a : Answer) →
    GoesOn table (record f { args = with_replaced f.args f.rank out }) fs made a → Gives table (f ∷ fs) [] out made a
resumed table f fs out made a g = record {
  inner = Ok ([], made);
  expands = Expands-nil table made;
  ends = (g.inner, subst (λ (z : Run). Fills table f.call f.uses (with_replaced f.args f.rank z) made g.inner) (sym (append-nil out)) g.fills, g.ends);
}

pub all_done : (table : Macros) (out : Run) (made : ℕ) → Gives table [] [] out made (Ok (out, made))
all_done table out made = record { inner = Ok ([], made); expands = Expands-nil table made; ends = ap (λ (z : Run). let r : Answer = Ok (z, made) in r) (sym (append-nil out)) }
