-- Replacement gives one answer: more steps answer the same.
use Rattle.std.proofs.Common.{◌≡◌, ℕ, zero, suc, ◌+◌, true, false, nat_lt, List, [], ◌∷◌, ◌++◌, map, drop, Option, Some, None, Ok, Err, refl, arith, cond}
use Rattle.model_macros.specs.HideSets.{holds, with_rank, common}
use Rattle.model_macros.specs.Macros.{Macro, Macros, ranked}
use Rattle.model_macros.specs.MacroArguments.{Painted, Run, Inside, inside, placed, opens, arguments}
use Rattle.model_macros.specs.Substitution.{Argument, Use, unreplaced, written, with_replaced, variable_rank, uses, wanted, substituted}
use Rattle.model_macros.specs.Expansion.{Answer, Rest, MADE, too_many, after, keep, cost, Call, replace, finish, fill, call_with, call, at_kind, at_macro, step, within, Expands}

-- g answers at least what f answers
pub record Below (f g : Rest) : Type 0 where
  pub up : (run : Run) (made : ℕ) (a : Answer) → f run made ≡ Some a → g run made ≡ Some a

-- a chain that answered: its first part did
after-up : (o p : Option Answer) (f g : Run → ℕ → Option Answer) (b : Answer) →
    ((a : Answer) → o ≡ Some a → p ≡ Some a) → ((v : Run) (m : ℕ) → f v m ≡ Some b → g v m ≡ Some b) →
    after o f ≡ Some b → after p g ≡ Some b
after-up None p f g b first second h = cc
after-up (Some (Ok v)) p f g b first second h = rw (first (Ok v) refl) (second v.0 v.1 h)
after-up (Some (Err e)) p f g b first second h = rw (first (Err e) refl) h

keep-up : (f g : Rest) → Below f g → (p : Painted) (ps : Run) (made : ℕ) (a : Answer) → keep f p ps made ≡ Some a → keep g p ps made ≡ Some a
keep-up f g up p ps made a h = after-up (f ps made) (g ps made) (λ v m. Some (Ok (p ∷ v, m))) (λ v m. Some (Ok (p ∷ v, m))) a (up.up ps made) (λ v m e. e) h

replace-up : (f g : Rest) → Below f g → (c : Call) (body : Run) (made : ℕ) (a : Answer) → replace f c body made ≡ Some a → replace g c body made ≡ Some a
replace-up f g up c body made a =
    elim (nat_lt MADE (made + cost body)) as (λ t. cond t (too_many c.name.place made) (f (body ++ c.rest) (made + cost body)) ≡ Some a
    → cond t (too_many c.name.place made) (g (body ++ c.rest) (made + cost body)) ≡ Some a) [
      | true ↦ λ h. h
      | false ↦ λ h. up.up (body ++ c.rest) (made + cost body) a h
    ]

finish-up : (f g : Rest) → Below f g → (c : Call) (o : Option Run) (made : ℕ) (a : Answer) → finish f c o made ≡ Some a → finish g c o made ≡ Some a
finish-up f g up c None made a h = h
finish-up f g up c (Some body) made a h = replace-up f g up c body made a h

pub fill-up : (table : Macros) (f g : Rest) → Below f g → (c : Call) (us : List Use) (args : List Argument) (made : ℕ) (a : Answer) →
    fill table f c us args made ≡ Some a → fill table g c us args made ≡ Some a
fill-up table f g up c [] args made a = finish-up f g up c (substituted table.files c.name c.hides c.def args) made a
fill-up table f g up c (u ∷ us) args made a =
    elim (wanted args (variable_rank c.def) u) as (λ t.
    cond t (after (f (written args u.rank) made) (λ v m. fill table f c us (with_replaced args u.rank v) m)) (fill table f c us args made) ≡ Some a
    → cond t (after (g (written args u.rank) made) (λ v m. fill table g c us (with_replaced args u.rank v) m)) (fill table g c us args made) ≡ Some a) [
      | true ↦ λ h. after-up (f (written args u.rank) made) (g (written args u.rank) made) _ _ a (up.up (written args u.rank) made)
          (λ v m e. fill-up table f g up c us (with_replaced args u.rank v) m a e) h
      | false ↦ λ h. fill-up table f g up c us args made a h
    ]

call_with-up : (table : Macros) (f g : Rest) → Below f g → (c : Call) (o : Option (List Run)) (made : ℕ) (a : Answer) →
    call_with table f c o made ≡ Some a → call_with table g c o made ≡ Some a
call_with-up table f g up c None made a h = h
call_with-up table f g up c (Some runs) made a h = fill-up table f g up c (uses c.def) (map unreplaced runs) made a h

call-up : (table : Macros) (f g : Rest) → Below f g → (p : Painted) (n : ℕ) (m : Macro) (o : Option Inside) (made : ℕ) (a : Answer) →
    call table f p n m o made ≡ Some a → call table g p n m o made ≡ Some a
call-up table f g up p n m None made a h = h
call-up table f g up p n m (Some i) made a h = call_with-up table f g up (record { name = p.tok; hides = with_rank (common p.hides i.close.hides) n; def = m; rest = i.rest }) (arguments m i.tokens) made a h

at_kind-up : (table : Macros) (f g : Rest) → Below f g → (p : Painted) (n : ℕ) (m : Macro) (o : Option (List (List ℕ))) (ps : Run) (made : ℕ) (a : Answer) →
    at_kind table f p n m o ps made ≡ Some a → at_kind table g p n m o ps made ≡ Some a
at_kind-up table f g up p n m None ps made a = fill-up table f g up (record { name = p.tok; hides = with_rank p.hides n; def = m; rest = ps }) [] [] made a
at_kind-up table f g up p n m (Some names) ps made a =
    elim (opens ps) as (λ t. cond t (call table f p n m (placed p.tok.place (inside 0 (drop 1 ps))) made) (keep f p ps made) ≡ Some a
    → cond t (call table g p n m (placed p.tok.place (inside 0 (drop 1 ps))) made) (keep g p ps made) ≡ Some a) [
      | true ↦ call-up table f g up p n m (placed p.tok.place (inside 0 (drop 1 ps))) made a
      | false ↦ keep-up f g up p ps made a
    ]

at_macro-up : (table : Macros) (f g : Rest) → Below f g → (p : Painted) (o : Option (ℕ × Macro)) (ps : Run) (made : ℕ) (a : Answer) →
    at_macro table f p o ps made ≡ Some a → at_macro table g p o ps made ≡ Some a
at_macro-up table f g up p None ps made a = keep-up f g up p ps made a
at_macro-up table f g up p (Some r) ps made a =
    elim (holds r.0 p.hides) as (λ t. cond t (keep f p ps made) (at_kind table f p r.0 r.1 r.1.params ps made) ≡ Some a
    → cond t (keep g p ps made) (at_kind table g p r.0 r.1 r.1.params ps made) ≡ Some a) [
      | true ↦ keep-up f g up p ps made a
      | false ↦ at_kind-up table f g up p r.0 r.1 r.1.params ps made a
    ]

step-up : (table : Macros) (f g : Rest) → Below f g → (run : Run) (made : ℕ) (a : Answer) → step table f run made ≡ Some a → step table g run made ≡ Some a
unfolding step
step-up table f g up [] made a h = h
step-up table f g up (p ∷ ps) made a h = at_macro-up table f g up p (ranked p.tok.spelling table.entries) ps made a h

-- one more step answers the same
within-next : (table : Macros) (n : ℕ) → Below (within table n) (within table (suc n))
unfolding within
within-next table zero = record { up = λ run made a h. cc }
within-next table (suc n) = record { up = step-up table (within table n) (within table (suc n)) (within-next table n) }

pub within-more : (table : Macros) (n k : ℕ) → Below (within table n) (within table (k + n))
within-more table n zero = record { up = λ run made a h. let e : 0 + n ≡ n = omega arith in rw e h }
within-more table n (suc k) = record {
  up = λ run made a h.
      let e : suc k + n ≡ suc (k + n) = omega arith in
      rw e ((within-next table (k + n)).up run made a ((within-more table n k).up run made a h));
}

-- replacement gives one answer
pub Expands-unique : (table : Macros) (run : Run) (made : ℕ) (a b : Answer) → Expands table run made a → Expands table run made b → a ≡ b
Expands-unique table run made a b x y =
    let one = (within-more table x.steps y.steps).up run made a x.gives in
    let two = (within-more table y.steps x.steps).up run made b y.gives in
    let e : y.steps + x.steps ≡ x.steps + y.steps = omega arith in
    let two' : within table (y.steps + x.steps) run made ≡ Some b = rw e two in
    cc
