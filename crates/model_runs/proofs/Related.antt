-- Parts of runs with a number of turns and with more: the second goes as the first, unless that wants a turn
-- and has none left.
use Rattle.std.proofs.Common.{◌≡◌, ◌⊎◌, ℕ, zero, suc, ◌+◌, ◌≤◌, ℤ, Bool, true, false, ◌&&◌, Option, Result, Ok, Err, if◌then◌else◌, refl, sym, ap, ◌∙◌, subst, inl, inr, arith}
use Rattle.cake_base.specs.declared.places.Place.{Place}
use Rattle.model_types.specs.declared.outcomes.Cause.{Cause}
use Rattle.model_runs.specs.Memory.{Memory, Value, Missing, Single, StructureValue, Scalar, Block}
use Rattle.model_types.specs.Shapes.{Shape}
use Rattle.model_runs.specs.Loads.{load}
use Rattle.model_runs.specs.Stores.{store}
use Rattle.model_runs.specs.Accesses.{loaded, load_from, is_structure, is_outside, remember, store_to, release, release_at}
use Rattle.model_runs.specs.Run.{Ending, Out, Leaves, State, Step, Goes, Ends, Act, ◌▷◌, follow, just, ends, unless_undefined, turn_of, take_turn, choose, used, scalar_of, Flow, Falls, Breaks, Continues, Gives, then_do, then_again, loop}

-- a state with more turns
abbrev pub plus : ℕ → State → State
plus j s = record s { turns = s.turns + j }

abbrev pub adds : {A : Type 0} → ℕ → Step A → Step A
adds j (Goes v s) = Goes v (plus j s)
adds j (Ends ending s) = Ends ending (plus j s)

abbrev pub state_of : {A : Type 0} → Step A → State
state_of (Goes v s) = s
state_of (Ends ending s) = s

-- the first wants a turn and has none; without more turns the second does so, too
pub record Late {A : Type 0} (j : ℕ) (l r : Step A) : Type 0 where
  pub state : State
  pub is_out : l ≡ Ends Out state
  pub same : j ≡ 0 → r ≡ l

-- the second is the first with more turns, of which none came up, or the first is late
abbrev pub Over : {A : Type 0} → (j turns : ℕ) → Step A → Step A → Type 0
Over j turns l r = ((r ≡ adds j l) × ((state_of l).turns ≤ turns)) ⊎ Late j l r

pub weaker : {A : Type 0} (j t u : ℕ) (l r : Step A) → t ≤ u → Over j t l r → Over j u l r
weaker j t u l r le (inl (e, bound)) = inl (e, omega (arith, le, bound))
weaker j t u l r le (inr late) = inr late

-- related parts, from states with at most so many turns
pub record Rel {A : Type 0} (j d : ℕ) (m n : Act A) : Type 0 where
  pub at : (s : State) → s.turns ≤ d → Over j s.turns (m s) (n (plus j s))

pub narrow : {A : Type 0} (j d e : ℕ) (m n : Act A) → e ≤ d → Rel j d m n → Rel j e m n
narrow j d e m n le related = record { at = λ s bound. related.at s (omega (arith, le, bound)) }

following : {A B : Type 0} (j d t : ℕ) (l r : Step A) (f g : A → Act B) → t ≤ d → Over j t l r → ((v : A) → Rel j d (f v) (g v)) → Over j t (follow l f) (follow r g)
following j d t (Goes v s) r f g le (inl (e, bound)) next =
    subst (λ x. Over j t (f v s) (follow x g)) (sym e) (weaker j s.turns t (f v s) (g v (plus j s)) bound ((next v).at s (omega (arith, le, bound))))
following j d t (Goes v s) r f g le (inr late) next = absurd (let h : Goes v s ≡ Ends Out late.state = late.is_out in cc)
following j d t (Ends ending s) r f g le (inl (e, bound)) next = inl (ap (λ x. follow x g) e, bound)
following j d t (Ends ending s) r f g le (inr late) next =
    inr (record { state = late.state; is_out = (let h : Ends ending s ≡ Ends Out late.state = late.is_out in ap (λ x. follow x f) h); same = λ none. ap (λ x. follow x g) (late.same none) })

pub then_related : {A B : Type 0} (j d : ℕ) (m n : Act A) (f g : A → Act B) → Rel j d m n → ((v : A) → Rel j d (f v) (g v)) → Rel j d (m ▷ f) (n ▷ g)
then_related j d m n f g first next = record { at = λ s le. following j d s.turns (m s) (n (plus j s)) f g le (first.at s le) next }

-- parts that don't look at turns

pub just_related : {A : Type 0} (j d : ℕ) (v : A) → Rel j d (just v) (just v)
just_related j d v = record { at = λ s le. inl (refl, omega arith) }

pub ends_related : {A : Type 0} (j d : ℕ) (ending : Ending) → Rel {A = A} j d (ends ending) (ends ending)
ends_related j d ending = record { at = λ s le. inl (refl, omega arith) }

pub unless_undefined_related : {A : Type 0} (j d : ℕ) (place : Option Place) (r : Result A Cause) → Rel j d (unless_undefined place r) (unless_undefined place r)
unless_undefined_related j d place (Ok v) = record { at = λ s le. inl (refl, omega arith) }
unless_undefined_related j d place (Err cause) = record { at = λ s le. inl (refl, omega arith) }

pub if_related : {A : Type 0} (j d : ℕ) (b : Bool) (m m' n n' : Act A) → Rel j d m m' → Rel j d n n' → Rel j d (if b then m else n) (if b then m' else n')
if_related j d true m m' n n' first second = first
if_related j d false m m' n n' first second = second

pub choose_related : {A : Type 0} (j d : ℕ) (b : Bool) (m m' n n' : Act A) → Rel j d m m' → Rel j d n n' → Rel j d (choose b m n) (choose b m' n')
choose_related j d true m m' n n' first second = first
choose_related j d false m m' n n' first second = second

pub used_related : (j d : ℕ) (place : Option Place) (v : Value) → Rel j d (used place v) (used place v)
used_related j d place Missing = record { at = λ s le. inl (refl, omega arith) }
used_related j d place (Single scalar) = record { at = λ s le. inl (refl, omega arith) }
used_related j d place (StructureValue cells) = record { at = λ s le. inl (refl, omega arith) }

pub scalar_related : (j d : ℕ) (place : Option Place) (v : Value) → Rel j d (scalar_of place v) (scalar_of place v)
scalar_related j d place Missing = record { at = λ s le. inl (refl, omega arith) }
scalar_related j d place (Single scalar) = record { at = λ s le. inl (refl, omega arith) }
scalar_related j d place (StructureValue cells) = record { at = λ s le. inl (refl, omega arith) }

loaded_related : (j : ℕ) (block : Block) (place : Option Place) (r : Result Value Cause) (s : State) → Over j s.turns (loaded block place r s) (loaded block place r (plus j s))
loaded_related j block place (Ok v) s = inl (refl, omega arith)
loaded_related j block place (Err cause) s = inl (refl, omega arith)

loaded_by : (j : ℕ) (b : Bool) (place : Option Place) (shape : Shape) (block : Block) (offset : ℤ) (s : State) → Over j s.turns ((if b then ends Leaves else (λ s. loaded block place (load s.memory shape block offset) s)) s) ((if b then ends Leaves else (λ s. loaded block place (load s.memory shape block offset) s)) (plus j s))
loaded_by j true place shape block offset s = inl (refl, omega arith)
loaded_by j false place shape block offset s = loaded_related j block place (load s.memory shape block offset) s

pub load_related : (j d : ℕ) (place : Option Place) (shape : Shape) (block : Block) (offset : ℤ) → Rel j d (load_from place shape block offset) (load_from place shape block offset)
load_related j d place shape block offset = record { at = λ s le. loaded_by j (is_outside block && is_structure shape) place shape block offset s }

remember_related : (j : ℕ) (place : Option Place) (r : Result Memory Cause) (s : State) → Over j s.turns (remember place r s) (remember place r (plus j s))
remember_related j place (Ok memory) s = inl (refl, omega arith)
remember_related j place (Err cause) s = inl (refl, omega arith)

stored_by : (j : ℕ) (b : Bool) (place : Option Place) (shape : Shape) (block : Block) (offset : ℤ) (v : Value) (s : State) → Over j s.turns ((if b then ends Leaves else (λ s. remember place (store s.memory shape block offset v) s)) s) ((if b then ends Leaves else (λ s. remember place (store s.memory shape block offset v) s)) (plus j s))
stored_by j true place shape block offset v s = inl (refl, omega arith)
stored_by j false place shape block offset v s = remember_related j place (store s.memory shape block offset v) s

pub store_related : (j d : ℕ) (place : Option Place) (shape : Shape) (block : Block) (offset : ℤ) (v : Value) → Rel j d (store_to place shape block offset v) (store_to place shape block offset v)
store_related j d place shape block offset v = record { at = λ s le. stored_by j (is_outside block) place shape block offset v s }

pub release_related : (j d : ℕ) (place : Option Place) (scalar : Scalar) → Rel j d (release_at place scalar) (release_at place scalar)
release_related j d place scalar = record { at = λ s le. remember_related j place (release s.memory scalar) s }

-- turns and loops

pub plus_none : (j : ℕ) (s : State) → j ≡ 0 → plus j s ≡ s
plus_none j s none = let e : s.turns + j ≡ s.turns = omega (arith, none) in ap (λ t. record s { turns = t }) e

turn_out : {A : Type 0} (n : ℕ) (s : State) (next : State → Step A) → n ≡ 0 → turn_of n s next ≡ Ends Out s
turn_out n s next none = subst (λ k. turn_of k s next ≡ Ends Out s) (sym none) refl

turn_more : {A : Type 0} (n m : ℕ) (s : State) (next : State → Step A) → n ≡ suc m → turn_of n s next ≡ next (record s { turns = m })
turn_more n m s next more = subst (λ k. turn_of k s next ≡ next (record s { turns = m })) (sym more) refl

abbrev begun : State → Step (Unit {0})
begun = Goes tt

turn_by : {A : Type 0} (j d : ℕ) (m n : Act A) → Rel j d m n → (t : ℕ) (s : State) → t ≤ suc d → Over j t (follow (turn_of t (record s { turns = t }) begun) (λ u. m)) (follow (turn_of (t + j) (record s { turns = t + j }) begun) (λ u. n))
turn_by j d m n related zero s le =
    inr (record {
      state = record s { turns = 0 };
      is_out = refl;
      same = λ none. (let e : 0 + j ≡ 0 = omega (arith, none) in
          ap (λ x. follow x (λ u. n)) (turn_out (0 + j) (record s { turns = 0 + j }) begun e) ∙ ap (λ k. Ends Out (record s { turns = k })) e);
    })
turn_by j d m n related (suc t) s le =
    let e : suc t + j ≡ suc (t + j) = omega arith in
    subst (λ x. Over j (suc t) (m (record s { turns = t })) (follow x (λ u. n))) (sym (turn_more (suc t + j) (t + j) (record s { turns = suc t + j }) begun e))
    (weaker j t (suc t) (m (record s { turns = t })) (n (record s { turns = t + j })) (omega arith) (related.at (record s { turns = t }) (omega (arith, le))))

-- behind a turn there is one less
pub turn_related : {A : Type 0} (j d : ℕ) (m n : Act A) → Rel j d m n → Rel j (suc d) (take_turn ▷ (λ u. m)) (take_turn ▷ (λ u. n))
turn_related j d m n related = record { at = λ s le. turn_by j d m n related s.turns s le }

-- where no turn is left, what wants one is late
pub late_related : {A : Type 0} (j : ℕ) (n : Act A) → ((s : State) → s.turns ≡ 0 → n s ≡ Ends Out s) → Rel j 0 (ends Out) n
late_related j n late = record { at = λ s le. inr (record { state = s; is_out = refl; same = λ none. (let e : (plus j s).turns ≡ 0 = omega (arith, le, none) in late (plus j s) e ∙ ap (Ends Out) (plus_none j s none)) }) }

pub turn_is_late : {A : Type 0} (m : Act A) (s : State) → s.turns ≡ 0 → (take_turn ▷ (λ u. m)) s ≡ Ends Out s
turn_is_late m s none = ap (λ x. follow x (λ u. m)) (turn_out s.turns s begun none)

pub then_do_related : (j d : ℕ) (flow : Flow) (m n : Act Flow) → Rel j d m n → Rel j d (then_do flow m) (then_do flow n)
then_do_related j d Falls m n related = related
then_do_related j d Breaks m n related = just_related j d Breaks
then_do_related j d Continues m n related = just_related j d Continues
then_do_related j d (Gives v) m n related = just_related j d (Gives v)

then_again_related : (j d : ℕ) (flow : Flow) (m n : Act Flow) → Rel j d m n → Rel j d (then_again flow m) (then_again flow n)
then_again_related j d Falls m n related = related
then_again_related j d Breaks m n related = just_related j d Falls
then_again_related j d Continues m n related = related
then_again_related j d (Gives v) m n related = just_related j d (Gives v)

pub loop_related : (j d b e : ℕ) (first first' others others' : Act Flow) → b ≤ e → b ≤ d → Rel j d first first' → Rel j d others others' → Rel j b (loop b first others) (loop e first' others')
loop_related j d zero zero first first' others others' be bd f o = late_related j (ends Out) (λ s none. refl)
loop_related j d zero (suc e) first first' others others' be bd f o = late_related j (loop (suc e) first' others') (turn_is_late (first' ▷ (λ flow. then_again flow (loop e others' others'))))
loop_related j d (suc b) zero first first' others others' be bd f o = absurd (omega (arith, be))
loop_related j d (suc b) (suc e) first first' others others' be bd f o =
    turn_related j b (first ▷ (λ flow. then_again flow (loop b others others))) (first' ▷ (λ flow. then_again flow (loop e others' others')))
    (then_related j b first first' (λ flow. then_again flow (loop b others others)) (λ flow. then_again flow (loop e others' others'))
    (narrow j d b first first' (omega (arith, bd)) f)
    (λ flow. then_again_related j b flow (loop b others others) (loop e others' others') (loop_related j d b e others others' others others' (omega (arith, be)) (omega (arith, bd)) o o)))
