-- The rules by which replacement gives its answers, one for each case.
use Rattle.std.proofs.Common.{◌≡◌, ℕ, suc, ◌+◌, ◌<◌, ◌≤◌, true, false, nat_lt, max, List, [], ◌∷◌, ◌++◌, length, map, drop, Option, Some, None, Ok, Err, refl, ap, sym, ◌∙◌, arith, cond}
use Rattle.cake_base.specs.declared.places.Place.{Place}
use Rattle.cake_base.specs.declared.rules.Family.TheVariants.{P}
use Rattle.model_macros.specs.HideSets.{holds, with_rank, common}
use Rattle.model_macros.specs.Macros.{Macro, Macros, ranked}
use Rattle.model_macros.specs.MacroArguments.{Painted, Run, Inside, inside, placed, opens, arguments}
use Rattle.model_macros.specs.Substitution.{Argument, Use, unreplaced, written, with_replaced, variable_rank, uses, wanted, substituted}
use Rattle.model_macros.specs.Expansion.{Answer, Stop, broken, passed, MADE, too_many, after, keep, cost, Call, finish, fill, call_with, call, at_kind, at_macro, step, within, Expands, Fills}
use Rattle.model_macros.specs.apparatus.ExpansionSteps.{within-more, fill-up}

-- a rule that is broken, and a limit that is passed, as answers
abbrev pub breaks : Place → ℕ → ℕ → Answer
breaks place number made = Err (broken (record { place = place; rule = record { family = P; number = number } }), made)

abbrev pub passes : Place → ℕ → Answer
passes place made = Err (passed (record { place = place; limit = record { number = 4 } }), made)

abbrev pub with_front : Run → Answer → Answer
with_front front (Ok v) = Ok (front ++ v.0, v.1)
with_front front (Err e) = Err e

-- ---- a call whose arguments are replaced

pub Fills-unpasted : (table : Macros) (c : Call) (args : List Argument) (made : ℕ) → substituted table.files c.name c.hides c.def args ≡ None →
    Fills table c [] args made (breaks c.name.place 5 made)
Fills-unpasted table c args made h = record { steps = 0; gives = ap (λ o. finish (within table 0) c o made) h }

pub Fills-past : (table : Macros) (c : Call) (args : List Argument) (made : ℕ) (body : Run) → substituted table.files c.name c.hides c.def args ≡ Some body →
    MADE < made + max 1 (length body) → Fills table c [] args made (passes c.name.place made)
Fills-past table c args made body h past =
    let t : nat_lt MADE (made + cost body) ≡ true = grind arith in
    record {
      steps = 0;
      gives = ap (λ o. finish (within table 0) c o made) h
          ∙ ap (λ b. cond b (too_many c.name.place made) (within table 0 (body ++ c.rest) (made + cost body))) t;
    }

pub Fills-body : (table : Macros) (c : Call) (args : List Argument) (made : ℕ) (body : Run) (more : ℕ) (a : Answer) → substituted table.files c.name c.hides c.def args ≡ Some body →
    more ≡ made + max 1 (length body) → more ≤ MADE → Expands table (body ++ c.rest) more a → Fills table c [] args made a
Fills-body table c args made body more a h is fits x =
    let t : nat_lt MADE (made + cost body) ≡ false = grind arith in
    record {
      steps = x.steps;
      gives = ap (λ o. finish (within table x.steps) c o made) h
          ∙ ap (λ b. cond b (too_many c.name.place made) (within table x.steps (body ++ c.rest) (made + cost body))) t
          ∙ ap (λ m. within table x.steps (body ++ c.rest) m) (sym is) ∙ x.gives;
    }

-- ---- the arguments that it asks for

pub Fills-other : (table : Macros) (c : Call) (u : Use) (us : List Use) (args : List Argument) (made : ℕ) (a : Answer) → wanted args (variable_rank c.def) u ≡ false →
    Fills table c us args made a → Fills table c (u ∷ us) args made a
Fills-other table c u us args made a h x = record {
  steps = x.steps;
  gives = ap (λ t. cond t (after (within table x.steps (written args u.rank) made) (λ v m. fill table (within table x.steps) c us (with_replaced args u.rank v) m)) (fill table (within table x.steps) c us args made)) h ∙ x.gives;
}

pub Fills-stopped : (table : Macros) (c : Call) (u : Use) (us : List Use) (args : List Argument) (made : ℕ) (e : Stop × ℕ) → wanted args (variable_rank c.def) u ≡ true →
    Expands table (written args u.rank) made (Err e) → Fills table c (u ∷ us) args made (Err e)
Fills-stopped table c u us args made e h x = record {
  steps = x.steps;
  gives = ap (λ t. cond t (after (within table x.steps (written args u.rank) made) (λ v m. fill table (within table x.steps) c us (with_replaced args u.rank v) m)) (fill table (within table x.steps) c us args made)) h
      ∙ ap (λ o. after o (λ v m. fill table (within table x.steps) c us (with_replaced args u.rank v) m)) x.gives;
}

pub Fills-next : (table : Macros) (c : Call) (u : Use) (us : List Use) (args : List Argument) (made : ℕ) (v : Run) (m : ℕ) (a : Answer) → wanted args (variable_rank c.def) u ≡ true →
    Expands table (written args u.rank) made (Ok (v, m)) → Fills table c us (with_replaced args u.rank v) m a → Fills table c (u ∷ us) args made a
Fills-next table c u us args made v m a h x y =
    let k = y.steps + x.steps in
    let e : y.steps + x.steps ≡ x.steps + y.steps = omega arith in
    let one : within table k (written args u.rank) made ≡ Some (Ok (v, m)) = (within-more table x.steps y.steps).up (written args u.rank) made (Ok (v, m)) x.gives in
    let two : fill table (within table k) c us (with_replaced args u.rank v) m ≡ Some a =
    rw e (fill-up table (within table y.steps) (within table (x.steps + y.steps)) (within-more table y.steps x.steps) c us (with_replaced args u.rank v) m a y.gives) in
    record {
      steps = k;
      gives = ap (λ t. cond t (after (within table k (written args u.rank) made) (λ v m. fill table (within table k) c us (with_replaced args u.rank v) m)) (fill table (within table k) c us args made)) h
          ∙ ap (λ o. after o (λ v m. fill table (within table k) c us (with_replaced args u.rank v) m)) one ∙ two;
    }

-- ---- a token

pub Expands-nil : (table : Macros) (made : ℕ) → Expands table [] made (Ok ([], made))
unfolding within step
Expands-nil table made = record { steps = 1; gives = refl }

by_macro : (table : Macros) (p : Painted) (ps : Run) (made k : ℕ) (a : Answer) → at_macro table (within table k) p (ranked p.tok.spelling table.entries) ps made ≡ Some a → Expands table (p ∷ ps) made a
unfolding within step
by_macro table p ps made k a h = record { steps = suc k; gives = h }

keeps : (table : Macros) (p : Painted) (ps : Run) (made : ℕ) (a : Answer) (x : Expands table ps made a) → keep (within table x.steps) p ps made ≡ Some (with_front (p ∷ []) a)
keeps table p ps made (Ok v) x = rw x.gives refl
keeps table p ps made (Err e) x = rw x.gives refl

-- a token that stays
pub record Stays (table : Macros) (p : Painted) (ps : Run) : Type 0 where
  pub stays : (made : ℕ) (a : Answer) → Expands table ps made a → Expands table (p ∷ ps) made (with_front (p ∷ []) a)

pub Stays-unknown : (table : Macros) (p : Painted) (ps : Run) → ranked p.tok.spelling table.entries ≡ None → Stays table p ps
Stays-unknown table p ps unknown = record {
  stays = λ made a x.
      by_macro table p ps made x.steps _ (ap (λ o. at_macro table (within table x.steps) p o ps made) unknown ∙ keeps table p ps made a x);
}

pub Stays-hidden : (table : Macros) (p : Painted) (ps : Run) (n : ℕ) (m : Macro) → ranked p.tok.spelling table.entries ≡ Some (n, m) → holds n p.hides ≡ true → Stays table p ps
Stays-hidden table p ps n m known hidden = record {
  stays = λ made a x.
      by_macro table p ps made x.steps _ (ap (λ o. at_macro table (within table x.steps) p o ps made) known
      ∙ ap (λ t. cond t (keep (within table x.steps) p ps made) (at_kind table (within table x.steps) p n m m.params ps made)) hidden ∙ keeps table p ps made a x);
}

-- a macro that isn't hidden
by_kind : (table : Macros) (p : Painted) (ps : Run) (made n : ℕ) (m : Macro) (o : Option (List (List ℕ))) (k : ℕ) (a : Answer) → ranked p.tok.spelling table.entries ≡ Some (n, m) → holds n p.hides ≡ false → m.params ≡ o →
    at_kind table (within table k) p n m o ps made ≡ Some a → Expands table (p ∷ ps) made a
by_kind table p ps made n m o k a known shown kind h =
    by_macro table p ps made k a (ap (λ r. at_macro table (within table k) p r ps made) known
    ∙ ap (λ t. cond t (keep (within table k) p ps made) (at_kind table (within table k) p n m m.params ps made)) shown
    ∙ ap (λ q. at_kind table (within table k) p n m q ps made) kind ∙ h)

pub Stays-alone : (table : Macros) (p : Painted) (ps : Run) (n : ℕ) (m : Macro) (names : List (List ℕ)) → ranked p.tok.spelling table.entries ≡ Some (n, m) → holds n p.hides ≡ false → m.params ≡ Some names →
    opens ps ≡ false → Stays table p ps
Stays-alone table p ps n m names known shown kind alone = record {
  stays = λ made a x.
      by_kind table p ps made n m (Some names) x.steps _ known shown kind
      (ap (λ t. cond t (call table (within table x.steps) p n m (placed p.tok.place (inside 0 (drop 1 ps))) made) (keep (within table x.steps) p ps made)) alone ∙ keeps table p ps made a x);
}

-- the call that a macro without parameters is
abbrev pub object_call : Painted → ℕ → Macro → Run → Call
object_call p n m ps = record { name = p.tok; hides = with_rank p.hides n; def = m; rest = ps }

pub Expands-object : (table : Macros) (p : Painted) (ps : Run) (made n : ℕ) (m : Macro) (a : Answer) → ranked p.tok.spelling table.entries ≡ Some (n, m) → holds n p.hides ≡ false → m.params ≡ None →
    Fills table (object_call p n m ps) [] [] made a → Expands table (p ∷ ps) made a
Expands-object table p ps made n m a known shown kind x = by_kind table p ps made n m None x.steps a known shown kind x.gives

by_call : (table : Macros) (p : Painted) (ps : Run) (made n : ℕ) (m : Macro) (names : List (List ℕ)) (k : ℕ) (a : Answer) → ranked p.tok.spelling table.entries ≡ Some (n, m) → holds n p.hides ≡ false → m.params ≡ Some names → opens ps ≡ true →
    call table (within table k) p n m (placed p.tok.place (inside 0 (drop 1 ps))) made ≡ Some a → Expands table (p ∷ ps) made a
by_call table p ps made n m names k a known shown kind opened h =
    by_kind table p ps made n m (Some names) k a known shown kind
    (ap (λ t. cond t (call table (within table k) p n m (placed p.tok.place (inside 0 (drop 1 ps))) made) (keep (within table k) p ps made)) opened ∙ h)

pub Expands-open : (table : Macros) (p : Painted) (ps : Run) (made n : ℕ) (m : Macro) (names : List (List ℕ)) → ranked p.tok.spelling table.entries ≡ Some (n, m) → holds n p.hides ≡ false → m.params ≡ Some names → opens ps ≡ true →
    placed p.tok.place (inside 0 (drop 1 ps)) ≡ None → Expands table (p ∷ ps) made (breaks p.tok.place 7 made)
Expands-open table p ps made n m names known shown kind opened h =
    by_call table p ps made n m names 0 _ known shown kind opened (ap (λ o. call table (within table 0) p n m o made) h)

-- the call that a name and its parenthesized arguments are
abbrev pub function_call : Painted → ℕ → Macro → Inside → Call
function_call p n m i = record { name = p.tok; hides = with_rank (common p.hides i.close.hides) n; def = m; rest = i.rest }

pub Expands-count : (table : Macros) (p : Painted) (ps : Run) (made n : ℕ) (m : Macro) (names : List (List ℕ)) (i : Inside) → ranked p.tok.spelling table.entries ≡ Some (n, m) → holds n p.hides ≡ false → m.params ≡ Some names → opens ps ≡ true →
    placed p.tok.place (inside 0 (drop 1 ps)) ≡ Some i → arguments m i.tokens ≡ None → Expands table (p ∷ ps) made (breaks p.tok.place 6 made)
Expands-count table p ps made n m names i known shown kind opened h bad =
    by_call table p ps made n m names 0 _ known shown kind opened (ap (λ o. call table (within table 0) p n m o made) h
    ∙ ap (λ o. call_with table (within table 0) (function_call p n m i) o made) bad)

pub Expands-call : (table : Macros) (p : Painted) (ps : Run) (made n : ℕ) (m : Macro) (names : List (List ℕ)) (i : Inside) (runs : List Run) (a : Answer) → ranked p.tok.spelling table.entries ≡ Some (n, m) → holds n p.hides ≡ false → m.params ≡ Some names → opens ps ≡ true →
    placed p.tok.place (inside 0 (drop 1 ps)) ≡ Some i → arguments m i.tokens ≡ Some runs → Fills table (function_call p n m i) (uses m) (map unreplaced runs) made a → Expands table (p ∷ ps) made a
Expands-call table p ps made n m names i runs a known shown kind opened h good x =
    by_call table p ps made n m names x.steps a known shown kind opened (ap (λ o. call table (within table x.steps) p n m o made) h
    ∙ ap (λ o. call_with table (within table x.steps) (function_call p n m i) o made) good ∙ x.gives)
