-- What an action gives, rule by rule, and what is computed of it.
use Rattle.std.proofs.Common.{◌≡◌, ◌≢◌, ℕ, Bool, true, false, Option, Some, None, refl, sym, ap, ◌∙◌, subst, ◌⊎◌, inl, inr, ⊎_elim, ◌<◌}
use Rattle.std.specs.Prelude.{◌==◌, ◌&&◌, not, if◌then◌else◌, IfSome}
use Rattle.std.proofs.lemmas.Bool.Decides.{eqb_tells}
use Rattle.own_flow.specs.declared.flow.State.{State}
use Rattle.own_flow.specs.declared.flow.State.TheVariants.{Uninitialised, Null, Live, Moved, Deleted}
use Rattle.own_flow.specs.declared.flow.Action.{Action}
use Rattle.own_flow.specs.declared.flow.Action.TheVariants as act
use Rattle.own_flow.specs.declared.flow.Fact.{Fact}
use Rattle.own_flow.specs.declared.flow.Fact.TheVariants.{Reached, Has}
use Rattle.own_flow.specs.FlowGraph.{is_in, same_state, InPlaces}
use Rattle.own_flow.specs.PossibleState.{LeavesAlone, Gives, reach, set, copy, give, stay, pass, meet, keep}
use Rattle.own_flow.specs.Nodes.{FactFits}
use Rattle.own_flow.specs.Effects.{kept_of, copied_of}

-- what a reached point gives besides being reached
abbrev pub SetFact : Action → Fact → Type 0
SetFact (act.Set p states) g = (s : State) × (is_in s states ≡ true) × (g ≡ Has p s)
SetFact _ g = ⊥

-- what a fact gives, computed
abbrev pub Given : Action → Fact → Fact → Type 0
Given a Reached g = (g ≡ Reached) ⊎ SetFact a g
Given a (Has x s) g = (kept_of a x s ≡ Some g) ⊎ (copied_of a x s ≡ Some g)

same_self : (n : ℕ) → n == n ≡ true
same_self n = ⊎_elim (λ e. e.0) (λ e. absurd (e.1 refl)) (eqb_tells n n)

not_same : (m n : ℕ) → m ≢ n → m == n ≡ false
not_same m n h = ⊎_elim (λ e. absurd (h e.1)) (λ e. e.0) (eqb_tells m n)

not_live : (s : State) → s ≢ Live → same_state s Live ≡ false
not_live Uninitialised h = refl
not_live Null h = refl
not_live Live h = absurd (h refl)
not_live Moved h = refl
not_live Deleted h = refl

is_live : (s : State) → same_state s Live ≡ true → s ≡ Live
is_live Uninitialised h = absurd (cc)
is_live Null h = absurd (cc)
is_live Live h = refl
is_live Moved h = absurd (cc)
is_live Deleted h = absurd (cc)

isnt_live : (s : State) → same_state s Live ≡ false → s ≢ Live
isnt_live Uninitialised h = λ e. absurd (cc)
isnt_live Null h = λ e. absurd (cc)
isnt_live Live h = λ e. absurd (cc)
isnt_live Moved h = λ e. absurd (cc)
isnt_live Deleted h = λ e. absurd (cc)

kept_alone : (a : Action) (x : ℕ) (s : State) → LeavesAlone a x → kept_of a x s ≡ Some (Has x s)
kept_alone act.Pass x s h = refl
kept_alone (act.Set p states) x s h = rw (not_same x p h) refl
kept_alone (act.Copy p q) x s h = rw (not_same x p h) refl
kept_alone (act.Give p to) x s h = rw (not_same x p h) refl
kept_alone (act.Test p states) x s h = rw (not_same x p h) refl
kept_alone (act.Need p states place rule) x s h = rw (not_same x p h) refl

-- each rule is computed
pub given : {a : Action} {f g : Fact} → Gives a f g → Given a f g
given (reach {a = a}) = inl refl
given (set {p = p} {states = states} {s = s} h) = inr (s, h, refl)
given (copy {p = p} {q = q} {s = s}) = inr (rw (same_self q) refl)
given (give {p = p} {to = to}) = inl (rw (same_self p) refl)
given (stay {p = p} {to = to} {s = s} h) = inl (rw (same_self p, not_live s h) refl)
given (pass {p = p} {states = states} {s = s} h) = inl (rw (same_self p, h) refl)
given (meet {p = p} {states = states} {place = place} {rule = rule} {s = s} h) = inl (rw (same_self p, h) refl)
given (keep {a = a} {x = x} {s = s} h) = inl (kept_alone a x s h)

some_same : (f g : Fact) → Some f ≡ Some g → g ≡ f
some_same f g h = cc

none_or : (b : Bool) (f g : Fact) → (if b then None else Some f) ≡ Some g → (b ≡ false) × (g ≡ f)
none_or true f g h = absurd (cc)
none_or false f g h = (refl, some_same f g h)

none_and : (b : Bool) (f g : Fact) → (if b then Some f else None) ≡ Some g → (b ≡ true) × (g ≡ f)
none_and true f g h = (refl, some_same f g h)
none_and false f g h = absurd (cc)

and_right : (b c : Bool) → b && c ≡ false → b ≡ true → c ≡ false
and_right true c h e = h
and_right false c h e = absurd (cc)

not_false : (b : Bool) → not b ≡ false → b ≡ true
not_false true h = refl
not_false false h = absurd (cc)

bool_cases : (b : Bool) → (b ≡ true) ⊎ (b ≡ false)
bool_cases true = inl refl
bool_cases false = inr refl

if_unlike : (p x : ℕ) (h : (x == p) ≡ false) → x ≢ p
if_unlike p x h = ⊎_elim (λ e. absurd (let k : true ≡ false = sym e.0 ∙ h in cc)) (λ e. e.1) (eqb_tells x p)

-- with another place's facts nothing happens
kept_other : (a : Action) (x : ℕ) (s : State) (g : Fact) → LeavesAlone a x → g ≡ Has x s → Gives a (Has x s) g
kept_other a x s g h e = subst (λ f. Gives a (Has x s) f) (sym e) (keep h)

given_to : (p x : ℕ) (to s : State) (g : Fact) → x ≡ p → (if same_state s Live then Some (Has p to) else Some (Has x s)) ≡ Some g → Gives (act.Give p to) (Has x s) g
given_to p x to s g e h = ⊎_elim
    (λ l. let k : Some (Has p to) ≡ Some g = sym (ap (λ b. if b then Some (Has p to) else Some (Has x s)) l) ∙ h in
    subst (λ f. Gives (act.Give p to) (Has x s) f) (sym (some_same (Has p to) g k))
    (subst (λ t. Gives (act.Give p to) (Has x t) (Has p to)) (sym (is_live s l)) (subst (λ n. Gives (act.Give p to) (Has n Live) (Has p to)) (sym e) give)))
    (λ l. let k : Some (Has x s) ≡ Some g = sym (ap (λ b. if b then Some (Has p to) else Some (Has x s)) l) ∙ h in
    subst (λ f. Gives (act.Give p to) (Has x s) f) (sym (some_same (Has x s) g k)) (subst (λ n. Gives (act.Give p to) (Has n s) (Has n s)) (sym e) (stay (isnt_live s l))))
    (bool_cases (same_state s Live))

-- what is computed follows by a rule
pub kept_gives : (a : Action) (x : ℕ) (s : State) (g : Fact) → kept_of a x s ≡ Some g → Gives a (Has x s) g
kept_gives act.Pass x s g h = kept_other act.Pass x s g tt (some_same (Has x s) g h)
kept_gives (act.Set p states) x s g h = let k = none_or (x == p) (Has x s) g h in kept_other (act.Set p states) x s g (if_unlike p x k.0) k.1
kept_gives (act.Copy p q) x s g h = let k = none_or (x == p) (Has x s) g h in kept_other (act.Copy p q) x s g (if_unlike p x k.0) k.1
kept_gives (act.Give p to) x s g h = ⊎_elim
    (λ e. given_to p x to s g e.1 (sym (ap (λ b. if b && same_state s Live then Some (Has p to) else Some (Has x s)) e.0) ∙ h))
    (λ e. let k : Some (Has x s) ≡ Some g = sym (ap (λ b. if b && same_state s Live then Some (Has p to) else Some (Has x s)) e.0) ∙ h in
    kept_other (act.Give p to) x s g e.1 (some_same (Has x s) g k))
    (eqb_tells x p)
kept_gives (act.Test p states) x s g h =
    let k = none_or ((x == p) && not (is_in s states)) (Has x s) g h in ⊎_elim
    (λ e. subst (λ f. Gives (act.Test p states) (Has x s) f) (sym k.1)
    (subst (λ n. Gives (act.Test p states) (Has n s) (Has n s)) (sym e.1) (pass (not_false (is_in s states) (and_right (x == p) (not (is_in s states)) k.0 e.0)))))
    (λ e. kept_other (act.Test p states) x s g e.1 k.1)
    (eqb_tells x p)
kept_gives (act.Need p states place rule) x s g h =
    let k = none_or ((x == p) && is_in s states) (Has x s) g h in ⊎_elim
    (λ e. subst (λ f. Gives (act.Need p states place rule) (Has x s) f) (sym k.1)
    (subst (λ n. Gives (act.Need p states place rule) (Has n s) (Has n s)) (sym e.1) (meet (and_right (x == p) (is_in s states) k.0 e.0))))
    (λ e. kept_other (act.Need p states place rule) x s g e.1 k.1)
    (eqb_tells x p)

none_some : (g : Fact) → None ≡ Some g → ⊥
none_some g h = absurd (cc)

pub copied_gives : (a : Action) (x : ℕ) (s : State) (g : Fact) → copied_of a x s ≡ Some g → Gives a (Has x s) g
copied_gives act.Pass x s g h = absurd (none_some g h)
copied_gives (act.Set p states) x s g h = absurd (none_some g h)
copied_gives (act.Copy p q) x s g h =
    let k = none_and (x == q) (Has p s) g h in
    let e : x ≡ q = ⊎_elim (λ z. z.1) (λ z. absurd (let b : true ≡ false = sym k.0 ∙ z.0 in cc)) (eqb_tells x q) in
    subst (λ f. Gives (act.Copy p q) (Has x s) f) (sym k.1) (subst (λ n. Gives (act.Copy p q) (Has n s) (Has p s)) (sym e) copy)
copied_gives (act.Give p to) x s g h = absurd (none_some g h)
copied_gives (act.Test p states) x s g h = absurd (none_some g h)
copied_gives (act.Need p states place rule) x s g h = absurd (none_some g h)

-- a fact that an action gives is about one of the places
pub gives_fits : (places : ℕ) {a : Action} {f g : Fact} → Gives a f g → InPlaces places a → FactFits places f → FactFits places g
gives_fits places (reach {a = a}) i h = tt
gives_fits places (set {p = p} k) i h = i
gives_fits places (copy {p = p} {q = q}) i h = i.0
gives_fits places (give {p = p}) i h = i
gives_fits places (stay {p = p} k) i h = h
gives_fits places (pass {p = p} k) i h = h
gives_fits places (meet {p = p} k) i h = h
gives_fits places (keep {a = a} k) i h = h

if_some : (o : Option Fact) (P : Fact → Type 0) → ((g : Fact) → o ≡ Some g → P g) → IfSome o P
if_some None P h = tt
if_some (Some f) P h = h f refl

pub kept_fits : (places : ℕ) (a : Action) (x : ℕ) (s : State) (o : Option Fact) → o ≡ kept_of a x s → InPlaces places a → x < places → IfSome o (λ f. FactFits places f)
kept_fits places a x s o e i h = if_some o (λ f. FactFits places f) (λ g k. gives_fits places (kept_gives a x s g (sym e ∙ k)) i h)

pub copied_fits : (places : ℕ) (a : Action) (x : ℕ) (s : State) (o : Option Fact) → o ≡ copied_of a x s → InPlaces places a → x < places → IfSome o (λ f. FactFits places f)
copied_fits places a x s o e i h = if_some o (λ f. FactFits places f) (λ g k. gives_fits places (copied_gives a x s g (sym e ∙ k)) i h)
