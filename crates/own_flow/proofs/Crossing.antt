-- What a search marks by an edge.
use Rattle.std.proofs.Common.{◌≡◌, ℕ, Option, sym, ap, ◌∙◌, subst, ◌⊎◌, inl, inr, ⊎_elim}
use Rattle.own_flow.specs.declared.flow.State.{State}
use Rattle.own_flow.specs.declared.flow.State.TheVariants.{Uninitialised, Null, Live, Moved, Deleted}
use Rattle.own_flow.specs.declared.flow.States.{States}
use Rattle.own_flow.specs.declared.flow.Action.{Action}
use Rattle.own_flow.specs.declared.flow.Action.TheVariants as act
use Rattle.own_flow.specs.declared.flow.Edge.{Edge}
use Rattle.own_flow.specs.declared.flow.Fact.{Fact}
use Rattle.own_flow.specs.declared.flow.Fact.TheVariants.{Reached, Has}
use Rattle.own_flow.specs.PossibleState.{Gives, reach, set}
use Rattle.own_flow.specs.Nodes.{node_number}
use Rattle.own_flow.specs.Effects.{kept_of, copied_of}
use Rattle.own_flow.specs.Exploration.{Search, Grew, Just, Maybe, OneState, EachState, SetBy, Made}
use Rattle.own_flow.proofs.Grew.{grew_then, grew_as}
use Rattle.own_flow.proofs.EffectLaws.{given, kept_gives, copied_gives, SetFact}

-- the state is one of five
abbrev which : (places point p : ℕ) (states : States) (x : ℕ) (s : State) → OneState places point p states s x → (((OneState places point p states Uninitialised x ⊎ OneState places point p states Null x) ⊎ OneState places point p states Live x) ⊎ OneState places point p states Moved x) ⊎ OneState places point p states Deleted x
which places point p states x Uninitialised h = inl (inl (inl (inl h)))
which places point p states x Null h = inl (inl (inl (inr h)))
which places point p states x Live h = inl (inl (inr h))
which places point p states x Moved h = inl (inr h)
which places point p states x Deleted h = inr h

-- five states, one after another
pub five_states : (s0 s1 s2 s3 s4 s5 : Search) (point p : ℕ) (states : States) → Grew (OneState s0.places point p states Uninitialised) s0 s1 → Grew (OneState s1.places point p states Null) s1 s2 → Grew (OneState s2.places point p states Live) s2 s3 → Grew (OneState s3.places point p states Moved) s3 s4 → Grew (OneState s4.places point p states Deleted) s4 s5 → Grew (EachState s0.places point p states) s0 s5
five_states s0 s1 s2 s3 s4 s5 point p states g1 g2 g3 g4 g5 =
    let One : State → ℕ → Type 0 = λ s. OneState s0.places point p states s in
    let e1 : s1.places ≡ s0.places = g1.places in
    let e2 : s2.places ≡ s0.places = g2.places ∙ e1 in
    let e3 : s3.places ≡ s0.places = g3.places ∙ e2 in
    let e4 : s4.places ≡ s0.places = g4.places ∙ e3 in
    let A2 : ℕ → Type 0 = λ x. One Uninitialised x ⊎ One Null x in
    let A3 : ℕ → Type 0 = λ x. A2 x ⊎ One Live x in
    let A4 : ℕ → Type 0 = λ x. A3 x ⊎ One Moved x in
    let A5 : ℕ → Type 0 = λ x. A4 x ⊎ One Deleted x in
    let h2 : Grew A2 s0 s2 = grew_then (One Uninitialised) (One Null) A2 s0 s1 s2 g1 (subst (λ n. Grew (OneState n point p states Null) s1 s2) e1 g2) (λ x a. inl a) (λ x a. inr a) (λ x a. a) in
    let h3 : Grew A3 s0 s3 = grew_then A2 (One Live) A3 s0 s2 s3 h2 (subst (λ n. Grew (OneState n point p states Live) s2 s3) e2 g3) (λ x a. inl a) (λ x a. inr a) (λ x a. a) in
    let h4 : Grew A4 s0 s4 = grew_then A3 (One Moved) A4 s0 s3 s4 h3 (subst (λ n. Grew (OneState n point p states Moved) s3 s4) e3 g4) (λ x a. inl a) (λ x a. inr a) (λ x a. a) in
    let h5 : Grew A5 s0 s5 = grew_then A4 (One Deleted) A5 s0 s4 s5 h4 (subst (λ n. Grew (OneState n point p states Deleted) s4 s5) e4 g5) (λ x a. inl a) (λ x a. inr a) (λ x a. a) in
    grew_as A5 (EachState s0.places point p states) s0 s5
    (λ x a. ⊎_elim (λ b. ⊎_elim (λ c. ⊎_elim (λ d. ⊎_elim (λ e. (Uninitialised, e.0, e.1)) (λ e. (Null, e.0, e.1)) d) (λ d. (Live, d.0, d.1)) c) (λ c. (Moved, c.0, c.1)) b) (λ b. (Deleted, b.0, b.1)) a)
    (λ x a. which s0.places point p states x a.0 (a.1, a.2)) h5

set_made : (places : ℕ) (edge : Edge) (x : ℕ) → SetBy places edge.to edge.action x → Made places edge Reached x
set_made places edge x h = by_action places edge.to edge.action x h
  where
    by_action : (places to : ℕ) (a : Action) (x : ℕ) → SetBy places to a x → (g : Fact) × Gives a Reached g × (x ≡ node_number places (record { point = to; fact = g }))
    by_action places to act.Pass x h = absurd (h)
    by_action places to (act.Set p states) x h = (Has p h.0, set h.1, h.2)
    by_action places to (act.Copy p q) x h = absurd (h)
    by_action places to (act.Give p t) x h = absurd (h)
    by_action places to (act.Test p states) x h = absurd (h)
    by_action places to (act.Need p states place rule) x h = absurd (h)

made_set : (places to : ℕ) (a : Action) (g : Fact) (x : ℕ) → SetFact a g → x ≡ node_number places (record { point = to; fact = g }) → SetBy places to a x
made_set places to act.Pass g x h e = absurd (h)
made_set places to (act.Set p states) g x h e = (h.0, h.1, e ∙ ap (λ f. node_number places (record { point = to; fact = f })) h.2)
made_set places to (act.Copy p q) g x h e = absurd (h)
made_set places to (act.Give p t) g x h e = absurd (h)
made_set places to (act.Test p states) g x h e = absurd (h)
made_set places to (act.Need p states place rule) g x h e = absurd (h)

-- from a reached point
pub crossed_reached : (s t u : Search) (edge : Edge) → Grew (Just s.places (record { point = edge.to; fact = Reached })) s t → Grew (SetBy t.places edge.to edge.action) t u → Grew (Made s.places edge Reached) s u
crossed_reached s t u edge g h =
    let k : Grew (SetBy s.places edge.to edge.action) t u = subst (λ n. Grew (SetBy n edge.to edge.action) t u) g.places h in
    grew_then (Just s.places (record { point = edge.to; fact = Reached })) (SetBy s.places edge.to edge.action) (Made s.places edge Reached) s t u g k
    (λ x e. (Reached, reach, e))
    (λ x e. set_made s.places edge x e)
    (λ x m. ⊎_elim (λ q. inl (m.2 ∙ ap (λ f. node_number s.places (record { point = edge.to; fact = f })) q)) (λ q. inr (made_set s.places edge.to edge.action m.0 x q m.2)) (given m.1))

-- from a state of a place
pub crossed_state : (s t u : Search) (edge : Edge) (p : ℕ) (state : State) (k c : Option Fact) → k ≡ kept_of edge.action p state → c ≡ copied_of edge.action p state → Grew (Maybe s.places edge.to k) s t → Grew (Maybe t.places edge.to c) t u → Grew (Made s.places edge (Has p state)) s u
crossed_state s t u edge p state k c e f g h =
    let j : Grew (Maybe s.places edge.to c) t u = subst (λ n. Grew (Maybe n edge.to c) t u) g.places h in
    grew_then (Maybe s.places edge.to k) (Maybe s.places edge.to c) (Made s.places edge (Has p state)) s t u g j
    (λ x m. (m.0, kept_gives edge.action p state m.0 (sym e ∙ m.1), m.2))
    (λ x m. (m.0, copied_gives edge.action p state m.0 (sym f ∙ m.1), m.2))
    (λ x m. ⊎_elim (λ q. inl (m.0, e ∙ q, m.2)) (λ q. inr (m.0, f ∙ q, m.2)) (given m.1))
