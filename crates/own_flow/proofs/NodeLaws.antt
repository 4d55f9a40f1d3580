-- The numbers of nodes: within the table, and one each.
use Rattle.std.proofs.Common.{◌≡◌, ℕ, zero, suc, ◌+◌, ◌*◌, ◌<◌, ◌≤◌, ◌/◌, ◌%◌, refl, sym, ap, ◌∙◌, arith}
use Rattle.std.proofs.lemmas.Nat.{div-mul-add, mod-mul-add}
use Rattle.std.proofs.Math.Nat.{mul-le-mul_right}
use Rattle.own_flow.specs.declared.flow.State.{State}
use Rattle.own_flow.specs.declared.flow.State.TheVariants.{Uninitialised, Null, Live, Moved, Deleted}
use Rattle.own_flow.specs.declared.flow.Fact.{Fact}
use Rattle.own_flow.specs.declared.flow.Fact.TheVariants.{Reached, Has}
use Rattle.own_flow.specs.declared.nodes.Node.{Node}
use Rattle.own_flow.specs.Nodes.{state_number, fact_number, row_width, node_number, FactFits, NodeFits}

pub state_below : (s : State) → state_number s < 5
state_below Uninitialised = omega arith
state_below Null = omega arith
state_below Live = omega arith
state_below Moved = omega arith
state_below Deleted = omega arith

abbrev state_at : ℕ → State
state_at zero = Uninitialised
state_at (suc zero) = Null
state_at (suc (suc zero)) = Live
state_at (suc (suc (suc zero))) = Moved
state_at (suc (suc (suc (suc n)))) = Deleted

state_again : (s : State) → state_at (state_number s) ≡ s
state_again Uninitialised = refl
state_again Null = refl
state_again Live = refl
state_again Moved = refl
state_again Deleted = refl

pub fact_below : (places : ℕ) (f : Fact) → FactFits places f → fact_number f < row_width places
fact_below places Reached h = omega arith
fact_below places (Has p s) h = omega (arith, h, state_below s)

pub row_below : (point points width : ℕ) → point < points → point * width + width ≤ points * width
row_below point points width h = let m : (point + 1) * width ≤ points * width = mul-le-mul_right width (let l : point + 1 ≤ points = omega (arith, h) in l) in omega (arith, m)

pub number_below : (places points : ℕ) (node : Node) → NodeFits places points node → node_number places node < points * row_width places
number_below places points node h = let a = row_below node.point points (row_width places) h.point in let b = fact_below places node.fact h.fact in omega (arith, a, b)

fact_same : (f g : Fact) → fact_number f ≡ fact_number g → f ≡ g
fact_same Reached Reached h = refl
fact_same Reached (Has p s) h = absurd (omega (arith, h))
fact_same (Has p s) Reached h = absurd (omega (arith, h))
fact_same (Has p s) (Has q t) h =
    let e : p * 5 + state_number s ≡ q * 5 + state_number t = omega (arith, h) in
    let a : p ≡ q = sym (div-mul-add p 5 (state_number s) (state_below s)) ∙ ap (λ n. n / 5) e ∙ div-mul-add q 5 (state_number t) (state_below t) in
    let b : state_number s ≡ state_number t = omega (arith, e, a) in
    let c : s ≡ t = sym (state_again s) ∙ ap state_at b ∙ state_again t in
    ap (λ n. Has n s) a ∙ ap (λ x. Has q x) c

pub number_point : (places points : ℕ) (node : Node) → NodeFits places points node → (node_number places node) / row_width places ≡ node.point
number_point places points node h = div-mul-add node.point (row_width places) (fact_number node.fact) (fact_below places node.fact h.fact)

pub number_fact : (places points : ℕ) (node : Node) → NodeFits places points node → (node_number places node) % row_width places ≡ fact_number node.fact
number_fact places points node h = mod-mul-add node.point (row_width places) (fact_number node.fact) (fact_below places node.fact h.fact)

-- nodes with one number are one
pub node_same : (places points : ℕ) (a b : Node) → NodeFits places points a → NodeFits places points b → node_number places a ≡ node_number places b → a ≡ b
node_same places points a b h k e =
    let p : a.point ≡ b.point = sym (number_point places points a h) ∙ ap (λ n. n / row_width places) e ∙ number_point places points b k in
    let f : a.fact ≡ b.fact = fact_same a.fact b.fact (sym (number_fact places points a h) ∙ ap (λ n. n % row_width places) e ∙ number_fact places points b k) in
    ap (λ n. record { point = n; fact = a.fact }) p ∙ ap (λ x. record { point = b.point; fact = x }) f
