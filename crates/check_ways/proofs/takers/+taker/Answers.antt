use Rattle.std.proofs.Common.{◌≡◌, ◌∙◌, ◌-◌, ap, sym, suc, arith, Some}
use Rattle.model_checking.specs.Ways.{step_to}
use Rattle.check_ways.specs.Seen.{as_way}
use Rattle.check_ways.proofs.InwardLaws.{first_member, steps_fall}
use Rattle.check_ways.proofs.takers.+taker.Goals as goal

pub enter_structure-go_inward-requires : goal.enter_structure-go_inward-requires
enter_structure-go_inward-requires t c =
    let more : c.args.depth ≡ suc (c.args.depth - 1) = omega (arith, c.if-depth-eq0.false) in
    let there : Some c.step_to.new.way ≡ step_to c.args.structs.now c.args.whole.now 0 c.args.way.now =
    ap (λ b. as_way b c.step_to.new.way) (sym c.if-branch.true) ∙ c.in_ok-step_to.ensures.found in
    (omega (arith, c.decreases, steps_fall c.args.depth (c.args.depth - 1) c.args.structs.now c.args.object.now c.args.whole.now c.args.id c.args.way.now c.step_to.new.way more there), tt)

pub enter_structure-returns-then-branch : goal.enter_structure-returns-then-branch
enter_structure-returns-then-branch t c =
    let more : c.args.depth ≡ suc (c.args.depth - 1) = omega (arith, c.if-depth-eq0.false) in
    let there : Some c.step_to.new.way ≡ step_to c.args.structs.now c.args.whole.now 0 c.args.way.now =
    ap (λ b. as_way b c.step_to.new.way) (sym c.if-branch.true) ∙ c.in_ok-step_to.ensures.found in
    rw (first_member c.args.depth (c.args.depth - 1) c.args.structs.now c.args.object.now c.args.whole.now c.args.id c.args.way.now c.step_to.new.way more there) c.go_inward.ensures
