use Rattle.std.proofs.Common.{◌≡◌, ◌<◌, ◌-◌, suc, length, drop, arith, ap, sym, ◌∙◌}
use Rattle.model_preprocessing.specs.Includes.{directory}
use Rattle.pp_directives.proofs.CandidateLaws.{last-slash}
use Rattle.pp_directives.proofs.candidates.directory.Goals as goal

pub returns-then-name-at-eq47 : goal.returns-then-name-at-eq47
returns-then-name-at-eq47 c =
    let within : c.loop-at.at - 1 < length c.args.name.now = omega (arith, c.loop-at.invariant.1) in
    let next : suc (c.loop-at.at - 1) ≡ c.loop-at.at = omega arith in
    sym (last-slash c.args.name.now (c.loop-at.at - 1) within c.if-name-at-eq47.true (ap (λ n. directory (drop n c.args.name.now)) next ∙ c.loop-at.invariant.0))
