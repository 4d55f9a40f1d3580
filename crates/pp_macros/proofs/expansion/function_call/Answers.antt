use Rattle.std.proofs.Common.{◌∙◌, ap}
use Rattle.pp_macros.proofs.GoOnLaws.{Called-is}
use Rattle.pp_macros.proofs.expansion.function_call.Goals as goal

pub returns-clause-called : goal.returns-clause-called
returns-clause-called c =
    Called-is c.args.p.now c.args.rank c.args.def.now c.args.rest c.args.out c.in_ok-runs.runs c.in_ok-runs.close c.in_ok-runs.pending c.in_ok-name.name c.in_ok-hides.hides c.in_ok-asked.asked c.in_ok-args.args.items c.new_call.result
    c.in_ok-runs.ensures.parts c.new_call.ensures (c.in_ok-name.ensures ∙ ap (λ q. q.tok) c.p.view_is) c.in_ok-hides.ensures c.in_ok-asked.ensures c.in_ok-args.ensures
