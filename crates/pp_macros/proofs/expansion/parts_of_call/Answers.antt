use Rattle.pp_macros.proofs.GoOnLaws.{CallParts-are}
use Rattle.pp_macros.proofs.expansion.parts_of_call.Goals as goal

pub returns-clause-parts : goal.returns-clause-parts
returns-clause-parts c =
    CallParts-are c.args.p.now c.args.def.now c.args.rest c.pop.new.self c.inside.new.pending c.pop.result c.in-Some.run' c.in-Some.close c.in_ok-runs.field-0 c.in-Some-2.runs c.in_ok-run.field-0 c.place_of-place.result
    c.pop.ensures c.in-Some.is c.place_of-place.ensures c.in_ok-run.ensures c.in_ok-runs.ensures c.in-Some-2.is
