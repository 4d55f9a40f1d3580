use Rattle.std.proofs.Common.{arith}
use Rattle.std.proofs.lemmas.Grind.{common_steps}
use Rattle.c89_writer.proofs.SideLaws.{named_behind}
use Rattle.c89_writer.proofs.declarations.push_named.Goals as goal

pub returns : goal.returns
returns c =
    rw (named_behind c.args.parameters.now c.in-Some.first.now c.in-Some.others.now c.args.is_variadic c.in-Some.ensures.cases.0) (grind (arith, common_steps))
