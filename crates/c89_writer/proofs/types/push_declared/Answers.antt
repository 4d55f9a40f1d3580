use Rattle.std.proofs.Common.{arith}
use Rattle.std.proofs.lemmas.Grind.{common_steps}
use Rattle.c89_writer.proofs.SideLaws.{declared, some_name}
use Rattle.c89_writer.proofs.types.push_declared.Goals as goal

pub returns : goal.returns
returns c =
    let named = some_name c.args.name.now _ c.is_empty.ensures in
    rw (declared c.args.ty.now c.args.name.now) (grind (arith, common_steps, named))
