use Rattle.c_types.proofs.Placed.{kept_found}
use Rattle.c_types.proofs.structs.Structs.kept_offset.Goals as goal

pub returns-in-Some : goal.returns-in-Some
returns-in-Some c =
    kept_found c.args.self.now c.self.inside.entries.items c.deref.result.now c.args.id c.in-Some.body.now c.args.at c.offset_at.result c.self.view_is c.deref.ensures.value
    c.in-Some.ensures c.self.invariant c.offset_at.ensures
