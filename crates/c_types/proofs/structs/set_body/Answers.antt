use Rattle.c_types.proofs.Kept.{set_found}
use Rattle.c_types.proofs.structs.set_body.Goals as goal

pub returns : goal.returns
returns c = set_found c.args.entries.now.items c.args.at c.index_mut-entry.result.now c.args.body c.requires c.index_mut-entry.ensures.value
