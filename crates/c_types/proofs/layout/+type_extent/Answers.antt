use Rattle.c_types.proofs.Saturation.{extent_bounded}
use Rattle.c_types.proofs.layout.+type_extent.Goals as goal

pub returns-in-Struct-clause-bounded : goal.returns-in-Struct-clause-bounded
returns-in-Struct-clause-bounded t c = extent_bounded c.args.structs.now c.in-Struct.id c.extent.result c.extent.ensures
