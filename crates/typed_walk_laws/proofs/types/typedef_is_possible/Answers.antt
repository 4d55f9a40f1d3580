use Rattle.typed_walk_laws.proofs.SpecifiedTypes.{typedef_sound}
use Rattle.typed_walk_laws.proofs.types.typedef_is_possible.Goals as goal

pub returns : goal.returns
returns c = typedef_sound
