use Rattle.typed_walk_laws.proofs.Operations.{member_sound}
use Rattle.typed_walk_laws.proofs.names.member_is_sound.Goals as goal

pub returns : goal.returns
returns c = member_sound
