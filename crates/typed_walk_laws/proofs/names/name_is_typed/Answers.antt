use Rattle.typed_walk_laws.proofs.NameForms.{named_sound}
use Rattle.typed_walk_laws.proofs.names.name_is_typed.Goals as goal

pub returns : goal.returns
returns c = named_sound
