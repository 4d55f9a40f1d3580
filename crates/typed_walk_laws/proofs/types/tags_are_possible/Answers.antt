use Rattle.typed_walk_laws.proofs.TagForms.{struct_tag_sound}
use Rattle.typed_walk_laws.proofs.types.tags_are_possible.Goals as goal

pub returns : goal.returns
returns c = struct_tag_sound
