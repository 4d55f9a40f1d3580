use Rattle.c_model.proofs.OtherStructures.{one_tag_is_not_exported}
use Rattle.c_model.proofs.translation_laws.exported_structures_keep_their_tags.Goals as goal

pub returns-clause-one_tag : goal.returns-clause-one_tag
returns-clause-one_tag c = one_tag_is_not_exported
