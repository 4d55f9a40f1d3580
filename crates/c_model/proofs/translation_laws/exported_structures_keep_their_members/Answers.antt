use Rattle.c_model.proofs.OtherStructures.{another_member_is_not_exported}
use Rattle.c_model.proofs.translation_laws.exported_structures_keep_their_members.Goals as goal

pub returns-clause-long : goal.returns-clause-long
returns-clause-long c = another_member_is_not_exported
