use Rattle.check_tags.proofs.EnumLaws.{next_is}
use Rattle.check_tags.proofs.enumerations.next_value.Goals as goal

pub returns : goal.returns
returns c = next_is c.args.basic c.args.value c.requires
