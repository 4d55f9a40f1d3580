use Rattle.std.proofs.Common.{pos}
use Rattle.model_checking.specs.Enumerations as m
use Rattle.check_specifiers.specs.EnumerationTypes.{enumeration_of}
use Rattle.check_tags.proofs.EnumLaws.{rule_seen}
use Rattle.check_tags.proofs.enumerations.enumerator_fault.Goals as goal

pub returns : goal.returns
returns c =
    rule_seen c.rule_fault.result c.in_ok-entry.entry (m.enumerator_declaration (enumeration_of c.args.enumeration.now) c.args.name.now (pos 0))
    c.args.scopes.now c.in_ok-entry.ensures c.rule_fault.ensures
