use Rattle.std.proofs.Common.{◌∙◌, ap, None, true}
use Rattle.model_checking.specs.Tags.{tag_declaration}
use Rattle.model_checking.specs.Enumerations as m
use Rattle.check_tags.proofs.EnumLaws.{rule_seen}
use Rattle.check_tags.proofs.enumerations.named_braces_fault.Goals as goal

pub returns : goal.returns
returns c =
    rule_seen c.rule_fault.result c.in_ok-entry.entry (tag_declaration c.args.name.now (m.enum_type None c.args.place) true) c.args.scopes.now
    (c.in_ok-entry.ensures ∙ ap (λ t. tag_declaration c.args.name.now t true) c.in_ok-ty.ensures) c.rule_fault.ensures
