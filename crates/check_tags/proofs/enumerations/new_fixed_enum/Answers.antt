use Rattle.std.proofs.Common.{subst, false}
use Rattle.model_checking.specs.Tags.{tag_declaration, declared_tag}
use Rattle.check_base.specs.Turns.{Turns}
use Rattle.check_tags.proofs.enumerations.new_fixed_enum.Goals as goal

pub returns-clause-answer : goal.returns-clause-answer
returns-clause-answer c =
    subst (λ t. Turns (declared_tag (tag_declaration c.args.name.now t false)) c.args.scopes.now c.declare_tag.result c.declare_tag.new.scopes) c.in_ok-ty.ensures c.declare_tag.ensures.answer
