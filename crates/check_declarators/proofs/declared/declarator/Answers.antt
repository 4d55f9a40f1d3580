use Rattle.std.proofs.Common.{◌∙◌, ap}
use Rattle.model_checking.specs.DeclaratorTypes as m
use Rattle.check_specifiers.specs.SpecifiedTypes.{specified_of}
use Rattle.check_declarators.specs.Steps.{steps_of}
use Rattle.check_declarators.proofs.DeclaredLaws.{declarator_from}
use Rattle.check_declarators.proofs.declared.declarator.Goals as goal

pub returns : goal.returns
returns c =
    declarator_from c.declared_by.result (specified_of c.args.given.now) c.args.first c.args.declarator.now _ c.args.structs.now (steps_of c.args.steps) _
    c.declarator_name.ensures
    (c.in_ok-typing.ensures ∙ ap (λ b. m.steps_typing c.args.structs.now c.args.first b (steps_of c.args.steps)) c.as_ref.ensures.value)
    c.declared_by.ensures
