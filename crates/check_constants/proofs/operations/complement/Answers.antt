use Rattle.std.proofs.Common.{◌∙◌, ap}
use Rattle.std.specs.Int.{w128}
use Rattle.std.proofs.lemmas.Int.{to_z-of_z}
use Rattle.model_types.specs.Operations.{wrapped}
use Rattle.check_constants.proofs.ConstantLaws.{promoted_wraps, complement_is}
use Rattle.check_constants.proofs.operations.complement.Goals as goal

pub returns-clause-value : goal.returns-clause-value
returns-clause-value c =
    to_z-of_z w128 c.convert.result (record { sfits = c.convert.type_inv }) ∙ c.convert.ensures.value ∙ promoted_wraps c.args.basic _ c.requires
    ∙ ap (wrapped c.args.basic) (complement_is c.args.value c.ranges.value)
