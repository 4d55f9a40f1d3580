use Rattle.check_values.proofs.ConversionLaws.{converted_is_typed}
use Rattle.check_values.proofs.conversions.implied.Goals as goal

pub new-requires : goal.new-requires
new-requires c =
    converted_is_typed c.args.ty.now c.in_ok-ty.ty c.args.e c.mark-mark.result c.in_ok-ty.ensures c.requires.converts c.requires.implied c.form-typed.ensures.typed
