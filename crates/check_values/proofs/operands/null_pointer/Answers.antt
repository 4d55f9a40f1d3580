use Rattle.check_values.proofs.ValueLaws.{null_pointer_is_typed}
use Rattle.check_values.proofs.operands.null_pointer.Goals as goal

pub new-requires : goal.new-requires
new-requires c =
    null_pointer_is_typed _ c.args.ty.now c.in_ok-ty.ty c.in_ok-operand.operand c.args.mark c.in_ok-operand.ensures c.in_ok-ty.ensures c.form-typed.ensures.typed c.requires.pointer
