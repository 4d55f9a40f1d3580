use Rattle.check_operators.specs.Seen.{seen}
use Rattle.check_operators.proofs.ElementLaws.{element_is_typed}
use Rattle.check_operators.proofs.elements.element_place.Goals as goal

pub new-requires : goal.new-requires
new-requires c =
    element_is_typed c.args.structs.now c.args.mark (seen c.args.both.left) (seen c.args.both.right) c.ty.result.now c.is_pointer-is_second.result
    c.ty.ensures c.is_pointer-is_second.ensures c.requires.kinds c.requires.moved c.form-first.ensures.typed c.form-second.ensures.typed
