use Rattle.check_choices.proofs.CastLaws.{cast_fits}
use Rattle.check_choices.proofs.casts.written.Goals as goal

pub new-requires : goal.new-requires
new-requires c = cast_fits c.args.ty.now c.in_ok-ty.ty c.args.value c.args.mark c.in_ok-ty.ensures c.requires c.form-typed.ensures.typed
