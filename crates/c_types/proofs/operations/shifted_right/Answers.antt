use Rattle.std.proofs.Common.{IsTrue, subst, sym, ℤ, ◌^◌, unsigned_abs}
use Rattle.model_types.specs.Operations as m
use Rattle.c_types.proofs.Wide.{shift_is, fits_shifted}
use Rattle.c_types.proofs.operations.shifted_right.Goals as goal

pub returns-clause-fits : goal.returns-clause-fits
returns-clause-fits c =
    subst (λ (v : ℤ). IsTrue (m.fits c.args.basic v)) (sym (shift_is c.args.basic c.args.left c.args.count c.requires.left c.ranges.count))
    (fits_shifted c.args.basic c.args.left (2 ^ unsigned_abs c.args.count) c.requires.left)
