use Rattle.std.proofs.Common.{IsTrue, subst, sym, ℤ}
use Rattle.model_types.specs.Operations as m
use Rattle.c_types.proofs.Wide.{narrow, remainder_is, fits_remainder}
use Rattle.c_types.proofs.operations.rest.Goals as goal

pub returns-clause-value : goal.returns-clause-value
returns-clause-value c =
    remainder_is c.args.left c.args.right (narrow c.args.basic c.args.left c.requires.left) (narrow c.args.basic c.args.right c.requires.right)

pub returns-clause-fits : goal.returns-clause-fits
returns-clause-fits c =
    subst (λ (v : ℤ). IsTrue (m.fits c.args.basic v)) (sym (remainder_is c.args.left c.args.right (narrow c.args.basic c.args.left c.requires.left) (narrow c.args.basic c.args.right c.requires.right))) (fits_remainder c.args.basic c.args.left c.args.right c.requires.left)
