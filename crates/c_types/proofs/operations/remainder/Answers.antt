use Rattle.std.proofs.Common.{sym, ◌∙◌}
use Rattle.c_types.proofs.Wide.{remainder_case, overflow_case}
use Rattle.c_types.proofs.operations.remainder.Goals as goal

pub returns-then-fits-clause-value : goal.returns-then-fits-clause-value
returns-then-fits-clause-value c =
    remainder_case c.args.basic c.args.left c.args.right c.divided.result c.rest.result c.requires.left c.requires.right c.if-right-eq0.false
    c.divided.ensures (record { sfits = c.divided.type_inv }) (sym c.fits.ensures ∙ c.if-fits.true) c.rest.ensures.value c.rest.ensures.fits

pub returns-else-fits-clause-value : goal.returns-else-fits-clause-value
returns-else-fits-clause-value c =
    overflow_case c.args.basic c.args.left c.args.right c.divided.result c.requires.left c.requires.right c.if-right-eq0.false
    c.divided.ensures (record { sfits = c.divided.type_inv }) (sym c.fits.ensures ∙ c.if-fits.false)
