use Rattle.c_types.proofs.operations.operate.Goals as goal

pub returns-in-Mul-clause-fits : goal.returns-in-Mul-clause-fits
returns-in-Mul-clause-fits c = rw c.in-Mul.is c.product.ensures.fits

pub returns-in-Div-clause-fits : goal.returns-in-Div-clause-fits
returns-in-Div-clause-fits c = rw c.in-Div.is c.quotient.ensures.fits

pub returns-in-Rem-clause-fits : goal.returns-in-Rem-clause-fits
returns-in-Rem-clause-fits c = rw c.in-Rem.is c.remainder.ensures.fits

pub returns-in-Add-clause-fits : goal.returns-in-Add-clause-fits
returns-in-Add-clause-fits c = rw c.in-Add.is c.sum.ensures.fits

pub returns-in-Sub-clause-fits : goal.returns-in-Sub-clause-fits
returns-in-Sub-clause-fits c = rw c.in-Sub.is c.difference.ensures.fits

pub returns-in-ShiftLeft-clause-fits : goal.returns-in-ShiftLeft-clause-fits
returns-in-ShiftLeft-clause-fits c = rw c.in-ShiftLeft.is c.shift_left.ensures.fits

pub returns-in-ShiftRight-clause-fits : goal.returns-in-ShiftRight-clause-fits
returns-in-ShiftRight-clause-fits c = rw c.in-ShiftRight.is c.shift_right.ensures.fits
