-- The tokens from the rank on.
use Rattle.std.proofs.Common.{sym}
use Rattle.pp_conditions.proofs.LineLaws.{nothing_asked, name_asked, parenthesis_asked, other_asked}
use Rattle.pp_conditions.proofs.defined.operand.Goals as goal

pub returns-in_default-clause-asked : goal.returns-in_default-clause-asked
returns-in_default-clause-asked c = nothing_asked c.args.line.now c.args.at (sym c.in_default.ensures)

pub returns-then-is_name-clause-asked : goal.returns-then-is_name-clause-asked
returns-then-is_name-clause-asked c =
    let h = name_asked c.args.line.now c.args.at c.in-Some.first.now (sym c.in-Some.ensures) (sym c.if-is_name.ensures) in
    cc

pub returns-then-spells-clause-asked : goal.returns-then-spells-clause-asked
returns-then-spells-clause-asked c =
    rw (parenthesis_asked c.args.line.now c.args.at c.in-Some.first.now (sym c.in-Some.ensures) (sym c.if-is_name.ensures) (sym c.if-spells.ensures))
    c.in_parentheses.ensures.asked

pub returns-else-spells-clause-asked : goal.returns-else-spells-clause-asked
returns-else-spells-clause-asked c =
    other_asked c.args.line.now c.args.at c.in-Some.first.now (sym c.in-Some.ensures) (sym c.if-is_name.ensures) (sym c.if-spells.ensures)
