-- The two tokens from the rank on.
use Rattle.std.proofs.Common.{sym}
use Rattle.pp_conditions.proofs.LineLaws.{nothing_inside, not_closed, inside, not_inside, both_true, first_false, second_false}
use Rattle.pp_conditions.proofs.defined.in_parentheses.Goals as goal
use Rattle.pp_conditions.proofs.defined.in_parentheses.Goals.{else-is_name-via-then-is_name+else-spells, else-is_name-via-else-is_name}

pub returns-in_default-clause-asked : goal.returns-in_default-clause-asked
returns-in_default-clause-asked c = nothing_inside c.args.line.now c.args.at (sym c.in_default.ensures)

pub returns-in_default-get-clause-asked : goal.returns-in_default-get-clause-asked
returns-in_default-get-clause-asked c =
    not_closed c.args.line.now c.args.at c.in-Some.name.now (sym c.in-Some.ensures) (sym c.in_default-get.ensures)

pub returns-then-spells-clause-asked : goal.returns-then-spells-clause-asked
returns-then-spells-clause-asked c =
    let h = inside c.args.line.now c.args.at c.in-Some.name.now c.in-Some-get.close.now (sym c.in-Some.ensures) (sym c.in-Some-get.ensures)
    (both_true _ _ (sym c.if-is_name.ensures) (sym c.if-spells.ensures)) in
    cc

pub returns-else-is_name-clause-asked : goal.returns-else-is_name-clause-asked
returns-else-is_name-clause-asked c =
    elim c.else-is_name.branch [
      | else-is_name-via-then-is_name+else-spells w ↦
          not_inside c.args.line.now c.args.at c.in-Some.name.now c.in-Some-get.close.now (sym c.in-Some.ensures) (sym c.in-Some-get.ensures)
          (second_false _ _ (sym w.if-spells.ensures))
      | else-is_name-via-else-is_name w ↦
          not_inside c.args.line.now c.args.at c.in-Some.name.now c.in-Some-get.close.now (sym c.in-Some.ensures) (sym c.in-Some-get.ensures)
          (first_false _ _ (sym w.if-is_name.ensures))
    ]
