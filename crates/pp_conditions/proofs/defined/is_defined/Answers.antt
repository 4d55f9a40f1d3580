-- A name that is found is among those that are defined.
use Rattle.std.proofs.Common.{◌∙◌}
use Rattle.pp_conditions.proofs.LineLaws.{looked_up}
use Rattle.pp_conditions.proofs.defined.is_defined.Goals as goal

pub returns : goal.returns
returns c = c.is_some.ensures ∙ looked_up c.find.result c.args.name.now c.args.table.now.entries c.find.ensures
