use Rattle.std.proofs.Common.{◌≡◌, drop}
use Rattle.cake_cli.specs.Reader.{read_from, read_unit}
use Rattle.cake_cli.specs.Views.{stage_of}
use Rattle.cake_cli.proofs.reader.read_unit.Given as goal

abbrev pub invariant-loop-at : goal.invariant-loop-at
invariant-loop-at l = read_from (stage_of l.stage) (drop l.at l.tokens) l.end ≡ read_unit l.tokens l.end
