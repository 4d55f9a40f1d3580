use Rattle.std.proofs.Common.{◌≡◌, ◌++◌, take, drop}
use Rattle.cake_cli.specs.Words.{defined_name, defined_value}
use Rattle.cake_cli.proofs.meanings.name_length.Given as goal

abbrev pub invariant-loop-i : goal.invariant-loop-i
invariant-loop-i l = record {
  name : take l.i l.text ++ defined_name (drop l.i l.text) ≡ defined_name l.text;
  value : defined_value (drop l.i l.text) ≡ defined_value l.text;
}
