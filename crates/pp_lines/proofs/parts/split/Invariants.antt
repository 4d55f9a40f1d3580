use Rattle.std.proofs.Common.{◌≡◌, ◌-◌, ◌≤◌, drop, length}
use Rattle.model_preprocessing.specs.Directives.{lines, parts_of_lines}
use Rattle.pp_lines.proofs.SplitLaws.{all_joined, Settled}
use Rattle.pp_lines.proofs.parts.split.Given as goal

abbrev pub invariant-loop-from : goal.invariant-loop-from
invariant-loop-from l = record {
  so_far : all_joined l.parts.items (parts_of_lines (lines (drop l.from l.toks))) ≡ parts_of_lines (lines l.toks);
  settled : Settled l.parts.items;
  within : l.from ≤ length l.toks;
}

abbrev pub decreases-loop-from : goal.decreases-loop-from
decreases-loop-from l = length l.toks - l.from
