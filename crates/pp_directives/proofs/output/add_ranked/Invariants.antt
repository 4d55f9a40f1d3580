use Rattle.std.proofs.Common.{◌≡◌, ◌+◌, ◌++◌, drop, length}
use Rattle.model_preprocessing.specs.Sources.{ranked_from}
use Rattle.pp_directives.proofs.output.add_ranked.Given as goal

abbrev pub invariant-loop-at : goal.invariant-loop-at
invariant-loop-at l = record {
  so_far : l.tokens ++ ranked_from (l.rank + l.at) (drop l.at l.new) ≡ l.initial.tokens ++ ranked_from l.rank l.new;
  count : length l.tokens ≡ l.rank + l.at;
}
