use Rattle.std.proofs.Common.{◌≡◌, drop}
use Rattle.model_preprocessing.specs.Included.{all_candidates}
use Rattle.model_preprocessing.specs.FileSearch.{searched}
use Rattle.pp_directives.specs.Reads.{Reaches}
use Rattle.pp_directives.proofs.search.find_held.Given as goal

abbrev pub invariant-loop-rank : goal.invariant-loop-rank
invariant-loop-rank g l = record {
  reached : Reaches (g.F.Files.shows l.initial.files) (g.F.Files.shows l.files)
      (searched l.at l.header.name (all_candidates l.options.dirs l.file l.header l.initial.unit) l.initial.unit)
      (searched l.at l.header.name (drop l.rank (all_candidates l.options.dirs l.file l.header l.initial.unit)) l.initial.unit);
  same : l.unit ≡ l.initial.unit;
}
