use Rattle.std.proofs.Common.{◌≡◌, ◌+◌, ◌*◌, drop}
use Rattle.model_preprocessing.specs.Included.{levels, include_line}
use Rattle.model_preprocessing.specs.Preprocessing.{all_lines}
use Rattle.pp_directives.specs.Reads.{Reaches}
use Rattle.pp_directives.proofs.lines.+inclusion.Given as goal

abbrev pub decreases-include : goal.decreases-include
decreases-include g l = 3 * l.levels

abbrev pub decreases-line : goal.decreases-line
decreases-line g l = 3 * l.levels + 1

abbrev pub decreases-translate : goal.decreases-translate
decreases-translate g l = 3 * l.levels + 2

abbrev pub invariant-translate-loop-part : goal.invariant-translate-loop-part
invariant-translate-loop-part g l =
    Reaches (g.F.Files.shows l.initial.files) (g.F.Files.shows l.files)
    (all_lines l.file (include_line (levels l.options.dirs l.levels) l.options.dirs l.file) l.part-items l.initial.opened l.initial.unit)
    (all_lines l.file (include_line (levels l.options.dirs l.levels) l.options.dirs l.file) (drop l.part-index l.part-items) l.opened l.unit)
