use Rattle.std.proofs.Common.{◌≡◌, refl, sym, ◌∙◌, ap}
use Rattle.std.proofs.lemmas.Result.{err_from_is_err_and}
use Rattle.model_preprocessing.specs.Included.{levels}
use Rattle.model_preprocessing.specs.PreprocessedUnit.{MOST_LEVELS}
use Rattle.pp_directives.proofs.UnitLaws.{files-run, files-stop}
use Rattle.pp_directives.proofs.whole.both_files.Goals as goal

pub returns-in_err-translate : goal.returns-in_err-translate
unfolding MOST_LEVELS
returns-in_err-translate g c =
    let q = err_from_is_err_and c.from_residual.result c.from_residual.ensures.1 in
    rw (q.1, q.2) (files-stop (g.F.Files.shows c.args.files.now) (g.F.Files.shows c.translate.new.files) (levels c.args.options.now.dirs MOST_LEVELS) c.args.options.now.dirs c.args.unit.now c.in_err-translate.field-0.0 c.translate.new.unit.log c.in_err-translate.ensures)

pub returns : goal.returns
unfolding MOST_LEVELS
returns g c =
    files-run (g.F.Files.shows c.args.files.now) (g.F.Files.shows c.translate.new.files) (g.F.Files.shows c.translate-2.new.files) (levels c.args.options.now.dirs MOST_LEVELS) c.args.options.now.dirs c.args.unit.now c.translate.new.unit
    c.translate-2.result _ c.translate-2.new.unit.log c.in_ok-translate.ensures c.translate-2.ensures
