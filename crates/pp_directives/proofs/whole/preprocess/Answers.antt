use Rattle.pp_directives.proofs.PromiseLaws.{is-due, failed-read, missed-main, all-kept}
use Rattle.pp_directives.proofs.whole.preprocess.Goals as goal

pub returns-clause-due : goal.returns-clause-due
returns-clause-due g c = is-due (g.F.Files.shows c.args.files.now) (g.F.Files.shows c.prepare.new.files) c.args.options.now c.args.name.now c.prepare.result c.prepare.new.log c.prepare.ensures

pub returns-clause-failed : goal.returns-clause-failed
returns-clause-failed g c = failed-read (g.F.Files.shows c.args.files.now) (g.F.Files.shows c.prepare.new.files) c.args.options.now c.args.name.now c.prepare.result c.prepare.new.log c.prepare.ensures

pub returns-clause-missed : goal.returns-clause-missed
returns-clause-missed g c = missed-main (g.F.Files.shows c.args.files.now) (g.F.Files.shows c.prepare.new.files) c.args.options.now c.args.name.now c.prepare.result c.prepare.new.log c.prepare.ensures

pub returns-clause-kept : goal.returns-clause-kept
returns-clause-kept g c = all-kept (g.F.Files.shows c.args.files.now) (g.F.Files.shows c.prepare.new.files) c.args.options.now c.args.name.now c.prepare.result c.prepare.new.log c.prepare.ensures
