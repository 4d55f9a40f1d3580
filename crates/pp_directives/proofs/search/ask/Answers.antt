use Rattle.std.proofs.Common.{◌≡◌, refl, sym, ◌∙◌, ap, subst}
use Rattle.std.proofs.lemmas.Result.{err_from_is_err_and}
use Rattle.cake_base.specs.Outside.{RefusesRead}
use Rattle.model_preprocessing.specs.Processes.{NotHeld}
use Rattle.model_preprocessing.specs.FileSearch.{read_file}
use Rattle.pp_directives.proofs.SearchLaws.{ask-reaches, contents-read, ask-found, ask-stops, large-stops, failed-stops}
use Rattle.pp_directives.proofs.search.ask.Goals as goal

pub returns-in_err-file-in-Ok : goal.returns-in_err-file-in-Ok
returns-in_err-file-in-Ok g c =
    let answers = contents-read (g.F.Files.shows c.args.files.now) (g.F.Files.shows c.read.new.self) c.args.name.now _ _ _ c.new-text.ensures.items c.as_slice.ensures.value c.in-Ok.ensures.gives in
    let q = err_from_is_err_and c.from_residual.result c.from_residual.ensures.1 in
    λ onward. rw (q.1, q.2) (ask-stops (g.F.Files.shows c.args.files.now) (g.F.Files.shows c.read.new.self) c.args.at c.args.name.now _ c.args.unit.now onward _ _ c.in-Ok.ensures.keeps answers c.in_err-file-in-Ok.ensures)

pub returns-in-Ok : goal.returns-in-Ok
returns-in-Ok g c =
    let answers = contents-read (g.F.Files.shows c.args.files.now) (g.F.Files.shows c.read.new.self) c.args.name.now _ _ _ c.new-text.ensures.items c.as_slice.ensures.value c.in-Ok.ensures.gives in
    λ onward. ask-found (g.F.Files.shows c.args.files.now) (g.F.Files.shows c.read.new.self) c.args.at c.args.name.now _ c.args.unit.now c.take.new.unit onward c.in_ok-file-in-Ok.file c.in-Ok.ensures.keeps answers c.in_ok-file-in-Ok.ensures

pub returns-in-Err-Missing : goal.returns-in-Err-Missing
returns-in-Err-Missing g c =
    let gives = subst (RefusesRead (g.F.Files.shows c.args.files.now) (g.F.Files.shows c.read.new.self) c.args.name.now) c.in-Err-Missing.field-0-is c.in-Err-Missing.ensures.gives.1 in
    λ onward. (ask-reaches (g.F.Files.shows c.args.files.now) (g.F.Files.shows c.read.new.self) c.args.name.now NotHeld (read_file c.args.at c.args.name.now c.args.unit.now onward) c.in-Err-Missing.ensures.keeps gives, refl)

pub returns-in-Err-TooLarge : goal.returns-in-Err-TooLarge
returns-in-Err-TooLarge g c =
    let gives = subst (RefusesRead (g.F.Files.shows c.args.files.now) (g.F.Files.shows c.read.new.self) c.args.name.now) c.in-Err-TooLarge.field-0-is c.in-Err-TooLarge.ensures.gives.1 in
    λ onward. large-stops (g.F.Files.shows c.args.files.now) (g.F.Files.shows c.read.new.self) c.args.at c.args.name.now c.args.unit.now c.unread.new.unit onward c.unread.result c.in-Err-TooLarge.ensures.keeps gives c.unread.ensures

pub returns-in-Err-Failed : goal.returns-in-Err-Failed
returns-in-Err-Failed g c =
    let gives = subst (RefusesRead (g.F.Files.shows c.args.files.now) (g.F.Files.shows c.read.new.self) c.args.name.now) c.in-Err-Failed.field-0-is c.in-Err-Failed.ensures.gives.1 in
    λ onward. failed-stops (g.F.Files.shows c.args.files.now) (g.F.Files.shows c.read.new.self) c.args.at c.args.name.now c.args.unit.now c.unread-in-Err-Failed.new.unit onward c.unread-in-Err-Failed.result c.in-Err-Failed.ensures.keeps gives c.unread-in-Err-Failed.ensures
