use Rattle.std.proofs.Common.{◌≡◌, refl, sym, ◌∙◌, ap, subst}
use Rattle.std.proofs.lemmas.Result.{err_from_is_err_and}
use Rattle.model_preprocessing.specs.Processes.{Contents}
use Rattle.model_preprocessing.specs.PreprocessedUnit.{both_files}
use Rattle.pp_directives.specs.Reads.{Answers}
use Rattle.pp_directives.specs.Outcomes.{Stops}
use Rattle.pp_directives.proofs.UnitLaws.{main-unread, no-memory, unit-stops, unit-gives, same-prepared}
use Rattle.pp_directives.proofs.whole.prepare.Goals as goal

pub returns-in_err-text : goal.returns-in_err-text
returns-in_err-text g c =
    let q = err_from_is_err_and c.from_residual-in_err-text.result c.from_residual-in_err-text.ensures.1 in
    rw (q.1, q.2) (main-unread (g.F.Files.shows c.args.files.now) (g.F.Files.shows c.read_main.new.files) c.args.options.now c.args.name.now c.in_err-text.field-0.0 c.in_ok-log.field-0 c.in_err-text.ensures.keeps c.in_ok-log.ensures c.in_err-text.ensures.unread)

pub returns-in_err-unit : goal.returns-in_err-unit
returns-in_err-unit g c =
    let q = err_from_is_err_and c.from_residual-in_err-unit.result c.from_residual-in_err-unit.ensures.1 in
    rw (q.1, q.2) (no-memory (g.F.Files.shows c.args.files.now) (g.F.Files.shows c.read_main.new.files) c.args.options.now c.args.name.now c.in_ok-log.field-0 c.in_ok-text.ensures.keeps)

pub returns-in_err-done : goal.returns-in_err-done
returns-in_err-done g c =
    let a = g.F.Files.shows c.args.files.now in
    let b = g.F.Files.shows c.read_main.new.files in
    let d = g.F.Files.shows c.both_files-done.new.files in
    let answers = subst (λ z. Answers a b c.args.name.now (Contents z)) (sym c.as_slice.ensures.value) c.in_ok-text.ensures.text in
    let q = err_from_is_err_and c.from_residual-in_err-done.result c.from_residual-in_err-done.ensures.1 in
    rw (q.1, q.2) (unit-stops a b d c.args.options.now c.args.name.now c.as_slice.result.now c.in_ok-unit.unit c.in_err-done.field-0.0 c.into_parts-tokens.result.2 c.in_ok-text.ensures.keeps answers c.in_ok-unit.ensures
    (subst (λ z. Stops b d (both_files c.args.options.now c.in_ok-unit.unit) c.in_err-done.field-0.0 z) (sym c.into_parts-tokens.ensures.log) c.in_err-done.ensures))

pub returns : goal.returns
returns g c =
    let a = g.F.Files.shows c.args.files.now in
    let b = g.F.Files.shows c.read_main.new.files in
    let d = g.F.Files.shows c.both_files-done.new.files in
    let answers = subst (λ z. Answers a b c.args.name.now (Contents z)) (sym c.as_slice.ensures.value) c.in_ok-text.ensures.text in
    unit-gives a b d c.args.options.now c.args.name.now c.as_slice.result.now c.in_ok-unit.unit c.both_files-done.new.unit c.prepared.result c.into_parts-tokens.result.2 c.in_ok-text.ensures.keeps answers c.in_ok-unit.ensures
    c.in_ok-done.ensures
    (same-prepared c.as_slice.result.now c.as_slice-2.result.now c.both_files-done.new.unit c.into_parts-tokens.result.0 c.into_parts-tokens.result.1 c.into_parts-tokens.result.2 c.prepared.result
    c.into_parts-tokens.ensures.tokens c.into_parts-tokens.ensures.marks c.into_parts-tokens.ensures.log (c.as_slice-2.ensures.value ∙ sym c.as_slice.ensures.value) c.prepared.ensures)
