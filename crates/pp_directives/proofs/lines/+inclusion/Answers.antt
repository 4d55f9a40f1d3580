use Rattle.std.proofs.Common.{◌≡◌, ◌≤◌, ◌<◌, ◌+◌, ◌-◌, length, Ok, Some, None, slice_get, refl, sym, ◌∙◌, ap, subst, arith}
use Rattle.std.proofs.lemmas.Result.{err_from_is_err_and}
use Rattle.model_preprocessing.specs.Processes.{gives}
use Rattle.model_preprocessing.specs.Sources.{here}
use Rattle.model_preprocessing.specs.FileSearch.{searched}
use Rattle.model_preprocessing.specs.Included.{all_candidates, include_line, levels}
use Rattle.model_preprocessing.specs.Preprocessing.{all_lines}
use Rattle.pp_directives.specs.Reads.{Reaches}
use Rattle.std.specs.Option.{option_map}
use Rattle.pp_directives.specs.Lines.{Finds}
use Rattle.pp_directives.specs.Outcomes.{Stops, Runs}
use Rattle.pp_directives.proofs.ReadLaws.{does-runs, reaches-self, runs-after}
use Rattle.pp_directives.proofs.InclusionLaws.{include-limit, include-err, include-some, include-none, line-included, lines-err, lines-next, lines-end, item-read, translated-lines}
use Rattle.pp_directives.proofs.lines.+inclusion.Goals as goal

pub include-returns-then-levels-eq0 : goal.include-returns-then-levels-eq0
include-returns-then-levels-eq0 g t c =
    include-limit (g.F.Files.shows c.args.files.now) c.args.options.now.dirs c.args.file c.args.part.now c.args.unit.now c.header_of.new.unit c.in_ok-header.header c.here-at.result c.args.levels c.limit.result
    c.in_ok-header.ensures (c.here-at.ensures ∙ ap (λ p. here c.args.unit.now p.at) c.part.view_is) c.if-levels-eq0.true c.limit.ensures

pub include-returns-in_err-found : goal.include-returns-in_err-found
include-returns-in_err-found g t c =
    let more : 0 < c.args.levels = omega (arith, c.if-levels-eq0.false) in
    let q = err_from_is_err_and c.from_residual-in_err-found.result c.from_residual-in_err-found.ensures.1 in
    rw (q.1, q.2) (include-err (g.F.Files.shows c.args.files.now) (g.F.Files.shows c.find.new.files) (g.F.Files.shows c.find.new.files) c.args.options.now.dirs c.args.file c.args.part.now c.args.unit.now c.header_of.new.unit c.in_ok-header.header c.here-at.result c.args.levels
    c.in_ok-header.ensures (c.here-at.ensures ∙ ap (λ p. here c.args.unit.now p.at) c.part.view_is) more _ _ c.in_err-found.ensures)

pub include-returns-in-Some : goal.include-returns-in-Some
include-returns-in-Some g t c =
    let more : 0 < c.args.levels = omega (arith, c.if-levels-eq0.false) in
    let found = subst (λ z. Reaches (g.F.Files.shows c.args.files.now) (g.F.Files.shows c.find.new.files) (searched c.here-at.result c.in_ok-header.header.name (all_candidates c.args.options.now.dirs c.args.file c.in_ok-header.header c.header_of.new.unit) c.header_of.new.unit) (gives (z, c.find.new.unit)))
    c.in-Some.is c.in_ok-found.ensures in
    include-some (g.F.Files.shows c.args.files.now) (g.F.Files.shows c.find.new.files) (g.F.Files.shows c.translate.new.files) c.args.options.now.dirs c.args.file c.args.part.now c.args.unit.now c.header_of.new.unit c.in_ok-header.header c.here-at.result c.args.levels
    c.in_ok-header.ensures (c.here-at.ensures ∙ ap (λ p. here c.args.unit.now p.at) c.part.view_is) more c.in-Some.found c.find.new.unit c.translate.result _ _ found c.translate.ensures

pub include-returns : goal.include-returns
include-returns g t c =
    let more : 0 < c.args.levels = omega (arith, c.if-levels-eq0.false) in
    let found = subst (λ z. Reaches (g.F.Files.shows c.args.files.now) (g.F.Files.shows c.find.new.files) (searched c.here-at.result c.in_ok-header.header.name (all_candidates c.args.options.now.dirs c.args.file c.in_ok-header.header c.header_of.new.unit) c.header_of.new.unit) (gives (z, c.find.new.unit)))
    c.in-None.is c.in_ok-found.ensures in
    include-none (g.F.Files.shows c.args.files.now) (g.F.Files.shows c.find.new.files) (g.F.Files.shows c.find.new.files) c.args.options.now.dirs c.args.file c.args.part.now c.args.unit.now c.header_of.new.unit c.in_ok-header.header c.here-at.result c.args.levels
    c.in_ok-header.ensures (c.here-at.ensures ∙ ap (λ p. here c.args.unit.now p.at) c.part.view_is) more c.find.new.unit found

pub line-returns-then-not-is_include : goal.line-returns-then-not-is_include
line-returns-then-not-is_include g t c =
    let inc = include_line (levels c.args.options.now.dirs c.args.levels) c.args.options.now.dirs c.args.file in
    does-runs (g.F.Files.shows c.args.files.now) _ c.plain_line.result _ _ (c.plain_line.ensures inc (λ e. c.is_include.ensures.no c.if-not-is_include.true (ap (λ p. p.kind) c.part.view_is ∙ e)))

pub line-returns-then-is_translated : goal.line-returns-then-is_translated
line-returns-then-is_translated g t c =
    let inc = include_line (levels c.args.options.now.dirs c.args.levels) c.args.options.now.dirs c.args.file in
    line-included (g.F.Files.shows c.args.files.now) (g.F.Files.shows c.include.new.files) c.args.file inc c.args.part.now.kind c.args.part.now c.args.opened.now c.args.unit.now c.include.new.unit c.include.result c.include.new.unit.log
    (ap (λ p. p.kind) (sym c.part.view_is) ∙ c.is_include.ensures.yes c.if-not-is_include.false) (sym c.is_translated.ensures ∙ c.if-is_translated.true) c.include.ensures

pub translate-loop-part-init : goal.translate-loop-part-init
translate-loop-part-init g t c = reaches-self (g.F.Files.shows c.args.files.now) _ _ refl

pub translate-returns-in_err-line : goal.translate-returns-in_err-line
translate-returns-in_err-line g t c =
    let inc = include_line (levels c.args.options.now.dirs c.args.levels) c.args.options.now.dirs c.args.file in
    let finds = subst (λ z. Finds (option_map (λ s. s.lines) (slice_get c.args.unit.now.sources c.args.file)) (option_map (λ rc. rc.value) z)) c.in-Some.is c.in_ok-lines.ensures.found in
    let all = translated-lines (levels c.args.options.now.dirs c.args.levels) c.args.options.now.dirs c.args.file c.args.unit.now finds.0 c.parts-part-items.result.now c.new-opened.result
    finds.2 (c.parts-part-items.ensures finds.0 (c.as_ref.ensures ∙ finds.1)) c.new-opened.ensures in
    let here = item-read c.parts-part-items.result.now c.loop-part.part-index c.part-item.result (omega (arith, c.loop-part-test.true)) c.part-item.is in
    let q = err_from_is_err_and c.from_residual-in_err-line.result c.from_residual-in_err-line.ensures.1 in
    rw (q.1, q.2) (subst (λ z. Stops (g.F.Files.shows c.args.files.now) (g.F.Files.shows c.line.new.files) z c.in_err-line.field-0.0 c.line.new.unit.log) (sym all)
    (lines-err (g.F.Files.shows c.args.files.now) (g.F.Files.shows c.loop-part.files) (g.F.Files.shows c.line.new.files) c.args.file inc c.parts-part-items.result.now c.new-opened.result c.loop-part.opened c.args.unit.now c.loop-part.unit c.loop-part.part-index
    c.part-item.result c.in_err-line.field-0.0 c.line.new.unit.log here c.loop-part.invariant c.in_err-line.ensures))

pub translate-loop-part-preserved : goal.translate-loop-part-preserved
translate-loop-part-preserved g t c =
    let inc = include_line (levels c.args.options.now.dirs c.args.levels) c.args.options.now.dirs c.args.file in
    let here = item-read c.parts-part-items.result.now c.loop-part.part-index c.part-item.result (omega (arith, c.loop-part-test.true)) c.part-item.is in
    lines-next (g.F.Files.shows c.args.files.now) (g.F.Files.shows c.loop-part.files) (g.F.Files.shows c.line.new.files) c.args.file inc c.parts-part-items.result.now c.new-opened.result c.loop-part.opened c.args.unit.now c.loop-part.unit c.loop-part.part-index
    c.part-item.result c.line.new.opened c.line.new.unit here c.loop-part.invariant c.in_ok-line.ensures

pub translate-returns : goal.translate-returns
translate-returns g t c =
    let inc = include_line (levels c.args.options.now.dirs c.args.levels) c.args.options.now.dirs c.args.file in
    let finds = subst (λ z. Finds (option_map (λ s. s.lines) (slice_get c.args.unit.now.sources c.args.file)) (option_map (λ rc. rc.value) z)) c.in-Some.is c.in_ok-lines.ensures.found in
    let all = translated-lines (levels c.args.options.now.dirs c.args.levels) c.args.options.now.dirs c.args.file c.args.unit.now finds.0 c.parts-part-items.result.now c.new-opened.result
    finds.2 (c.parts-part-items.ensures finds.0 (c.as_ref.ensures ∙ finds.1)) c.new-opened.ensures in
    let past : length c.parts-part-items.result.now ≤ c.loop-part.part-index = omega (arith, c.loop-part-test.false) in
    subst (λ z. Runs (g.F.Files.shows c.args.files.now) (g.F.Files.shows c.loop-part.files) z c.end_of_file.result (λ x. c.loop-part.unit) c.loop-part.unit.log) (sym all)
    (lines-end (g.F.Files.shows c.args.files.now) (g.F.Files.shows c.loop-part.files) (g.F.Files.shows c.loop-part.files) c.args.file inc c.parts-part-items.result.now c.new-opened.result c.loop-part.opened c.args.unit.now c.loop-part.unit c.loop-part.part-index
    c.end_of_file.result (λ x. c.loop-part.unit) c.loop-part.unit.log past c.loop-part.invariant c.end_of_file.ensures)
