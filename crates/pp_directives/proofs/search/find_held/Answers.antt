use Rattle.std.proofs.Common.{◌≡◌, ◌≤◌, ◌+◌, length, None, Some, Ok, Err, [], refl, sym, ◌∙◌, ap, subst, arith, slice_get}
use Rattle.std.proofs.lemmas.Result.{err_from_is_err_and}
use Rattle.model_preprocessing.specs.Sources.{number_of}
use Rattle.model_preprocessing.specs.Included.{all_candidates, name_of}
use Rattle.model_preprocessing.specs.Processes.{Process}
use Rattle.model_preprocessing.specs.FileSearch.{Found, looked_up, searched}
use Rattle.pp_directives.specs.declared.search.Looked.TheVariants as looks
use Rattle.pp_directives.specs.Looks.{Looks}
use Rattle.pp_directives.proofs.SearchLaws.{held-stops, held-found, held-next, held-absent, past-names, memory-stops}
use Rattle.pp_directives.proofs.search.find_held.Goals as goal

pub returns-in_err-full : goal.returns-in_err-full
returns-in_err-full g c =
    let q = err_from_is_err_and c.from_residual.result c.from_residual.ensures.1 in
    rw (q.1, q.2) (memory-stops (g.F.Files.shows c.args.files.now) (g.F.Files.shows c.loop-rank.files) _ _ c.loop-rank.invariant.reached)

pub returns-in_default : goal.returns-in_default
returns-in_default g c =
    let none : slice_get (all_candidates c.args.options.now.dirs c.args.file c.args.header.now c.args.unit.now) c.loop-rank.rank ≡ None =
    ap (λ u. slice_get (all_candidates c.args.options.now.dirs c.args.file c.args.header.now u) c.loop-rank.rank) (sym c.loop-rank.invariant.same) ∙ sym c.in_ok-full.ensures ∙ c.in_default.is in (
      held-absent (g.F.Files.shows c.args.files.now) (g.F.Files.shows c.loop-rank.files) (g.F.Files.shows c.loop-rank.files) c.args.at c.args.header.now.name _ c.args.unit.now c.loop-rank.unit c.loop-rank.rank [] c.loop-rank.invariant.reached none,
      c.loop-rank.invariant.same,
    )

pub returns-in_err-found : goal.returns-in_err-found
returns-in_err-found g c =
    let here : slice_get (all_candidates c.args.options.now.dirs c.args.file c.args.header.now c.args.unit.now) c.loop-rank.rank ≡ Some c.as_slice.result.now =
    ap (λ u. slice_get (all_candidates c.args.options.now.dirs c.args.file c.args.header.now u) c.loop-rank.rank) (sym c.loop-rank.invariant.same) ∙ sym c.in_ok-full.ensures ∙ c.in-Some.is ∙ ap Some (sym c.as_slice.ensures) in
    let q = err_from_is_err_and c.from_residual-in_err-found.result c.from_residual-in_err-found.ensures.1 in
    rw (q.1, q.2) (held-stops (g.F.Files.shows c.args.files.now) (g.F.Files.shows c.loop-rank.files) (g.F.Files.shows c.look_up.new.files) c.args.at c.args.header.now.name _ c.args.unit.now c.loop-rank.unit c.loop-rank.rank c.as_slice.result.now
    c.look_up.new.unit _ c.loop-rank.invariant.reached c.loop-rank.invariant.same here c.in_err-found.ensures)

pub returns-in-Found : goal.returns-in-Found
returns-in-Found g c =
    let here : slice_get (all_candidates c.args.options.now.dirs c.args.file c.args.header.now c.args.unit.now) c.loop-rank.rank ≡ Some c.as_slice.result.now =
    ap (λ u. slice_get (all_candidates c.args.options.now.dirs c.args.file c.args.header.now u) c.loop-rank.rank) (sym c.loop-rank.invariant.same) ∙ sym c.in_ok-full.ensures ∙ c.in-Some.is ∙ ap Some (sym c.as_slice.ensures) in
    held-found (g.F.Files.shows c.args.files.now) (g.F.Files.shows c.loop-rank.files) (g.F.Files.shows c.look_up.new.files) c.args.at c.args.header.now.name _ c.args.unit.now c.loop-rank.unit c.loop-rank.rank c.as_slice.result.now
    c.look_up.new.unit c.in-Found.found c.loop-rank.invariant.reached c.loop-rank.invariant.same here
    (λ onward. subst (λ z. Looks (g.F.Files.shows c.loop-rank.files) (g.F.Files.shows c.look_up.new.files) (looked_up c.args.at c.as_slice.result.now c.loop-rank.unit onward (number_of c.as_slice.result.now c.loop-rank.unit.held)) onward (Ok z) c.loop-rank.unit c.look_up.new.unit)
    c.in-Found.is (c.in_ok-found.ensures onward))

pub loop-rank-preserved : goal.loop-rank-preserved
loop-rank-preserved g c =
    let here : slice_get (all_candidates c.args.options.now.dirs c.args.file c.args.header.now c.args.unit.now) c.loop-rank.rank ≡ Some c.as_slice.result.now =
    ap (λ u. slice_get (all_candidates c.args.options.now.dirs c.args.file c.args.header.now u) c.loop-rank.rank) (sym c.loop-rank.invariant.same) ∙ sym c.in_ok-full.ensures ∙ c.in-Some.is ∙ ap Some (sym c.as_slice.ensures) in
    let absent = λ (onward : Process Found). subst (λ z. Looks (g.F.Files.shows c.loop-rank.files) (g.F.Files.shows c.look_up.new.files) (looked_up c.args.at c.as_slice.result.now c.loop-rank.unit onward (number_of c.as_slice.result.now c.loop-rank.unit.held)) onward (Ok z) c.loop-rank.unit c.look_up.new.unit)
    c.in-Absent.is (c.in_ok-found.ensures onward) in
    record {
      reached = held-next (g.F.Files.shows c.args.files.now) (g.F.Files.shows c.loop-rank.files) (g.F.Files.shows c.look_up.new.files) c.args.at c.args.header.now.name _ c.args.unit.now c.loop-rank.unit c.loop-rank.rank c.as_slice.result.now
          c.look_up.new.unit c.loop-rank.invariant.reached c.loop-rank.invariant.same here (λ onward. (absent onward).0);
      same = (absent (searched c.args.at c.args.header.now.name [] c.args.unit.now)).1 ∙ c.loop-rank.invariant.same;
    }

pub returns : goal.returns
returns g c =
    let past : length c.args.options.now.dirs + 1 ≤ c.loop-rank.rank = omega (arith, c.dir_count-rank-end.ensures.value, c.loop-rank-test.false) in (
      held-absent (g.F.Files.shows c.args.files.now) (g.F.Files.shows c.loop-rank.files) (g.F.Files.shows c.loop-rank.files) c.args.at c.args.header.now.name _ c.args.unit.now c.loop-rank.unit c.loop-rank.rank [] c.loop-rank.invariant.reached
          (past-names (name_of (slice_get c.args.unit.now.log.names c.args.file)) c.args.options.now.dirs c.args.header.now c.loop-rank.rank past),
      c.loop-rank.invariant.same,
    )
