use Rattle.std.proofs.Common.{◌∙◌, ap, refl}
use Rattle.std.proofs.lemmas.Result.{err_from_is_err_and}
use Rattle.model_macros.specs.MacroDefinitions.{names_of}
use Rattle.pp_macros.proofs.GoOnLaws.{Asked-gives, Asked-shrinks, Asked-parts, Done-gives, Done-shrinks, Done-parts, Stopped-parts}
use Rattle.std.proofs.Common.{length}
use Rattle.pp_macros.proofs.expansion.go_on.Goals as goal

pub returns-in-Some-clause-gives : goal.returns-in-Some-clause-gives
returns-in-Some-clause-gives c = Asked-gives c.args.table.now c.args.call c.args.calls _ _ _ c.args.made.now
    (Asked-parts c.args.call c.args.calls c.push.new.self c.new-in-Some.result c.new-in-Some-2.result c.call.inside.name c.call.inside.hides c.call.inside.def.now c.call.inside.rest c.call.inside.uses c.next_use.new.uses
    c.call.inside.args.items c.as_slice.result.now c.as_slice-in-Some.result.now c.set_replaced.new.args.items c.call.inside.rank c.call.inside.out c.count_of-last.result
    (record { rank = c.asked.inside.rank; optional = c.asked.inside.optional }) c.in-Some.asked c.new.result c.in_ok-run-in-Some.run'
    c.call.view_is (c.count_of-last.ensures ∙ ap (λ o. length (names_of o)) c.params.ensures) c.as_slice.ensures.value c.in-Some.ensures c.asked.view_is
    c.set_replaced.ensures c.new.ensures c.in_ok-push-in-Some.ensures c.new-in-Some.ensures (c.in_ok-run-in-Some.ensures ∙ c.written.ensures) c.as_slice-in-Some.ensures.value c.new-in-Some-2.ensures)

pub returns-in-Some-clause-shrinks : goal.returns-in-Some-clause-shrinks
returns-in-Some-clause-shrinks c = Asked-shrinks c.args.call c.args.calls _ _ _ c.args.made.now
    (Asked-parts c.args.call c.args.calls c.push.new.self c.new-in-Some.result c.new-in-Some-2.result c.call.inside.name c.call.inside.hides c.call.inside.def.now c.call.inside.rest c.call.inside.uses c.next_use.new.uses
    c.call.inside.args.items c.as_slice.result.now c.as_slice-in-Some.result.now c.set_replaced.new.args.items c.call.inside.rank c.call.inside.out c.count_of-last.result
    (record { rank = c.asked.inside.rank; optional = c.asked.inside.optional }) c.in-Some.asked c.new.result c.in_ok-run-in-Some.run'
    c.call.view_is (c.count_of-last.ensures ∙ ap (λ o. length (names_of o)) c.params.ensures) c.as_slice.ensures.value c.in-Some.ensures c.asked.view_is
    c.set_replaced.ensures c.new.ensures c.in_ok-push-in-Some.ensures c.new-in-Some.ensures (c.in_ok-run-in-Some.ensures ∙ c.written.ensures) c.as_slice-in-Some.ensures.value c.new-in-Some-2.ensures)

pub returns-in_err-body-in-None-clause-stops : goal.returns-in_err-body-in-None-clause-stops
returns-in_err-body-in-None-clause-stops c =
    let q = err_from_is_err_and c.from_residual-in_err-body-in-None.result c.from_residual-in_err-body-in-None.ensures.1 in
    let h = Stopped-parts c.args.table.now c.args.call c.args.calls c.args.made.now c.finish.new.made c.call.inside.name c.call.inside.hides c.call.inside.def.now c.call.inside.rest c.call.inside.uses
    c.call.inside.args.items c.as_slice.result.now c.as_slice-in-None.result.now c.call.inside.rank c.call.inside.out c.count_of-last.result c.in_err-body-in-None.field-0.0
    c.call.view_is (c.count_of-last.ensures ∙ ap (λ o. length (names_of o)) c.params.ensures) c.as_slice.ensures.value c.in-None.ensures c.as_slice-in-None.ensures.value (c.in_err-body-in-None.ensures c.call.inside.rest) in
    rw (q.1, q.2) h

pub returns-clause-gives : goal.returns-clause-gives
returns-clause-gives c = Done-gives c.args.table.now c.args.call c.args.calls c.args.made.now c.finish.new.made _ _
    (Done-parts c.args.table.now c.args.call c.args.made.now c.finish.new.made c.put.new.self c.call.inside.out c.call.inside.name c.call.inside.hides c.call.inside.def.now c.call.inside.rest c.call.inside.uses
    c.call.inside.args.items c.as_slice.result.now c.as_slice-in-None.result.now c.call.inside.rank c.call.inside.out c.count_of-last.result c.in_ok-body-in-None.body
    c.call.view_is (c.count_of-last.ensures ∙ ap (λ o. length (names_of o)) c.params.ensures) c.as_slice.ensures.value c.in-None.ensures c.as_slice-in-None.ensures.value (c.in_ok-body-in-None.ensures c.call.inside.rest) c.in_ok-put-in-None.ensures refl)

pub returns-clause-shrinks : goal.returns-clause-shrinks
returns-clause-shrinks c = Done-shrinks c.args.table.now c.args.call c.args.calls c.args.made.now c.finish.new.made _ c.call.inside.out
    (Done-parts c.args.table.now c.args.call c.args.made.now c.finish.new.made c.put.new.self c.call.inside.out c.call.inside.name c.call.inside.hides c.call.inside.def.now c.call.inside.rest c.call.inside.uses
    c.call.inside.args.items c.as_slice.result.now c.as_slice-in-None.result.now c.call.inside.rank c.call.inside.out c.count_of-last.result c.in_ok-body-in-None.body
    c.call.view_is (c.count_of-last.ensures ∙ ap (λ o. length (names_of o)) c.params.ensures) c.as_slice.ensures.value c.in-None.ensures c.as_slice-in-None.ensures.value (c.in_ok-body-in-None.ensures c.call.inside.rest) c.in_ok-put-in-None.ensures refl)
