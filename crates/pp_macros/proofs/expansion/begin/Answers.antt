use Rattle.std.proofs.Common.{◌≡◌, Some, None}
use Rattle.std.proofs.lemmas.Result.{err_from_is_err_and}
use Rattle.pp_macros.proofs.GoOnLaws.{refused, object-begins, function-begins}
use Rattle.pp_macros.proofs.expansion.begin.Goals as goal

pub returns-in_err-call-in-Some-clause-stops : goal.returns-in_err-call-in-Some-clause-stops
returns-in_err-call-in-Some-clause-stops c =
    let kind : c.args.def.now.params ≡ Some c.in-Some.field-0 = cc in
    let q = err_from_is_err_and c.from_residual-in_err-call-in-Some.result c.from_residual-in_err-call-in-Some.ensures.1 in
    rw (q.1, q.2) (λ table fs made s. refused table c.args.p.now c.args.pending c.args.out c.args.rank c.args.def.now c.in-Some.field-0 fs made c.in_err-call-in-Some.field-0.0 s kind c.in_err-call-in-Some.ensures.refused)

pub returns-in_ok-call-in-None-clause-begins : goal.returns-in_ok-call-in-None-clause-begins
returns-in_ok-call-in-None-clause-begins c =
    let kind : c.args.def.now.params ≡ None = cc in
    λ table s. object-begins table c.args.p.now c.args.pending c.args.out c.args.rank c.args.def.now c.in_ok-call-in-None.call s kind c.in_ok-call-in-None.ensures

pub returns-in_ok-call-in-Some-clause-begins : goal.returns-in_ok-call-in-Some-clause-begins
returns-in_ok-call-in-Some-clause-begins c =
    let kind : c.args.def.now.params ≡ Some c.in-Some.field-0 = cc in
    λ table s. function-begins table c.args.p.now c.args.pending c.args.out c.args.rank c.args.def.now c.in-Some.field-0 c.in_ok-call-in-Some.call s kind c.in_ok-call-in-Some.ensures.called
