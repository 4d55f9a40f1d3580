use Rattle.std.proofs.Common.{◌≡◌, ap, sym, ◌∙◌, None, slice_get}
use Rattle.model_preprocessing.specs.Pragmas.{assignment, severity_of, finding_number}
use Rattle.pp_lines.proofs.RankLaws.{not_some}
use Rattle.pp_lines.proofs.PragmaLaws.{diagnostic-two}
use Rattle.pp_lines.proofs.pragmas.diagnostic.Goals as goal

pub returns : goal.returns
returns c =
    let none : slice_get c.args.toks.now 4 ≡ None = not_some _ _ _ c.get-3.ensures (sym c.is_some.ensures ∙ c.if-is_some.false) in
    let two = diagnostic-two c.args.toks.now c.in-Some.first.now c.in-Some-get.second.now (sym c.in-Some.ensures) (sym c.in-Some-get.ensures) none in
    c.assignment.ensures
    ∙ ap (λ z. assignment z c.finding_number.result) (c.severity_of.ensures ∙ ap severity_of c.spelling-2.ensures)
    ∙ ap (assignment (severity_of c.in-Some.first.now.spelling)) (c.finding_number.ensures ∙ ap finding_number c.spelling-3.ensures)
    ∙ sym two
