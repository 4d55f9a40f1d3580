use Rattle.std.proofs.Common.{◌≡◌, ap, sym, ◌∙◌, arith, length, ◌≤◌, ◌<◌, true, slice_set}
use Rattle.model_preprocessing.specs.Sources.{Source, marked_once}
use Rattle.pp_lines.proofs.OnceLaws.{marked-set, marked-past}
use Rattle.pp_lines.proofs.sources.Sources.mark_once.Goals as goal

pub returns-then-at-len : goal.returns-then-at-len
returns-then-at-len c =
    let within : c.args.file < length c.self.inside.files.items = omega (arith, c.if-at-len.true, c.len.ensures) in
    let new : Source → Source = λ f. record f { once = true } in
    ap (λ z. slice_set c.self.inside.files.items c.args.file (new z)) c.behind-self.view_is
    ∙ marked-set c.self.inside.files.items c.args.file c.index_mut.result.now c.index_mut.ensures.value within
    ∙ ap (marked_once c.args.file) c.self.view_is

pub returns-else-at-len : goal.returns-else-at-len
returns-else-at-len c =
    let past : length c.self.inside.files.items ≤ c.args.file = omega (arith, c.if-at-len.false, c.len.ensures) in
    sym c.self.view_is ∙ sym (marked-past c.self.inside.files.items c.args.file past) ∙ ap (marked_once c.args.file) c.self.view_is
