use Rattle.std.proofs.Common.{◌∙◌, sym}
use Rattle.pp_macros.proofs.PastingLaws.{alone-other, alone-one}
use Rattle.pp_macros.proofs.pasting.alone.Goals as goal

pub returns-then-count-ne1 : goal.returns-then-count-ne1
returns-then-count-ne1 c = alone-other c.args.text.now c.args.list.now (λ e. c.if-count-ne1.true (c.count.ensures.value ∙ e))

pub returns-in-Some : goal.returns-in-Some
returns-in-Some c = c.kind_of.ensures ∙ sym (alone-one c.args.text.now c.args.list.now c.in-Some.tok.now (sym c.count.ensures.value ∙ c.if-count-ne1.false) c.in-Some.ensures)
