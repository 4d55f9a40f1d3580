use Rattle.std.proofs.Common.{◌≡◌, ◌∙◌, ap, sym, Err}
use Rattle.model_macros.specs.Pasting.{single, alone}
use Rattle.model_tokens.specs.PpTokens.{tokens_of}
use Rattle.pp_macros.proofs.pasting.single.Goals as goal

pub returns-in-Err-Fault : goal.returns-in-Err-Fault
unfolding single
returns-in-Err-Fault c =
    let e : tokens_of 0 c.args.text.now ≡ Err c.in-Err-Fault.field-0-0 = rw c.in-Err-Fault.field-0-is at c.in-Err-Fault.ensures in
    sym (ap (alone c.args.text.now) e)

pub returns-in-Ok : goal.returns-in-Ok
unfolding single
returns-in-Ok c = c.alone.ensures ∙ sym (ap (alone c.args.text.now) c.in-Ok.ensures)
