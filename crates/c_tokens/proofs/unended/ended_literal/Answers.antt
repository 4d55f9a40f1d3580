use Rattle.std.proofs.Common.{◌≡◌, ◌+◌, drop, ap, sym, ◌∙◌, false}
use Rattle.std.specs.List.{prefix_len}
use Rattle.model_tokens.specs.JoinedLines.{bytes}
use Rattle.model_tokens.specs.PpSteps.{closing, is_in_line}
use Rattle.c_tokens.proofs.CellLaws.{bytes_drop}
use Rattle.c_tokens.proofs.UnendedLaws.{barren_front}
use Rattle.c_tokens.proofs.unended.ended_literal.Goals as goal

pub returns-then-prefix-eq0-clause-knows : goal.returns-then-prefix-eq0-clause-knows
returns-then-prefix-eq0-clause-knows c =
    let front : c.args.prefix + 1 ≡ 1 = ap (λ k. k + 1) c.if-prefix-eq0.true in
    let is : bytes c.skip.new.from ≡ drop 1 (bytes c.args.from.now) =
    ap bytes c.skip.ensures ∙ bytes_drop (c.args.prefix + 1) c.again-rest.result ∙ ap (λ k. drop k (bytes c.again-rest.result)) front ∙ ap (λ cells. drop 1 (bytes cells)) c.again-rest.ensures in
    barren_front c.args.quote c.in-Err.n (bytes c.args.from.now)
    (ap (closing c.args.quote false) (sym is) ∙ c.in-Err.ensures.value)
    (c.in-Err.ensures.line ∙ ap (prefix_len is_in_line) is)
