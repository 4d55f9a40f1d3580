use Rattle.std.proofs.Common.{sym, subst, []}
use Rattle.c_parser.proofs.TerminalLaws.{Made, no_terminal, one_step, fewer, no_more}
use Rattle.c_parser.proofs.terminals.terminals.Goals as goal

pub loop-token-init : goal.loop-token-init
loop-token-init c = subst (λ z. Made c.args.toks.now z c.new-ranks.result) (sym c.new-terminals.ensures) (subst (λ z. Made c.args.toks.now [] z) (sym c.new-ranks.ensures) (no_terminal c.args.toks.now))

pub loop-token-smaller : goal.loop-token-smaller
loop-token-smaller c = fewer c.args.toks.now c.loop-token.terminals c.push.new.self c.in-Some.token.now c.in_ok-next.next c.len.result c.len.ensures c.in-Some.ensures c.in_ok-push.ensures.ok

pub loop-token-preserved : goal.loop-token-preserved
loop-token-preserved c = one_step c.args.toks.now c.loop-token.terminals c.push.new.self c.loop-token.ranks c.terminal.new.ranks c.in-Some.token.now c.in_ok-next.next c.len.result c.len-in-Some.result c.loop-token.invariant c.len.ensures c.len-in-Some.ensures c.in-Some.ensures c.in_ok-next.ensures.terminal c.in_ok-next.ensures.kept c.in_ok-push.ensures.ok

pub returns : goal.returns
returns c = no_more c.args.toks.now c.loop-token.terminals c.loop-token.ranks c.len.result c.loop-token.invariant c.len.ensures c.in_default.ensures
