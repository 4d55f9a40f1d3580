use Rattle.std.specs.Prelude.{length, ◌-◌}
use Rattle.c_parser.proofs.TerminalLaws.{Made}
use Rattle.c_parser.proofs.terminals.terminals.Given as goal

abbrev pub invariant-loop-token : goal.invariant-loop-token
invariant-loop-token l = Made l.toks l.terminals l.ranks

abbrev pub decreases-loop-token : goal.decreases-loop-token
decreases-loop-token l = length l.toks - length l.terminals
