use Rattle.std.proofs.Common.{◌≡◌, ◌+◌, ◌<◌, ◌^◌, length}
use Rattle.model_tokens.specs.JoinedLines.{bytes}
use Rattle.model_tokens.specs.PpTokens.{tokens_from, before_rest, tokens_of}
use Rattle.c_tokens.specs.Unended.{Knows}
use Rattle.c_tokens.proofs.text.pp_tokens.Given as goal

abbrev pub invariant-loop-cell : goal.invariant-loop-cell
invariant-loop-cell l = record {
  same : before_rest l.list (tokens_from l.file 0 l.line l.space (length l.list) l.from) ≡ tokens_of l.file l.text;
  fits : length l.list + length l.from < 2 ^ 32;
  knows : Knows l.unended (bytes l.from);
}

abbrev pub decreases-loop-cell : goal.decreases-loop-cell
decreases-loop-cell l = length l.from
