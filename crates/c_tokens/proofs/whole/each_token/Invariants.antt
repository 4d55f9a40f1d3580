use Rattle.std.proofs.Common.{◌≡◌, drop}
use Rattle.model_tokens.specs.CTokens.{each_token}
use Rattle.c_tokens.proofs.WholeLaws.{before_list}
use Rattle.c_tokens.proofs.whole.each_token.Given as goal

abbrev pub invariant-loop-tok : goal.invariant-loop-tok
invariant-loop-tok l = before_list l.list (each_token (drop l.tok-index l.toks)) ≡ each_token l.toks
