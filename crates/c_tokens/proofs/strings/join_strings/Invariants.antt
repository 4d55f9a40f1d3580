use Rattle.std.proofs.Common.{◌≡◌, ◌++◌, drop}
use Rattle.model_tokens.specs.CTokens.{strings_joined}
use Rattle.c_tokens.specs.Pending.{tokens}
use Rattle.c_tokens.proofs.strings.join_strings.Given as goal

abbrev pub invariant-loop-tok : goal.invariant-loop-tok
invariant-loop-tok l = l.list ++ strings_joined (tokens l.pending ++ drop l.tok-index l.toks) ≡ strings_joined l.toks
