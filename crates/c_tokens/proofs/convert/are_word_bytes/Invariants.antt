use Rattle.std.proofs.Common.{◌≡◌, drop}
use Rattle.model_tokens.specs.CTokens.{are_word_bytes}
use Rattle.c_tokens.proofs.convert.are_word_bytes.Given as goal

abbrev pub invariant-loop-b : goal.invariant-loop-b
invariant-loop-b l = are_word_bytes (drop l.b-index l.text) ≡ are_word_bytes l.text
