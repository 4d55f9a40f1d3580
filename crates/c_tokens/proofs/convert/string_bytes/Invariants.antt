use Rattle.std.proofs.Common.{◌≡◌, length}
use Rattle.model_tokens.specs.Characters.{characters}
use Rattle.model_tokens.specs.CTokens.{all_bytes}
use Rattle.c_tokens.proofs.CharacterLaws.{before_all}
use Rattle.c_tokens.proofs.convert.string_bytes.Given as goal

abbrev pub invariant-loop-rest : goal.invariant-loop-rest
invariant-loop-rest l = before_all l.bytes (all_bytes (characters l.rest)) ≡ all_bytes (characters l.text)

abbrev pub decreases-loop-rest : goal.decreases-loop-rest
decreases-loop-rest l = length l.rest
