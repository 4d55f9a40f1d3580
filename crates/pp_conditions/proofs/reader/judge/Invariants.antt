use Rattle.std.proofs.Common.{◌≡◌, drop, Some}
use Rattle.model_conditions.specs.apparatus.ConditionReader.{read, read_from}
use Rattle.model_conditions.specs.ConditionReading.{computed}
use Rattle.pp_conditions.specs.Progress.{reading}
use Rattle.pp_conditions.proofs.reader.judge.Given as goal

abbrev pub invariant-loop-token : goal.invariant-loop-token
invariant-loop-token l = read_from computed (Some (reading l.reading)) (drop l.token-index l.tokens) ≡ read computed l.tokens
