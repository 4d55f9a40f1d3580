use Rattle.std.proofs.Common.{◌≡◌, ◌++◌, drop}
use Rattle.model_c89.specs.Spelling89.{functions_text}
use Rattle.c89_writer.proofs.program.push_functions.Given as goal

abbrev pub invariant-loop-function : goal.invariant-loop-function
invariant-loop-function l = l.out ++ functions_text (drop l.function-index l.functions) ≡ l.initial.out ++ functions_text l.functions
