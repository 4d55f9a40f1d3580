use Rattle.std.specs.Prelude.{◌≡◌, drop}
use Rattle.model_grammar.specs.GrammarForm.{mem}
use Rattle.c_parser.proofs.sets.is_one.Given as goal

abbrev pub invariant-loop-known : goal.invariant-loop-known
invariant-loop-known l = mem l.kind (drop l.known-index l.kinds) ≡ mem l.kind l.kinds
