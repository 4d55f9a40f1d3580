use Rattle.std.proofs.Common.{◌≡◌, drop, map}
use Rattle.c_tokens.specs.Numbered.{number_under}
use Rattle.c_tokens.proofs.words.number_under.Given as goal

abbrev pub invariant-loop-entry : goal.invariant-loop-entry
invariant-loop-entry l = number_under (map (λ e. (e.0.now, e.1)) (drop l.entry-index l.table)) l.spelling ≡ number_under (map (λ e. (e.0.now, e.1)) l.table) l.spelling
