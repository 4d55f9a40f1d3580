use Rattle.std.specs.Prelude.{◌≡◌, ◌++◌, take}
use Rattle.c_parser.proofs.entries.Entries.extend.Given as goal

abbrev pub invariant-loop-entry : goal.invariant-loop-entry
invariant-loop-entry l = l.self ≡ l.fn.self ++ take l.entry-index l.entries
