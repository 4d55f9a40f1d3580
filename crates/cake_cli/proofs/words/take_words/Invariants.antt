use Rattle.std.proofs.Common.{◌≡◌, ◌+◌, drop, map, string_bytes}
use Rattle.cake_cli.specs.Words.{plan, plan_from}
use Rattle.cake_cli.specs.WordsRead.{met_of, prefixed}
use Rattle.cake_cli.proofs.words.take_words.Given as goal

abbrev pub invariant-loop-i : goal.invariant-loop-i
invariant-loop-i l = prefixed l.options (plan_from (met_of l.met) (l.i + 1) (map string_bytes (drop l.i l.words))) ≡ plan (map string_bytes l.words)
