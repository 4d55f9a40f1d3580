use Rattle.std.proofs.Common.{◌≡◌, drop}
use Rattle.cake_cli.specs.Words.{has_line_feed}
use Rattle.cake_cli.proofs.meanings.has_line_feed.Given as goal

abbrev pub invariant-loop-byte : goal.invariant-loop-byte
invariant-loop-byte l = has_line_feed (drop l.byte-index l.text) ≡ has_line_feed l.text
