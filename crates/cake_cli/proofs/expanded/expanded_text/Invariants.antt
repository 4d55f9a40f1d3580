use Rattle.std.proofs.Common.{◌≡◌, ◌++◌, drop}
use Rattle.cake_cli.specs.ExpandedText.{expanded_text}
use Rattle.cake_cli.specs.Behind.{text_behind}
use Rattle.cake_cli.proofs.expanded.expanded_text.Given as goal

abbrev pub invariant-loop-at : goal.invariant-loop-at
invariant-loop-at l = l.text ++ text_behind l.before (drop l.at l.tokens) ≡ expanded_text l.tokens
