use Rattle.std.proofs.Common.{map, string_bytes}
use Rattle.cake_cli.proofs.PlanLaws.{answered_lines}
use Rattle.cake_cli.proofs.words.read_words.Goals as goal

pub returns-in-Ok-clause-lines : goal.returns-in-Ok-clause-lines
returns-in-Ok-clause-lines c = answered_lines (map string_bytes c.args.words.now) c.take_words.result c.take_words.ensures
