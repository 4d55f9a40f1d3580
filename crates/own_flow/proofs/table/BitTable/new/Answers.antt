use Rattle.std.proofs.Common.{◌/◌, ◌+◌}
use Rattle.own_flow.proofs.BitLaws.{bits_none}
use Rattle.own_flow.proofs.table.BitTable.new.Goals as goal

pub returns : goal.returns
returns c = bits_none c.in_ok-words.words.items (c.args.count / 64 + 1) c.args.count (c.in_ok-words.ensures.items_if_clones_equal (λ y h. h))
