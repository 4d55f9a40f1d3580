use Rattle.std.proofs.Common.{◌<◌, ◌/◌, length, arith}
use Rattle.own_flow.proofs.BitLaws.{word_there, bit_set}
use Rattle.own_flow.proofs.table.BitTable.set.Goals as goal

pub index_mut-requires : goal.index_mut-requires
index_mut-requires c =
    let there : c.args.at / 64 < length c.self.inside.words.items = word_there c.self.inside.words.items c.self.inside.count c.args.at c.args.self.now c.self.view_is c.self.invariant c.requires in
    omega (arith, there, c.self.inside.words.ok.0)

pub returns : goal.returns
returns c = bit_set c.self.inside.words.items c.self.inside.count c.args.at c.index_mut.result.now c.args.self.now c.self.view_is c.requires (word_there c.self.inside.words.items c.self.inside.count c.args.at c.args.self.now c.self.view_is c.self.invariant c.requires) c.index_mut.ensures.value
