use Rattle.std.proofs.Common.{◌<◌, ◌/◌, length, arith}
use Rattle.own_flow.proofs.BitLaws.{word_there, bit_get}
use Rattle.own_flow.proofs.table.BitTable.has.Goals as goal

pub index-requires : goal.index-requires
index-requires c =
    let there : c.args.at / 64 < length c.self.inside.words.items = word_there c.self.inside.words.items c.self.inside.count c.args.at c.args.self.now c.self.view_is c.self.invariant c.requires in
    omega (arith, there, c.self.inside.words.ok.0)

pub returns : goal.returns
returns c = bit_get c.self.inside.words.items c.self.inside.count c.args.at c.index.result.now c.args.self.now c.self.view_is c.requires (word_there c.self.inside.words.items c.self.inside.count c.args.at c.args.self.now c.self.view_is c.self.invariant c.requires) c.index.ensures
