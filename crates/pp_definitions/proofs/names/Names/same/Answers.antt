use Rattle.std.proofs.Common.{◌<◌, length, arith}
use Rattle.pp_definitions.proofs.TableLaws.{names-differ, names-agree}
use Rattle.pp_definitions.proofs.names.Names.same.Goals as goal

pub returns-then-not-same_at : goal.returns-then-not-same_at
returns-then-not-same_at c =
    let lt : c.loop-rank.rank < length c.args.self.now = omega (arith, c.len-rank-end.ensures) in
    names-differ c.loop-rank.rank c.args.self.now c.args.other.now c.same_at.result lt c.same_at.ensures c.if-not-same_at.true c.loop-rank.invariant

pub loop-rank-preserved : goal.loop-rank-preserved
loop-rank-preserved c =
    let lt : c.loop-rank.rank < length c.args.self.now = omega (arith, c.len-rank-end.ensures) in
    names-agree c.loop-rank.rank c.args.self.now c.args.other.now c.same_at.result lt c.same_at.ensures c.if-not-same_at.false c.loop-rank.invariant
