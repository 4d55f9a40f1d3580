use Rattle.std.proofs.Common.{ap, arith, length}
use Rattle.c_types.proofs.RankLaws.{put_ranked}
use Rattle.c_types.proofs.members.Members.add.Goals as goal

pub invariant_of-self-2 : goal.invariant_of-self-2
invariant_of-self-2 c =
    put_ranked c.put.result c.self.inside.items.items c.put.new.items.items c.self.inside.ranks c.put.new.ranks c.args.member
    (omega (arith, ap length c.self.view_is, c.requires)) c.self.invariant c.put.ensures.ok c.put.ensures.err
