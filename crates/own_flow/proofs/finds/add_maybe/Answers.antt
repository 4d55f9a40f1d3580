use Rattle.own_flow.proofs.RankLaws.{added}
use Rattle.own_flow.proofs.finds.add_maybe.Goals as goal

pub returns-in_ok-push : goal.returns-in_ok-push
returns-in_ok-push c = added c.args.list.now.items c.push.new.self.items c.args.fault c.in-Some.fault c.of.result c.in-Some.is c.of.ensures c.in_ok-push.ensures.items
