use Rattle.own_flow.proofs.Grew.{grew_mark}
use Rattle.own_flow.proofs.search.Search.mark.Goals as goal

pub returns : goal.returns
returns c = grew_mark c.args.self.now c.self.inside.places c.self.inside.points c.number-at.result c.self.inside.marks c.set.new.self c.self.inside.waiting.items c.push.new.self.items c.args.node c.has.result c.self.view_is c.number-at.ensures.is c.has.ensures c.if-has.false c.set.ensures c.in_ok-push.ensures.items
