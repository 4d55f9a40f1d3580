use Rattle.std.proofs.Common.{◌∙◌, ap}
use Rattle.c_types.specs.Ranks.{rank_of}
use Rattle.c_types.proofs.members.Members.rank.Goals as goal

pub returns : goal.returns
returns c = c.get.ensures ∙ c.self.invariant.each c.args.name.now ∙ ap (rank_of c.args.name.now) c.self.view_is
