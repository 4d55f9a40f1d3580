use Rattle.std.proofs.Common.{◌∙◌, ap}
use Rattle.c_types.specs.Ranks.{rank_in}
use Rattle.c_types.proofs.RankLaws.{rank_lookup}
use Rattle.c_types.proofs.ranks.Ranks.get.Goals as goal

pub returns : goal.returns
returns c = c.copied.ensures ∙ c.get.ensures.value ∙ rank_lookup (λ k. k.items) c.args.name.now c.self.inside.ranks.entries ∙ ap (rank_in c.args.name.now) c.self.view_is
