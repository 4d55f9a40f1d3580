use Rattle.std.proofs.Common.{◌∙◌, ap}
use Rattle.model_macros.specs.ReplacementLists.{rank}
use Rattle.pp_definitions.proofs.NamesLaws.{rank-position}
use Rattle.pp_definitions.proofs.names.Names.rank.Goals as goal

pub returns : goal.returns
returns c = c.get_index_of.ensures.index ∙ rank-position (λ q. q.items) c.args.name.now c.self.inside.texts.keys ∙ ap (rank c.args.name.now) c.self.view_is
