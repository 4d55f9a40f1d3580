use Rattle.c_parser.proofs.DepthPlaces.{limit}
use Rattle.c_parser.proofs.calls.depth_limit.Goals as goal

pub returns : goal.returns
returns c = limit c.args.toks.now c.args.at c.args.end c.place_at.result c.requires c.place_at.ensures
