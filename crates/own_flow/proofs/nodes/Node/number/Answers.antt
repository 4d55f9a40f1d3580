use Rattle.std.proofs.Common.{arith}
use Rattle.own_flow.specs.Nodes.{row_width}
use Rattle.own_flow.proofs.NodeLaws.{row_below, fact_below}
use Rattle.own_flow.proofs.nodes.Node.number.Goals as goal

pub returns-clause-bound : goal.returns-clause-bound
returns-clause-bound c =
    let a = row_below c.args.self.point c.args.points (row_width c.args.places) c.requires.fits.point in
    let b = fact_below c.args.places c.args.self.fact c.requires.fits.fact in
    omega (arith, a, b, c.fact_rank.ensures)
