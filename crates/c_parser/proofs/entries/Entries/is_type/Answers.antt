use Rattle.std.proofs.Common.{arith, false}
use Rattle.c_parser.proofs.HidingLaws.{read_type}
use Rattle.c_parser.proofs.entries.Entries.is_type.Goals as goal

pub returns-in-Some : goal.returns-in-Some
returns-in-Some c = read_type c.self.inside.types.items c.deref.result.now c.self.inside.kept.items _ c.args.name c.in-Some.is_type.now c.self.invariant c.self.view_is c.deref.ensures.value (c.in-Some.ensures.lookup.3.1 false)

pub returns-in-None : goal.returns-in-None
returns-in-None c = read_type c.self.inside.types.items c.deref.result.now c.self.inside.kept.items _ c.args.name false c.self.invariant c.self.view_is c.deref.ensures.value (c.in-None.ensures.lookup.4 (omega arith) false)
