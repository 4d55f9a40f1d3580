use Rattle.std.proofs.Common.{None}
use Rattle.c_types.proofs.Kept.{found, found_known}
use Rattle.c_types.proofs.structs.Structs.find_members.Goals as goal

pub returns-in-Some-clause-known : goal.returns-in-Some-clause-known
returns-in-Some-clause-known c =
    found_known c.args.self.now c.self.inside.entries.items c.deref.result.now c.args.id c.in-Some.body.now c.self.view_is c.deref.ensures.value c.in-Some.ensures c.self.invariant.closed

pub returns-in-None-clause-members : goal.returns-in-None-clause-members
returns-in-None-clause-members c =
    found c.args.self.now c.self.inside.entries.items c.deref.result.now c.args.id None c.self.view_is c.deref.ensures.value c.in-None.ensures
