use Rattle.c_parser.proofs.HidingLaws.{goes_on_at}
use Rattle.c_parser.proofs.entries.Entries.since.Goals as goal

pub loop-kept-preserved : goal.loop-kept-preserved
loop-kept-preserved c = goes_on_at c.self.inside.kept.items c.deref.result.now _ c.loop-kept.entries c.push.new.self _ c.loop-kept.at c.in-Some.kept.now c.self.view_is c.deref.ensures.value c.in-Some.ensures.lookup.3.0 (c.in-Some.ensures.lookup.1) c.loop-kept.invariant c.in_ok-push.ensures.ok
