use Rattle.std.proofs.Common.{sym, subst}
use Rattle.std.specs.Prelude.{reverse, set}
use Rattle.c_parser.specs.Hiding.{Tells}
use Rattle.c_parser.proofs.HidingLaws.{wider, one_more, at_default}
use Rattle.c_parser.proofs.entries.Entries.push.Goals as goal

pub invariant_of-self-in_err-push : goal.invariant_of-self-in_err-push
invariant_of-self-in_err-push c = subst (λ z. Tells c.widen.new.types.items (reverse z)) (sym c.in_err-push.ensures.items) (wider c.self.inside.types.items c.widen.new.types.items (reverse c.self.inside.kept.items) c.args.entry.name c.self.invariant c.in_ok-widen.ensures.wider)

pub invariant_of-self-2 : goal.invariant_of-self-2
invariant_of-self-2 c = subst (λ z. Tells (set c.widen.new.types.items c.args.entry.name c.args.entry.is_type) (reverse z)) (sym c.in_ok-push.ensures.items) (one_more c.widen.new.types.items c.self.inside.kept.items (record { entry = c.args.entry; hidden = c.index-hidden.result.now }) (wider c.self.inside.types.items c.widen.new.types.items (reverse c.self.inside.kept.items) c.args.entry.name c.self.invariant c.in_ok-widen.ensures.wider) c.in_ok-widen.ensures.wider.room (at_default c.widen.new.types.items c.args.entry.name c.index-hidden.result.now c.in_ok-widen.ensures.wider.room c.index-hidden.ensures))
