use Rattle.std.proofs.Common.{◌∙◌, sym, ap, refl, map}
use Rattle.std.specs.Option.{option_copied}
use Rattle.cake_base.proofs.HeldLaws.{distinct_after, entry_of, none_under}
use Rattle.cake_base.proofs.memory.MemFiles.add.Goals as goal

pub invariant_of-self-2 : goal.invariant_of-self-2
invariant_of-self-2 c =
    distinct_after c.self.inside.held.items _ _ c.in_ok-push-2.ensures.items c.self.invariant
    (none_under c.find.result option_copied _ _ _ _ refl (sym c.if-is_some.false ∙ c.is_some.ensures) c.find.ensures (ap (map entry_of) c.deref.ensures.value) c.in_ok-name.ensures)
