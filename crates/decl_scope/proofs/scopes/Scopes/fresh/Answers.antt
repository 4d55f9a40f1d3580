use Rattle.decl_scope.proofs.SoundLaws.{below_more}
use Rattle.decl_scope.proofs.scopes.Scopes.fresh.Goals as goal

pub invariant_of-self : goal.invariant_of-self
invariant_of-self c =
    let h = c.self.invariant in
    record { levels = h.levels; linked = h.linked; below = below_more c.self.inside.ids c.self.inside.table h.below; fit = h.fit }
