use Rattle.std.proofs.Common.{refl, subst, sym}
use Rattle.c_types.specs.Tables.{IsTable}
use Rattle.c_types.proofs.Kept.{table_push, count_kept}
use Rattle.c_types.proofs.structs.Structs.add.Goals as goal

pub invariant_of-self-2 : goal.invariant_of-self-2
invariant_of-self-2 c =
    subst IsTable (sym c.in_ok-push.ensures.items) (table_push _ _ refl (count_kept _ _ c.self.view_is c.requires) c.self.invariant)
