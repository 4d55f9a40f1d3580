use Rattle.std.proofs.Common.{arith, ap, ◌∙◌, length}
use Rattle.c_types.proofs.Growth.{length_completed}
use Rattle.decl_scope.specs.View.{scopes_of}
use Rattle.decl_scope.proofs.ScopeLaws.{sound_structs}
use Rattle.decl_scope.proofs.scopes.Scopes.complete.Goals as goal

pub invariant_of-self : goal.invariant_of-self
invariant_of-self c =
    sound_structs (scopes_of c.self.inside) c.complete.new.self c.self.invariant
    (omega (arith, ap length c.complete.ensures, length_completed c.self.inside.structs c.args.id.0 c.args.members))
