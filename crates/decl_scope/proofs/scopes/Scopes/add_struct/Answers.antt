use Rattle.std.proofs.Common.{arith}
use Rattle.decl_scope.specs.View.{scopes_of}
use Rattle.decl_scope.proofs.ScopeLaws.{sound_structs, add_grows}
use Rattle.decl_scope.proofs.scopes.Scopes.add_struct.Goals as goal

pub invariant_of-self : goal.invariant_of-self
invariant_of-self c = sound_structs (scopes_of c.self.inside) c.add.new.self c.self.invariant (add_grows c.add.result _ _ _ c.add.ensures.ok c.add.ensures.err)
