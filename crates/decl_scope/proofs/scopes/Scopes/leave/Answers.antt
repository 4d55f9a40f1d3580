use Rattle.std.proofs.Common.{◌∙◌, ap, sym, subst}
use Rattle.model_scopes.specs.Scopes.{leave}
use Rattle.decl_scope.specs.View.{scopes_of}
use Rattle.decl_scope.specs.Soundness.{IsSound}
use Rattle.decl_scope.proofs.ScopeLaws.{sound_left, left_scopes}
use Rattle.decl_scope.proofs.scopes.Scopes.leave.Goals as goal

pub invariant_of-self : goal.invariant_of-self
invariant_of-self c =
    subst IsSound (left_scopes (scopes_of c.self.inside) c.unnest.new.innermost c.unnest.new.around c.unnest.ensures.inner c.unnest.ensures.outermost)
    (sound_left (scopes_of c.self.inside) c.self.invariant)

pub returns : goal.returns
returns c =
    sym (left_scopes (scopes_of c.self.inside) c.unnest.new.innermost c.unnest.new.around c.unnest.ensures.inner c.unnest.ensures.outermost)
    ∙ ap leave c.self.view_is
