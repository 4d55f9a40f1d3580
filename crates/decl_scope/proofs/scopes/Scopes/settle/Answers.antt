use Rattle.std.proofs.Common.{◌≡◌, ◌∙◌, Some, ap, sym, subst, IsTrue}
use Rattle.model_types.specs.Structures.{knows}
use Rattle.model_scopes.specs.Scopes.{with_id}
use Rattle.model_scopes.specs.Declaring.{settled}
use Rattle.decl_scope.specs.Values.{value_if_any}
use Rattle.decl_scope.specs.View.{scopes_of}
use Rattle.decl_scope.proofs.ScopeLaws.{sound_changed}
use Rattle.decl_scope.proofs.scopes.Scopes.settle.Goals as goal

pub invariant_of-self : goal.invariant_of-self
invariant_of-self c =
    sound_changed (scopes_of c.self.inside) (settled c.args.ty (value_if_any c.args.value)) c.args.id.0 c.settle.new.self c.self.invariant c.settle.ensures
    (λ d e h. (c.requires.fits d (ap (λ s. with_id c.args.id.0 s.declared) (sym c.self.view_is) ∙ e), subst (λ s. IsTrue (knows s.structs c.args.ty)) (sym c.self.view_is) c.requires.known))
