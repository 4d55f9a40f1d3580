use Rattle.model_scopes.specs.Declaring.{initialized_at}
use Rattle.decl_scope.specs.View.{scopes_of}
use Rattle.decl_scope.proofs.ScopeLaws.{sound_changed}
use Rattle.decl_scope.proofs.scopes.Scopes.note_initialized.Goals as goal

pub invariant_of-self : goal.invariant_of-self
invariant_of-self c =
    sound_changed (scopes_of c.self.inside) (initialized_at c.args.place) c.args.id.0 c.note_initialized.new.self c.self.invariant c.note_initialized.ensures (λ d e h. h)
