use Rattle.model_scopes.specs.NotedUses.{used_at}
use Rattle.decl_scope.specs.View.{scopes_of}
use Rattle.decl_scope.proofs.ScopeLaws.{sound_changed}
use Rattle.decl_scope.proofs.scopes.Scopes.note_use.Goals as goal

pub invariant_of-self : goal.invariant_of-self
invariant_of-self c =
    sound_changed (scopes_of c.self.inside) (used_at c.args.place) c.args.id.0 c.note.new.self c.self.invariant c.note.ensures (λ d e h. h)
