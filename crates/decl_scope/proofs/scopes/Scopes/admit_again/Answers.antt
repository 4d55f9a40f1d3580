use Rattle.std.proofs.Common.{◌≡◌, ◌∙◌, ap, sym, subst, IsTrue}
use Rattle.model_types.specs.Structures.{knows}
use Rattle.model_scopes.specs.Scopes.{is_declared}
use Rattle.model_scopes.specs.DeclarationRules.{shared_id}
use Rattle.model_scopes.specs.Declaring.{redeclared}
use Rattle.decl_scope.specs.View.{scopes_of}
use Rattle.decl_scope.specs.Soundness.{IsSound}
use Rattle.decl_scope.proofs.SoundLaws.{keeps_changed}
use Rattle.decl_scope.proofs.ScopeLaws.{sound_again, again_scopes, shared_declared}
use Rattle.decl_scope.proofs.scopes.Scopes.admit_again.Goals as goal

pub invariant_of-self-2 : goal.invariant_of-self-2
invariant_of-self-2 c =
    let ok = c.in_ok-declare_again.ensures.ok in
    subst IsSound (again_scopes (scopes_of c.self.inside) c.args.entry c.args.id c.declare_again.new.innermost c.declare_again.new.table ok.0 ok.1)
    (sound_again (scopes_of c.self.inside) c.args.entry c.args.id c.self.invariant c.requires.fits
    (subst (λ s. IsTrue (knows s.structs c.args.entry.ty)) (sym c.self.view_is) c.requires.known)
    (shared_declared (scopes_of c.self.inside) c.args.entry c.args.id c.self.invariant (ap (shared_id c.args.entry) c.self.view_is ∙ c.requires.shared)))

pub returns-clause-declared : goal.returns-clause-declared
returns-clause-declared c =
    let ok = c.in_ok-declare_again.ensures.ok in
    subst (λ t. IsTrue (is_declared c.args.id t)) (sym ok.1)
    (keeps_changed (redeclared c.args.entry c.self.inside.innermost.number) c.args.id c.self.inside.table c.args.id
    (shared_declared (scopes_of c.self.inside) c.args.entry c.args.id c.self.invariant (ap (shared_id c.args.entry) c.self.view_is ∙ c.requires.shared)))
