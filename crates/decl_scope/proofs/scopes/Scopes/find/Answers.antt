use Rattle.std.proofs.Common.{◌≡◌, ◌∙◌, Some, None, ap, sym, subst, IsTrue}
use Rattle.model_scopes.specs.Scopes.{is_declared}
use Rattle.model_scopes.specs.Binding.{bound_among, or_else}
use Rattle.decl_scope.specs.View.{scopes_of}
use Rattle.decl_scope.proofs.ScopeLaws.{here_declared, look_declared, if_some}
use Rattle.decl_scope.proofs.scopes.Scopes.find.Goals as goal

pub returns-in-Some-clause-declared : goal.returns-in-Some-clause-declared
returns-in-Some-clause-declared c =
    subst (λ s. IsTrue (is_declared c.in-Some.id s.declared)) c.self.view_is
    (here_declared (scopes_of c.self.inside) c.args.tag c.args.name.now c.in-Some.id c.self.invariant (sym c.in-Some.ensures))

pub returns-in-None-clause-declared : goal.returns-in-None-clause-declared
returns-in-None-clause-declared c =
    if_some c.look.result _ (λ id e. subst (λ s. IsTrue (is_declared id s.declared)) c.self.view_is
    (look_declared (scopes_of c.self.inside) c.args.tag c.args.name.now id c.self.invariant
    (ap (λ o. or_else o (bound_among c.args.tag c.args.name.now c.self.inside.around)) (sym c.in-None.ensures) ∙ sym c.look.ensures ∙ e)))
