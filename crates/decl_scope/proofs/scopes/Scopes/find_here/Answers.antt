use Rattle.std.proofs.Common.{◌≡◌, ◌∙◌, Some, ap, sym, subst, IsTrue}
use Rattle.model_scopes.specs.Scopes.{is_declared}
use Rattle.decl_scope.specs.View.{scopes_of}
use Rattle.decl_scope.proofs.ScopeLaws.{here_declared, if_some}
use Rattle.decl_scope.proofs.scopes.Scopes.find_here.Goals as goal

pub returns-clause-declared : goal.returns-clause-declared
returns-clause-declared c =
    if_some c.get.result _ (λ id e. subst (λ s. IsTrue (is_declared id s.declared)) c.self.view_is
    (here_declared (scopes_of c.self.inside) c.args.tag c.args.name.now id c.self.invariant (sym c.get.ensures ∙ e)))
