use Rattle.std.proofs.Common.{subst, IsTrue}
use Rattle.model_scopes.specs.Scopes.{is_declared}
use Rattle.decl_scope.proofs.TableLaws.{declared_at}
use Rattle.decl_scope.proofs.scopes.Scopes.declared.Goals as goal

pub returns-in-Some-clause-declared : goal.returns-in-Some-clause-declared
returns-in-Some-clause-declared c =
    subst (λ s. IsTrue (is_declared c.in-Some.id s.declared)) c.self.view_is
    (declared_at c.self.inside.table c.args.rank c.in-Some.id c.in-Some.declared.now c.in-Some.ensures.entry c.in-Some.ensures.same)
