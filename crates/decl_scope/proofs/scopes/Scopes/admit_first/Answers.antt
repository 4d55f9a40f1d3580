use Rattle.std.proofs.Common.{◌≡◌, ◌∙◌, ap, sym, subst, IsTrue}
use Rattle.model_types.specs.Structures.{knows}
use Rattle.model_scopes.specs.Scopes.{is_declared}
use Rattle.model_scopes.specs.Declaring.{first_declared}
use Rattle.decl_scope.specs.View.{scopes_of}
use Rattle.decl_scope.specs.Soundness.{IsSound}
use Rattle.decl_scope.proofs.SoundLaws.{below_absent, declared_last}
use Rattle.decl_scope.proofs.ScopeLaws.{sound_first, first_scopes}
use Rattle.decl_scope.proofs.scopes.Scopes.admit_first.Goals as goal

pub declare_first-requires-clause-unused : goal.declare_first-requires-clause-unused
declare_first-requires-clause-unused c = below_absent c.self.inside.ids c.self.inside.table c.self.invariant.below

pub invariant_of-self-2 : goal.invariant_of-self-2
invariant_of-self-2 c =
    let ok = c.in_ok-declare_first.ensures.ok in
    subst IsSound (first_scopes (scopes_of c.self.inside) c.args.entry c.declare_first.new.innermost c.declare_first.new.linked c.declare_first.new.table ok.0 ok.1 ok.2)
    (sound_first (scopes_of c.self.inside) c.args.entry c.self.invariant c.requires.fits (subst (λ s. IsTrue (knows s.structs c.args.entry.ty)) (sym c.self.view_is) c.requires.known))

pub returns-clause-declared : goal.returns-clause-declared
returns-clause-declared c =
    let ok = c.in_ok-declare_first.ensures.ok in
    subst (λ t. IsTrue (is_declared c.self.inside.ids t)) (sym ok.2) (declared_last c.self.inside.table c.self.inside.ids (first_declared c.args.entry c.self.inside.innermost.number))
