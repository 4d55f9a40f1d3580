use Rattle.std.proofs.Common.{◌≡◌, ◌∙◌, Some, ap, sym, subst, IsTrue, length}
use Rattle.std.specs.Option.{option_copied}
use Rattle.model_scopes.specs.Declarations.{fits}
use Rattle.model_types.specs.Structures.{knows, names_below}
use Rattle.decl_scope.proofs.SoundLaws.{fit_at}
use Rattle.decl_scope.proofs.scopes.Scopes.entry.Goals as goal

pub returns-clause-fits : goal.returns-clause-fits
returns-clause-fits c =
    subst (λ d. IsTrue (fits d)) (sym c.latest.ensures)
    (fit_at (length c.self.inside.structs) c.args.id.0 c.self.inside.table c.unwrap.result.now c.self.invariant.fit (sym c.get.ensures ∙ ap option_copied c.unwrap.ensures)).0

pub returns-clause-known : goal.returns-clause-known
returns-clause-known c =
    subst (λ s. IsTrue (knows s.structs c.latest.result.now.ty)) c.self.view_is
    (subst (λ d. IsTrue (names_below (length c.self.inside.structs) d.ty)) (sym c.latest.ensures)
    (fit_at (length c.self.inside.structs) c.args.id.0 c.self.inside.table c.unwrap.result.now c.self.invariant.fit (sym c.get.ensures ∙ ap option_copied c.unwrap.ensures)).1)
