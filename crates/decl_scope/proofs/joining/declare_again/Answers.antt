use Rattle.std.proofs.Common.{◌≡◌, ◌∙◌, ap}
use Rattle.std.specs.Option.{option_copied}
use Rattle.model_scopes.specs.Scopes.{changed}
use Rattle.model_scopes.specs.Declarations.{Declaration, is_tag}
use Rattle.model_scopes.specs.Declaring.{naming}
use Rattle.decl_scope.specs.Later.{taken}
use Rattle.decl_scope.proofs.ScopeLaws.{taken_again, on_ok}
use Rattle.decl_scope.proofs.joining.declare_again.Goals as goal

pub returns-clause-ok : goal.returns-clause-ok
returns-clause-ok c =
    let typed : c.with_type.result ≡ record c.args.entry { ty = c.in_ok-ty.ty } = c.with_type.ensures in
    on_ok c.take_again.result _ _
    (λ h. (
      h.0 ∙ ap (λ (e : Declaration). naming (is_tag e.kind) e.name c.args.id c.args.innermost.now) typed,
      h.1 ∙ ap (λ (e : Declaration). changed (taken e c.in_ok-ty.before c.args.innermost.now.number) c.args.id c.args.table.now) typed
          ∙ taken_again c.args.entry c.in_ok-ty.ty c.in_ok-ty.before c.args.innermost.now.number c.args.id c.args.table.now (option_copied c.get.result) c.get.ensures c.in_ok-ty.ensures,
    ))
    c.take_again.ensures.ok
