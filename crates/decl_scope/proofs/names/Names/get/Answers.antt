use Rattle.std.proofs.Common.{◌∙◌, ap}
use Rattle.model_scopes.specs.Binding.{bound}
use Rattle.decl_scope.proofs.BoundLaws.{bound-lookup}
use Rattle.decl_scope.proofs.names.Names.get.Goals as goal

pub returns : goal.returns
returns c = c.copied.ensures ∙ c.get.ensures.value ∙ bound-lookup (λ k. k.items) c.args.name.now c.self.inside.ids.entries ∙ ap (bound c.args.name.now) c.self.view_is
