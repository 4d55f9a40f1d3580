use Rattle.std.proofs.Common.{◌≡◌, ◌∙◌, ap, None, List, ℕ, ◌++◌, ◌∷◌, []}
use Rattle.std.specs.Map.{lookup as lookup_by}
use Rattle.model_scopes.specs.Binding.{bound}
use Rattle.decl_scope.proofs.BoundLaws.{added-name, lookup-none, seen}
use Rattle.decl_scope.proofs.names.Names.add.Goals as goal
use Rattle.model_types.specs.Texts.{same_text}

pub returns-clause-ok : goal.returns-clause-ok
returns-clause-ok c =
    let named : c.in_ok-name.name.items ≡ c.args.name.now = c.in_ok-name.ensures.items in
    let new : lookup_by (λ q. same_text c.args.name.now q.items) c.self.inside.ids.entries ≡ None =
    lookup-none (λ k. k.items) c.args.name.now c.self.inside.ids.entries (ap (bound c.args.name.now) c.self.view_is ∙ c.requires) in
    let new' : lookup_by (λ q. same_text c.in_ok-name.name.items q.items) c.self.inside.ids.entries ≡ None =
    ap (λ (z : List ℕ). lookup_by (λ q. same_text z q.items) c.self.inside.ids.entries) named ∙ new in
    ap (seen (λ k. k.items)) c.in_ok-insert.ensures.entries ∙ added-name (λ k. k.items) c.in_ok-name.name c.args.id c.self.inside.ids.entries new'
    ∙ ap (λ (z : List ℕ). seen (λ k. k.items) c.self.inside.ids.entries ++ (z, c.args.id) ∷ []) named
    ∙ ap (λ t. t ++ (c.args.name.now, c.args.id) ∷ []) c.self.view_is
