use Rattle.std.proofs.Common.{◌≡◌, ◌∙◌, ap, None, List, ℕ, ◌++◌, ◌∷◌, []}
use Rattle.std.specs.Map.{lookup as lookup_by}
use Rattle.model_macros.specs.Macros.{found}
use Rattle.pp_definitions.proofs.TableLaws.{added-macro, lookup-none, seen, table-parts}
use Rattle.pp_definitions.proofs.table.MacroTable.add.Goals as goal
use Rattle.model_types.specs.Texts.{same_text}

pub returns-clause-ok : goal.returns-clause-ok
returns-clause-ok c =
    let named : c.in_ok-name.name.items ≡ c.args.def.name = c.in_ok-name.ensures.items ∙ c.name.ensures in
    let new : lookup_by (λ q. same_text c.args.def.name q.items) c.self.inside.macros.entries ≡ None =
    lookup-none (λ k. k.items) c.args.def.name c.self.inside.macros.entries (ap (λ t. found c.args.def.name t.entries) c.self.view_is ∙ c.requires) in
    let new' : lookup_by (λ q. same_text c.in_ok-name.name.items q.items) c.self.inside.macros.entries ≡ None =
    ap (λ (z : List ℕ). lookup_by (λ q. same_text z q.items) c.self.inside.macros.entries) named ∙ new in
    table-parts _ _ _ _
    (ap (seen (λ k. k.items)) c.in_ok-insert.ensures.entries ∙ added-macro (λ k. k.items) c.in_ok-name.name c.args.def c.self.inside.macros.entries new'
    ∙ ap (λ (z : List ℕ). seen (λ k. k.items) c.self.inside.macros.entries ++ (z, c.args.def) ∷ []) named
    ∙ ap (λ t. t.entries ++ (c.args.def.name, c.args.def) ∷ []) c.self.view_is)
    (ap (λ t. t.files) c.self.view_is)
