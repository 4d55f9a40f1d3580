use Rattle.std.proofs.Common.{◌≡◌, ◌∙◌, ap, None, List, ℕ, ◌++◌, ◌∷◌, []}
use Rattle.model_preprocessing.specs.Sources.{number_of}
use Rattle.pp_lines.specs.Numbers.{texts}
use Rattle.pp_lines.proofs.NumberLaws.{texts-added}
use Rattle.pp_lines.proofs.numbers.FileNumbers.add.Goals as goal

pub returns : goal.returns
returns c =
    let named : c.in_ok-key.key.items ≡ c.args.name.now = c.in_ok-key.ensures.items in
    let new : number_of c.in_ok-key.key.items (texts (λ k. k.items) c.self.inside.map.entries) ≡ None =
    ap (λ (z : List ℕ). number_of z (texts (λ k. k.items) c.self.inside.map.entries)) named ∙ ap (number_of c.args.name.now) c.self.view_is ∙ c.requires in
    ap (texts (λ k. k.items)) c.in_ok-insert.ensures.entries
    ∙ texts-added (λ k. k.items) c.self.inside.map.entries c.in_ok-key.key c.args.file new
    ∙ ap (λ (z : List ℕ). texts (λ k. k.items) c.self.inside.map.entries ++ (z, c.args.file) ∷ []) named
    ∙ ap (λ (z : List (List ℕ × ℕ)). z ++ (c.args.name.now, c.args.file) ∷ []) c.self.view_is
