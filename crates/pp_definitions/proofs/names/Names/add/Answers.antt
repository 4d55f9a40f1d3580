use Rattle.std.proofs.Common.{◌≡◌, ◌∙◌, ap, sym, not, is_some, ℕ, List, map}
use Rattle.model_macros.specs.ReplacementLists.{rank}
use Rattle.pp_definitions.proofs.NamesLaws.{rank-any}
use Rattle.pp_definitions.proofs.names.Names.add.Goals as goal

pub returns-clause-new : goal.returns-clause-new
returns-clause-new c =
    let e : c.in_ok-text.text.items ≡ c.args.name.now = c.in_ok-text.ensures.items in
    c.in_ok-new.ensures.added ∙ ap not (sym (rank-any (λ q. q.items) c.in_ok-text.text.items c.self.inside.texts.keys))
    ∙ ap (λ (z : List ℕ). not (is_some (rank z (map (λ q. q.items) c.self.inside.texts.keys)))) e ∙ ap (λ z. not (is_some (rank c.args.name.now z))) c.self.view_is
