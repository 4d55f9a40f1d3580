use Rattle.std.proofs.Common.{◌≡◌, ◌∙◌, ap, None, List, ℕ, ◌++◌, ◌∷◌, []}
use Rattle.std.specs.Map.{lookup as lookup_by}
use Rattle.c_types.specs.Ranks.{rank_in}
use Rattle.c_types.proofs.RankLaws.{added_rank, rank_lookup, seen}
use Rattle.c_types.proofs.ranks.Ranks.add.Goals as goal
use Rattle.model_types.specs.Texts.{same_text}

pub returns-clause-ok : goal.returns-clause-ok
returns-clause-ok c =
    let named : c.in_ok-name.name.items ≡ c.args.name.now = c.in_ok-name.ensures.items in
    let new : lookup_by (λ q. same_text c.args.name.now q.items) c.self.inside.ranks.entries ≡ None =
    rank_lookup (λ k. k.items) c.args.name.now c.self.inside.ranks.entries ∙ (ap (rank_in c.args.name.now) c.self.view_is ∙ c.requires) in
    let new' : lookup_by (λ q. same_text c.in_ok-name.name.items q.items) c.self.inside.ranks.entries ≡ None =
    ap (λ (z : List ℕ). lookup_by (λ q. same_text z q.items) c.self.inside.ranks.entries) named ∙ new in
    ap (seen (λ k. k.items)) c.in_ok-insert.ensures.entries ∙ added_rank (λ k. k.items) c.in_ok-name.name c.args.rank c.self.inside.ranks.entries new'
    ∙ ap (λ (z : List ℕ). seen (λ k. k.items) c.self.inside.ranks.entries ++ (z, c.args.rank) ∷ []) named
    ∙ ap (λ t. t ++ (c.args.name.now, c.args.rank) ∷ []) c.self.view_is
