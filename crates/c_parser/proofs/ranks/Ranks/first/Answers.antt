use Rattle.std.proofs.Common.{◌∙◌, ap, map}
use Rattle.c_parser.proofs.RankLaws.{found_rank, new_rank, new_entry}
use Rattle.c_parser.proofs.ranks.Ranks.first.Goals as goal

pub returns-in-Some-clause-rank : goal.returns-in-Some-clause-rank
returns-in-Some-clause-rank c = (found_rank (λ k. k.now) c.args.spelling.now c.args.rank c.in-Some.first.now c.self.inside.ranks.entries _ c.self.view_is c.in-Some.ensures.value).0

pub returns-in-Some-clause-kept : goal.returns-in-Some-clause-kept
returns-in-Some-clause-kept c = (found_rank (λ k. k.now) c.args.spelling.now c.args.rank c.in-Some.first.now c.self.inside.ranks.entries _ c.self.view_is c.in-Some.ensures.value).1

pub returns-in_ok-insert-in-None-clause-rank : goal.returns-in_ok-insert-in-None-clause-rank
returns-in_ok-insert-in-None-clause-rank c = new_rank (λ k. k.now) c.args.spelling.now c.args.rank c.self.inside.ranks.entries _ c.self.view_is c.in-None.ensures.value

pub returns-in_ok-insert-in-None-clause-kept : goal.returns-in_ok-insert-in-None-clause-kept
returns-in_ok-insert-in-None-clause-kept c = ap (map (λ e. (e.0.now, e.1))) c.in_ok-insert-in-None.ensures.entries ∙ new_entry (λ k. k.now) c.args.spelling c.args.rank c.self.inside.ranks.entries _ c.self.view_is c.in-None.ensures.value
