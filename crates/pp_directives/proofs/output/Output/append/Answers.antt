use Rattle.std.proofs.Common.{◌≡◌, ◌≤◌, ◌-◌, ◌++◌, length, refl, arith, ap, ◌∙◌, sym, None, slice_get}
use Rattle.model_preprocessing.specs.Sources.{standing, ranked_from}
use Rattle.model_preprocessing.specs.ControlLines.{MOST_TOKENS}
use Rattle.pp_directives.proofs.StateLaws.{hits-limit, fits-all}
use Rattle.pp_lines.proofs.RankLaws.{none_short, copied-none}
use Rattle.pp_directives.proofs.output.Output.append.Goals as goal

pub returns-in-Some : goal.returns-in-Some
unfolding MOST_TOKENS
returns-in-Some c =
    let size : length c.args.self.now ≤ 1000000 = omega (arith, c.count-count.ensures.bound, c.count-count.ensures.value) in
    let room : 1000000 - c.count-count.result ≡ MOST_TOKENS - length c.args.self.now = ap (λ n. 1000000 - n) c.count-count.ensures.value in (
      hits-limit c.args.self.now c.args.new.now (1000000 - c.count-count.result) c.in-Some.past.now c.standing.result (sym c.in-Some.ensures) room size
          (c.standing.ensures ∙ ap (λ t. standing 1000000 t.place) c.past.view_is),
      refl,
    )

pub add_ranked-requires : goal.add_ranked-requires
add_ranked-requires c =
    let none : slice_get c.args.new.now (1000000 - c.count-count.result) ≡ None = copied-none _ _ _ c.get.ensures c.in_default.is in
    let short = none_short c.args.new.now (1000000 - c.count-count.result) none in
    record {
      so_far = ap length c.self.view_is ∙ sym c.count-count.ensures.value;
      room = omega (arith, short, c.count-count.ensures.bound);
    }

pub invariant_of-self : goal.invariant_of-self
invariant_of-self c = c.add_ranked.ensures.bound

pub invariant_of-self-2 : goal.invariant_of-self-2
invariant_of-self-2 c = c.add_ranked.ensures.bound

pub returns : goal.returns
unfolding MOST_TOKENS
returns c =
    let none : slice_get c.args.new.now (1000000 - c.count-count.result) ≡ None = copied-none _ _ _ c.get.ensures c.in_default.is in
    let room : 1000000 - c.count-count.result ≡ MOST_TOKENS - length c.args.self.now = ap (λ n. 1000000 - n) c.count-count.ensures.value in (
      fits-all c.args.self.now c.args.new.now (1000000 - c.count-count.result) none room,
      c.in_ok-add_ranked.ensures.ok ∙ ap (λ z. z ++ ranked_from c.count-count.result c.args.new.now) c.self.view_is ∙ ap (λ n. c.args.self.now ++ ranked_from n c.args.new.now) c.count-count.ensures.value,
    )
