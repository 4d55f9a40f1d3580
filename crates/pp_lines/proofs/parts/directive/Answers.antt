use Rattle.std.proofs.Common.{◌≡◌, ◌≤◌, sym, ◌∙◌, ap, arith, None, slice_get}
use Rattle.pp_lines.proofs.RankLaws.{none_short, copied-none}
use Rattle.pp_lines.proofs.SplitLaws.{directive-made, directive-none}
use Rattle.pp_lines.proofs.parts.directive.Goals as goal
use Rattle.pp_lines.proofs.parts.directive.Goals.{then-from-to+in_default, else-from-to}

pub returns-in-Some : goal.returns-in-Some
returns-in-Some c =
    directive-made c.args.toks.now c.args.at c.args.from c.args.to c.in-Some.name.now c.kind_after-kind.result c.copy_range.new.into c.new-tokens.result (sym c.in-Some.ensures) c.if-from-to.true c.kind_after-kind.ensures c.new-tokens.ensures c.in_ok-copy_range.ensures

pub returns : goal.returns
returns c =
    let over : c.args.to ≤ c.args.from = elim c.if-from-to.branch [
      | then-from-to+in_default w ↦
          let none : slice_get c.args.toks.now c.args.from ≡ None = copied-none _ _ _ w.get.ensures w.in_default.is in
          let short = none_short c.args.toks.now c.args.from none in
          omega (arith, short, c.requires)
      | else-from-to w ↦ omega (arith, w.if-from-to.false)
    ] in
    directive-none c.args.toks.now c.args.at c.args.from c.args.to c.new-tokens.result over c.new-tokens.ensures
