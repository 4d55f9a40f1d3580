use Rattle.std.proofs.Common.{◌≡◌, ◌<◌, ◌≤◌, length, sym, ◌∙◌, ap, arith}
use Rattle.model_preprocessing.specs.Directives.{parts}
use Rattle.pp_lines.proofs.SplitLaws.{line-added, line-settled, split-done}
use Rattle.pp_lines.proofs.parts.split.Goals as goal

pub loop-from-preserved : goal.loop-from-preserved
loop-from-preserved c =
    let within : c.loop-from.from < length c.args.toks.now = omega (arith, c.loop-from-test.true, c.count.ensures.value) in
    record {
      so_far = line-added c.args.toks.now c.loop-from.from c.line_end-to.result c.loop-from.parts.items c.add_line.new.parts.items _ within c.line_end-to.ensures.value c.in_ok-add_line.ensures c.loop-from.invariant.so_far;
      settled = line-settled c.loop-from.parts.items c.add_line.new.parts.items _ c.in_ok-add_line.ensures c.loop-from.invariant.settled;
      within = c.line_end-to.ensures.end;
    }

pub returns : goal.returns
unfolding parts
returns c =
    let past : length c.args.toks.now ≤ c.loop-from.from = omega (arith, c.loop-from-test.false, c.count.ensures.value) in
    split-done c.args.toks.now c.loop-from.from c.loop-from.parts.items past c.loop-from.invariant.settled c.loop-from.invariant.so_far
