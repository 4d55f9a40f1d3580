use Rattle.std.proofs.Common.{rules, ap, sym, ◌∙◌, arith, Some, ◌++◌, take}
use Rattle.std.proofs.lemmas.Grind.{common_steps}
use Rattle.cake_base.proofs.memory.MemSinkSink.put.Goals as goal
use Rattle.cake_base.proofs.memory.MemSinkSink.put.Goals.{in-Some, in-None}

pub returns-then-is_some-clause-gives : goal.returns-then-is_some-clause-gives
returns-then-is_some-clause-gives c = (
  (
    c.match-limit.takes,
    elim c.match-limit.branch [ in-Some w ↦ omega arith | in-None w ↦ omega arith ],
    grind (arith, common_steps),
  ),
  search rules,
)
