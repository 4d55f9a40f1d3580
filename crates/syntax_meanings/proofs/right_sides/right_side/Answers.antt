use Rattle.std.proofs.Common.{[], ◌∷◌, None, refl}
use Rattle.syntax_meanings.specs.Meanings.{value_seen}
use Rattle.syntax_meanings.proofs.RightSideLaws.{read_none, read_one_more, read_to_the_front}
use Rattle.syntax_meanings.proofs.right_sides.right_side.Goals as goal

pub loop-value-init : goal.loop-value-init
loop-value-init c = ([], read_none c.args.values (record { symbols = c.new.result; all = None; bare = None }) (record { symbols = c.new.ensures; all = refl; bare = refl }))

pub loop-value-preserved : goal.loop-value-preserved
loop-value-preserved c = (value_seen c.in-Some.value ∷ c.loop-value.invariant.0, read_one_more _ _ _ _ _ _ _ c.loop-value.invariant.1 c.in-Some.ensures c.in_ok-right.ensures)

pub returns : goal.returns
returns c = read_to_the_front _ _ _ _ c.loop-value.invariant.1 c.in_default.ensures.0
