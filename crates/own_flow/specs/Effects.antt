-- What an action makes of one state of one place, computed: at most two facts.
use Rattle.std.specs.Prelude.{ℕ, ◌==◌, ◌&&◌, not, Option, Some, None, if◌then◌else◌}
use Rattle.own_flow.specs.declared.flow.State.{State}
use Rattle.own_flow.specs.declared.flow.State.TheVariants.{Live}
use Rattle.own_flow.specs.declared.flow.Action.{Action}
use Rattle.own_flow.specs.declared.flow.Action.TheVariants as act
use Rattle.own_flow.specs.declared.flow.Fact.{Fact}
use Rattle.own_flow.specs.declared.flow.Fact.TheVariants.{Has}
use Rattle.own_flow.specs.FlowGraph.{is_in, same_state}

-- the fact with which the place x goes on
abbrev pub kept_of : Action → ℕ → State → Option Fact
kept_of act.Pass x s = Some (Has x s)
kept_of (act.Set p states) x s = if x == p then None else Some (Has x s)
kept_of (act.Copy p q) x s = if x == p then None else Some (Has x s)
kept_of (act.Give p to) x s = if (x == p) && same_state s Live then Some (Has p to) else Some (Has x s)
kept_of (act.Test p states) x s = if (x == p) && not (is_in s states) then None else Some (Has x s)
kept_of (act.Need p states place rule) x s = if (x == p) && is_in s states then None else Some (Has x s)

-- the fact of another place that a copy makes
abbrev pub copied_of : Action → ℕ → State → Option Fact
copied_of (act.Copy p q) x s = if x == q then Some (Has p s) else None
copied_of _ x s = None
