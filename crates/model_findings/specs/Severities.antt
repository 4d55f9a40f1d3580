-- The severity of a finding (this profile's own): what the pragmas before its place set for its rule, and else an error.
use Rattle.std.specs.Prelude.{nat_eq, nat_lt, Bool, not, if◌then◌else◌, List, [], ◌∷◌}
use Rattle.cake_base.specs.declared.places.Place.{Place}
use Rattle.cake_base.specs.declared.rules.Fault.{Fault}
use Rattle.cake_base.specs.declared.rules.Rule.{Rule}
use Rattle.cake_base.specs.declared.rules.Severity.{Severity}
use Rattle.cake_base.specs.declared.rules.Severity.TheVariants.{Error}
use Rattle.cake_base.specs.declared.rules.Act.{Act}
use Rattle.cake_base.specs.declared.rules.Act.TheVariants.{Push, Pop, Assign}
use Rattle.cake_base.specs.declared.rules.Mark.{Mark}

-- the severity that a rule has, and those that it had at each `push` that is open, the innermost first
pub record InForce : Type 0 where
  pub now : Severity
  pub pushed : List Severity

-- a `pop` to which no `push` is left changes nothing
abbrev pub popped : List Severity → InForce → InForce
popped [] state = state
popped (severity ∷ pushed) state = record { now = severity; pushed = pushed }

-- behind a pragma; pragmas name rules of findings alone, so the numbers tell them apart
abbrev pub behind_act : Rule → Act → InForce → InForce
behind_act rule Push state = record state { pushed = state.now ∷ state.pushed }
behind_act rule Pop state = popped state.pushed state
behind_act rule (Assign severity other) state = if nat_eq other.number rule.number then record state { now = severity } else state

-- a pragma holds for the places that it stands before
abbrev pub holds_at : Place → Mark → Bool
holds_at place mark = not (nat_lt place.order mark.before)

-- behind those of these pragmas that hold
abbrev pub behind_marks : Fault → List Mark → InForce → InForce
behind_marks finding [] state = state
behind_marks finding (mark ∷ marks) state =
    behind_marks finding marks (if holds_at finding.place mark then behind_act finding.rule mark.act state else state)

abbrev pub severity_at : List Mark → Fault → Severity
severity_at marks finding = (behind_marks finding marks (record { now = Error; pushed = [] })).now
