-- What is known of the ownership of a unit (this profile's own), and when it refuses the unit.
use Rattle.std.specs.Prelude.{Bool, true, false, List}
use Rattle.std.specs.List.{list_any}
use Rattle.cake_base.specs.declared.rules.Fault.{Fault}
use Rattle.cake_base.specs.declared.rules.Severity.{Severity}
use Rattle.cake_base.specs.declared.rules.Severity.TheVariants.{Error, Warning, Ignored}
use Rattle.cake_base.specs.declared.rules.Mark.{Mark}
use Rattle.model_findings.specs.Severities.{severity_at}

-- nobody looked for findings, which says nothing of how many there are; or the findings that there are, ignored ones
-- with them, in the order of their places
pub data Ownership : Type 0 where
  NotChecked : Ownership
  Checked : (findings : List Fault) → Ownership

abbrev pub is_error : Severity → Bool
is_error Error = true
is_error Warning = false
is_error Ignored = false

-- a unit is refused for a finding that is an error
abbrev pub is_refused : List Mark → Ownership → Bool
is_refused marks NotChecked = false
is_refused marks (Checked findings) = list_any (λ finding. is_error (severity_at marks finding)) findings
