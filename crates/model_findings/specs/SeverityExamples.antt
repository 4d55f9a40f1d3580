-- Findings and pragmas of the worked example.
use Rattle.std.specs.Prelude.{ℕ}
use Rattle.cake_base.specs.declared.rules.Family.TheVariants.{F}
use Rattle.cake_base.specs.declared.rules.Fault.{Fault}
use Rattle.cake_base.specs.declared.rules.Rule.{Rule}
use Rattle.cake_base.specs.declared.rules.Act.{Act}
use Rattle.cake_base.specs.declared.rules.Mark.{Mark}

abbrev pub rule_of : (number : ℕ) → Rule
rule_of number = record { family = F; number = number }

-- a finding behind so many tokens
abbrev pub finding : (number order : ℕ) → Fault
finding number order = record { place = record { file = 0; line = 1; column = 1; order = order }; rule = rule_of number }

-- a pragma behind so many tokens
abbrev pub pragma : (before : ℕ) → Act → Mark
pragma before act = record { before = before; act = act }
