-- What is accepted of a unit.
use Rattle.std.specs.Prelude.{List}
use Rattle.cake_base.specs.declared.rules.Mark.{Mark}
use Rattle.model_core.specs.Core.{Core}
use Rattle.model_findings.specs.Ownership.{Ownership, NotChecked}

-- its core, the marks of its pragmas, and what is known of its ownership
pub record Accepted : Type 0 where
  pub core : Core
  pub marks : List Mark
  pub ownership : Ownership

-- what is known of a core: no core is looked at for findings yet
abbrev pub ownership_of : Core → Ownership
ownership_of core = NotChecked

abbrev pub accepted : Core → List Mark → Accepted
accepted core marks = record { core = core; marks = marks; ownership = ownership_of core }
