-- What the public calls answer, in terms of the definitions.
use Rattle.std.specs.Prelude.{◌≡◌, ℕ, true, false, Result, Ok, Err}
use Rattle.cake_base.specs.declared.places.Place.{Place}
use Rattle.cake_base.specs.declared.rules.Fault.{Fault}
use Rattle.cake_base.specs.declared.rules.Family.TheVariants.{P}
use Rattle.model_macros.specs.Macros.{Macro, Macros, clashes, found, with_macro}
use Rattle.pp_definitions.specs.declared.errors.MacroError.{MacroError}
use Rattle.pp_definitions.specs.declared.errors.MacroError.TheVariants as macro_error

-- a rule of the family P at a place
abbrev pub rule_at : Place → ℕ → Fault
rule_at place number = record { place = place; rule = record { family = P; number = number } }

-- A definition that is read is the one that is meant; a fault is the rule that the line breaks.
abbrev pub Reads : Result Macro ℕ → Place → Result Macro MacroError → Type 0
Reads meant at (Ok m) = meant ≡ Ok m
Reads meant at (Err (macro_error.Fault f)) = (rule : ℕ) × (meant ≡ Err rule) × (f ≡ rule_at at rule)
Reads meant at (Err (macro_error.Limit l)) = ⊥
Reads meant at (Err macro_error.NoMemory) = Unit {0}

-- A definition stands in the table afterwards, unless another one of its name stood there: that is P01
-- at the place of the new one. After a refusal the table is as before.
abbrev pub Defines : Macros → Macro → Result (Unit {0}) MacroError → Macros → Type 0
Defines old m (Ok done) new = (clashes m (found m.name old.entries) ≡ false) × (new ≡ record old { entries = with_macro m old.entries })
Defines old m (Err (macro_error.Fault f)) new = (clashes m (found m.name old.entries) ≡ true) × (f ≡ rule_at m.at 1) × (new ≡ old)
Defines old m (Err (macro_error.Limit l)) new = ⊥
Defines old m (Err macro_error.NoMemory) new = new ≡ old
