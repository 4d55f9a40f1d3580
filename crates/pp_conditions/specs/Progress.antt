-- A step of reading a condition.
use Rattle.std.specs.Prelude.{◌≡◌, Option, Some, None, Result, Ok, Err}
use Rattle.model_conditions.specs.declared.conditions.ConditionRule.TheVariants.{Malformed}
use Rattle.model_conditions.specs.ConditionValues.{Valued}
use Rattle.model_conditions.specs.apparatus.ConditionReader as reader
use Rattle.pp_conditions.specs.declared.errors.Refusal.{Refusal}
use Rattle.pp_conditions.specs.declared.errors.Refusal.TheVariants as refusal
use Rattle.pp_conditions.specs.declared.reader.Reading.{Reading}
use Rattle.pp_conditions.specs.Shown as shown

abbrev pub reading : Reading → reader.Reading Valued
reading r = record { frames = shown.all r.frames; operand = r.operand }

-- a step goes on as the reader does, or stops where it does, unless memory was wanted
abbrev pub Goes : Option (reader.Reading Valued) → Result Reading Refusal → Type 0
Goes due (Ok r) = due ≡ Some (reading r)
Goes due (Err (refusal.Broken rule)) = (due ≡ None) × (rule ≡ Malformed)
Goes due (Err refusal.NoMemory) = Unit {0}
