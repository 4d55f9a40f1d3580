-- What `evaluate` answers, in terms of the definition.
use Rattle.std.specs.Prelude.{◌≡◌, ℕ, Bool, List, Result, Ok, Err}
use Rattle.cake_base.specs.declared.places.Place.{Place}
use Rattle.model_tokens.specs.PpTokens.{PpToken}
use Rattle.model_macros.specs.Macros.{Macros}
use Rattle.model_macros.specs.Expansion.{broken, passed}
use Rattle.cake_base.specs.declared.rules.Family.TheVariants.{P}
use Rattle.model_conditions.specs.declared.conditions.ConditionToken.{ConditionToken}
use Rattle.model_conditions.specs.Conditions.{condition, judged, rule_number}
use Rattle.model_conditions.specs.declared.conditions.ConditionRule.{ConditionRule}
use Rattle.pp_conditions.specs.declared.errors.Refusal.{Refusal}
use Rattle.pp_conditions.specs.declared.errors.Refusal.TheVariants as refusal
use Rattle.pp_definitions.specs.declared.errors.MacroError.{MacroError}
use Rattle.pp_definitions.specs.declared.errors.MacroError.TheVariants as macro_error

-- Whether the condition holds, or why that isn't said; `made` counts the tokens that replacement made,
-- before and after.
abbrev pub Evaluated : Macros → Place → List PpToken → ℕ → Result Bool MacroError → ℕ → Type 0
Evaluated table at line made (Ok holds) more = condition table at line made ≡ Ok (holds, more)
Evaluated table at line made (Err (macro_error.Fault fault)) more = condition table at line made ≡ Err (broken fault, more)
Evaluated table at line made (Err (macro_error.Limit limit)) more = condition table at line made ≡ Err (passed limit, more)
Evaluated table at line made (Err macro_error.NoMemory) more = Unit {0}

-- what a part of the work gives, unless memory was wanted
abbrev pub Gives : {T : Type 0} → Result T Refusal → Result T ConditionRule → Type 0
Gives (Ok value) due = due ≡ Ok value
Gives (Err (refusal.Broken rule)) due = due ≡ Err rule
Gives (Err refusal.NoMemory) due = Unit {0}

-- a rule that is broken is what is due
abbrev pub Refuses : {T : Type 0} → Refusal → Result T ConditionRule → Type 0
Refuses (refusal.Broken rule) due = due ≡ Err rule
Refuses refusal.NoMemory due = Unit {0}

-- what tokens are judged as, where they are tokens of a condition
abbrev pub judgement : Result (List ConditionToken) ConditionRule → Result Bool ConditionRule
judgement (Ok tokens) = judged tokens
judgement (Err rule) = Err rule

-- the error that a refusal is, at a place
abbrev pub Stands : Place → Refusal → MacroError → Type 0
Stands at (refusal.Broken rule) e = e ≡ macro_error.Fault (record { place = at; rule = record { family = P; number = rule_number rule } })
Stands at refusal.NoMemory e = e ≡ macro_error.NoMemory
