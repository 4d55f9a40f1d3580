-- The judgement on the tokens of a condition (ISO/IEC 9899:2024, 6.6, 6.10.2).
use Rattle.std.specs.Prelude.{◌≡◌, Bool, List, Result, Err}
use Rattle.model_conditions.specs.declared.conditions.ConditionRule.{ConditionRule}
use Rattle.model_conditions.specs.declared.conditions.ConditionRule.TheVariants.{Malformed}
use Rattle.model_conditions.specs.declared.conditions.ConditionToken.{ConditionToken}
use Rattle.model_conditions.specs.ConditionGrammar.{Condition, CONDITIONAL, Derives}
use Rattle.model_conditions.specs.ConditionValues.{valued, holds}

-- Whether the condition holds that the tokens are; P15 where it is undefined, P14 where they are none.
pub data Judged : List ConditionToken → Result Bool ConditionRule → Type 0 where
  expression : {tokens : List ConditionToken} {answer : Result Bool ConditionRule} → (e : Condition) → Derives CONDITIONAL tokens e →
      answer ≡ holds (valued e).value → Judged tokens answer
  no_expression : {tokens : List ConditionToken} {answer : Result Bool ConditionRule} → ((e : Condition) → Derives CONDITIONAL tokens e → ⊥) →
      answer ≡ Err Malformed → Judged tokens answer
