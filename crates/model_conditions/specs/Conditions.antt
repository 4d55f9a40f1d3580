-- The condition of `#if` and `#elif` (ISO/IEC 9899:2024, 6.10.2): `defined` is answered, macros are
-- replaced, and then the tokens are judged.
use Rattle.std.specs.Prelude.{◌≡◌, ℕ, Bool, List, map, Result, Ok, Err}
use Rattle.cake_base.specs.declared.places.Place.{Place}
use Rattle.cake_base.specs.declared.rules.Family.TheVariants.{P}
use Rattle.model_conditions.specs.declared.conditions.ConditionRule.{ConditionRule}
use Rattle.model_conditions.specs.declared.conditions.ConditionRule.TheVariants.{Malformed, Undefined, LeftOut}
use Rattle.model_conditions.specs.declared.conditions.ConditionToken.{ConditionToken}
use Rattle.model_tokens.specs.PpTokens.{PpToken}
use Rattle.model_macros.specs.Macros.{Macros}
use Rattle.model_macros.specs.Pasting.{fresh}
use Rattle.model_macros.specs.Expansion.{Stop, broken}
use Rattle.model_macros.specs.Expansion as expansion
use Rattle.model_macros.specs.ExpansionFunction.{expand}
use Rattle.model_conditions.specs.Defined.{defined_answered}
use Rattle.model_conditions.specs.ConditionTokens.{condition_tokens}
use Rattle.model_conditions.specs.Judgement.{Judged}
use Rattle.model_conditions.specs.ConditionReading.{Judged-unique, Judged-total}

-- the judgement on the tokens of a condition
unfoldable pub judged : List ConditionToken → Result Bool ConditionRule
judged tokens = (Judged-total tokens).answer

pub judged-is : (tokens : List ConditionToken) → Judged tokens (judged tokens)
unfolding judged
judged-is tokens = (Judged-total tokens).is_judged

pub judged-only : (tokens : List ConditionToken) (answer : Result Bool ConditionRule) → Judged tokens answer → answer ≡ judged tokens
judged-only tokens answer j = Judged-unique j (judged-is tokens)

-- ---- the line of a directive

-- whether the condition holds, and the count of tokens made; or why that isn't said, and that count
abbrev pub Outcome : Type 0
Outcome = Result (Bool × ℕ) (Stop × ℕ)

abbrev pub rule_number : ConditionRule → ℕ
rule_number Malformed = 14
rule_number Undefined = 15
rule_number LeftOut = 20

-- a rule that is broken stands at the `#` of the directive
abbrev pub breaks : Place → ConditionRule → ℕ → Outcome
breaks at rule made = Err (broken (record { place = at; rule = record { family = P; number = rule_number rule } }), made)

abbrev pub outcome : Place → Result Bool ConditionRule → ℕ → Outcome
outcome at (Ok holds) made = Ok (holds, made)
outcome at (Err rule) made = breaks at rule made

abbrev pub of_tokens : Place → Result (List ConditionToken) ConditionRule → ℕ → Outcome
of_tokens at (Ok tokens) made = outcome at (judged tokens) made
of_tokens at (Err rule) made = breaks at rule made

-- the tokens after replacement
abbrev pub of_replaced : Place → expansion.Answer → Outcome
of_replaced at (Ok v) = of_tokens at (condition_tokens (map (λ p. p.tok) v.0)) v.1
of_replaced at (Err stopped) = Err stopped

-- the tokens before replacement
abbrev pub of_answered : Macros → Place → Result (List PpToken) ConditionRule → ℕ → Outcome
of_answered table at (Ok tokens) made = of_replaced at (expand table (map fresh tokens) made)
of_answered table at (Err rule) made = breaks at rule made

-- What follows `#if` or `#elif` on its line, where `at` is the place of the `#` and `made` counts the
-- tokens that replacement made before.
unfoldable pub condition : Macros → Place → List PpToken → ℕ → Outcome
condition table at line made = of_answered table at (defined_answered table.entries line) made
