-- The operator `defined` and the operators that are left out, in the line of a condition before macros
-- are replaced (ISO/IEC 9899:2024, 6.10.2).
use Rattle.std.specs.Prelude.{ℕ, zero, suc, Bool, true, false, ◌&&◌, if◌then◌else◌, List, [], ◌∷◌, Option, Some, None, Result, Ok, Err, codes}
use Rattle.model_conditions.specs.declared.conditions.ConditionRule.{ConditionRule}
use Rattle.model_conditions.specs.declared.conditions.ConditionRule.TheVariants.{Malformed, LeftOut}
use Rattle.model_tokens.specs.declared.tokens.PpKind.TheVariants.{Number}
use Rattle.model_tokens.specs.PpTokens.{PpToken}
use Rattle.model_types.specs.Vocabulary.{stands_in}
use Rattle.model_macros.specs.Macros.{Macro, spells, defines}
use Rattle.model_macros.specs.ReplacementLists.{LEFT, RIGHT}
use Rattle.model_macros.specs.MacroDefinitions.{is_name}

abbrev pub DEFINED : List ℕ
DEFINED = codes "defined"

-- the operators of conditions that are left out
abbrev pub left_out_operators : List (List ℕ)
left_out_operators = codes "__has_include" ∷ codes "__has_embed" ∷ codes "__has_c_attribute" ∷ []

abbrev pub is_left_out : PpToken → Bool
is_left_out t = stands_in left_out_operators t.spelling

-- the name that `defined` asks for, and the number of tokens in which it stands
pub record Asked : Type 0 where
  pub name : List ℕ
  pub tokens : ℕ

abbrev pub in_parentheses : List PpToken → Option Asked
in_parentheses [] = None
in_parentheses (x ∷ []) = None
in_parentheses (x ∷ close ∷ ts) = if is_name x && spells RIGHT close then Some (record { name = x.spelling; tokens = 3 }) else None

-- what stands behind `defined`: a name, or a name in parentheses
abbrev pub operand : List PpToken → Option Asked
operand [] = None
operand (x ∷ ts) =
    if is_name x then Some (record { name = x.spelling; tokens = 1 })
    else if spells LEFT x then in_parentheses ts else None

-- the number 1 or 0 in the place of `defined`
abbrev pub told : PpToken → Bool → PpToken
told t true = record t { kind = Number; spelling = codes "1" }
told t false = record t { kind = Number; spelling = codes "0" }

-- a token before the rest of the line
abbrev pub before_line : PpToken → Result (List PpToken) ConditionRule → Result (List PpToken) ConditionRule
before_line t (Ok ts) = Ok (t ∷ ts)
before_line t (Err rule) = Err rule

-- `defined` with its operand, before what is left when the operand's tokens are passed over
abbrev pub answered : List (List ℕ × Macro) → PpToken → Option Asked → (ℕ → Result (List PpToken) ConditionRule) → Result (List PpToken) ConditionRule
answered macros t None rest = Err Malformed
answered macros t (Some asked) rest = before_line (told t (defines asked.name macros)) (rest asked.tokens)

-- The line with 1 or 0 in the place of each `defined` and its operand, or the first rule that is broken
-- from the left. The number counts the tokens that are left of the operand before.
abbrev pub answered_from : List (List ℕ × Macro) → ℕ → List PpToken → Result (List PpToken) ConditionRule
answered_from macros skip [] = Ok []
answered_from macros (suc skip) (t ∷ ts) = answered_from macros skip ts
answered_from macros zero (t ∷ ts) =
    if spells DEFINED t then answered macros t (operand ts) (λ n. answered_from macros n ts)
    else if is_left_out t then Err LeftOut
    else before_line t (answered_from macros zero ts)

unfoldable pub defined_answered : List (List ℕ × Macro) → List PpToken → Result (List PpToken) ConditionRule
defined_answered macros line = answered_from macros 0 line
