-- The tokens of a condition, after macros are replaced (ISO/IEC 9899:2024, 6.10.2): names are numbers,
-- and constants are of 64 bits.
use Rattle.std.specs.Prelude.{ℕ, Bool, false, ◌||◌, not, if◌then◌else◌, List, [], ◌∷◌, Result, Ok, Err, codes, pos}
use Rattle.cake_base.specs.declared.rules.Fault.{Fault}
use Rattle.model_conditions.specs.declared.conditions.ConditionRule.{ConditionRule}
use Rattle.model_conditions.specs.declared.conditions.ConditionRule.TheVariants.{Malformed, LeftOut}
use Rattle.model_conditions.specs.declared.conditions.ConditionToken.{ConditionToken}
use Rattle.model_conditions.specs.declared.conditions.ConditionToken.TheVariants.{Constant, Operator, Complement, Not, Open, Close, Question, Colon}
use Rattle.model_conditions.specs.declared.conditions.Infix.TheVariants.{Integer, Logic}
use Rattle.model_types.specs.declared.numbers.Basic.TheVariants.{Long}
use Rattle.model_types.specs.declared.numbers.BinOp.TheVariants.{Mul, Div, Rem, Add, Sub, ShiftLeft, ShiftRight, Less, Greater, LessEqual, GreaterEqual, Equal, NotEqual, BitAnd, BitXor, BitOr}
use Rattle.model_types.specs.declared.operators.LogicOp.TheVariants.{And, Or}
use Rattle.model_tokens.specs.declared.tokens.CKind.{CKind}
use Rattle.model_tokens.specs.declared.tokens.CKind.TheVariants as kind_of
use Rattle.model_tokens.specs.declared.tokens.CTok.{CTok}
use Rattle.model_tokens.specs.declared.tokens.PpKind.{PpKind}
use Rattle.model_tokens.specs.declared.tokens.PpKind.TheVariants.{Header, Name, Number, Character, Text, Punct, Other}
use Rattle.model_types.specs.Operations.{fits}
use Rattle.model_tokens.specs.IntegerConstants.{is_u}
use Rattle.model_tokens.specs.PpTokens.{PpToken}
use Rattle.model_tokens.specs.CTokens.{c_token_of}
use Rattle.model_conditions.specs.Defined.{is_left_out}
use Rattle.model_types.specs.Texts.{same_text}

-- the number that a name or a keyword stands for
abbrev pub of_name : PpToken → Result ConditionToken ConditionRule
of_name t =
    if is_left_out t then Err LeftOut
    else Ok (Constant (record { value = if same_text t.spelling (codes "true") then pos 1 else pos 0; unsigned = false }))

-- whether a number has the suffix u, of which no other part has the letter
abbrev pub has_u : List ℕ → Bool
has_u [] = false
has_u (b ∷ text) = is_u b || has_u text

-- a constant is unsigned by its suffix, or where no 64 signed bits hold it
abbrev pub of_kind : (suffixed : Bool) → CKind → Result ConditionToken ConditionRule
of_kind suffixed (kind_of.Integer c) = Ok (Constant (record { value = c.value; unsigned = suffixed || not (fits Long c.value) }))
of_kind suffixed (kind_of.Word number) = Err Malformed
of_kind suffixed (kind_of.Name text) = Err Malformed
of_kind suffixed (kind_of.Text bytes) = Err Malformed
of_kind suffixed (kind_of.Punct number) = Err Malformed

abbrev pub of_constant : (suffixed : Bool) → Result CTok Fault → Result ConditionToken ConditionRule
of_constant suffixed (Ok c) = of_kind suffixed c.kind
of_constant suffixed (Err fault) = Err Malformed

-- the punctuators of conditions
abbrev pub signs : List (List ℕ × ConditionToken)
signs =
    (codes "(", Open) ∷ (codes ")", Close) ∷ (codes "?", Question) ∷ (codes ":", Colon) ∷
    (codes "~", Complement) ∷ (codes "!", Not) ∷
    (codes "*", Operator (Integer Mul)) ∷ (codes "/", Operator (Integer Div)) ∷ (codes "%", Operator (Integer Rem)) ∷
    (codes "+", Operator (Integer Add)) ∷ (codes "-", Operator (Integer Sub)) ∷
    (codes "<<", Operator (Integer ShiftLeft)) ∷ (codes ">>", Operator (Integer ShiftRight)) ∷
    (codes "<", Operator (Integer Less)) ∷ (codes ">", Operator (Integer Greater)) ∷
    (codes "<=", Operator (Integer LessEqual)) ∷ (codes ">=", Operator (Integer GreaterEqual)) ∷
    (codes "==", Operator (Integer Equal)) ∷ (codes "!=", Operator (Integer NotEqual)) ∷
    (codes "&", Operator (Integer BitAnd)) ∷ (codes "^", Operator (Integer BitXor)) ∷ (codes "|", Operator (Integer BitOr)) ∷
    (codes "&&", Operator (Logic And)) ∷ (codes "||", Operator (Logic Or)) ∷ []

abbrev pub sign_in : List (List ℕ × ConditionToken) → List ℕ → Result ConditionToken ConditionRule
sign_in [] text = Err Malformed
sign_in (s ∷ ss) text = if same_text text s.0 then Ok s.1 else sign_in ss text

unfoldable pub of_sign : List ℕ → Result ConditionToken ConditionRule
of_sign text = sign_in signs text

-- the token of a condition that a token is, by its kind
abbrev pub of_part : PpKind → PpToken → Result ConditionToken ConditionRule
of_part Name t = of_name t
of_part Number t = of_constant (has_u t.spelling) (c_token_of t)
of_part Character t = of_constant false (c_token_of t)
of_part Punct t = of_sign t.spelling
of_part Header t = Err Malformed
of_part Text t = Err Malformed
of_part Other t = Err Malformed

abbrev pub before_part : Result ConditionToken ConditionRule → Result (List ConditionToken) ConditionRule → Result (List ConditionToken) ConditionRule
before_part (Err rule) parts = Err rule
before_part (Ok part) (Ok parts) = Ok (part ∷ parts)
before_part (Ok part) (Err rule) = Err rule

-- the tokens of a condition, or the first rule that is broken from the left
abbrev pub condition_tokens : List PpToken → Result (List ConditionToken) ConditionRule
condition_tokens [] = Ok []
condition_tokens (t ∷ ts) = before_part (of_part t.kind t) (condition_tokens ts)
