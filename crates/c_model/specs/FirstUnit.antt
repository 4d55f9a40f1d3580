-- The grammar of the units `int main(void) { return E; }`, over tokens of C, with the core of each
-- (ISO/IEC 9899:2024, 5.1.2.3.4, 6.5.6, 6.5.7 and 6.9.2), and the token with which no such unit can go on.
use Rattle.std.specs.Prelude.{◌≡◌, ℕ, zero, suc, ◌+◌, ◌<◌, ℤ, pos, true, false, if◌then◌else◌, List, [], ◌∷◌, ◌++◌, map, take, length, Result, Ok, codes}
use Rattle.cake_base.specs.declared.places.Place.{Place}
use Rattle.model_types.specs.declared.numbers.Basic.TheVariants.{Int}
use Rattle.model_types.specs.declared.numbers.BinOp.{BinOp}
use Rattle.model_types.specs.declared.numbers.BinOp.TheVariants.{Mul, Add, Sub}
use Rattle.model_types.specs.declared.numbers.Const.{Const}
use Rattle.model_types.specs.declared.marks.Mark.{Mark}
use Rattle.model_tokens.specs.declared.tokens.CKind.{CKind}
use Rattle.model_tokens.specs.declared.tokens.CKind.TheVariants.{Integer}
use Rattle.model_tokens.specs.declared.tokens.CTok.{CTok}
use Rattle.model_tokens.specs.declared.tokens.TokenRule.{TokenRule}
use Rattle.model_core.specs.CoreTypes.{int_type, plain}
use Rattle.model_core.specs.SourceMarks.{expr_mark}
use Rattle.model_types.specs.Types.{CType, Function as FunctionForm, no_types}
use Rattle.model_tokens.specs.CTokens.{is_identifier, name_token, punctuator_token}
use Rattle.model_core.specs.Core.{Expr, Constant, Binary, Stat, Return, Block, an_expr, a_stat, stats, Named, Core}

-- what a spelling of a word, a name or a punctuator is converted into
unfoldable pub spelled : List ℕ → Result CKind TokenRule
spelled spelling = if is_identifier spelling then name_token spelling else punctuator_token spelling

abbrev pub IsSpelled : List ℕ → CTok → Type 0
IsSpelled spelling token = spelled spelling ≡ Ok token.kind

-- a constant of type int that isn't negative, however it is spelled
pub record IsConstant (token : CTok) (number : ℕ) : Type 0 where
  pub constant : Const
  pub kind : token.kind ≡ Integer constant
  pub basic : constant.basic ≡ Int
  pub value : constant.value ≡ pos number

-- the mark of a token that is an expression
abbrev pub mark_at : Place → Mark
mark_at place = record { at = place; first = place; outer = place }

-- a constant of type int, and an operation on two values of it, with the place of its operator: it begins with
-- its left operand, the parentheses round that counted
abbrev pub int_constant : ℤ → Place → Expr
int_constant value place = Constant value int_type (mark_at place)

abbrev pub int_operation : BinOp → Expr → Expr → Place → Expr
int_operation op left right place =
    Binary op left right (record { at = place; first = (expr_mark left).outer; outer = (expr_mark left).outer })

-- a constant or an operation in parentheses, by the place of the first one
abbrev pub in_parentheses : Place → Expr → Expr
in_parentheses place (Constant value type mark) = Constant value type (record mark { outer = place })
in_parentheses place (Binary op left right mark) = Binary op left right (record mark { outer = place })
in_parentheses place e = e

-- `int (void)`
abbrev pub main_type : CType
main_type = plain (FunctionForm int_type no_types false)

mutual
  -- sum = product | sum ("+" | "-") product
  pub data IsSum : List CTok → Expr → Type 0 where
    one_product : (ts : List CTok) (e : Expr) → IsProduct ts e → IsSum ts e
    added : (ts : List CTok) (left right : List CTok) (sign : CTok) (a b : Expr) → IsSpelled (codes "+") sign →
        IsSum left a → IsProduct right b → ts ≡ left ++ sign ∷ right → IsSum ts (int_operation Add a b sign.place)
    subtracted : (ts : List CTok) (left right : List CTok) (sign : CTok) (a b : Expr) → IsSpelled (codes "-") sign →
        IsSum left a → IsProduct right b → ts ≡ left ++ sign ∷ right → IsSum ts (int_operation Sub a b sign.place)

  -- product = primary | product "*" primary
  pub data IsProduct : List CTok → Expr → Type 0 where
    one_primary : (ts : List CTok) (e : Expr) → IsPrimary ts e → IsProduct ts e
    multiplied : (ts : List CTok) (left right : List CTok) (sign : CTok) (a b : Expr) → IsSpelled (codes "*") sign →
        IsProduct left a → IsPrimary right b → ts ≡ left ++ sign ∷ right → IsProduct ts (int_operation Mul a b sign.place)

  -- primary = constant | "(" sum ")"
  pub data IsPrimary : List CTok → Expr → Type 0 where
    constant : (ts : List CTok) (token : CTok) (number : ℕ) → IsConstant token number → ts ≡ token ∷ [] → IsPrimary ts (int_constant (pos number) token.place)
    parenthesised : (ts : List CTok) (open_ close : CTok) (inner : List CTok) (e : Expr) → IsSpelled (codes "(") open_ →
        IsSpelled (codes ")") close → IsSum inner e → ts ≡ open_ ∷ (inner ++ close ∷ []) → IsPrimary ts (in_parentheses open_.place e)

-- the words of a unit before its `return`
abbrev pub head_words : List (List ℕ)
head_words = codes "int" ∷ codes "main" ∷ codes "(" ∷ codes "void" ∷ codes ")" ∷ codes "{" ∷ []

-- the place of the token of a rank; behind the last one, that of the end
abbrev pub token_place : List CTok → Place → ℕ → Place
token_place [] end rank = end
token_place (token ∷ tokens) end zero = token.place
token_place (token ∷ tokens) end (suc rank) = token_place tokens end rank

-- where the parts of such a unit stand: the name of its function, the braces, and the word `return`
pub record UnitPlaces : Type 0 where
  pub name : Place
  pub open_brace : Place
  pub return_ : Place
  pub close_brace : Place

-- the places of the tokens before the expression, in their order, and of the last one
abbrev pub places_of : (head : List CTok) → (return_ brace : CTok) → UnitPlaces
places_of head return_ brace = record {
  name = token_place head return_.place 1;
  open_brace = token_place head return_.place 5;
  return_ = return_.place;
  close_brace = brace.place;
}

-- what stands at the `}` of `main` (5.1.2.3.4)
abbrev pub ending : Place → Stat
ending brace = Return (an_expr (int_constant (pos 0) brace)) brace

-- a unit whose `main` returns this value
abbrev pub returning : Expr → UnitPlaces → Core
returning value places = record {
  objects = [];
  functions = record {
    id = 0;
    name = Named (codes "main");
    type = main_type;
    is_external = true;
    parameters = [];
    body = a_stat (Block [] (stats (Return (an_expr value) places.return_ ∷ ending places.close_brace ∷ [])) (record { first = places.open_brace; last = places.close_brace }));
    place = places.name;
    joint_place = places.name;
  } ∷ [];
  structs = [];
  named_types = (places.name, main_type) ∷ [];
}

-- unit = "int" "main" "(" "void" ")" "{" "return" sum ";" "}"
pub record IsUnit (ts : List CTok) (core : Core) : Type 0 where
  pub head : List CTok
  pub return_ : CTok
  pub sum : List CTok
  pub semicolon : CTok
  pub brace : CTok
  pub value : Expr
  pub parts : ts ≡ head ++ return_ ∷ (sum ++ semicolon ∷ brace ∷ [])
  pub head_is : map (λ t. Ok t.kind) head ≡ map spelled head_words
  pub return_is : IsSpelled (codes "return") return_
  pub sum_is : IsSum sum value
  pub semicolon_is : IsSpelled (codes ";") semicolon
  pub brace_is : IsSpelled (codes "}") brace
  pub core_is : core ≡ returning value (places_of head return_ brace)

-- some unit begins with these tokens
abbrev pub CanGoOn : List CTok → Type 0
CanGoOn ts = (rest : List CTok) × (core : Core) × IsUnit (ts ++ rest) core

-- why reading stops at the token of a rank: no unit goes on with it; or the tokens are at their end and no
-- unit yet
pub data StopsFor (ts : List CTok) (rank : ℕ) : Type 0 where
  no_unit_goes_on : rank < length ts → (CanGoOn (take (1 + rank) ts) → ⊥) → StopsFor ts rank
  too_few : rank ≡ length ts → ((core : Core) → IsUnit ts core → ⊥) → StopsFor ts rank

-- the first token at which reading stops has this rank
pub record StopsAt (ts : List CTok) (rank : ℕ) : Type 0 where
  pub before : CanGoOn (take rank ts)
  pub cause : StopsFor ts rank
