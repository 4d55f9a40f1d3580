-- Each spelling of a unit is converted into one sort of token, and only it.
use Rattle.std.proofs.Common.{◌≡◌, ℕ, ◌+◌, ◌==◌, ◌≤◌, List, [], ◌∷◌, ◌++◌, map, take, Bool, true, false, if◌then◌else◌, Result, Ok, ℤ, pos, negsuc, refl, sym, ap, ◌∙◌, subst, arith}
use Rattle.std.specs.Prelude.{codes}
use Rattle.std.specs.Str.{bytes_eq}
use Rattle.std.proofs.lemmas.Bool.Decides.{nat_tests}
use Rattle.std.proofs.lemmas.Slice.Eq.{bytes_eq-Decides}
use Rattle.model_types.specs.declared.numbers.Basic.{Basic}
use Rattle.model_types.specs.declared.numbers.Basic.TheVariants as basic
use Rattle.model_types.specs.declared.numbers.BinOp.{BinOp}
use Rattle.model_types.specs.declared.numbers.BinOp.TheVariants.{Mul, Div, Rem, Add, Sub, ShiftLeft, ShiftRight, Less, Greater, LessEqual, GreaterEqual, Equal, NotEqual, BitAnd, BitXor, BitOr}
use Rattle.model_types.specs.declared.numbers.Const.{Const}
use Rattle.model_tokens.specs.declared.tokens.CKind.{CKind}
use Rattle.model_tokens.specs.declared.tokens.CKind.TheVariants.{Word, Name, Integer, Text, Punct}
use Rattle.model_tokens.specs.declared.tokens.CTok.{CTok}
use Rattle.model_tokens.specs.declared.tokens.TokenRule.{TokenRule}
use Rattle.model_types.specs.Vocabulary.{word_number, punctuator_number}
use Rattle.c_model.specs.FirstUnit.{spelled, IsSpelled, IsConstant, head_words}
use Rattle.cake_cli.specs.Sorts.{Sort, IntWord, MainName, OpenParenthesis, VoidWord, CloseParenthesis, OpenBrace, ReturnWord, Constant, Sign, Semicolon, CloseBrace, Other, int_sort, constant_sort, sign_sort, sort_of}
use Rattle.cake_cli.specs.Reader.{front_rank}

-- ---- the spellings

return_spelled : spelled (codes "return") ≡ Ok (Word 39)
unfolding spelled word_number punctuator_number
return_spelled = refl

open_spelled : spelled (codes "(") ≡ Ok (Punct 3)
unfolding spelled word_number punctuator_number
open_spelled = refl

close_spelled : spelled (codes ")") ≡ Ok (Punct 4)
unfolding spelled word_number punctuator_number
close_spelled = refl

brace_spelled : spelled (codes "}") ≡ Ok (Punct 8)
unfolding spelled word_number punctuator_number
brace_spelled = refl

semicolon_spelled : spelled (codes ";") ≡ Ok (Punct 2)
unfolding spelled word_number punctuator_number
semicolon_spelled = refl

times_spelled : spelled (codes "*") ≡ Ok (Punct 11)
unfolding spelled word_number punctuator_number
times_spelled = refl

plus_spelled : spelled (codes "+") ≡ Ok (Punct 38)
unfolding spelled word_number punctuator_number
plus_spelled = refl

minus_spelled : spelled (codes "-") ≡ Ok (Punct 39)
unfolding spelled word_number punctuator_number
minus_spelled = refl

-- what the words of the front are converted into
abbrev pub front_kinds : List (Result CKind TokenRule)
front_kinds = Ok (Word 14) ∷ Ok (Name (codes "main")) ∷ Ok (Punct 3) ∷ Ok (Word 11) ∷ Ok (Punct 4) ∷ Ok (Punct 7) ∷ Ok (Word 39) ∷ []

pub head_kinds : map spelled head_words ≡ take 6 front_kinds
unfolding spelled word_number punctuator_number
head_kinds = refl

-- ---- from a spelling to its sort

kind_of : (a b : CKind) (r : Result CKind TokenRule) → r ≡ Ok a → r ≡ Ok b → b ≡ a
kind_of a b r p q = let both : Ok b ≡ Ok a = sym q ∙ p in cc

pub return_sort : (t : CTok) → IsSpelled (codes "return") t → sort_of t.kind ≡ ReturnWord
return_sort t is = ap sort_of (kind_of (Word 39) t.kind _ return_spelled is)

pub open_sort : (t : CTok) → IsSpelled (codes "(") t → sort_of t.kind ≡ OpenParenthesis
open_sort t is = ap sort_of (kind_of (Punct 3) t.kind _ open_spelled is)

pub close_sort : (t : CTok) → IsSpelled (codes ")") t → sort_of t.kind ≡ CloseParenthesis
close_sort t is = ap sort_of (kind_of (Punct 4) t.kind _ close_spelled is)

pub brace_sort : (t : CTok) → IsSpelled (codes "}") t → sort_of t.kind ≡ CloseBrace
brace_sort t is = ap sort_of (kind_of (Punct 8) t.kind _ brace_spelled is)

pub semicolon_sort : (t : CTok) → IsSpelled (codes ";") t → sort_of t.kind ≡ Semicolon
semicolon_sort t is = ap sort_of (kind_of (Punct 2) t.kind _ semicolon_spelled is)

pub times_sort : (t : CTok) → IsSpelled (codes "*") t → sort_of t.kind ≡ Sign Mul
times_sort t is = ap sort_of (kind_of (Punct 11) t.kind _ times_spelled is)

pub plus_sort : (t : CTok) → IsSpelled (codes "+") t → sort_of t.kind ≡ Sign Add
plus_sort t is = ap sort_of (kind_of (Punct 38) t.kind _ plus_spelled is)

pub minus_sort : (t : CTok) → IsSpelled (codes "-") t → sort_of t.kind ≡ Sign Sub
minus_sort t is = ap sort_of (kind_of (Punct 39) t.kind _ minus_spelled is)

pub number_sort : (t : CTok) (n : ℕ) → IsConstant t n → sort_of t.kind ≡ Constant n
number_sort t n is = ap sort_of is.kind ∙ ap (λ b. constant_sort b is.constant.value) is.basic ∙ ap int_sort is.value

-- ---- from a sort to its spelling

-- what a token of a sort is
abbrev pub Stands : Sort → CKind → Type 0
Stands IntWord k = k ≡ Word 14
Stands MainName k = k ≡ Name (codes "main")
Stands OpenParenthesis k = k ≡ Punct 3
Stands VoidWord k = k ≡ Word 11
Stands CloseParenthesis k = k ≡ Punct 4
Stands OpenBrace k = k ≡ Punct 7
Stands ReturnWord k = k ≡ Word 39
Stands (Constant n) k = (c : Const) × (k ≡ Integer c) × (c.basic ≡ basic.Int) × (c.value ≡ pos n)
Stands (Sign Mul) k = k ≡ Punct 11
Stands (Sign Add) k = k ≡ Punct 38
Stands (Sign Sub) k = k ≡ Punct 39
Stands (Sign op) k = ⊥
Stands Semicolon k = k ≡ Punct 2
Stands CloseBrace k = k ≡ Punct 8
Stands Other k = Unit {0}

equal : (m n : ℕ) → (m == n) ≡ true → m ≡ n
equal m n e = grind (arith, nat_tests)

word_by : (a b c : Bool) (n : ℕ) → (n == 14) ≡ a → (n == 11) ≡ b → (n == 39) ≡ c → Stands (if a then IntWord else (if b then VoidWord else (if c then ReturnWord else Other))) (Word n)
word_by true b c n p q r = ap Word (equal n 14 p)
word_by false true c n p q r = ap Word (equal n 11 q)
word_by false false true n p q r = ap Word (equal n 39 r)
word_by false false false n p q r = tt

name_by : (b : Bool) (name : List ℕ) → bytes_eq name (codes "main") ≡ b → Stands (if b then MainName else Other) (Name name)
name_by true name e = ap Name ((bytes_eq-Decides name (codes "main")).0 e)
name_by false name e = tt

int_by : (c : Const) (value : ℤ) → c.basic ≡ basic.Int → c.value ≡ value → Stands (int_sort value) (Integer c)
int_by c (pos n) is e = (c, refl, is, e)
int_by c (negsuc n) is e = tt

constant_by : (c : Const) (b : Basic) → c.basic ≡ b → Stands (constant_sort b c.value) (Integer c)
constant_by c basic.Int e = int_by c c.value e refl
constant_by c basic.Bool e = tt
constant_by c basic.Char e = tt
constant_by c basic.SignedChar e = tt
constant_by c basic.UnsignedChar e = tt
constant_by c basic.Short e = tt
constant_by c basic.UnsignedShort e = tt
constant_by c basic.Unsigned e = tt
constant_by c basic.Long e = tt
constant_by c basic.UnsignedLong e = tt
constant_by c basic.LongLong e = tt
constant_by c basic.UnsignedLongLong e = tt

sign_by : (a b c : Bool) (n : ℕ) → (n == 11) ≡ a → (n == 38) ≡ b → (n == 39) ≡ c → Stands (if a then Sign Mul else (if b then Sign Add else (if c then Sign Sub else Other))) (Punct n)
sign_by true b c n p q r = ap Punct (equal n 11 p)
sign_by false true c n p q r = ap Punct (equal n 38 q)
sign_by false false true n p q r = ap Punct (equal n 39 r)
sign_by false false false n p q r = tt

punctuator_by : (a b c d e : Bool) (n : ℕ) → (n == 3) ≡ a → (n == 4) ≡ b → (n == 7) ≡ c → (n == 8) ≡ d → (n == 2) ≡ e → Stands (if a then OpenParenthesis else (if b then CloseParenthesis else (if c then OpenBrace else (if d then CloseBrace else (if e then Semicolon else sign_sort n))))) (Punct n)
punctuator_by true b c d e n p q r s t = ap Punct (equal n 3 p)
punctuator_by false true c d e n p q r s t = ap Punct (equal n 4 q)
punctuator_by false false true d e n p q r s t = ap Punct (equal n 7 r)
punctuator_by false false false true e n p q r s t = ap Punct (equal n 8 s)
punctuator_by false false false false true n p q r s t = ap Punct (equal n 2 t)
punctuator_by false false false false false n p q r s t = sign_by (n == 11) (n == 38) (n == 39) n refl refl refl

pub sort_stands : (k : CKind) → Stands (sort_of k) k
sort_stands (Word n) = word_by (n == 14) (n == 11) (n == 39) n refl refl refl
sort_stands (Name name) = name_by (bytes_eq name (codes "main")) name refl
sort_stands (Integer c) = constant_by c c.basic refl
sort_stands (Text bytes) = tt
sort_stands (Punct n) = punctuator_by (n == 3) (n == 4) (n == 7) (n == 8) (n == 2) n refl refl refl refl refl

stands_as : (k : CKind) (s : Sort) → sort_of k ≡ s → Stands s k
stands_as k s e = subst (λ x. Stands x k) e (sort_stands k)

pub is_return : (t : CTok) → sort_of t.kind ≡ ReturnWord → IsSpelled (codes "return") t
is_return t e = return_spelled ∙ ap Ok (sym (stands_as t.kind ReturnWord e))

pub is_open : (t : CTok) → sort_of t.kind ≡ OpenParenthesis → IsSpelled (codes "(") t
is_open t e = open_spelled ∙ ap Ok (sym (stands_as t.kind OpenParenthesis e))

pub is_close : (t : CTok) → sort_of t.kind ≡ CloseParenthesis → IsSpelled (codes ")") t
is_close t e = close_spelled ∙ ap Ok (sym (stands_as t.kind CloseParenthesis e))

pub is_brace : (t : CTok) → sort_of t.kind ≡ CloseBrace → IsSpelled (codes "}") t
is_brace t e = brace_spelled ∙ ap Ok (sym (stands_as t.kind CloseBrace e))

pub is_semicolon : (t : CTok) → sort_of t.kind ≡ Semicolon → IsSpelled (codes ";") t
is_semicolon t e = semicolon_spelled ∙ ap Ok (sym (stands_as t.kind Semicolon e))

pub is_constant : (t : CTok) (n : ℕ) → sort_of t.kind ≡ Constant n → IsConstant t n
is_constant t n e = let s = stands_as t.kind (Constant n) e in record { constant = s.0; kind = s.1; basic = s.2; value = s.3 }

-- which sign an operator has
abbrev pub SignIs : BinOp → CTok → Type 0
SignIs Mul t = IsSpelled (codes "*") t
SignIs Add t = IsSpelled (codes "+") t
SignIs Sub t = IsSpelled (codes "-") t
SignIs op t = ⊥

sign_by_op : (op : BinOp) (t : CTok) → Stands (Sign op) t.kind → SignIs op t
sign_by_op Mul t s = times_spelled ∙ ap Ok (sym s)
sign_by_op Add t s = plus_spelled ∙ ap Ok (sym s)
sign_by_op Sub t s = minus_spelled ∙ ap Ok (sym s)
sign_by_op Div t s = absurd s
sign_by_op Rem t s = absurd s
sign_by_op ShiftLeft t s = absurd s
sign_by_op ShiftRight t s = absurd s
sign_by_op Less t s = absurd s
sign_by_op Greater t s = absurd s
sign_by_op LessEqual t s = absurd s
sign_by_op GreaterEqual t s = absurd s
sign_by_op Equal t s = absurd s
sign_by_op NotEqual t s = absurd s
sign_by_op BitAnd t s = absurd s
sign_by_op BitXor t s = absurd s
sign_by_op BitOr t s = absurd s

pub is_sign : (op : BinOp) (t : CTok) → sort_of t.kind ≡ Sign op → SignIs op t
is_sign op t e = sign_by_op op t (stands_as t.kind (Sign op) e)

-- a word of the front at its rank
front_at : (s : Sort) (k : CKind) → Stands s k → front_rank s ≤ 6 → take (front_rank s + 1) front_kinds ≡ take (front_rank s) front_kinds ++ Ok k ∷ []
front_at IntWord k is h = ap (λ x. Ok x ∷ []) (sym is)
front_at MainName k is h = ap (λ x. take 1 front_kinds ++ Ok x ∷ []) (sym is)
front_at OpenParenthesis k is h = ap (λ x. take 2 front_kinds ++ Ok x ∷ []) (sym is)
front_at VoidWord k is h = ap (λ x. take 3 front_kinds ++ Ok x ∷ []) (sym is)
front_at CloseParenthesis k is h = ap (λ x. take 4 front_kinds ++ Ok x ∷ []) (sym is)
front_at OpenBrace k is h = ap (λ x. take 5 front_kinds ++ Ok x ∷ []) (sym is)
front_at ReturnWord k is h = ap (λ x. take 6 front_kinds ++ Ok x ∷ []) (sym is)
front_at (Constant n) k is h = absurd (omega (arith, h))
front_at (Sign op) k is h = absurd (omega (arith, h))
front_at Semicolon k is h = absurd (omega (arith, h))
front_at CloseBrace k is h = absurd (omega (arith, h))
front_at Other k is h = absurd (omega (arith, h))

pub front_word : (k : CKind) (count : ℕ) → front_rank (sort_of k) ≡ count → count ≤ 6 → take (count + 1) front_kinds ≡ take count front_kinds ++ Ok k ∷ []
front_word k count e h =
    subst (λ n. take (n + 1) front_kinds ≡ take n front_kinds ++ Ok k ∷ []) e (front_at (sort_of k) k (sort_stands k) (subst (λ n. n ≤ 6) (sym e) h))

-- the seventh word of the front is `return`
return_by : (s : Sort) (k : CKind) → Stands s k → front_rank s ≡ 6 → k ≡ Word 39
return_by ReturnWord k is e = is
return_by IntWord k is e = absurd (omega (arith, e))
return_by MainName k is e = absurd (omega (arith, e))
return_by OpenParenthesis k is e = absurd (omega (arith, e))
return_by VoidWord k is e = absurd (omega (arith, e))
return_by CloseParenthesis k is e = absurd (omega (arith, e))
return_by OpenBrace k is e = absurd (omega (arith, e))
return_by (Constant n) k is e = absurd (omega (arith, e))
return_by (Sign op) k is e = absurd (omega (arith, e))
return_by Semicolon k is e = absurd (omega (arith, e))
return_by CloseBrace k is e = absurd (omega (arith, e))
return_by Other k is e = absurd (omega (arith, e))

pub seventh_is_return : (t : CTok) → front_rank (sort_of t.kind) ≡ 6 → IsSpelled (codes "return") t
seventh_is_return t e = return_spelled ∙ ap Ok (sym (return_by (sort_of t.kind) t.kind (sort_stands t.kind) e))
