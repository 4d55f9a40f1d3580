-- What the reader has read is a front of a unit of the grammar, which some tokens complete.
use Rattle.std.proofs.Common.{◌≡◌, ℕ, zero, suc, ◌+◌, ◌≤◌, ◌==◌, List, [], ◌∷◌, ◌++◌, map, take, Option, Some, None, Bool, true, false, if◌then◌else◌, Result, Ok, pos, refl, sym, ap, ◌∙◌, subst, append_assoc, arith}
use Rattle.std.specs.Prelude.{codes}
use Rattle.std.proofs.lemmas.Bool.Decides.{nat_tests}
use Rattle.std.proofs.lemmas.List.{append-nil}
use Rattle.cake_base.specs.declared.places.Place.{Place}
use Rattle.model_types.specs.declared.numbers.Basic.TheVariants.{Int}
use Rattle.model_types.specs.declared.numbers.BinOp.{BinOp}
use Rattle.model_types.specs.declared.numbers.BinOp.TheVariants.{Mul, Div, Rem, Add, Sub, ShiftLeft, ShiftRight, Less, Greater, LessEqual, GreaterEqual, Equal, NotEqual, BitAnd, BitXor, BitOr}
use Rattle.model_tokens.specs.declared.tokens.CKind.{CKind}
use Rattle.model_tokens.specs.declared.tokens.CKind.TheVariants.{Word, Name, Integer, Punct}
use Rattle.model_tokens.specs.declared.tokens.CTok.{CTok}
use Rattle.model_tokens.specs.declared.tokens.TokenRule.{TokenRule}
use Rattle.model_core.specs.Core.{Expr}
use Rattle.c_model.specs.FirstUnit.{UnitPlaces, places_of, spelled, IsSpelled, IsSum, IsProduct, IsPrimary, one_product, added, subtracted, one_primary, multiplied, constant, parenthesised, head_words, returning, IsUnit, CanGoOn, int_constant, int_operation, in_parentheses}
use Rattle.cake_cli.specs.Sorts.{Sort, IntWord, MainName, OpenParenthesis, VoidWord, CloseParenthesis, OpenBrace, ReturnWord, Constant, Sign, Semicolon, CloseBrace, Other, sort_of}
use Rattle.cake_cli.specs.Reader.{Stage, Front, Operand, Operator, Tail, Whole, Waiting, Open, Enclosing, nothing_open, joined, closed, front_rank, past_word, past_sum, past_product, past_sign, past_close, past_end, past_begin, past_operand, past_tail, read_token}
use Rattle.cake_cli.proofs.SortLaws.{front_kinds, head_kinds, front_word, seventh_is_return, SignIs, is_open, is_close, is_brace, is_semicolon, is_constant, is_sign}
use Rattle.cake_cli.proofs.Steps.{go, go-append, go-None}

-- the tokens of a left operand that waits in a sum, with its sign
data SumFront : Option Waiting → List CTok → Type 0 where
  no_sum : SumFront None []
  plus : (left : List CTok) (sign : CTok) (a : Expr) → IsSum left a → IsSpelled (codes "+") sign → SumFront (Some (record { op = Add; left = a; place = sign.place })) (left ++ sign ∷ [])
  minus : (left : List CTok) (sign : CTok) (a : Expr) → IsSum left a → IsSpelled (codes "-") sign → SumFront (Some (record { op = Sub; left = a; place = sign.place })) (left ++ sign ∷ [])

-- of one that waits in a product
data ProductFront : Option Waiting → List CTok → Type 0 where
  no_product : ProductFront None []
  times : (left : List CTok) (sign : CTok) (a : Expr) → IsProduct left a → IsSpelled (codes "*") sign → ProductFront (Some (record { op = Mul; left = a; place = sign.place })) (left ++ sign ∷ [])

-- the tokens behind an opening parenthesis, up to an operand
record OpenFront (here : Open) (ts : List CTok) : Type 0 where
  first : List CTok
  second : List CTok
  sum : SumFront here.sum first
  product : ProductFront here.product second
  parts : ts ≡ first ++ second

-- the tokens up to the innermost opening parenthesis
data OuterFront : List Enclosing → List CTok → Type 0 where
  no_outer : OuterFront [] []
  more_outer : (here : Open) (outer : List Enclosing) (first second : List CTok) (l : CTok) → OuterFront outer first → OpenFront here second → IsSpelled (codes "(") l → OuterFront (record { here = here; parenthesis = l.place } ∷ outer) (first ++ (second ++ l ∷ []))

-- the words before the expression
record WordsFront (ts : List CTok) : Type 0 where
  head : List CTok
  return_ : CTok
  parts : ts ≡ head ++ return_ ∷ []
  head_is : map (λ t. Ok t.kind) head ≡ map spelled head_words
  return_is : IsSpelled (codes "return") return_

record OperandFront (here : Open) (outer : List Enclosing) (ts : List CTok) : Type 0 where
  first : List CTok
  second : List CTok
  third : List CTok
  words : WordsFront first
  outer_is : OuterFront outer second
  here_is : OpenFront here third
  parts : ts ≡ first ++ (second ++ third)

record OperatorFront (operand : Expr) (here : Open) (outer : List Enclosing) (ts : List CTok) : Type 0 where
  before : List CTok
  last : List CTok
  front : OperandFront here outer before
  primary : IsPrimary last operand
  parts : ts ≡ before ++ last

record TailFront (value : Expr) (ts : List CTok) : Type 0 where
  first : List CTok
  sum : List CTok
  semicolon : CTok
  words : WordsFront first
  sum_is : IsSum sum value
  semicolon_is : IsSpelled (codes ";") semicolon
  parts : ts ≡ first ++ (sum ++ semicolon ∷ [])

abbrev WholeFront : Expr → List CTok → Type 0
WholeFront value ts = (places : UnitPlaces) × IsUnit ts (returning value places)

-- what a stage says of the tokens that were read
abbrev Holds : Stage → List CTok → Type 0
Holds (Front count) ts = (map (λ t. Ok t.kind) ts ≡ take count front_kinds) × (count ≤ 6)
Holds (Operand here outer) ts = OperandFront here outer ts
Holds (Operator operand here outer) ts = OperatorFront operand here outer ts
Holds (Tail value) ts = TailFront value ts
Holds (Whole value) ts = WholeFront value ts

nothing_read : OpenFront nothing_open []
nothing_read = record { first = []; second = []; sum = no_sum; product = no_product; parts = refl }

-- an operand closes the product that waits, and then the sum
product_closed : (product : Option Waiting) (ts us : List CTok) (e : Expr) → ProductFront product ts → IsPrimary us e → IsProduct (ts ++ us) (joined product e)
product_closed product ts us e no_product p = one_primary us e p
product_closed product ts us e (times left sign a l is) p =
    subst (λ vs. IsProduct vs (int_operation Mul a e sign.place)) (sym (append_assoc left (sign ∷ []) us)) (multiplied (left ++ sign ∷ us) left us sign a e is l p refl)

sum_closed : (sum : Option Waiting) (ts us : List CTok) (e : Expr) → SumFront sum ts → IsProduct us e → IsSum (ts ++ us) (joined sum e)
sum_closed sum ts us e no_sum p = one_product us e p
sum_closed sum ts us e (plus left sign a l is) p =
    subst (λ vs. IsSum vs (int_operation Add a e sign.place)) (sym (append_assoc left (sign ∷ []) us)) (added (left ++ sign ∷ us) left us sign a e is l p refl)
sum_closed sum ts us e (minus left sign a l is) p =
    subst (λ vs. IsSum vs (int_operation Sub a e sign.place)) (sym (append_assoc left (sign ∷ []) us)) (subtracted (left ++ sign ∷ us) left us sign a e is l p refl)

open_closed : (here : Open) (ts us : List CTok) (e : Expr) → OpenFront here ts → IsPrimary us e → IsSum (ts ++ us) (closed here e)
open_closed here ts us e o p =
    subst (λ vs. IsSum vs (closed here e)) (sym (ap (λ vs. vs ++ us) o.parts ∙ append_assoc o.first o.second us))
    (sum_closed here.sum o.first (o.second ++ us) (joined here.product e) o.sum (product_closed here.product o.second us e o.product p))

-- each step keeps what a stage says

equal : (m n : ℕ) → (m == n) ≡ true → m ≡ n
equal m n test = grind (arith, nat_tests)

abbrev kind_of : CTok → Result CKind TokenRule
kind_of t = Ok t.kind

-- one more word
map-push : (ts : List CTok) (t : CTok) → map (λ t. Ok t.kind) (ts ++ t ∷ []) ≡ map kind_of ts ++ kind_of t ∷ []
map-push [] t = refl
map-push (u ∷ ts) t = ap (λ rest. kind_of u ∷ rest) (map-push ts t)

last_word : (count : ℕ) (ts : List CTok) (t : CTok) → count ≡ 6 → Holds (Front count) ts → front_rank (sort_of t.kind) ≡ count → Holds (Operand nothing_open []) (ts ++ t ∷ [])
last_word count ts t six holds is = record {
  first = ts ++ t ∷ [];
  second = [];
  third = [];
  words = record {
    head = ts;
    return_ = t;
    parts = refl;
    head_is = holds.0 ∙ ap (λ n. take n front_kinds) six ∙ sym head_kinds;
    return_is = seventh_is_return t (is ∙ six);
  };
  outer_is = no_outer;
  here_is = nothing_read;
  parts = sym (append-nil (ts ++ t ∷ []));
}

other_word : (count : ℕ) (ts : List CTok) (t : CTok) → (count == 6) ≡ false → Holds (Front count) ts → front_rank (sort_of t.kind) ≡ count → Holds (Front (count + 1)) (ts ++ t ∷ [])
other_word count ts t no_six holds is =
    (map-push ts t ∙ ap (λ ws. ws ++ kind_of t ∷ []) holds.0 ∙ sym (front_word t.kind count is holds.1), below count holds.1 (λ e. not_equal count 6 no_six e))
  where
    not_equal : (m n : ℕ) → (m == n) ≡ false → m ≡ n → ⊥
    not_equal m n test e = grind (arith, nat_tests)

    below : (n : ℕ) → n ≤ 6 → (n ≡ 6 → ⊥) → n + 1 ≤ 6
    below n h ne = omega (arith, h, ne)

word_keeps_by : (b : Bool) (count : ℕ) (ts : List CTok) (t : CTok) → (count == 6) ≡ b → Holds (Front count) ts → front_rank (sort_of t.kind) ≡ count → Holds (if b then Operand nothing_open [] else Front (count + 1)) (ts ++ t ∷ [])
word_keeps_by true count ts t six holds is = last_word count ts t (equal count 6 six) holds is
word_keeps_by false count ts t six holds is = other_word count ts t six holds is

word_keeps : (count : ℕ) (ts : List CTok) (t : CTok) → Holds (Front count) ts → front_rank (sort_of t.kind) ≡ count → Holds (past_word count) (ts ++ t ∷ [])
word_keeps count ts t holds is = word_keeps_by (count == 6) count ts t refl holds is

-- the whole sum up to a sign
additive_keeps : (op : BinOp) (ts : List CTok) (t : CTok) (e : Expr) (here : Open) (outer : List Enclosing) → Holds (Operator e here outer) ts → ((left : List CTok) (a : Expr) → IsSum left a → SumFront (Some (record { op = op; left = a; place = t.place })) (left ++ t ∷ [])) → Holds (Operand (past_sum op t.place e here) outer) (ts ++ t ∷ [])
additive_keeps op ts t e here outer holds waits = record {
  first = holds.front.first;
  second = holds.front.second;
  third = (holds.front.third ++ holds.last) ++ t ∷ [];
  words = holds.front.words;
  outer_is = holds.front.outer_is;
  here_is = record {
    first = (holds.front.third ++ holds.last) ++ t ∷ [];
    second = [];
    sum = waits (holds.front.third ++ holds.last) (closed here e) (open_closed here holds.front.third holds.last e holds.front.here_is holds.primary);
    product = no_product;
    parts = sym (append-nil _);
  };
  parts = ap (λ vs. vs ++ t ∷ []) (holds.parts ∙ ap (λ vs. vs ++ holds.last) holds.front.parts) ∙ simp append_assoc;
}

times_keeps : (ts : List CTok) (t : CTok) (e : Expr) (here : Open) (outer : List Enclosing) → Holds (Operator e here outer) ts → IsSpelled (codes "*") t → Holds (Operand (past_product t.place e here) outer) (ts ++ t ∷ [])
times_keeps ts t e here outer holds is = record {
  first = holds.front.first;
  second = holds.front.second;
  third = holds.front.third ++ (holds.last ++ t ∷ []);
  words = holds.front.words;
  outer_is = holds.front.outer_is;
  here_is = record {
    first = holds.front.here_is.first;
    second = (holds.front.here_is.second ++ holds.last) ++ t ∷ [];
    sum = holds.front.here_is.sum;
    product = times (holds.front.here_is.second ++ holds.last) t (joined here.product e) (product_closed here.product holds.front.here_is.second holds.last e holds.front.here_is.product holds.primary) is;
    parts = ap (λ vs. vs ++ (holds.last ++ t ∷ [])) holds.front.here_is.parts ∙ simp append_assoc;
  };
  parts = ap (λ vs. vs ++ t ∷ []) (holds.parts ∙ ap (λ vs. vs ++ holds.last) holds.front.parts) ∙ simp append_assoc;
}

sign_keeps : (op : BinOp) (ts : List CTok) (t : CTok) (e : Expr) (here : Open) (outer : List Enclosing) → Holds (Operator e here outer) ts → SignIs op t → Holds (past_sign op t.place e here outer) (ts ++ t ∷ [])
sign_keeps Mul ts t e here outer holds is = times_keeps ts t e here outer holds is
sign_keeps Add ts t e here outer holds is = additive_keeps Add ts t e here outer holds (λ left a sum. plus left t a sum is)
sign_keeps Sub ts t e here outer holds is = additive_keeps Sub ts t e here outer holds (λ left a sum. minus left t a sum is)
sign_keeps Div ts t e here outer holds is = absurd is
sign_keeps Rem ts t e here outer holds is = absurd is
sign_keeps ShiftLeft ts t e here outer holds is = absurd is
sign_keeps ShiftRight ts t e here outer holds is = absurd is
sign_keeps Less ts t e here outer holds is = absurd is
sign_keeps Greater ts t e here outer holds is = absurd is
sign_keeps LessEqual ts t e here outer holds is = absurd is
sign_keeps GreaterEqual ts t e here outer holds is = absurd is
sign_keeps Equal ts t e here outer holds is = absurd is
sign_keeps NotEqual ts t e here outer holds is = absurd is
sign_keeps BitAnd ts t e here outer holds is = absurd is
sign_keeps BitXor ts t e here outer holds is = absurd is
sign_keeps BitOr ts t e here outer holds is = absurd is

record OuterParts (around : Enclosing) (outer : List Enclosing) (ts : List CTok) : Type 0 where
  first : List CTok
  second : List CTok
  l : CTok
  outer_is : OuterFront outer first
  here_is : OpenFront around.here second
  l_is : IsSpelled (codes "(") l
  place : l.place ≡ around.parenthesis
  parts : ts ≡ first ++ (second ++ l ∷ [])

outer_parts : (around : Enclosing) (outer : List Enclosing) (ts : List CTok) → OuterFront (around ∷ outer) ts → OuterParts around outer ts
outer_parts around outer ts (more_outer h o first second l a b c) = record { first = first; second = second; l = l; outer_is = a; here_is = b; l_is = c; place = refl; parts = refl }

outer_none : (ts : List CTok) → OuterFront [] ts → ts ≡ []
outer_none ts no_outer = refl

close_keeps : (ts : List CTok) (t : CTok) (e : Expr) (here : Open) (around : Enclosing) (outer : List Enclosing) → Holds (Operator e here (around ∷ outer)) ts → IsSpelled (codes ")") t → Holds (Operator (in_parentheses around.parenthesis (closed here e)) around.here outer) (ts ++ t ∷ [])
close_keeps ts t e here around outer holds is =
    let o = outer_parts around outer holds.front.second holds.front.outer_is in
    record {
      before = holds.front.first ++ (o.first ++ o.second);
      last = o.l ∷ ((holds.front.third ++ holds.last) ++ t ∷ []);
      front = record { first = holds.front.first; second = o.first; third = o.second; words = holds.front.words; outer_is = o.outer_is; here_is = o.here_is; parts = refl };
      primary = subst (λ p. IsPrimary (o.l ∷ ((holds.front.third ++ holds.last) ++ t ∷ [])) (in_parentheses p (closed here e))) o.place (parenthesised (o.l ∷ ((holds.front.third ++ holds.last) ++ t ∷ [])) o.l t (holds.front.third ++ holds.last) (closed here e) o.l_is is (open_closed here holds.front.third holds.last e holds.front.here_is holds.primary) refl);
      parts = ap (λ vs. vs ++ t ∷ []) (holds.parts ∙ ap (λ vs. vs ++ holds.last) (holds.front.parts ∙ ap (λ vs. holds.front.first ++ (vs ++ holds.front.third)) o.parts)) ∙ simp append_assoc;
    }

end_keeps : (ts : List CTok) (t : CTok) (e : Expr) (here : Open) → Holds (Operator e here []) ts → IsSpelled (codes ";") t → Holds (Tail (closed here e)) (ts ++ t ∷ [])
end_keeps ts t e here holds is = record {
  first = holds.front.first;
  sum = holds.front.third ++ holds.last;
  semicolon = t;
  words = holds.front.words;
  sum_is = open_closed here holds.front.third holds.last e holds.front.here_is holds.primary;
  semicolon_is = is;
  parts = ap (λ vs. vs ++ t ∷ []) (holds.parts ∙ ap (λ vs. vs ++ holds.last) (holds.front.parts ∙ ap (λ vs. holds.front.first ++ (vs ++ holds.front.third)) (outer_none holds.front.second holds.front.outer_is))) ∙ simp append_assoc;
}

open_keeps : (ts : List CTok) (t : CTok) (here : Open) (outer : List Enclosing) → Holds (Operand here outer) ts → IsSpelled (codes "(") t → Holds (Operand nothing_open (record { here = here; parenthesis = t.place } ∷ outer)) (ts ++ t ∷ [])
open_keeps ts t here outer holds is = record {
  first = holds.first;
  second = holds.second ++ (holds.third ++ t ∷ []);
  third = [];
  words = holds.words;
  outer_is = more_outer here outer holds.second holds.third t holds.outer_is holds.here_is is;
  here_is = nothing_read;
  parts = ap (λ vs. vs ++ t ∷ []) holds.parts ∙ simp append_assoc;
}

constant_keeps : (ts : List CTok) (t : CTok) (number : ℕ) (here : Open) (outer : List Enclosing) → Holds (Operand here outer) ts → sort_of t.kind ≡ Constant number → Holds (Operator (int_constant (pos number) t.place) here outer) (ts ++ t ∷ [])
constant_keeps ts t number here outer holds is = record {
  before = ts;
  last = t ∷ [];
  front = holds;
  primary = constant (t ∷ []) t number (is_constant t number is) refl;
  parts = refl;
}

brace_keeps : (ts : List CTok) (t : CTok) (value : Expr) → Holds (Tail value) ts → IsSpelled (codes "}") t → Holds (Whole value) (ts ++ t ∷ [])
brace_keeps ts t value holds is = (
  places_of holds.words.head holds.words.return_ t,
  record {
    head = holds.words.head;
    return_ = holds.words.return_;
    sum = holds.sum;
    semicolon = holds.semicolon;
    brace = t;
    value = value;
    parts = ap (λ vs. vs ++ t ∷ []) (holds.parts ∙ ap (λ vs. vs ++ (holds.sum ++ holds.semicolon ∷ [])) holds.words.parts) ∙ simp append_assoc;
    head_is = holds.words.head_is;
    return_is = holds.words.return_is;
    sum_is = holds.sum_is;
    semicolon_is = holds.semicolon_is;
    brace_is = is;
    core_is = refl;
  },
)

-- a step keeps what its stage says

if_some : (b : Bool) (stage next : Stage) → (if b then Some stage else None) ≡ Some next → (b ≡ true) × (stage ≡ next)
if_some true stage next e = (refl, (cc))
if_some false stage next e = absurd (let h : None ≡ Some next = e in cc)

operand_keeps_by : (sort : Sort) (ts : List CTok) (t : CTok) (here : Open) (outer : List Enclosing) (next : Stage) → Holds (Operand here outer) ts → sort_of t.kind ≡ sort → past_begin sort t.place here outer ≡ Some next → Holds next (ts ++ t ∷ [])
operand_keeps_by OpenParenthesis ts t here outer next holds is e =
    subst (λ s. Holds s (ts ++ t ∷ [])) (let same : Operand nothing_open (record { here = here; parenthesis = t.place } ∷ outer) ≡ next = cc in same) (open_keeps ts t here outer holds (is_open t is))
operand_keeps_by (Constant number) ts t here outer next holds is e =
    subst (λ s. Holds s (ts ++ t ∷ [])) (let same : Operator (int_constant (pos number) t.place) here outer ≡ next = cc in same) (constant_keeps ts t number here outer holds is)
operand_keeps_by IntWord ts t here outer next holds is e = absurd (let h : None ≡ Some next = e in cc)
operand_keeps_by MainName ts t here outer next holds is e = absurd (let h : None ≡ Some next = e in cc)
operand_keeps_by VoidWord ts t here outer next holds is e = absurd (let h : None ≡ Some next = e in cc)
operand_keeps_by CloseParenthesis ts t here outer next holds is e = absurd (let h : None ≡ Some next = e in cc)
operand_keeps_by OpenBrace ts t here outer next holds is e = absurd (let h : None ≡ Some next = e in cc)
operand_keeps_by ReturnWord ts t here outer next holds is e = absurd (let h : None ≡ Some next = e in cc)
operand_keeps_by (Sign op) ts t here outer next holds is e = absurd (let h : None ≡ Some next = e in cc)
operand_keeps_by Semicolon ts t here outer next holds is e = absurd (let h : None ≡ Some next = e in cc)
operand_keeps_by CloseBrace ts t here outer next holds is e = absurd (let h : None ≡ Some next = e in cc)
operand_keeps_by Other ts t here outer next holds is e = absurd (let h : None ≡ Some next = e in cc)

close_keeps_by : (ts : List CTok) (t : CTok) (e : Expr) (here : Open) (outer : List Enclosing) (next : Stage) → Holds (Operator e here outer) ts → IsSpelled (codes ")") t → past_close e here outer ≡ Some next → Holds next (ts ++ t ∷ [])
close_keeps_by ts t e here [] next holds is eq = absurd (let h : None ≡ Some next = eq in cc)
close_keeps_by ts t e here (o ∷ outer) next holds is eq = subst (λ s. Holds s (ts ++ t ∷ [])) (let same : Operator (in_parentheses o.parenthesis (closed here e)) o.here outer ≡ next = cc in same) (close_keeps ts t e here o outer holds is)

end_keeps_by : (ts : List CTok) (t : CTok) (e : Expr) (here : Open) (outer : List Enclosing) (next : Stage) → Holds (Operator e here outer) ts → IsSpelled (codes ";") t → past_end e here outer ≡ Some next → Holds next (ts ++ t ∷ [])
end_keeps_by ts t e here [] next holds is eq = subst (λ s. Holds s (ts ++ t ∷ [])) (let same : Tail (closed here e) ≡ next = cc in same) (end_keeps ts t e here holds is)
end_keeps_by ts t e here (o ∷ outer) next holds is eq = absurd (let h : None ≡ Some next = eq in cc)

operator_keeps_by : (sort : Sort) (ts : List CTok) (t : CTok) (e : Expr) (here : Open) (outer : List Enclosing) (next : Stage) → Holds (Operator e here outer) ts → sort_of t.kind ≡ sort → past_operand sort t.place e here outer ≡ Some next → Holds next (ts ++ t ∷ [])
operator_keeps_by (Sign op) ts t e here outer next holds is eq =
    subst (λ s. Holds s (ts ++ t ∷ [])) (let same : past_sign op t.place e here outer ≡ next = cc in same) (sign_keeps op ts t e here outer holds (is_sign op t is))
operator_keeps_by CloseParenthesis ts t e here outer next holds is eq = close_keeps_by ts t e here outer next holds (is_close t is) eq
operator_keeps_by Semicolon ts t e here outer next holds is eq = end_keeps_by ts t e here outer next holds (is_semicolon t is) eq
operator_keeps_by IntWord ts t e here outer next holds is eq = absurd (let h : None ≡ Some next = eq in cc)
operator_keeps_by MainName ts t e here outer next holds is eq = absurd (let h : None ≡ Some next = eq in cc)
operator_keeps_by OpenParenthesis ts t e here outer next holds is eq = absurd (let h : None ≡ Some next = eq in cc)
operator_keeps_by VoidWord ts t e here outer next holds is eq = absurd (let h : None ≡ Some next = eq in cc)
operator_keeps_by OpenBrace ts t e here outer next holds is eq = absurd (let h : None ≡ Some next = eq in cc)
operator_keeps_by ReturnWord ts t e here outer next holds is eq = absurd (let h : None ≡ Some next = eq in cc)
operator_keeps_by (Constant number) ts t e here outer next holds is eq = absurd (let h : None ≡ Some next = eq in cc)
operator_keeps_by CloseBrace ts t e here outer next holds is eq = absurd (let h : None ≡ Some next = eq in cc)
operator_keeps_by Other ts t e here outer next holds is eq = absurd (let h : None ≡ Some next = eq in cc)

tail_keeps_by : (sort : Sort) (ts : List CTok) (t : CTok) (value : Expr) (next : Stage) → Holds (Tail value) ts → sort_of t.kind ≡ sort → past_tail sort value ≡ Some next → Holds next (ts ++ t ∷ [])
tail_keeps_by CloseBrace ts t value next holds is e =
    subst (λ s. Holds s (ts ++ t ∷ [])) (let same : Whole value ≡ next = cc in same) (brace_keeps ts t value holds (is_brace t is))
tail_keeps_by IntWord ts t value next holds is e = absurd (let h : None ≡ Some next = e in cc)
tail_keeps_by MainName ts t value next holds is e = absurd (let h : None ≡ Some next = e in cc)
tail_keeps_by OpenParenthesis ts t value next holds is e = absurd (let h : None ≡ Some next = e in cc)
tail_keeps_by VoidWord ts t value next holds is e = absurd (let h : None ≡ Some next = e in cc)
tail_keeps_by CloseParenthesis ts t value next holds is e = absurd (let h : None ≡ Some next = e in cc)
tail_keeps_by OpenBrace ts t value next holds is e = absurd (let h : None ≡ Some next = e in cc)
tail_keeps_by ReturnWord ts t value next holds is e = absurd (let h : None ≡ Some next = e in cc)
tail_keeps_by (Constant number) ts t value next holds is e = absurd (let h : None ≡ Some next = e in cc)
tail_keeps_by (Sign op) ts t value next holds is e = absurd (let h : None ≡ Some next = e in cc)
tail_keeps_by Semicolon ts t value next holds is e = absurd (let h : None ≡ Some next = e in cc)
tail_keeps_by Other ts t value next holds is e = absurd (let h : None ≡ Some next = e in cc)

step_keeps : (stage next : Stage) (ts : List CTok) (t : CTok) → Holds stage ts → read_token stage t ≡ Some next → Holds next (ts ++ t ∷ [])
step_keeps (Front count) next ts t holds e =
    let parts = if_some (front_rank (sort_of t.kind) == count) (past_word count) next e in
    subst (λ s. Holds s (ts ++ t ∷ [])) parts.1 (word_keeps count ts t holds (equal (front_rank (sort_of t.kind)) count parts.0))
step_keeps (Operand here outer) next ts t holds e = operand_keeps_by (sort_of t.kind) ts t here outer next holds refl e
step_keeps (Operator operand here outer) next ts t holds e = operator_keeps_by (sort_of t.kind) ts t operand here outer next holds refl e
step_keeps (Tail value) next ts t holds e = tail_keeps_by (sort_of t.kind) ts t value next holds refl e
step_keeps (Whole value) next ts t holds e = absurd (let h : None ≡ Some next = e in cc)

go_step : (o : Option Stage) (stage : Stage) (t : CTok) (ts : List CTok) (end : Stage) → read_token stage t ≡ o → go o ts ≡ Some end → (next : Stage) × (read_token stage t ≡ Some next) × (go (Some next) ts ≡ Some end)
go_step None stage t ts end is e = absurd (let h : None ≡ Some end = sym (go-None ts) ∙ e in cc)
go_step (Some next) stage t ts end is e = (next, is, e)

go_keeps : (ts before : List CTok) (stage end : Stage) → Holds stage before → go (Some stage) ts ≡ Some end → Holds end (before ++ ts)
go_keeps [] before stage end holds e = subst (λ s. Holds s (before ++ [])) (let same : stage ≡ end = cc in same) (subst (Holds stage) (sym (append-nil before)) holds)
go_keeps (t ∷ ts) before stage end holds e =
    let step = go_step (read_token stage t) stage t ts end refl e in
    subst (Holds end) (append_assoc before (t ∷ []) ts) (go_keeps ts (before ++ t ∷ []) step.0 end (step_keeps stage step.0 before t holds step.1) step.2)

-- what the reader reads whole is a unit
pub whole_is_unit : (ts : List CTok) (value : Expr) → go (Some (Front 0)) ts ≡ Some (Whole value) → (places : UnitPlaces) × IsUnit ts (returning value places)
whole_is_unit ts value e = go_keeps ts [] (Front 0) (Whole value) (refl, omega arith) e

-- some tokens complete what a stage has read

abbrev Finishes : Stage → Type 0
Finishes stage = (rest : List CTok) × (value : Expr) × (go (Some stage) rest ≡ Some (Whole value))

abbrev token : CKind → CTok
token kind = record { kind = kind; place = record { file = 0; line = 0; column = 0; order = 0 } }

finishes_by : (stage next : Stage) (t : CTok) → read_token stage t ≡ Some next → Finishes next → Finishes stage
finishes_by stage next t e f = (t ∷ f.0, f.1, ap (λ o. go o f.0) e ∙ f.2)

tail_finishes : (value : Expr) → Finishes (Tail value)
tail_finishes value = (token (Punct 8) ∷ [], value, refl)

operator_finishes : (outer : List Enclosing) (operand : Expr) (here : Open) → Finishes (Operator operand here outer)
operator_finishes [] operand here = finishes_by (Operator operand here []) (Tail (closed here operand)) (token (Punct 2)) refl (tail_finishes (closed here operand))
operator_finishes (around ∷ outer) operand here =
    finishes_by (Operator operand here (around ∷ outer)) (Operator (in_parentheses around.parenthesis (closed here operand)) around.here outer) (token (Punct 4)) refl
    (operator_finishes outer (in_parentheses around.parenthesis (closed here operand)) around.here)

abbrev zero_token : CTok
zero_token = token (Integer (record { value = pos 0; basic = Int; in_range = refl }))

operand_finishes : (here : Open) (outer : List Enclosing) → Finishes (Operand here outer)
operand_finishes here outer =
    finishes_by (Operand here outer) (Operator (int_constant (pos 0) zero_token.place) here outer) zero_token refl (operator_finishes outer (int_constant (pos 0) zero_token.place) here)

front_6 : Finishes (Front 6)
front_6 = finishes_by (Front 6) (Operand nothing_open []) (token (Word 39)) refl (operand_finishes nothing_open [])

front_5 : Finishes (Front 5)
front_5 = finishes_by (Front 5) (Front 6) (token (Punct 7)) refl front_6

front_4 : Finishes (Front 4)
front_4 = finishes_by (Front 4) (Front 5) (token (Punct 4)) refl front_5

front_3 : Finishes (Front 3)
front_3 = finishes_by (Front 3) (Front 4) (token (Word 11)) refl front_4

front_2 : Finishes (Front 2)
front_2 = finishes_by (Front 2) (Front 3) (token (Punct 3)) refl front_3

front_1 : Finishes (Front 1)
front_1 = finishes_by (Front 1) (Front 2) (token (Name (codes "main"))) refl front_2

front_0 : Finishes (Front 0)
front_0 = finishes_by (Front 0) (Front 1) (token (Word 14)) refl front_1

front_finishes : (count : ℕ) → count ≤ 6 → Finishes (Front count)
front_finishes zero h = front_0
front_finishes (suc zero) h = front_1
front_finishes (suc (suc zero)) h = front_2
front_finishes (suc (suc (suc zero))) h = front_3
front_finishes (suc (suc (suc (suc zero)))) h = front_4
front_finishes (suc (suc (suc (suc (suc zero))))) h = front_5
front_finishes (suc (suc (suc (suc (suc (suc zero)))))) h = front_6
front_finishes (suc (suc (suc (suc (suc (suc (suc n))))))) h = absurd (omega (arith, h))

holds_finishes : (stage : Stage) (ts : List CTok) → Holds stage ts → Finishes stage
holds_finishes (Front count) ts holds = front_finishes count holds.1
holds_finishes (Operand here outer) ts holds = operand_finishes here outer
holds_finishes (Operator operand here outer) ts holds = operator_finishes outer operand here
holds_finishes (Tail value) ts holds = tail_finishes value
holds_finishes (Whole value) ts holds = ([], value, refl)

-- some unit begins with what the reader has read
pub read_goes_on : (ts : List CTok) (stage : Stage) → go (Some (Front 0)) ts ≡ Some stage → CanGoOn ts
read_goes_on ts stage e =
    let f = holds_finishes stage ts (go_keeps ts [] (Front 0) stage (refl, omega arith) e) in
    let unit = whole_is_unit (ts ++ f.0) f.1 (go-append (Some (Front 0)) ts f.0 ∙ ap (λ o. go o f.0) e ∙ f.2) in
    (f.0, returning f.1 unit.0, unit.1)
