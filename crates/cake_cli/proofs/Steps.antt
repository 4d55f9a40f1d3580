-- The reader's steps over many tokens, each by the token that it takes.
use Rattle.std.proofs.Common.{◌≡◌, ℕ, ◌==◌, List, [], ◌∷◌, ◌++◌, Option, Some, None, true, if◌then◌else◌, pos, refl, ap, ◌∙◌, arith}
use Rattle.std.specs.Prelude.{codes}
use Rattle.std.proofs.lemmas.Bool.Decides.{nat_tests}
use Rattle.model_types.specs.declared.numbers.BinOp.{BinOp}
use Rattle.model_tokens.specs.declared.tokens.CTok.{CTok}
use Rattle.model_core.specs.Core.{Expr}
use Rattle.c_model.specs.FirstUnit.{IsSpelled, IsConstant, int_constant, in_parentheses}
use Rattle.cake_cli.specs.Sorts.{Sign, sort_of}
use Rattle.cake_cli.specs.Reader.{Stage, Front, Operand, Operator, Tail, Whole, Open, Enclosing, nothing_open, closed, front_rank, past_word, past_begin, past_operand, past_tail, past_sign, read_token}
use Rattle.cake_cli.proofs.SortLaws.{open_sort, close_sort, brace_sort, semicolon_sort, number_sort}

abbrev pub bind : Option Stage → (Stage → Option Stage) → Option Stage
bind None next = None
bind (Some stage) next = next stage

-- the stage behind all these tokens
abbrev pub go : Option Stage → List CTok → Option Stage
go o [] = o
go o (t ∷ ts) = go (bind o (λ s. read_token s t)) ts

pub go-append : (o : Option Stage) (ts us : List CTok) → go o (ts ++ us) ≡ go (go o ts) us
go-append o [] us = refl
go-append o (t ∷ ts) us = go-append (bind o (λ s. read_token s t)) ts us

pub go-None : (ts : List CTok) → go None ts ≡ None
go-None [] = refl
go-None (t ∷ ts) = go-None ts

same : (n : ℕ) → (n == n) ≡ true
same n = grind (arith, nat_tests)

pub word_step : (count : ℕ) (t : CTok) → front_rank (sort_of t.kind) ≡ count → read_token (Front count) t ≡ Some (past_word count)
word_step count t e =
    ap (λ n. if n == count then Some (past_word count) else None) e ∙ ap (λ b. if b then Some (past_word count) else None) (same count)

pub constant_step : (t : CTok) (n : ℕ) (here : Open) (outer : List Enclosing) → IsConstant t n → read_token (Operand here outer) t ≡ Some (Operator (int_constant (pos n) t.place) here outer)
constant_step t n here outer constant = ap (λ s. past_begin s t.place here outer) (number_sort t n constant)

pub open_step : (t : CTok) (here : Open) (outer : List Enclosing) → IsSpelled (codes "(") t → read_token (Operand here outer) t ≡ Some (Operand nothing_open (record { here = here; parenthesis = t.place } ∷ outer))
open_step t here outer is = ap (λ s. past_begin s t.place here outer) (open_sort t is)

pub close_step : (t : CTok) (last : Expr) (here : Open) (around : Enclosing) (outer : List Enclosing) → IsSpelled (codes ")") t → read_token (Operator last here (around ∷ outer)) t ≡ Some (Operator (in_parentheses around.parenthesis (closed here last)) around.here outer)
close_step t last here around outer is = ap (λ s. past_operand s t.place last here (around ∷ outer)) (close_sort t is)

pub end_step : (t : CTok) (last : Expr) (here : Open) → IsSpelled (codes ";") t → read_token (Operator last here []) t ≡ Some (Tail (closed here last))
end_step t last here is = ap (λ s. past_operand s t.place last here []) (semicolon_sort t is)

pub brace_step : (t : CTok) (value : Expr) → IsSpelled (codes "}") t → read_token (Tail value) t ≡ Some (Whole value)
brace_step t value is = ap (λ s. past_tail s value) (brace_sort t is)

pub sign_step : (t : CTok) (op : BinOp) (last : Expr) (here : Open) (outer : List Enclosing) → sort_of t.kind ≡ Sign op → read_token (Operator last here outer) t ≡ Some (past_sign op t.place last here outer)
sign_step t op last here outer is = ap (λ s. past_operand s t.place last here outer) is
