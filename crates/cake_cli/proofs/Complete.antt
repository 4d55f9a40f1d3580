-- The reader reads each unit of the grammar, and gives its value.
use Rattle.std.proofs.Common.{◌≡◌, ℕ, ◌+◌, List, [], ◌∷◌, ◌++◌, map, take, Option, Some, None, Result, Ok, pos, refl, sym, ap, ◌∙◌, subst, arith, append_assoc, length}
use Rattle.std.proofs.lemmas.List.{length-append, length-map}
use Rattle.std.specs.Prelude.{codes}
use Rattle.model_types.specs.declared.numbers.BinOp.{BinOp}
use Rattle.model_types.specs.declared.numbers.BinOp.TheVariants.{Mul, Add, Sub}
use Rattle.model_core.specs.Core.{Expr}
use Rattle.model_tokens.specs.declared.tokens.CKind.{CKind}
use Rattle.model_tokens.specs.declared.tokens.CKind.TheVariants.{Word, Name, Punct}
use Rattle.model_tokens.specs.declared.tokens.CTok.{CTok}
use Rattle.model_tokens.specs.declared.tokens.TokenRule.{TokenRule}
use Rattle.c_model.specs.FirstUnit.{IsSpelled, IsSum, IsProduct, IsPrimary, one_product, added, subtracted, one_primary, multiplied, constant, parenthesised, returning, places_of, IsConstant, IsUnit, int_constant, int_operation, in_parentheses}
use Rattle.model_core.specs.Core.{Core}
use Rattle.cake_cli.specs.Reader.{Front, Operand, Operator, Whole, Waiting, Open, Enclosing, nothing_open, joined, closed, front_rank, past_sign}
use Rattle.cake_cli.specs.Sorts.{Sign, sort_of}
use Rattle.cake_cli.proofs.SortLaws.{front_kinds, head_kinds, return_sort, times_sort, plus_sort, minus_sort}
use Rattle.cake_cli.proofs.Steps.{go, go-append, word_step, constant_step, open_step, close_step, end_step, brace_step, sign_step}

abbrev waits : Option Waiting → Option Waiting → Open
waits sum product = record { sum = sum; product = product }

-- what reading a sum leaves, and a product behind a sum that waits
abbrev ReadsSum : List CTok → Expr → Type 0
ReadsSum ts e = (outer : List Enclosing) → (last : Expr) × (here : Open) × (go (Some (Operand nothing_open outer)) ts ≡ Some (Operator last here outer)) × (closed here last ≡ e)

abbrev ReadsProduct : List CTok → Expr → Type 0
ReadsProduct ts e = (sum : Option Waiting) (outer : List Enclosing) → (last : Expr) × (product : Option Waiting) × (go (Some (Operand (waits sum None) outer)) ts ≡ Some (Operator last (waits sum product) outer)) × (joined product last ≡ e)

abbrev ReadsPrimary : List CTok → Expr → Type 0
ReadsPrimary ts e = (here : Open) (outer : List Enclosing) → go (Some (Operand here outer)) ts ≡ Some (Operator e here outer)

additive_read : (op : BinOp) (left right : List CTok) (t : CTok) (a b : Expr) → ((last : Expr) (here : Open) (outer : List Enclosing) → past_sign op t.place last here outer ≡ Operand (waits (Some (record { op = op; left = closed here last; place = t.place })) None) outer) → sort_of t.kind ≡ Sign op → ReadsSum left a → ReadsProduct right b → ReadsSum (left ++ t ∷ right) (int_operation op a b t.place)
additive_read op left right t a b additive sign first second outer =
    let l = first outer in
    let w : Waiting = record { op = op; left = closed l.1 l.0; place = t.place } in
    let r = second (Some w) outer in (
      r.0,
      waits (Some w) r.1,
      go-append (Some (Operand nothing_open outer)) left (t ∷ right)
          ∙ ap (λ o. go o (t ∷ right)) l.2
          ∙ ap (λ o. go o right) (sign_step t op l.0 l.1 outer sign ∙ ap Some (additive l.0 l.1 outer))
          ∙ r.2,
      ap (λ x. int_operation op x (joined r.1 r.0) t.place) l.3 ∙ ap (λ x. int_operation op a x t.place) r.3,
    )

product_read_more : (left right : List CTok) (t : CTok) (a b : Expr) → sort_of t.kind ≡ Sign Mul → ReadsProduct left a → ReadsPrimary right b → ReadsProduct (left ++ t ∷ right) (int_operation Mul a b t.place)
product_read_more left right t a b sign first second sum outer =
    let l = first sum outer in
    let w : Waiting = record { op = Mul; left = joined l.1 l.0; place = t.place } in (
      b,
      Some w,
      go-append (Some (Operand (waits sum None) outer)) left (t ∷ right)
          ∙ ap (λ o. go o (t ∷ right)) l.2
          ∙ ap (λ o. go o right) (sign_step t Mul l.0 (waits sum l.1) outer sign)
          ∙ second (waits sum (Some w)) outer,
      ap (λ x. int_operation Mul x b t.place) l.3,
    )

parenthesised_read : (l r : CTok) (inner : List CTok) (e : Expr) → IsSpelled (codes "(") l → IsSpelled (codes ")") r → ReadsSum inner e → ReadsPrimary (l ∷ (inner ++ r ∷ [])) (in_parentheses l.place e)
parenthesised_read l r inner e begins ends read here outer =
    let around : Enclosing = record { here = here; parenthesis = l.place } in
    let sum = read (around ∷ outer) in
    ap (λ o. go o (inner ++ r ∷ [])) (open_step l here outer begins)
    ∙ go-append (Some (Operand nothing_open (around ∷ outer))) inner (r ∷ [])
    ∙ ap (λ o. go o (r ∷ [])) sum.2
    ∙ close_step r sum.0 sum.1 around outer ends
    ∙ ap (λ x. Some (Operator (in_parentheses l.place x) here outer)) sum.3

product_as_sum : (ts : List CTok) (e : Expr) → ReadsProduct ts e → ReadsSum ts e
product_as_sum ts e read outer = let r = read None outer in (r.0, waits None r.1, r.2, r.3)

primary_as_product : (ts : List CTok) (e : Expr) → ReadsPrimary ts e → ReadsProduct ts e
primary_as_product ts e read sum outer = (e, None, read (waits sum None) outer, refl)

constant_as_primary : (ts : List CTok) (t : CTok) (n : ℕ) → IsConstant t n → ts ≡ t ∷ [] → ReadsPrimary ts (int_constant (pos n) t.place)
constant_as_primary ts t n number is here outer = ap (go (Some (Operand here outer))) is ∙ constant_step t n here outer number

mutual
  sum_read : (ts : List CTok) (e : Expr) → IsSum ts e → ReadsSum ts e
  sum_read ts e (one_product us e' p) = product_as_sum us e' (product_read us e' p)
  sum_read ts e (added us left right t a b sign l r is) =
      subst (λ vs. ReadsSum vs (int_operation Add a b t.place)) (sym is) (additive_read Add left right t a b (λ last here outer. refl) (plus_sort t sign) (sum_read left a l) (product_read right b r))
  sum_read ts e (subtracted us left right t a b sign l r is) =
      subst (λ vs. ReadsSum vs (int_operation Sub a b t.place)) (sym is) (additive_read Sub left right t a b (λ last here outer. refl) (minus_sort t sign) (sum_read left a l) (product_read right b r))

  product_read : (ts : List CTok) (e : Expr) → IsProduct ts e → ReadsProduct ts e
  product_read ts e (one_primary us e' p) = primary_as_product us e' (primary_read us e' p)
  product_read ts e (multiplied us left right t a b sign l r is) =
      subst (λ vs. ReadsProduct vs (int_operation Mul a b t.place)) (sym is) (product_read_more left right t a b (times_sort t sign) (product_read left a l) (primary_read right b r))

  primary_read : (ts : List CTok) (e : Expr) → IsPrimary ts e → ReadsPrimary ts e
  primary_read ts e (constant us t n number is) = constant_as_primary us t n number is
  primary_read ts e (parenthesised us l r inner e' begins ends sum is) =
      subst (λ vs. ReadsPrimary vs (in_parentheses l.place e')) (sym is) (parenthesised_read l r inner e' begins ends (sum_read inner e' sum))

-- the words before the expression
front_read : (head : List CTok) (r : CTok) → map (λ t. Ok t.kind) head ≡ take 6 front_kinds → IsSpelled (codes "return") r → go (Some (Front 0)) (head ++ r ∷ []) ≡ Some (Operand nothing_open [])
front_read [] r words is = absurd (let h : [] ≡ take 6 front_kinds = words in cc)
front_read (a ∷ []) r words is = absurd (let h : Ok a.kind ∷ [] ≡ take 6 front_kinds = words in cc)
front_read (a ∷ b ∷ []) r words is = absurd (let h : Ok a.kind ∷ Ok b.kind ∷ [] ≡ take 6 front_kinds = words in cc)
front_read (a ∷ b ∷ c ∷ []) r words is = absurd (let h : Ok a.kind ∷ Ok b.kind ∷ Ok c.kind ∷ [] ≡ take 6 front_kinds = words in cc)
front_read (a ∷ b ∷ c ∷ d ∷ []) r words is = absurd (let h : Ok a.kind ∷ Ok b.kind ∷ Ok c.kind ∷ Ok d.kind ∷ [] ≡ take 6 front_kinds = words in cc)
front_read (a ∷ b ∷ c ∷ d ∷ e ∷ []) r words is = absurd (let h : Ok a.kind ∷ Ok b.kind ∷ Ok c.kind ∷ Ok d.kind ∷ Ok e.kind ∷ [] ≡ take 6 front_kinds = words in cc)
front_read (a ∷ b ∷ c ∷ d ∷ e ∷ f ∷ g ∷ more) r words is =
    absurd (let h : Ok a.kind ∷ Ok b.kind ∷ Ok c.kind ∷ Ok d.kind ∷ Ok e.kind ∷ Ok f.kind ∷ Ok g.kind ∷ map (λ t. Ok t.kind) more ≡ take 6 front_kinds = words in cc)
front_read (a ∷ b ∷ c ∷ d ∷ e ∷ f ∷ []) r words is =
    let all : Ok a.kind ∷ Ok b.kind ∷ Ok c.kind ∷ Ok d.kind ∷ Ok e.kind ∷ Ok f.kind ∷ [] ≡ take 6 front_kinds = words in
    let a' : a.kind ≡ Word 14 = cc in
    let b' : b.kind ≡ Name (codes "main") = cc in
    let c' : c.kind ≡ Punct 3 = cc in
    let d' : d.kind ≡ Word 11 = cc in
    let e' : e.kind ≡ Punct 4 = cc in
    let f' : f.kind ≡ Punct 7 = cc in
    ap (λ o. go o (b ∷ c ∷ d ∷ e ∷ f ∷ r ∷ [])) (word_step 0 a (ap (λ k. front_rank (sort_of k)) a'))
    ∙ ap (λ o. go o (c ∷ d ∷ e ∷ f ∷ r ∷ [])) (word_step 1 b (ap (λ k. front_rank (sort_of k)) b'))
    ∙ ap (λ o. go o (d ∷ e ∷ f ∷ r ∷ [])) (word_step 2 c (ap (λ k. front_rank (sort_of k)) c'))
    ∙ ap (λ o. go o (e ∷ f ∷ r ∷ [])) (word_step 3 d (ap (λ k. front_rank (sort_of k)) d'))
    ∙ ap (λ o. go o (f ∷ r ∷ [])) (word_step 4 e (ap (λ k. front_rank (sort_of k)) e'))
    ∙ ap (λ o. go o (r ∷ [])) (word_step 5 f (ap (λ k. front_rank (sort_of k)) f'))
    ∙ word_step 6 r (ap front_rank (return_sort r is))

tail_read : (ts : List CTok) (e : Expr) (semicolon brace : CTok) → ReadsSum ts e → IsSpelled (codes ";") semicolon → IsSpelled (codes "}") brace → go (Some (Operand nothing_open [])) (ts ++ semicolon ∷ brace ∷ []) ≡ Some (Whole e)
tail_read ts e semicolon brace read is is' =
    let sum = read [] in
    go-append (Some (Operand nothing_open [])) ts (semicolon ∷ brace ∷ [])
    ∙ ap (λ o. go o (semicolon ∷ brace ∷ [])) sum.2
    ∙ ap (λ o. go o (brace ∷ [])) (end_step semicolon sum.0 sum.1 is)
    ∙ brace_step brace (closed sum.1 sum.0) is'
    ∙ ap (λ x. Some (Whole x)) sum.3

pub unit_read : (ts : List CTok) (core : Core) (is : IsUnit ts core) → go (Some (Front 0)) ts ≡ Some (Whole is.value)
unit_read ts core is =
    let rest : List CTok = is.sum ++ is.semicolon ∷ is.brace ∷ [] in
    ap (go (Some (Front 0))) (is.parts ∙ sym (append_assoc is.head (is.return_ ∷ []) rest))
    ∙ go-append (Some (Front 0)) (is.head ++ is.return_ ∷ []) rest
    ∙ ap (λ o. go o rest) (front_read is.head is.return_ (is.head_is ∙ head_kinds) is.return_is)
    ∙ tail_read is.sum is.value is.semicolon is.brace (sum_read is.sum is.value is.sum_is) is.semicolon_is is.brace_is

abbrev kind_of : CTok → Result CKind TokenRule
kind_of t = Ok t.kind

-- lists of one length in front of equal lists
same_front : (xs ys a b : List CTok) → length xs ≡ length ys → xs ++ a ≡ ys ++ b → a ≡ b
same_front [] [] a b l e = e
same_front [] (y ∷ ys) a b l e = absurd (omega (arith, l))
same_front (x ∷ xs) [] a b l e = absurd (omega (arith, l))
same_front (x ∷ xs) (y ∷ ys) a b l e = same_front xs ys a b (omega (arith, l)) (let rest : xs ++ a ≡ ys ++ b = cc in rest)

same_beginning : (xs ys a b : List CTok) → length xs ≡ length ys → xs ++ a ≡ ys ++ b → xs ≡ ys
same_beginning [] [] a b l e = refl
same_beginning [] (y ∷ ys) a b l e = absurd (omega (arith, l))
same_beginning (x ∷ xs) [] a b l e = absurd (omega (arith, l))
same_beginning (x ∷ xs) (y ∷ ys) a b l e =
    let first : x ≡ y = cc in
    let others : xs ≡ ys = same_beginning xs ys a b (omega (arith, l)) (let rest : xs ++ a ≡ ys ++ b = cc in rest) in
    cc

-- behind equal words, the last of two lists that end in two tokens
same_last : (xs ys : List CTok) (s t b c : CTok) → xs ++ s ∷ b ∷ [] ≡ ys ++ t ∷ c ∷ [] → b ≡ c
same_last xs ys s t b c e =
    let sizes : length xs + 2 ≡ length ys + 2 = sym (length-append xs (s ∷ b ∷ [])) ∙ ap length e ∙ length-append ys (t ∷ c ∷ []) in
    let ends : s ∷ b ∷ [] ≡ t ∷ c ∷ [] = same_front xs ys (s ∷ b ∷ []) (t ∷ c ∷ []) (omega (arith, sizes)) e in
    cc

pub one_unit : (ts : List CTok) (core other : Core) → IsUnit ts core → IsUnit ts other → core ≡ other
one_unit ts core other p q =
    let value : Some (Whole p.value) ≡ Some (Whole q.value) = sym (unit_read ts core p) ∙ unit_read ts other q in
    let same : p.value ≡ q.value = cc in
    let sizes : length p.head ≡ length q.head = sym (length-map p.head (λ t. kind_of t)) ∙ ap length (p.head_is ∙ sym q.head_is) ∙ length-map q.head (λ t. kind_of t) in
    let rest = same_front p.head q.head _ _ sizes (sym p.parts ∙ q.parts) in
    let word : p.return_ ≡ q.return_ = cc in
    let behind : p.sum ++ p.semicolon ∷ p.brace ∷ [] ≡ q.sum ++ q.semicolon ∷ q.brace ∷ [] = cc in
    let brace = same_last p.sum q.sum p.semicolon q.semicolon p.brace q.brace behind in
    let head = same_beginning p.head q.head _ _ sizes (sym p.parts ∙ q.parts) in
    p.core_is
    ∙ ap (λ v. returning v (places_of p.head p.return_ p.brace)) same
    ∙ ap (λ h. returning q.value (places_of h p.return_ p.brace)) head
    ∙ ap (λ t. returning q.value (places_of q.head t p.brace)) word
    ∙ ap (λ t. returning q.value (places_of q.head q.return_ t)) brace
    ∙ sym q.core_is
