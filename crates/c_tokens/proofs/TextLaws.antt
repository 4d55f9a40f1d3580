-- The tokens of a text step by step: what stands at the front, then the tokens of the rest.
use Rattle.std.proofs.Common.{◌≡◌, ℕ, zero, suc, ◌+◌, ◌-◌, ◌≤◌, Bool, true, false, ◌&&◌, ◌==◌, List, [], ◌∷◌, ◌++◌, length, take, drop, Result, Ok, Err, refl, ap, sym, ◌∙◌, arith, append_assoc, length-append, cond}
use Rattle.cake_base.specs.declared.rules.Fault.{Fault}
use Rattle.model_tokens.specs.declared.steps.Cell.{Cell}
use Rattle.model_tokens.specs.declared.steps.LinePart.{LinePart}
use Rattle.model_tokens.specs.declared.steps.LinePart.TheVariants.{Start}
use Rattle.model_tokens.specs.declared.steps.Step.{Step}
use Rattle.model_tokens.specs.declared.steps.Step.TheVariants.{LineEnd, Blank, Token, OpenComment}
use Rattle.model_tokens.specs.declared.tokens.PpKind.{PpKind}
use Rattle.model_tokens.specs.JoinedLines.{bytes, cells_from, placed, without_returns, joined_from, ends_line}
use Rattle.model_tokens.specs.PpSteps.{step_at}
use Rattle.model_tokens.specs.PpTokens.{PpToken, tokens_from, tokens_of, before_rest, place_at, begins_line, line_after, token_fault}

placed-length : (line column : ℕ) (text : List ℕ) → length (placed line column text) ≡ length text
placed-length line column [] = refl
placed-length line column (b ∷ text) =
    elim (b == 10) as (λ t. suc (length (cond t (placed (line + 1) 1 text) (placed line (column + 1) text))) ≡ suc (length text)) [
      | true ↦ ap suc (placed-length (line + 1) 1 text)
      | false ↦ ap suc (placed-length line (column + 1) text)
    ]

without_returns-length : (cells : List Cell) → length (without_returns cells) ≤ length cells
without_returns-length [] = omega arith
without_returns-length (c ∷ cells) =
    let rest = without_returns-length cells in
    elim (c.byte == 13 && ends_line (bytes cells)) as (λ t. length (cond t (without_returns cells) (c ∷ without_returns cells)) ≤ suc (length cells)) [
      | true ↦ omega arith
      | false ↦ omega arith
    ]

joined_from-length : (flag : Bool) (cells : List Cell) → length (joined_from flag cells) ≤ length cells
joined_from-length flag [] = omega arith
joined_from-length true (c ∷ cells) = let rest = joined_from-length false cells in omega arith
joined_from-length false (c ∷ cells) =
    let one = joined_from-length true cells in
    let two = joined_from-length false cells in
    elim (c.byte == 92 && ends_line (bytes cells)) as (λ t. length (cond t (joined_from true cells) (c ∷ joined_from false cells)) ≤ suc (length cells)) [
      | true ↦ omega arith
      | false ↦ omega arith
    ]

pub cells_from-length : (line column : ℕ) (text : List ℕ) → length (cells_from line column text) ≤ length text
cells_from-length line column text =
    omega (arith, joined_from-length false (without_returns (placed line column text)), without_returns-length (placed line column text), placed-length line column text)

pub tokens_of-is : (file : ℕ) (text : List ℕ) → tokens_from file 0 Start false 0 (cells_from 1 1 text) ≡ tokens_of file text
unfolding tokens_of
tokens_of-is file text = refl

passed_over : (file n : ℕ) (line : LinePart) (space : Bool) (order : ℕ) (cells : List Cell) → tokens_from file n line space order cells ≡ tokens_from file 0 line space order (drop n cells)
passed_over file zero line space order cells = refl
passed_over file (suc n) line space order [] = refl
passed_over file (suc n) line space order (c ∷ cells) = passed_over file n line space order cells

passed : (file n : ℕ) (line : LinePart) (space : Bool) (order : ℕ) (c : Cell) (cells : List Cell) → 1 ≤ n →
    tokens_from file (n - 1) line space order cells ≡ tokens_from file 0 line space order (drop n (c ∷ cells))
passed file zero line space order c cells h = absurd (omega arith)
passed file (suc n) line space order c cells h = let e : suc n - 1 ≡ n = omega arith in rw e (passed_over file n line space order cells)

-- the token of this kind and length at the front
abbrev pub token_at : ℕ → LinePart → Bool → ℕ → PpKind → ℕ → Cell → List Cell → PpToken
token_at file line space order kind n c cells =
    record { kind = kind; place = place_at file c order; first = begins_line line; space = space; spelling = take n (bytes cells) }

-- what stands at the front decides
by_step : ℕ → LinePart → Bool → ℕ → Cell → List Cell → Step → Result (List PpToken) Fault
by_step file line space order c cells step = elim step [
  | LineEnd ↦ tokens_from file 0 Start true order cells
  | Blank n ↦ tokens_from file (n - 1) line true order cells
  | Token kind n ↦ before_rest (token_at file line space order kind n c (c ∷ cells) ∷ []) (tokens_from file (n - 1) (line_after line (take n (bytes (c ∷ cells)))) false (order + 1) cells)
  | OpenComment ↦ Err (token_fault 1 (place_at file c order))
]

pub line_goes : (file : ℕ) (line : LinePart) (space : Bool) (order : ℕ) (c : Cell) (cells : List Cell) → step_at line (bytes (c ∷ cells)) ≡ LineEnd →
    tokens_from file 0 line space order (c ∷ cells) ≡ tokens_from file 0 Start true order cells
unfolding by_step
line_goes file line space order c cells h = ap (by_step file line space order c cells) h

pub comment_stops : (file : ℕ) (line : LinePart) (space : Bool) (order : ℕ) (c : Cell) (cells : List Cell) → step_at line (bytes (c ∷ cells)) ≡ OpenComment →
    tokens_from file 0 line space order (c ∷ cells) ≡ Err (token_fault 1 (place_at file c order))
unfolding by_step
comment_stops file line space order c cells h = ap (by_step file line space order c cells) h

blank_goes : (file : ℕ) (line : LinePart) (space : Bool) (order : ℕ) (c : Cell) (cells : List Cell) (n : ℕ) → step_at line (bytes (c ∷ cells)) ≡ Blank n → 1 ≤ n →
    tokens_from file 0 line space order (c ∷ cells) ≡ tokens_from file 0 line true order (drop n (c ∷ cells))
unfolding by_step
blank_goes file line space order c cells n h moves = ap (by_step file line space order c cells) h ∙ passed file n line true order c cells moves

before_twice : (a b : List PpToken) (r : Result (List PpToken) Fault) → before_rest a (before_rest b r) ≡ before_rest (a ++ b) r
before_twice a b (Ok rest) = ap Ok (sym (append_assoc a b rest))
before_twice a b (Err fault) = refl

token_goes : (file : ℕ) (line : LinePart) (space : Bool) (c : Cell) (cells : List Cell) (kind : PpKind) (n : ℕ) (list : List PpToken) (t : PpToken) →
    step_at line (bytes (c ∷ cells)) ≡ Token kind n → 1 ≤ n → t ≡ token_at file line space (length list) kind n c (c ∷ cells) →
    before_rest list (tokens_from file 0 line space (length list) (c ∷ cells))
    ≡ before_rest (list ++ t ∷ []) (tokens_from file 0 (line_after line (take n (bytes (c ∷ cells)))) false (length (list ++ t ∷ [])) (drop n (c ∷ cells)))
unfolding by_step
token_goes file line space c cells kind n list t h moves is =
    let made : PpToken = token_at file line space (length list) kind n c (c ∷ cells) in
    let next : LinePart = line_after line (take n (bytes (c ∷ cells))) in
    let len : length (list ++ t ∷ []) ≡ length list + 1 = simp length-append in
    rw (len)
    (ap (λ step. before_rest list (by_step file line space (length list) c cells step)) h
    ∙ before_twice list (made ∷ []) (tokens_from file (n - 1) next false (length list + 1) cells)
    ∙ ap (λ r. before_rest (list ++ made ∷ []) r) (passed file n next false (length list + 1) c cells moves)
    ∙ ap (λ (u : PpToken). before_rest (list ++ u ∷ []) (tokens_from file 0 next false (length list + 1) (drop n (c ∷ cells)))) (sym is))

pub line_on : (file : ℕ) (line : LinePart) (space : Bool) (list : List PpToken) (from rest : List Cell) (c : Cell) (cells : List Cell) (due : Result (List PpToken) Fault) →
    from ≡ c ∷ cells → LineEnd ≡ step_at line (bytes from) → rest ≡ drop 1 from →
    before_rest list (tokens_from file 0 line space (length list) from) ≡ due → before_rest list (tokens_from file 0 Start true (length list) rest) ≡ due
line_on file line space list from rest c cells due is h goes same =
    ap (λ z. before_rest list (tokens_from file 0 Start true (length list) z)) (goes ∙ ap (drop 1) is)
    ∙ sym (ap (before_rest list) (line_goes file line space (length list) c cells (ap (λ (z : List Cell). step_at line (bytes z)) (sym is) ∙ sym h)))
    ∙ ap (λ z. before_rest list (tokens_from file 0 line space (length list) z)) (sym is) ∙ same

pub blank_on : (file : ℕ) (line : LinePart) (space : Bool) (list : List PpToken) (from rest : List Cell) (c : Cell) (cells : List Cell) (n : ℕ) (due : Result (List PpToken) Fault) →
    from ≡ c ∷ cells → Blank n ≡ step_at line (bytes from) → 1 ≤ n → rest ≡ drop n from →
    before_rest list (tokens_from file 0 line space (length list) from) ≡ due → before_rest list (tokens_from file 0 line true (length list) rest) ≡ due
blank_on file line space list from rest c cells n due is h moves goes same =
    ap (λ z. before_rest list (tokens_from file 0 line true (length list) z)) (goes ∙ ap (drop n) is)
    ∙ sym (ap (before_rest list) (blank_goes file line space (length list) c cells n (ap (λ (z : List Cell). step_at line (bytes z)) (sym is) ∙ sym h) moves))
    ∙ ap (λ z. before_rest list (tokens_from file 0 line space (length list) z)) (sym is) ∙ same

pub comment_on : (file : ℕ) (line : LinePart) (space : Bool) (list : List PpToken) (from : List Cell) (c : Cell) (cells : List Cell) (due : Result (List PpToken) Fault) →
    from ≡ c ∷ cells → OpenComment ≡ step_at line (bytes from) →
    before_rest list (tokens_from file 0 line space (length list) from) ≡ due → due ≡ Err (token_fault 1 (place_at file c (length list)))
comment_on file line space list from c cells due is h same =
    sym same ∙ ap (λ z. before_rest list (tokens_from file 0 line space (length list) z)) is
    ∙ ap (before_rest list) (comment_stops file line space (length list) c cells (ap (λ (z : List Cell). step_at line (bytes z)) (sym is) ∙ sym h))

pub token_on : (file : ℕ) (line next : LinePart) (space : Bool) (list list2 : List PpToken) (from rest : List Cell) (c : Cell) (cells : List Cell) (kind : PpKind) (n : ℕ) (t : PpToken) (due : Result (List PpToken) Fault) →
    from ≡ c ∷ cells → Token kind n ≡ step_at line (bytes from) → 1 ≤ n →
    t ≡ token_at file line space (length list) kind n c from → next ≡ line_after line (take n (bytes from)) →
    rest ≡ drop n from → list2 ≡ list ++ t ∷ [] →
    before_rest list (tokens_from file 0 line space (length list) from) ≡ due → before_rest list2 (tokens_from file 0 next false (length list2) rest) ≡ due
token_on file line next space list list2 from rest c cells kind n t due is h moves made after goes pushed same =
    let made' : t ≡ token_at file line space (length list) kind n c (c ∷ cells) = made ∙ ap (λ (z : List Cell). token_at file line space (length list) kind n c z) is in
    ap (λ (l : List PpToken). before_rest l (tokens_from file 0 next false (length l) rest)) pushed
    ∙ ap (λ (z : List Cell). before_rest (list ++ t ∷ []) (tokens_from file 0 next false (length (list ++ t ∷ [])) z)) (goes ∙ ap (drop n) is)
    ∙ ap (λ (l : LinePart). before_rest (list ++ t ∷ []) (tokens_from file 0 l false (length (list ++ t ∷ [])) (drop n (c ∷ cells)))) (after ∙ ap (λ (z : List Cell). line_after line (take n (bytes z))) is)
    ∙ sym (token_goes file line space c cells kind n list t (ap (λ (z : List Cell). step_at line (bytes z)) (sym is) ∙ sym h) moves made')
    ∙ ap (λ (z : List Cell). before_rest list (tokens_from file 0 line space (length list) z)) (sym is)
    ∙ same

pub ruleset goes = (cells_from-length, tokens_of-is)
