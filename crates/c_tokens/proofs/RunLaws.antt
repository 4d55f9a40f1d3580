-- Bytes that are read as they stand come one by one, each a column further.
use Rattle.std.proofs.Common.{◌≡◌, ℕ, zero, suc, ◌+◌, ◌<◌, ◌≤◌, Bool, true, false, not, ◌&&◌, ◌||◌, ◌==◌, List, [], ◌∷◌, ◌++◌, length, take, drop, get_or, refl, sym, ap, ◌∙◌, arith}
use Rattle.std.proofs.lemmas.List.{take-append-drop, length-take-le}
use Rattle.model_tokens.specs.declared.steps.Cell.{Cell}
use Rattle.model_tokens.specs.JoinedLines.{bytes, cells_from}
use Rattle.c_tokens.specs.Runs.{is_plain, all_plain}

none_of : (p q r : Bool) → not (p || (q || r)) ≡ true → (p ≡ false) × (q ≡ false) × (r ≡ false)
none_of false false false e = (refl, refl, refl)
none_of true q r e = absurd (let h : false ≡ true = e in cc)
none_of false true r e = absurd (let h : false ≡ true = e in cc)
none_of false false true e = absurd (let h : false ≡ true = e in cc)

both : (p q : Bool) → (p && q) ≡ true → (p ≡ true) × (q ≡ true)
both true q e = (refl, e)
both false q e = absurd (let h : false ≡ true = e in cc)

plain_step : (line column b : ℕ) (text : List ℕ) → is_plain b ≡ true → cells_from line column (b ∷ text) ≡ record { byte = b; line = line; column = column } ∷ cells_from line (column + 1) text
plain_step line column b text plain =
    let e = none_of (b == 10) (b == 13) (b == 92) plain in
    rw (e.0, e.1, e.2) refl

pub plain_run : (line column : ℕ) (run rest : List ℕ) → all_plain run ≡ true → bytes (cells_from line column (run ++ rest)) ≡ run ++ bytes (cells_from line (column + length run) rest)
plain_run line column [] rest plain = let e : column + 0 ≡ column = omega arith in rw e refl
plain_run line column (b ∷ run) rest plain =
    let e = both (is_plain b) (all_plain run) plain in
    let add : column + suc (length run) ≡ column + 1 + length run = omega arith in
    ap bytes (plain_step line column b (run ++ rest) e.0) ∙ ap (λ z. b ∷ z) (plain_run line (column + 1) run rest e.1 ∙ ap (λ k. run ++ bytes (cells_from line k rest)) (sym add))

pub plain_rest : (line column : ℕ) (run rest : List ℕ) → all_plain run ≡ true → cells_from line (column + length run) rest ≡ drop (length run) (cells_from line column (run ++ rest))
plain_rest line column [] rest plain = let e : column + 0 ≡ column = omega arith in rw e refl
plain_rest line column (b ∷ run) rest plain =
    let e = both (is_plain b) (all_plain run) plain in
    let add : column + suc (length run) ≡ column + 1 + length run = omega arith in
    ap (λ k. cells_from line k rest) add ∙ plain_rest line (column + 1) run rest e.1 ∙ sym (ap (drop (suc (length run))) (plain_step line column b (run ++ rest) e.0))

pub one_more : (n : ℕ) (text : List ℕ) → n < length text → all_plain (take n text) ≡ true → is_plain (get_or text n 0) ≡ true → all_plain (take (n + 1) text) ≡ true
one_more n [] within plain next = absurd (omega arith)
one_more zero (b ∷ text) within plain next = ap (λ p. p && true) next
one_more (suc n) (b ∷ text) within plain next =
    let e = both (is_plain b) (all_plain (take n text)) plain in
    let add : suc n + 1 ≡ suc (n + 1) = omega arith in
    rw add (ap (λ p. p && all_plain (take (n + 1) text)) e.0 ∙ one_more n text (omega arith) e.1 next)

pub run_taken : (line column n : ℕ) (text front back : List ℕ) (now : List Cell) → cells_from line column text ≡ now → all_plain (take n text) ≡ true → front ≡ take n text → back ≡ drop n text → n ≤ length text →
    (bytes now ≡ front ++ bytes (cells_from line (column + n) back)) × (cells_from line (column + n) back ≡ drop (length front) now)
run_taken line column n text front back now is_now plain is_front is_back within =
    let size : length front ≡ n = ap length is_front ∙ length-take-le n text within in
    let whole : text ≡ front ++ back = sym (ap (λ z. z ++ back) is_front ∙ ap (λ z. take n text ++ z) is_back ∙ take-append-drop n text) in
    let plain_front : all_plain front ≡ true = ap all_plain is_front ∙ plain in
    let steps : column + length front ≡ column + n = ap (λ k. column + k) size in (
      sym (ap bytes is_now) ∙ ap (λ z. bytes (cells_from line column z)) whole ∙ plain_run line column front back plain_front ∙ ap (λ k. front ++ bytes (cells_from line k back)) steps,
      ap (λ k. cells_from line k back) (sym steps) ∙ plain_rest line column front back plain_front ∙ ap (λ z. drop (length front) (cells_from line column z)) (sym whole) ∙ ap (drop (length front)) is_now,
    )
