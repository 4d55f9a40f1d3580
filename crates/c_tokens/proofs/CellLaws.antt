-- Bytes further on in the cells that are left.
use Rattle.std.proofs.Common.{◌≡◌, ℕ, zero, suc, ◌+◌, ◌-◌, ◌<◌, List, [], ◌∷◌, ◌++◌, length, take, drop, slice_index, refl, sym, ap, ◌∙◌, arith, append_assoc}
use Rattle.std.proofs.Math.Seq.{take-append-add}
use Rattle.model_tokens.specs.declared.steps.Cell.{Cell}
use Rattle.model_tokens.specs.JoinedLines.{bytes}

pub byte_further : (n k : ℕ) (cells : List Cell) → slice_index (bytes (drop n cells)) k ≡ slice_index (bytes cells) (n + k)
byte_further zero k cells = let e : 0 + k ≡ k = omega arith in rw e refl
byte_further (suc n) k [] = refl
byte_further (suc n) k (c ∷ cells) = let e : suc n + k ≡ suc (n + k) = omega arith in rw e (byte_further n k cells)

pub drop_next : (n i : ℕ) (c : Cell) (cells : List Cell) → i < n → drop (n - (i + 1)) cells ≡ drop (n - i) (c ∷ cells)
drop_next n i c cells h = let e : n - i ≡ suc (n - (i + 1)) = omega arith in rw e refl

pub bytes_drop : (n : ℕ) (cells : List Cell) → bytes (drop n cells) ≡ drop n (bytes cells)
bytes_drop zero cells = refl
bytes_drop (suc n) [] = refl
bytes_drop (suc n) (c ∷ cells) = bytes_drop n cells

drop_nil : {A : Type 0} (n : ℕ) (none : List A) → none ≡ [] → drop n none ≡ none
drop_nil zero none is = refl
drop_nil (suc n) [] is = refl
drop_nil (suc n) (x ∷ none) is = absurd (let h : x ∷ none ≡ [] = is in cc)

pub drop_further : {A : Type 0} (m k : ℕ) (xs : List A) → drop k (drop m xs) ≡ drop (m + k) xs
drop_further zero k xs = let e : 0 + k ≡ k = omega arith in rw e refl
drop_further (suc m) k [] = drop_nil k [] refl ∙ sym (drop_nil (suc m + k) [] refl)
drop_further (suc m) k (x ∷ xs) = let e : suc m + k ≡ suc (m + k) = omega arith in rw e (drop_further m k xs)

-- a run of bytes and then one byte more
pub run_and_one_rest : (left len : ℕ) (from rest next : List Cell) (c : Cell) → len < left → rest ≡ drop len from → rest ≡ c ∷ next → drop (left - len - 1) next ≡ drop left from
run_and_one_rest left len from rest next c within is_rest is_next =
    let e : left ≡ len + suc (left - len - 1) = omega arith in
    sym (ap (λ n. drop n from) e ∙ sym (drop_further len (suc (left - len - 1)) from) ∙ ap (drop (suc (left - len - 1))) (sym is_rest ∙ is_next))

pub run_and_one_text : (left : ℕ) (text text1 text2 run : List ℕ) (from rest next : List Cell) (c : Cell) → length run < left → bytes from ≡ run ++ bytes rest → rest ≡ c ∷ next →
    text1 ≡ text ++ run → text2 ≡ text1 ++ c.byte ∷ [] → text2 ++ take (left - length run - 1) (bytes next) ≡ text ++ take left (bytes from)
run_and_one_text left text text1 text2 run from rest next c within is_run is_next is_text1 is_text2 =
    let k : ℕ = left - length run - 1 in
    let e : left ≡ length run + suc (left - length run - 1) = omega arith in
    let whole : take left (bytes from) ≡ run ++ (c.byte ∷ take k (bytes next)) =
    ap (λ n. take n (bytes from)) e ∙ ap (take (length run + suc k)) (is_run ∙ ap (λ cells. run ++ bytes cells) is_next) ∙ take-append-add run (c.byte ∷ bytes next) (suc k) in
    ap (λ t. t ++ take k (bytes next)) (is_text2 ∙ ap (λ t. t ++ c.byte ∷ []) is_text1)
    ∙ append_assoc (text ++ run) (c.byte ∷ []) (take k (bytes next))
    ∙ append_assoc text run (c.byte ∷ take k (bytes next))
    ∙ ap (λ t. text ++ t) (sym whole)
