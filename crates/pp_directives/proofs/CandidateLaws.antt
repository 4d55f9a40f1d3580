-- The directory in the name of a file.
use Rattle.std.proofs.Common.{◌≡◌, ℕ, zero, suc, ◌<◌, true, ◌==◌, List, [], ◌∷◌, length, take, drop, get_or, Some, None, ap, ◌∙◌, arith, cond}
use Rattle.std.proofs.lemmas.Bool.Decides.{nat_tests}
use Rattle.model_preprocessing.specs.Includes.{directory, with_byte}

pub last-slash : (name : List ℕ) (n : ℕ) → n < length name → get_or name n 0 ≡ 47 → directory (drop (suc n) name) ≡ None → directory name ≡ Some (take n name)
last-slash [] n h b d = absurd (omega arith)
last-slash (x ∷ name) zero h b d =
    let e : (x == 47) ≡ true = grind (arith, nat_tests) in
    ap (with_byte x) d ∙ ap (λ t. cond t (Some []) None) e
last-slash (x ∷ name) (suc n) h b d =
    let k : n < length name = omega arith in
    ap (with_byte x) (last-slash name n k b d)
