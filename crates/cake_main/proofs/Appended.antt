-- What was appended is what is left behind the front.
use Rattle.std.proofs.Common.{◌≡◌, ℕ, ◌+◌, ◌≤◌, List, ◌++◌, length, take, drop, sym, ap, ◌∙◌, arith, length-drop}
use Rattle.std.proofs.lemmas.List.{take-append-drop}
use Rattle.cake_base.specs.Outside.{max_file}

pub rest_of : (old new : List ℕ) → take (length old) new ≡ old → length new ≤ length old + max_file → (bytes : List ℕ) × (new ≡ old ++ bytes) × (length bytes ≤ max_file)
rest_of old new front size =
    (drop (length old) new, sym (take-append-drop (length old) new) ∙ ap (λ l. l ++ drop (length old) new) front, omega (arith, length-drop (length old) new))
