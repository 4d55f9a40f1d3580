-- Parts that are pushed one after another.
use Rattle.std.proofs.Common.{◌≡◌, ℕ, List, ◌++◌, Result, Ok, Err, OnOk, ap, ◌∙◌, append_assoc}

pub push_parts : {E : Type 0} (r : Result (Unit {0}) E) (start one two end first name last : List ℕ) → one ≡ start ++ first → (bytes : List ℕ) → two ≡ one ++ bytes → bytes ≡ name → OnOk r (end ≡ two ++ last) → OnOk r (end ≡ start ++ (first ++ (name ++ last)))
push_parts (Ok x) start one two end first name last a bytes b c d =
    d ∙ ap (λ x. x ++ last) (b ∙ ap (λ x. x ++ bytes) a ∙ ap (λ x. (start ++ first) ++ x) c) ∙ append_assoc (start ++ first) name last ∙ append_assoc start first (name ++ last)
push_parts (Err x) start one two end first name last a bytes b c d = tt
