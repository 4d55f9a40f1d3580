-- What stands behind a first byte.
use Rattle.std.proofs.Common.{◌≡◌, ◌≢◌, ℕ, ◌==◌, List, [], ◌∷◌, Option, Some, None, Bool, true, false, if◌then◌else◌, MatchOption, refl, sym, ap, ◌∙◌}
use Rattle.std.specs.Prelude.{option_copied}
use Rattle.std.proofs.lemmas.Bool.Decides.{nat_tests}
use denote.Ref.{Bor}
use Rattle.std.proofs.Common.{arith}
use Rattle.cake_cli.specs.WordsRead.{behind_byte}

same_byte : (b c : ℕ) → (b == c) ≡ true → b ≡ c
same_byte b c e = grind (arith, nat_tests)

no_byte : (c b : ℕ) (bs : List ℕ) (t : Bool) → (b == c) ≡ t → ((rest : List ℕ) → b ∷ bs ≢ c ∷ rest) → None ≡ (if t then Some bs else None)
no_byte c b bs true e never = absurd (never bs (ap (λ x. x ∷ bs) (same_byte b c e)))
no_byte c b bs false e never = refl

pub behind_none : (c : ℕ) (bs : List ℕ) → ((rest : List ℕ) → bs ≢ c ∷ rest) → None ≡ behind_byte c bs
behind_none c [] never = refl
behind_none c (b ∷ bs) never = no_byte c b bs (b == c) refl never

is_same : (c : ℕ) → (c == c) ≡ true
is_same c = grind (arith, nat_tests)

pub behind_some : (c : ℕ) (bs rest : List ℕ) → bs ≡ c ∷ rest → Some rest ≡ behind_byte c bs
behind_some c bs rest e = sym (ap (behind_byte c) e ∙ ap (λ t. if t then Some rest else None) (is_same c))

pub behind_is : (c : ℕ) (bs : List ℕ) (r : Option (Bor (List ℕ))) → MatchOption r ((rest : List ℕ) → bs ≢ c ∷ rest) (λ x. bs ≡ c ∷ x.now) → option_copied r ≡ behind_byte c bs
behind_is c bs None never = behind_none c bs never
behind_is c bs (Some x) e = behind_some c bs x.now e
