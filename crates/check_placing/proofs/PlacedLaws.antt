-- Laws of what is placed.
use Rattle.std.proofs.Common.{◌≡◌, ap, refl, [], ◌∷◌, ◌++◌, List}
use Rattle.check_placing.specs.declared.placed.Placed.{Placed}
use Rattle.check_placing.specs.Seen.{all_placed, placed_of}

pub one_more : (xs : List Placed) (x : Placed) → all_placed (xs ++ x ∷ []) ≡ all_placed xs ++ placed_of x ∷ []
one_more [] x = refl
one_more (y ∷ ys) x = ap (λ zs. placed_of y ∷ zs) (one_more ys x)
