use Rattle.std.proofs.Common.{◌≡◌, [], ◌∷◌, drop, map}
use Rattle.model_types.specs.Vocabulary.{stands_in}
use Rattle.c_tokens.proofs.punctuators.is_among_threes.Given as goal

abbrev pub invariant-loop-x : goal.invariant-loop-x
invariant-loop-x l = stands_in (map (λ p. p.0 ∷ p.1 ∷ p.2 ∷ []) (drop l.x-index l.table)) (l.a ∷ l.b ∷ l.c ∷ []) ≡ stands_in (map (λ p. p.0 ∷ p.1 ∷ p.2 ∷ []) l.table) (l.a ∷ l.b ∷ l.c ∷ [])
