use Rattle.std.proofs.Common.{◌≡◌, [], ◌∷◌, drop, map}
use Rattle.model_types.specs.Vocabulary.{stands_in}
use Rattle.c_tokens.proofs.punctuators.is_among_twos.Given as goal

abbrev pub invariant-loop-x : goal.invariant-loop-x
invariant-loop-x l = stands_in (map (λ p. p.0 ∷ p.1 ∷ []) (drop l.x-index l.table)) (l.a ∷ l.b ∷ []) ≡ stands_in (map (λ p. p.0 ∷ p.1 ∷ []) l.table) (l.a ∷ l.b ∷ [])
