-- The outermost conditional is the last.
use Rattle.std.proofs.Common.{◌≡◌, List, [], ◌∷◌, ◌++◌, reverse, slice_get, Some, refl, ap, ◌∙◌}
use mathlib.Core.List.{reverse-cons}
use Rattle.model_preprocessing.specs.declared.directives.Conditional.{Conditional}
use Rattle.model_preprocessing.specs.Conditionals.{outermost}

last-outermost : (cs : List Conditional) (c : Conditional) → outermost (cs ++ c ∷ []) ≡ Some c.at
last-outermost [] c = refl
last-outermost (d ∷ []) c = refl
last-outermost (d ∷ (e ∷ cs)) c = last-outermost (e ∷ cs) c

pub first-outermost : (cs : List Conditional) (c : Conditional) → slice_get cs 0 ≡ Some c → outermost (reverse cs) ≡ Some c.at
first-outermost [] c = λ h. cc
first-outermost (d ∷ cs) c = λ h.
    let e : d ≡ c = cc in ap outermost (reverse-cons d cs) ∙ last-outermost (reverse cs) d ∙ ap (λ (z : Conditional). Some z.at) e
