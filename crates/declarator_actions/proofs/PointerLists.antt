-- The `*` of a declarator, and the qualifiers behind one, that are read from the front.
use Rattle.std.specs.Prelude.{◌≡◌, refl, List, [], ◌∷◌, ◌++◌}
use Rattle.std.proofs.Common.{ap}
use Rattle.model_grammar.specs.declared.syntax.Pointer.{Pointer}
use Rattle.model_grammar.specs.declared.syntax.Qualifier.{Qualifier}

-- the `*` before others
abbrev pub pointers_before : List Pointer → List Pointer → List Pointer
pointers_before [] others = others
pointers_before (x ∷ xs) others = x ∷ pointers_before xs others

pub last_pointer : (xs : List Pointer) (x : Pointer) (others : List Pointer) → pointers_before (xs ++ x ∷ []) others ≡ pointers_before xs (x ∷ others)
last_pointer [] x others = refl
last_pointer (y ∷ ys) x others = ap (λ zs. y ∷ zs) (last_pointer ys x others)

pub no_pointer : (xs : List Pointer) → pointers_before xs [] ≡ xs
no_pointer [] = refl
no_pointer (x ∷ xs) = ap (λ zs. x ∷ zs) (no_pointer xs)

-- the qualifiers before others
abbrev pub qualifiers_before : List Qualifier → List Qualifier → List Qualifier
qualifiers_before [] others = others
qualifiers_before (x ∷ xs) others = x ∷ qualifiers_before xs others

pub last_qualifier : (xs : List Qualifier) (x : Qualifier) (others : List Qualifier) → qualifiers_before (xs ++ x ∷ []) others ≡ qualifiers_before xs (x ∷ others)
last_qualifier [] x others = refl
last_qualifier (y ∷ ys) x others = ap (λ zs. y ∷ zs) (last_qualifier ys x others)

pub no_qualifier : (xs : List Qualifier) → qualifiers_before xs [] ≡ xs
no_qualifier [] = refl
no_qualifier (x ∷ xs) = ap (λ zs. x ∷ zs) (no_qualifier xs)
