-- A declaration is written from the left: what stands before the declared name, the name, and what stands behind it.
use Rattle.std.specs.Prelude.{ℕ, Bool, true, false, List, [], ◌∷◌, ◌++◌, codes}
use Rattle.model_c89.specs.Signs89.{base_text}
use Rattle.model_c89.specs.SpellingParts89.{const_text, count_text, parameters_text}
use Rattle.model_core.specs.Types89.{Type89, Based, Pointer, Array, Function as FunctionType}

-- whether text stands there
abbrev pub is_some : List ℕ → Bool
is_some [] = false
is_some (byte ∷ bytes) = true

abbrev pub blank : (named : Bool) → List ℕ
blank false = []
blank true = codes " "

abbrev pub star : (is_const named : Bool) → List ℕ
star false named = codes "*"
star true named = codes "*const" ++ blank named

-- the parentheses round what a pointer to an array or a function is declared by
abbrev pub opened : (to : Type89) → List ℕ
opened (Based c b) = []
opened (Pointer c t) = []
opened (Array n t) = codes "("
opened (FunctionType r ps v) = codes "("

abbrev pub closed : (to : Type89) → List ℕ
closed (Based c b) = []
closed (Pointer c t) = []
closed (Array n t) = codes ")"
closed (FunctionType r ps v) = codes ")"

-- what stands before the declared name, where there is one
abbrev pub front : Type89 → (named : Bool) → List ℕ
front (Based is_const base) named = const_text is_const ++ (base_text base ++ blank named)
front (Pointer is_const to) named = front to true ++ (opened to ++ star is_const named)
front (Array count of) named = front of true
front (FunctionType result parameters is_variadic) named = front result true

-- what stands behind the declared name
abbrev pub back : Type89 → List ℕ
back (Based is_const base) = []
back (Pointer is_const to) = closed to ++ back to
back (Array count of) = count_text count ++ back of
back (FunctionType result parameters is_variadic) = codes "(" ++ (parameters_text parameters is_variadic ++ (codes ")" ++ back result))

-- what stands behind the parameters of a function that takes more arguments
abbrev pub dots : (is_variadic : Bool) → List ℕ
dots false = []
dots true = codes ", ..."
