-- The texts of the rules and of the limits, numbered from 1 in each family.
use Rattle.std.specs.Prelude.{ℕ, zero, suc, List, [], ◌∷◌, slice_index_or, codes}
use Rattle.cake_base.specs.declared.rules.Family.{Family}
use Rattle.cake_base.specs.declared.rules.Family.TheVariants.{P, L, S, C, F, G}
use Rattle.cake_base.specs.declared.rules.Rule.{Rule}
use Rattle.cake_base.specs.declared.rules.Limit.{Limit}

-- preprocessing
abbrev pub preprocessing_texts : List (List ℕ)
preprocessing_texts =
    codes "macro redefined with another text" ∷
    codes "malformed #define" ∷
    codes "# is not followed by a parameter" ∷
    codes "## stands at an end of the replacement" ∷
    codes "pasting makes no single token" ∷
    codes "wrong number of macro arguments" ∷
    codes "macro call is not ended" ∷
    codes "__VA_ARGS__ or __VA_OPT__ is misplaced" ∷
    codes "reserved macro name" ∷
    codes "include file not found" ∷
    codes "#error directive" ∷
    codes "conditional directive without its #if" ∷
    codes "#if is not ended" ∷
    codes "malformed #if expression" ∷
    codes "#if expression overflows or divides by zero" ∷
    codes "unknown directive" ∷
    codes "malformed #include" ∷
    codes "malformed #pragma cake" ∷
    codes "macro name is missing" ∷
    codes "directive or operator is left out" ∷ []

-- tokens
abbrev pub token_texts : List (List ℕ)
token_texts =
    codes "comment is not ended" ∷
    codes "string or character constant is not ended" ∷
    codes "character constant must hold one character" ∷
    codes "bad escape" ∷
    codes "malformed number or suffix" ∷
    codes "integer constant fits no type" ∷
    codes "floating constant" ∷
    codes "prefixed literal or stray character" ∷ []

-- syntax
abbrev pub syntax_texts : List (List ℕ)
syntax_texts =
    codes "syntax error" ∷ []

-- constraints
abbrev pub constraint_texts : List (List ℕ)
constraint_texts =
    codes "name begins with cake_" ∷
    codes "name is declared twice in one scope" ∷
    codes "redeclared with another type" ∷
    codes "linkage of declarations disagrees" ∷
    codes "name is not declared" ∷
    codes "tag is of another kind or defined twice" ∷
    codes "built-in function is defined or declared otherwise" ∷
    codes "internal function is used and not defined" ∷
    codes "operand has the wrong type" ∷
    codes "left side cannot be changed" ∷
    codes "operand has no address" ∷
    codes "pointer to a complete object is needed" ∷
    codes "no such member" ∷
    codes "called value is no function" ∷
    codes "wrong number of arguments" ∷
    codes "value cannot be converted to the wanted type" ∷
    codes "conversion drops a qualifier" ∷
    codes "cast is not allowed" ∷
    codes "pointers do not agree" ∷
    codes "operands of ?: do not agree" ∷
    codes "value of type void is used" ∷
    codes "complete object type is needed" ∷
    codes "constant expression is needed" ∷
    codes "constant expression is undefined" ∷
    codes "array length or type size is out of range" ∷
    codes "function literal names an automatic object of its surroundings" ∷
    codes "specifiers do not combine" ∷
    codes "type is impossible" ∷
    codes "ownership qualifier is misplaced" ∷
    codes "enumerator is out of range" ∷
    codes "auto needs one plain initializer" ∷
    codes "constexpr object needs a constant of its type" ∷
    codes "too many initializers" ∷
    codes "designator does not fit" ∷
    codes "initializer does not fit the type" ∷
    codes "static_assert failed" ∷
    codes "definition is no function or has a bad parameter" ∷
    codes "variadic function is defined" ∷
    codes "function or object is defined twice" ∷
    codes "case or default stands outside a switch body" ∷
    codes "case value is repeated" ∷
    codes "break or continue stands outside" ∷
    codes "defer stands directly in a switch body" ∷
    codes "deferred statement is left" ∷
    codes "return does not fit the result" ∷
    codes "condition has the wrong type" ∷
    codes "main has the wrong type" ∷
    codes "storage class is not allowed here" ∷ []

-- findings of the ownership check
abbrev pub finding_texts : List (List ℕ)
finding_texts =
    codes "owner is lost at the end of its lifetime" ∷
    codes "owner is lost by assignment" ∷
    codes "moved owner is used" ∷
    codes "deleted owner is used" ∷
    codes "uninitialized pointer is used" ∷
    codes "possible null is dereferenced" ∷
    codes "possible null is given to a pointer without _Opt" ∷
    codes "owner result is dropped" ∷
    codes "view is given to an owner" ∷ []

-- what the ownership check leaves aside
abbrev pub aside_texts : List (List ℕ)
aside_texts =
    codes "address of an owner is taken" ∷
    codes "owner has static storage" ∷
    codes "struct has an owner member" ∷
    codes "array of owners" ∷
    codes "owner behind a pointer" ∷
    codes "owner is assigned inside an expression" ∷
    codes "owner is changed by arithmetic" ∷
    codes "owner of an incomplete struct is converted" ∷
    codes "owner value passes through ?: or comma" ∷
    codes "compound literal is an owner" ∷
    codes "cast changes ownership in a function type" ∷
    codes "function is too large for the flow check" ∷ []

-- limits
abbrev pub limit_texts : List (List ℕ)
limit_texts =
    codes "bytes of all files" ∷
    codes "files" ∷
    codes "include depth" ∷
    codes "tokens made by macros" ∷
    codes "tokens of the unit" ∷
    codes "nesting" ∷
    codes "initialised scalars" ∷
    codes "deferred weight" ∷ []

abbrev pub texts_of : Family → List (List ℕ)
texts_of P = preprocessing_texts
texts_of L = token_texts
texts_of S = syntax_texts
texts_of C = constraint_texts
texts_of F = finding_texts
texts_of G = aside_texts

-- the text of a number; a number that has none has the empty text
abbrev pub numbered_text : List (List ℕ) → ℕ → List ℕ
numbered_text texts zero = []
numbered_text texts (suc number) = slice_index_or texts number []

unfoldable pub rule_text : Rule → List ℕ
rule_text rule = numbered_text (texts_of rule.family) rule.number

unfoldable pub limit_text : Limit → List ℕ
limit_text limit = numbered_text limit_texts limit.number
