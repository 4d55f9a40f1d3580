-- The words and the punctuators of the grammar, and their numbers (ISO/IEC 9899:2024, 6.4.2 and 6.4.7).
use Rattle.std.specs.Prelude.{ℕ, ◌+◌, Bool, false, ◌||◌, List, [], ◌∷◌, ◌++◌, Option, Some, None, if◌then◌else◌, codes}
use Rattle.std.specs.Str.{bytes_eq}

-- the words of the grammar, in the order in which they first stand in its table
abbrev pub grammar_words : List (List ℕ)
grammar_words =
    codes "static_assert" ∷ codes "_Static_assert" ∷ codes "inline" ∷ codes "_Noreturn" ∷ codes "typedef" ∷
    codes "extern" ∷ codes "static" ∷ codes "auto" ∷ codes "register" ∷ codes "constexpr" ∷ codes "void" ∷
    codes "char" ∷ codes "short" ∷ codes "int" ∷ codes "long" ∷ codes "signed" ∷ codes "unsigned" ∷
    codes "bool" ∷ codes "_Bool" ∷ codes "typeof" ∷ codes "typeof_unqual" ∷ codes "const" ∷ codes "restrict" ∷
    codes "_Owner" ∷ codes "_View" ∷ codes "_Opt" ∷ codes "struct" ∷ codes "enum" ∷ codes "case" ∷
    codes "default" ∷ codes "if" ∷ codes "else" ∷ codes "switch" ∷ codes "while" ∷ codes "do" ∷ codes "for" ∷
    codes "break" ∷ codes "continue" ∷ codes "return" ∷ codes "defer" ∷ codes "sizeof" ∷ codes "alignof" ∷
    codes "_Alignof" ∷ codes "true" ∷ codes "false" ∷ codes "nullptr" ∷ []

-- the keywords that the language leaves out, numbered on after the words of the grammar
abbrev pub left_out_words : List (List ℕ)
left_out_words =
    codes "alignas" ∷ codes "_Alignas" ∷ codes "_Atomic" ∷ codes "_BitInt" ∷ codes "_Complex" ∷
    codes "_Decimal32" ∷ codes "_Decimal64" ∷ codes "_Decimal128" ∷ codes "double" ∷ codes "float" ∷
    codes "_Generic" ∷ codes "goto" ∷ codes "_Imaginary" ∷ codes "thread_local" ∷ codes "_Thread_local" ∷
    codes "union" ∷ codes "volatile" ∷ []

-- the punctuators that are tokens of C, in the order in which they first stand in the grammar's table, `::` last
abbrev pub punctuators : List (List ℕ)
punctuators =
    codes "," ∷ codes ";" ∷ codes "(" ∷ codes ")" ∷ codes "[" ∷ codes "]" ∷ codes "{" ∷ codes "}" ∷
    codes ":" ∷ codes "=" ∷ codes "*" ∷ codes "..." ∷ codes "." ∷ codes "*=" ∷ codes "/=" ∷ codes "%=" ∷
    codes "+=" ∷ codes "-=" ∷ codes "<<=" ∷ codes ">>=" ∷ codes "&=" ∷ codes "^=" ∷ codes "|=" ∷ codes "?" ∷
    codes "||" ∷ codes "&&" ∷ codes "|" ∷ codes "^" ∷ codes "&" ∷ codes "==" ∷ codes "!=" ∷ codes "<" ∷
    codes ">" ∷ codes "<=" ∷ codes ">=" ∷ codes "<<" ∷ codes ">>" ∷ codes "+" ∷ codes "-" ∷ codes "/" ∷
    codes "%" ∷ codes "++" ∷ codes "--" ∷ codes "~" ∷ codes "!" ∷ codes "->" ∷ codes "::" ∷ []

-- the punctuators of directives and replacement lists alone, which have no number
abbrev pub preprocessing_punctuators : List (List ℕ)
preprocessing_punctuators = codes "#" ∷ codes "##" ∷ []

-- the number of a spelling in a table whose first entry has the given number
abbrev pub number_in : List (List ℕ) → ℕ → List ℕ → Option ℕ
number_in [] next spelling = None
number_in (entry ∷ table) next spelling = if bytes_eq entry spelling then Some next else number_in table (next + 1) spelling

-- the number of a word, counted from 1
unfoldable pub word_number : List ℕ → Option ℕ
word_number = number_in (grammar_words ++ left_out_words) 1

-- the number of a punctuator, counted from 1
unfoldable pub punctuator_number : List ℕ → Option ℕ
punctuator_number = number_in punctuators 1

-- the spelling is one of the table's
abbrev pub stands_in : List (List ℕ) → List ℕ → Bool
stands_in [] spelling = false
stands_in (entry ∷ table) spelling = bytes_eq entry spelling || stands_in table spelling

-- the spelling of a preprocessing token that is a punctuator
unfoldable pub is_punctuator : List ℕ → Bool
is_punctuator = stands_in (preprocessing_punctuators ++ punctuators)
