-- The names of a C89 program (ISO/IEC 9899:1990, 6.1.1, 6.1.2).
use Rattle.std.specs.Prelude.{◌≡◌, ℕ, Bool, true, false, ◌||◌, List, [], ◌∷◌, codes}
use Rattle.std.specs.Str.{bytes_eq}
use Rattle.model_types.specs.ByteClasses.{is_nondigit, is_word_byte, begins_with, AllBytes}

-- the words of C89, which are no names (6.1.1)
abbrev pub words : List (List ℕ)
words =
    codes "auto" ∷ codes "break" ∷ codes "case" ∷ codes "char" ∷ codes "const" ∷ codes "continue" ∷ codes "default" ∷ codes "do"
    ∷ codes "double" ∷ codes "else" ∷ codes "enum" ∷ codes "extern" ∷ codes "float" ∷ codes "for" ∷ codes "goto" ∷ codes "if"
    ∷ codes "int" ∷ codes "long" ∷ codes "register" ∷ codes "return" ∷ codes "short" ∷ codes "signed" ∷ codes "sizeof" ∷ codes "static"
    ∷ codes "struct" ∷ codes "switch" ∷ codes "typedef" ∷ codes "union" ∷ codes "unsigned" ∷ codes "void" ∷ codes "volatile" ∷ codes "while" ∷ []

abbrev pub is_among : List (List ℕ) → List ℕ → Bool
is_among [] name = false
is_among (other ∷ names) name = bytes_eq other name || is_among names name

-- a name is an identifier and no word (6.1.2)
pub record IsName (name : List ℕ) : Type 0 where
  pub begins : begins_with is_nondigit name ≡ true
  pub goes_on : AllBytes is_word_byte name
  pub is_no_word : is_among words name ≡ false
