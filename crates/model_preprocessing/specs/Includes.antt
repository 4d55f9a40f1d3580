-- Source file inclusion (ISO/IEC 9899:2024, 6.10.3): the name on the line, and where it is looked for.
use Rattle.std.specs.Prelude.{ℕ, ◌-◌, Bool, true, false, ◌==◌, if◌then◌else◌, List, [], ◌∷◌, ◌++◌, length, map, take, drop, slice_index, Option, Some, None, codes}
use Rattle.model_tokens.specs.declared.tokens.PpKind.{PpKind}
use Rattle.model_tokens.specs.declared.tokens.PpKind.TheVariants.{Header, Name, Number, Character, Text, Punct, Other}
use Rattle.model_tokens.specs.PpTokens.{PpToken}
use Rattle.model_macros.specs.Macros.{spells}

-- a name between quotes, or between < and >
pub record HeaderName : Type 0 where
  pub quoted : Bool
  pub name : List ℕ

-- ---- the name on the line

-- the spelling without its first and its last byte
abbrev pub between : List ℕ → List ℕ
between spelling = take (length spelling - 2) (drop 1 spelling)

abbrev pub angled_name : List ℕ → HeaderName
angled_name name = record { quoted = false; name = name }

-- the name in a string without a prefix
abbrev pub string_name : List ℕ → Option HeaderName
string_name spelling = if slice_index spelling 0 == 34 then Some (record { quoted = true; name = between spelling }) else None

abbrev pub header_name : PpToken → PpKind → Option HeaderName
header_name t Header = Some (angled_name (between t.spelling))
header_name t Text = string_name t.spelling
header_name t Name = None
header_name t Number = None
header_name t Character = None
header_name t Punct = None
header_name t Other = None

-- the name where one of the two forms follows `#include`
abbrev pub direct_name : List PpToken → Option HeaderName
direct_name [] = None
direct_name (t ∷ ts) = header_name t t.kind

abbrev pub with_spelling : List ℕ → Option (List ℕ) → Option (List ℕ)
with_spelling s None = None
with_spelling s (Some rest) = Some (s ++ rest)

-- the spellings up to the first token >, put together
abbrev pub up_to_close : List PpToken → Option (List ℕ)
up_to_close [] = None
up_to_close (t ∷ ts) = if spells (codes ">") t then Some [] else with_spelling t.spelling (up_to_close ts)

abbrev pub spelled_name : Option (List ℕ) → Option HeaderName
spelled_name None = None
spelled_name (Some name) = Some (angled_name name)

-- the name where the tokens after `#include` are replaced
abbrev pub replaced_name : List PpToken → Option HeaderName
replaced_name [] = None
replaced_name (t ∷ ts) = if spells (codes "<") t then spelled_name (up_to_close ts) else header_name t t.kind

-- ---- where it is looked for

abbrev pub SLASH : ℕ
SLASH = 47

abbrev pub with_byte : ℕ → Option (List ℕ) → Option (List ℕ)
with_byte b None = if b == SLASH then Some [] else None
with_byte b (Some front) = Some (b ∷ front)

-- the directory of a file: what stands before the last / of its name
abbrev pub directory : List ℕ → Option (List ℕ)
directory [] = None
directory (b ∷ name) = with_byte b (directory name)

-- a name in a directory
abbrev pub within : List ℕ → List ℕ → List ℕ
within dir name = dir ++ SLASH ∷ name

-- a name beside the file that includes it
abbrev pub beside : Option (List ℕ) → List ℕ → List ℕ
beside None name = name
beside (Some dir) name = within dir name

-- the full names under which a file is looked for, in order
abbrev pub candidates : (including : List ℕ) → (dirs : List (List ℕ)) → HeaderName → List (List ℕ)
candidates including dirs h =
    if slice_index h.name 0 == SLASH then h.name ∷ []
    else (if h.quoted then beside (directory including) h.name ∷ [] else []) ++ map (λ dir. within dir h.name) dirs
