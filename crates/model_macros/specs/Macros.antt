-- Macros, and the table of those that are defined (ISO/IEC 9899:2024, 6.10.5, 6.10.10).
use Rattle.std.specs.Prelude.{ℕ, suc, Bool, true, false, ◌&&◌, not, nat_eq, if◌then◌else◌, List, [], ◌∷◌, ◌++◌, Option, Some, None, codes}
use Rattle.std.specs.List.{list_any}
use lib.Pointwise.{pointwise}
use Rattle.cake_base.specs.declared.places.Place.{Place}
use Rattle.model_tokens.specs.declared.tokens.PpKind.{PpKind}
use Rattle.model_tokens.specs.declared.tokens.PpKind.TheVariants.{Name, Number}
use Rattle.model_macros.specs.declared.macros.Role.{Role}
use Rattle.model_macros.specs.declared.macros.Role.TheVariants.{Plain, File, Line}
use Rattle.model_tokens.specs.PpTokens.{PpToken}
use Rattle.model_types.specs.Texts.{same_text}

-- a token of a replacement list, with the part that it plays there
pub record Piece : Type 0 where
  pub tok : PpToken
  pub role : Role

-- a macro: the place of the `#` of its definition, its name, the names of its parameters where it
-- is like a function, whether it takes variable arguments, and its replacement list
pub record Macro : Type 0 where
  pub at : Place
  pub name : List ℕ
  pub params : Option (List (List ℕ))
  pub variadic : Bool
  pub body : List Piece

-- the macros that are defined, by their names in order of first sight, and the names of files
pub record Macros : Type 0 where
  pub entries : List (List ℕ × Macro)
  pub files : List (ℕ × List ℕ)

-- whether a token is spelled like that
abbrev pub spells : List ℕ → PpToken → Bool
spells text t = same_text t.spelling text

abbrev pub one_later : Option (ℕ × Macro) → Option (ℕ × Macro)
one_later None = None
one_later (Some m) = Some (suc m.0, m.1)

-- the macro of that name, with its rank
abbrev pub ranked : List ℕ → List (List ℕ × Macro) → Option (ℕ × Macro)
ranked name [] = None
ranked name (e ∷ es) = if same_text name e.0 then Some (0, e.1) else one_later (ranked name es)

-- the macro of that name
abbrev pub found : List ℕ → List (List ℕ × Macro) → Option Macro
found name [] = None
found name (e ∷ es) = if same_text name e.0 then Some e.1 else found name es

-- whether a macro has that name
abbrev pub defines : List ℕ → List (List ℕ × Macro) → Bool
defines name es = list_any (λ e. same_text name e.0) es

-- the table without the macro of that name
abbrev pub without : List ℕ → List (List ℕ × Macro) → List (List ℕ × Macro)
without name [] = []
without name (e ∷ es) = if same_text name e.0 then es else e ∷ without name es

-- the macros with one more, which goes last; a name that is held keeps its macro
abbrev pub with_macro : Macro → List (List ℕ × Macro) → List (List ℕ × Macro)
with_macro m es = if defines m.name es then es else es ++ (m.name, m) ∷ []

-- the name of a file; one that was not named has the empty name
abbrev pub file_name : ℕ → List (ℕ × List ℕ) → List ℕ
file_name file [] = []
file_name file (e ∷ es) = if nat_eq file e.0 then e.1 else file_name file es

-- the names with one more: a file that has a name takes the new one
abbrev pub with_file : ℕ → List ℕ → List (ℕ × List ℕ) → List (ℕ × List ℕ)
with_file file name [] = (file, name) ∷ []
with_file file name (e ∷ es) = if nat_eq file e.0 then (e.0, name) ∷ es else e ∷ with_file file name es

-- ---- the predefined macros (6.10.10)

-- a place that is no token's, at the head of the main file
abbrev pub outset : Place
outset = record { file = 0; line = 1; column = 1; order = 0 }

-- a macro without parameters, of one token
abbrev pub predefined : List ℕ → PpKind → List ℕ → Role → Macro
predefined name kind spelling role = record {
  at = outset;
  name = name;
  params = None;
  variadic = false;
  body = (record { tok = record { kind = kind; place = outset; first = false; space = false; spelling = spelling }; role = role }) ∷ [];
}

abbrev pub FILE : List ℕ
FILE = codes "__FILE__"

abbrev pub LINE : List ℕ
LINE = codes "__LINE__"

abbrev pub STDC : List ℕ
STDC = codes "__STDC__"

abbrev pub STDC_VERSION : List ℕ
STDC_VERSION = codes "__STDC_VERSION__"

abbrev pub STDC_HOSTED : List ℕ
STDC_HOSTED = codes "__STDC_HOSTED__"

abbrev pub CAKE : List ℕ
CAKE = codes "__CAKE__"

-- the table before any directive
unfoldable pub first_table : Macros
first_table = record {
  entries = (FILE, predefined FILE Name FILE File)
      ∷ (LINE, predefined LINE Name LINE Line)
      ∷ (STDC, predefined STDC Number (codes "1") Plain)
      ∷ (STDC_VERSION, predefined STDC_VERSION Number (codes "202311L") Plain)
      ∷ (STDC_HOSTED, predefined STDC_HOSTED Number (codes "1") Plain)
      ∷ (CAKE, predefined CAKE Number (codes "1") Plain) ∷ [];
  files = [];
}

-- ---- redefinition (6.10.5, constraints 1 and 2)

abbrev pub same_names : List (List ℕ) → List (List ℕ) → Bool
same_names = pointwise same_text

abbrev pub same_params : Option (List (List ℕ)) → Option (List (List ℕ)) → Bool
same_params None None = true
same_params None (Some ns) = false
same_params (Some ms) None = false
same_params (Some ms) (Some ns) = same_names ms ns

abbrev pub same_flag : Bool → Bool → Bool
same_flag true b = b
same_flag false b = not b

-- the same spelling, with white space before both or before neither
abbrev pub same_piece : Piece → Piece → Bool
same_piece p q = same_text p.tok.spelling q.tok.spelling && same_flag p.tok.space q.tok.space

abbrev pub same_pieces : List Piece → List Piece → Bool
same_pieces [] [] = true
same_pieces [] (q ∷ qs) = false
same_pieces (p ∷ ps) [] = false
same_pieces (p ∷ ps) (q ∷ qs) = same_piece p q && same_pieces ps qs

-- the same tokens; white space before the first doesn't count
abbrev pub same_body : List Piece → List Piece → Bool
same_body [] [] = true
same_body [] (q ∷ qs) = false
same_body (p ∷ ps) [] = false
same_body (p ∷ ps) (q ∷ qs) = same_text p.tok.spelling q.tok.spelling && same_pieces ps qs

-- whether one definition may stand where the other already stands
abbrev pub same_definition : Macro → Macro → Bool
same_definition m n = same_params m.params n.params && same_flag m.variadic n.variadic && same_body m.body n.body

-- whether another definition of the name stands already
abbrev pub clashes : Macro → Option Macro → Bool
clashes m None = false
clashes m (Some old) = not (same_definition old m)
