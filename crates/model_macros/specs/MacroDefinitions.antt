-- What a `#define` line means (ISO/IEC 9899:2024, 6.10.5, 6.10.5.1 to 6.10.5.4, 6.10.10).
use Rattle.std.specs.Prelude.{ℕ, Bool, true, false, ◌&&◌, ◌||◌, not, if◌then◌else◌, List, [], ◌∷◌, ◌++◌, Option, Some, None, is_some, Result, Ok, Err, codes}
use Rattle.cake_base.specs.declared.places.Place.{Place}
use Rattle.model_tokens.specs.declared.tokens.PpKind.{PpKind}
use Rattle.model_tokens.specs.declared.tokens.PpKind.TheVariants.{Header, Name, Number, Character, Text, Punct, Other}
use Rattle.model_macros.specs.declared.macros.Expected.{Expected}
use Rattle.model_macros.specs.declared.macros.Expected.TheVariants.{First, Item, Next, End}
use Rattle.model_tokens.specs.PpTokens.{PpToken}
use Rattle.model_macros.specs.Macros.{Piece, Macro, spells, FILE, LINE, STDC, STDC_VERSION, STDC_HOSTED, CAKE}
use Rattle.model_macros.specs.ReplacementLists.{Signature, VA_ARGS, VA_OPT, HASH, HASHES, LEFT, RIGHT, rank, quotable, next_of, is_open, is_close, pieces}
use Rattle.model_types.specs.Texts.{same_text}

abbrev pub is_name_kind : PpKind → Bool
is_name_kind Name = true
is_name_kind Header = false
is_name_kind Number = false
is_name_kind Character = false
is_name_kind Text = false
is_name_kind Punct = false
is_name_kind Other = false

abbrev pub is_name : PpToken → Bool
is_name t = is_name_kind t.kind

-- ---- the parameters

-- the parameters of a macro like a function, whether it takes variable arguments, and what follows
pub record Parameters : Type 0 where
  pub names : List (List ℕ)
  pub variadic : Bool
  pub rest : List PpToken

abbrev pub COMMA : List ℕ
COMMA = codes ","

abbrev pub ELLIPSIS : List ℕ
ELLIPSIS = codes "..."

abbrev pub with_name : List ℕ → Option Parameters → Option Parameters
with_name name None = None
with_name name (Some p) = Some (record p { names = name ∷ p.names })

-- the parameters that follow an opening parenthesis, up to the closing one
abbrev pub parameters : Expected → List PpToken → Option Parameters
parameters e [] = None
parameters First (t ∷ ts) =
    if spells RIGHT t then Some (record { names = []; variadic = false; rest = ts })
    else if spells ELLIPSIS t then parameters End ts
    else if is_name t then with_name t.spelling (parameters Next ts) else None
parameters Item (t ∷ ts) =
    if spells ELLIPSIS t then parameters End ts
    else if is_name t then with_name t.spelling (parameters Next ts) else None
parameters Next (t ∷ ts) =
    if spells RIGHT t then Some (record { names = []; variadic = false; rest = ts })
    else if spells COMMA t then parameters Item ts else None
parameters End (t ∷ ts) =
    if spells RIGHT t then Some (record { names = []; variadic = true; rest = ts }) else None

-- whether one of the names is among those before it, of which `seen` are the first
abbrev pub repeated : List (List ℕ) → List (List ℕ) → Bool
repeated seen [] = false
repeated seen (n ∷ ns) = is_some (rank n seen) || repeated (seen ++ n ∷ []) ns

-- ---- the line

-- a macro's name, the names of its parameters where it is like a function, and whether it takes
-- variable arguments
pub record Heading : Type 0 where
  pub name : List ℕ
  pub params : Option (List (List ℕ))
  pub variadic : Bool

-- a heading, and the replacement list after it
pub record Line : Type 0 where
  pub heading : Heading
  pub body : List PpToken

abbrev pub object : List ℕ → List PpToken → Line
object name body = record { heading = record { name = name; params = None; variadic = false }; body = body }

abbrev pub like_function : List ℕ → Option Parameters → Option Line
like_function name None = None
like_function name (Some p) =
    if repeated [] p.names then None
    else Some (record { heading = record { name = name; params = Some p.names; variadic = p.variadic }; body = p.rest })

-- A parenthesis directly after the name begins parameters; a space stands before any other body.
abbrev pub after_name : List ℕ → List PpToken → Option Line
after_name name [] = Some (object name [])
after_name name (t ∷ ts) =
    if t.space then Some (object name (t ∷ ts))
    else if spells LEFT t then like_function name (parameters First ts) else None

-- the parts of a line that is well formed
abbrev pub line_parts : List PpToken → Option Line
line_parts [] = None
line_parts (t ∷ ts) = if is_name t then after_name t.spelling ts else None

-- ---- the constraints on a replacement list

-- a `#` that no parameter follows (6.10.5.3)
abbrev pub lone_hash : Signature → List PpToken → Bool
lone_hash s [] = false
lone_hash s (t ∷ ts) = (spells HASH t && not (quotable s (next_of ts))) || lone_hash s ts

-- whether the list, or the text of `__VA_OPT__`, ends here
abbrev pub ends_at : List Piece → Bool
ends_at [] = true
ends_at (p ∷ ps) = is_close p.role

-- a `##` that ends the list, or ends or begins the text of `__VA_OPT__`, where `edge` says that the
-- list or that text begins here (6.10.5.4)
abbrev pub paste_at_edge : Bool → List Piece → Bool
paste_at_edge edge [] = false
paste_at_edge edge (p ∷ ps) =
    (spells HASHES p.tok && (edge || ends_at ps)) || paste_at_edge (is_open p.role) ps

abbrev pub opens_at : List Piece → Bool
opens_at [] = false
opens_at (p ∷ ps) = spells LEFT p.tok

-- the names of the variable arguments where they may not stand: in a macro without such arguments;
-- `__VA_OPT__` without parentheses, or within those of another, which is what `inside` says (6.10.5.2)
abbrev pub misplaced_at : Bool → Bool → Piece → List Piece → Bool
misplaced_at variadic inside p ps =
    (spells VA_ARGS p.tok && not variadic) || (spells VA_OPT p.tok && (not variadic || inside || not (opens_at ps)))

abbrev pub misplaced : Bool → Bool → List Piece → Bool
misplaced variadic inside [] = inside
misplaced variadic inside (p ∷ ps) =
    misplaced_at variadic inside p ps || misplaced variadic ((inside || is_open p.role) && not (is_close p.role)) ps

-- those names as parameters
abbrev pub misnamed : List (List ℕ) → Bool
misnamed names = is_some (rank VA_ARGS names) || is_some (rank VA_OPT names)

-- the names of the predefined macros (6.10.10)
abbrev pub predefined_name : List ℕ → Bool
predefined_name name =
    same_text name FILE || same_text name LINE || same_text name STDC || same_text name STDC_VERSION || same_text name STDC_HOSTED || same_text name CAKE

-- the names that no directive may define (6.10.10.1)
abbrev pub reserved : List ℕ → Bool
reserved name = same_text name (codes "defined") || same_text name VA_ARGS || same_text name VA_OPT || predefined_name name

-- ---- the meaning

abbrev pub names_of : Option (List (List ℕ)) → List (List ℕ)
names_of None = []
names_of (Some ns) = ns

abbrev pub signature : Heading → Signature
signature h = record { function = is_some h.params; names = names_of h.params; variadic = h.variadic }

-- the number of the first rule of P03, P04, P08 and P09 that is broken
abbrev pub broken_rule : Heading → List PpToken → List Piece → Option ℕ
broken_rule h tokens body =
    if is_some h.params && lone_hash (signature h) tokens then Some 3
    else if paste_at_edge true body then Some 4
    else if misnamed (names_of h.params) || misplaced h.variadic false body then Some 8
    else if reserved h.name then Some 9 else None

abbrev pub checked : Place → Heading → List Piece → Option ℕ → Result Macro ℕ
checked at h body None = Ok (record { at = at; name = h.name; params = h.params; variadic = h.variadic; body = body })
checked at h body (Some rule) = Err rule

abbrev pub line_macro : Place → Option Line → Result Macro ℕ
line_macro at None = Err 2
line_macro at (Some l) = checked at l.heading (pieces (signature l.heading) l.body) (broken_rule l.heading l.body (pieces (signature l.heading) l.body))

-- the macro that a line after `#define` defines, or the number of the P rule that it breaks
abbrev pub definition : Place → List PpToken → Result Macro ℕ
definition at line = line_macro at (line_parts line)
