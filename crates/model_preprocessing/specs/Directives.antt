-- The lines of a file (ISO/IEC 9899:2024, 6.10.1): directives, and the runs of text lines between them.
use Rattle.std.specs.Prelude.{ℕ, Bool, true, false, ◌&&◌, if◌then◌else◌, List, [], ◌∷◌, ◌++◌, codes}
use Rattle.cake_base.specs.declared.places.Place.{Place}
use Rattle.model_tokens.specs.declared.tokens.PpKind.{PpKind}
use Rattle.model_tokens.specs.declared.tokens.PpKind.TheVariants.{Header, Name, Number, Character, Text, Punct, Other}
use Rattle.model_preprocessing.specs.declared.directives.LineKind.{LineKind}
use Rattle.model_preprocessing.specs.declared.directives.LineKind.TheVariants as line
use Rattle.model_tokens.specs.PpTokens.{PpToken}
use Rattle.model_macros.specs.Macros.{spells}
use Rattle.model_macros.specs.ReplacementLists.{HASH}
use Rattle.model_types.specs.Texts.{same_text}

-- a directive with the place of its `#` and the tokens after its name; or a run of text lines with the
-- place of its first token and all its tokens
pub record Part : Type 0 where
  pub kind : LineKind
  pub at : Place
  pub tokens : List PpToken

-- ---- lines

abbrev pub begins_line : List PpToken → Bool
begins_line [] = true
begins_line (t ∷ ts) = t.first

abbrev pub with_first : PpToken → List (List PpToken) → List (List PpToken)
with_first t [] = (t ∷ []) ∷ []
with_first t (l ∷ ls) = (t ∷ l) ∷ ls

-- the lines that the tokens stand in
abbrev pub lines : List PpToken → List (List PpToken)
lines [] = []
lines (t ∷ ts) = if begins_line ts then (t ∷ []) ∷ lines ts else with_first t (lines ts)

-- ---- what a line is

-- the directive of a name
abbrev pub named_kind : List ℕ → LineKind
named_kind name =
    if same_text name (codes "if") then line.If
    else if same_text name (codes "ifdef") then line.Ifdef
    else if same_text name (codes "ifndef") then line.Ifndef
    else if same_text name (codes "elif") then line.Elif
    else if same_text name (codes "elifdef") then line.Elifdef
    else if same_text name (codes "elifndef") then line.Elifndef
    else if same_text name (codes "else") then line.Else
    else if same_text name (codes "endif") then line.Endif
    else if same_text name (codes "include") then line.Include
    else if same_text name (codes "embed") then line.Embed
    else if same_text name (codes "define") then line.Define
    else if same_text name (codes "undef") then line.Undef
    else if same_text name (codes "line") then line.Line
    else if same_text name (codes "error") then line.Error
    else if same_text name (codes "warning") then line.Warning
    else if same_text name (codes "pragma") then line.Pragma
    else line.Unknown

-- the directive whose `#` this token follows
abbrev pub kind_after : PpToken → PpKind → LineKind
kind_after t Name = named_kind t.spelling
kind_after t Number = line.Line
kind_after t Header = line.Unknown
kind_after t Character = line.Unknown
kind_after t Text = line.Unknown
kind_after t Punct = line.Unknown
kind_after t Other = line.Unknown

abbrev pub directive : Place → List PpToken → Part
directive at [] = record { kind = line.Null; at = at; tokens = [] }
directive at (t ∷ ts) = record { kind = kind_after t t.kind; at = at; tokens = ts }

-- a line that isn't empty
abbrev pub part : PpToken → List PpToken → Part
part t ts = if spells HASH t then directive t.place ts else record { kind = line.Text; at = t.place; tokens = t ∷ ts }

-- ---- runs of text lines

abbrev pub is_text : LineKind → Bool
is_text line.Text = true
is_text line.If = false
is_text line.Ifdef = false
is_text line.Ifndef = false
is_text line.Elif = false
is_text line.Elifdef = false
is_text line.Elifndef = false
is_text line.Else = false
is_text line.Endif = false
is_text line.Include = false
is_text line.Embed = false
is_text line.Define = false
is_text line.Undef = false
is_text line.Line = false
is_text line.Error = false
is_text line.Warning = false
is_text line.Pragma = false
is_text line.Null = false
is_text line.Unknown = false

-- a line before the parts that follow it; lines of text that follow one another are one run
abbrev pub joined : Part → List Part → List Part
joined p [] = p ∷ []
joined p (q ∷ qs) = if is_text p.kind && is_text q.kind then record p { tokens = p.tokens ++ q.tokens } ∷ qs else p ∷ q ∷ qs

abbrev pub with_line : List PpToken → List Part → List Part
with_line [] ps = ps
with_line (t ∷ ts) ps = joined (part t ts) ps

abbrev pub parts_of_lines : List (List PpToken) → List Part
parts_of_lines [] = []
parts_of_lines (l ∷ ls) = with_line l (parts_of_lines ls)

-- the directives of a list of tokens and the runs of text between them
unfoldable pub parts : List PpToken → List Part
parts ts = parts_of_lines (lines ts)
