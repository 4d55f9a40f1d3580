-- Tokens that `#`, `##`, `__FILE__` and `__LINE__` make (ISO/IEC 9899:2024, 6.10.5.3, 6.10.5.4, 6.10.10.2).
use Rattle.std.specs.Prelude.{ℕ, ◌+◌, ◌/◌, ◌%◌, Bool, true, false, ◌&&◌, ◌||◌, not, ◌==◌, nat_lt, if◌then◌else◌, List, [], ◌∷◌, ◌++◌, filter, Option, Some, None, Result, Ok, Err, decimal}
use Rattle.std.specs.List.{flat_map}
use Rattle.model_tokens.specs.declared.tokens.PpKind.{PpKind}
use Rattle.model_tokens.specs.declared.tokens.PpKind.TheVariants.{Header, Name, Number, Character, Text, Punct, Other}
use Rattle.cake_base.specs.declared.rules.Fault.{Fault}
use Rattle.model_tokens.specs.PpTokens.{PpToken, tokens_of}
use Rattle.model_macros.specs.HideSets.{common}
use Rattle.model_macros.specs.MacroArguments.{Painted, Run, is_nil}
use Rattle.model_types.specs.Texts.{same_text}

-- the kind of the only token of a text, if the text spells it
abbrev pub alone : List ℕ → Result (List PpToken) Fault → Option PpKind
alone text (Err fault) = None
alone text (Ok []) = None
alone text (Ok (t ∷ [])) = if same_text t.spelling text then Some t.kind else None
alone text (Ok (t ∷ (u ∷ ts))) = None

-- the kind of the one token that a text is
unfoldable pub single : List ℕ → Option PpKind
single text = alone text (tokens_of 0 text)

abbrev pub fresh : PpToken → Painted
fresh t = record { tok = t; hides = [] }

-- a token that begins as t does
abbrev pub begun : PpToken → PpToken → PpToken
begun t u = record u { first = t.first; space = t.space }

-- the tokens, of which the first begins as t does
abbrev pub headed : PpToken → Run → Run
headed t [] = []
headed t (p ∷ ps) = record p { tok = begun t p.tok } ∷ ps

-- ---- placemarkers (6.10.5.4): tokens without a spelling

abbrev pub is_placemarker : Painted → Bool
is_placemarker p = is_nil p.tok.spelling

abbrev pub placemarker : PpToken → Painted
placemarker t = fresh (record t { spelling = [] })

-- the tokens, or a placemarker where there are none
abbrev pub or_placemarker : PpToken → Run → Run
or_placemarker t [] = placemarker t ∷ []
or_placemarker t (p ∷ ps) = p ∷ ps

-- what stays of a replacement list: placemarkers go
abbrev pub without_placemarkers : Run → Run
without_placemarkers ps = filter (λ p. not (is_placemarker p)) ps

-- ---- pasting

abbrev pub of_kind : Painted → Painted → Option PpKind → Option Painted
of_kind p q None = None
of_kind p q (Some kind) = Some (record {
  tok = record p.tok { kind = kind; spelling = p.tok.spelling ++ q.tok.spelling };
  hides = common p.hides q.hides;
})

-- A placemarker gives the other operand, which begins as a left operand does. Two tokens give the
-- token that they spell together, if it is one.
abbrev pub pasted : Painted → Painted → Option Painted
pasted p q =
    if is_placemarker p then Some (record q { tok = begun p.tok q.tok })
    else if is_placemarker q then Some p
    else of_kind p q (single (p.tok.spelling ++ q.tok.spelling))

abbrev pub before : Painted → Option Run → Option Run
before p None = None
before p (Some ps) = Some (p ∷ ps)

abbrev pub then_rest : Run → Option Painted → Option Run
then_rest ps None = None
then_rest ps (Some p) = Some (p ∷ ps)

-- the last token before `##` pasted to the first one after it
abbrev pub pasted_runs : Run → Run → Option Run
pasted_runs [] qs = Some qs
pasted_runs (p ∷ []) [] = Some (p ∷ [])
pasted_runs (p ∷ []) (q ∷ qs) = then_rest qs (pasted p q)
pasted_runs (p ∷ (r ∷ ps)) qs = before p (pasted_runs (r ∷ ps) qs)

-- ---- strings

abbrev pub QUOTE : ℕ
QUOTE = 34

abbrev pub BACKSLASH : ℕ
BACKSLASH = 92

-- a byte of a string or a character constant, as it stands in the string of `#`
abbrev pub escaped : ℕ → List ℕ
escaped b = if (b == QUOTE) || (b == BACKSLASH) then BACKSLASH ∷ b ∷ [] else b ∷ []

abbrev pub holds_escapes : PpKind → Bool
holds_escapes Character = true
holds_escapes Text = true
holds_escapes Header = false
holds_escapes Name = false
holds_escapes Number = false
holds_escapes Punct = false
holds_escapes Other = false

abbrev pub shown : PpToken → List ℕ
shown t = if holds_escapes t.kind then flat_map escaped t.spelling else t.spelling

-- the spellings, with one space before each token that has white space before it
abbrev pub spaced : Run → List ℕ
spaced [] = []
spaced (p ∷ ps) = (if p.tok.space then 32 ∷ [] else []) ++ (shown p.tok ++ spaced ps)

-- no space stands before the first
abbrev pub spelled : Run → List ℕ
spelled [] = []
spelled (p ∷ ps) = shown p.tok ++ spaced ps

abbrev pub quoted : List ℕ → List ℕ
quoted text = QUOTE ∷ (text ++ QUOTE ∷ [])

-- a string literal of that spelling, which begins as t does
abbrev pub text_token : PpToken → List ℕ → Painted
text_token t spelling = fresh (record t { kind = Text; spelling = spelling })

-- the string that `#` makes of its operand
abbrev pub string_of : PpToken → Run → Painted
string_of hash ps = text_token hash (quoted (spelled (without_placemarkers ps)))

-- a byte in the string of a file's name: as itself, after a backslash, or as three octal digits
abbrev pub octal : ℕ → List ℕ
octal b = BACKSLASH ∷ (48 + b / 64) ∷ (48 + b / 8 % 8) ∷ (48 + b % 8) ∷ []

abbrev pub literal_byte : ℕ → List ℕ
literal_byte b =
    if (b == QUOTE) || (b == BACKSLASH) || (b == 63) then BACKSLASH ∷ b ∷ []
    else if nat_lt 31 b && nat_lt b 127 then b ∷ [] else octal b

-- the token that `__FILE__` stands for
abbrev pub file_token : PpToken → List ℕ → Painted
file_token t name = text_token t (quoted (flat_map literal_byte name))

-- the token that `__LINE__` stands for
abbrev pub line_token : PpToken → ℕ → Painted
line_token t line = fresh (record t { kind = Number; spelling = decimal line })
