-- What stands in the place of a macro call: its replacement list with its arguments put in
-- (ISO/IEC 9899:2024, 6.10.5.2 to 6.10.5.4).
use Rattle.std.specs.Prelude.{ℕ, Bool, true, false, ◌&&◌, ◌||◌, not, if◌then◌else◌, List, [], ◌∷◌, ◌++◌, length, map, slice_get, slice_set, Option, Some, None}
use Rattle.std.specs.Option.{option_map}
use Rattle.cake_base.specs.declared.places.Place.{Place}
use Rattle.model_macros.specs.declared.macros.Role.{Role}
use Rattle.model_macros.specs.declared.macros.Role.TheVariants.{Plain, Paste, Replaced, Written, Quoted, Operand, Optional, QuotedOptional, OptionalOperand, Open, Close, File, Line}
use Rattle.model_tokens.specs.PpTokens.{PpToken}
use Rattle.model_macros.specs.HideSets.{union}
use Rattle.model_macros.specs.Macros.{Piece, Macro, file_name}
use Rattle.model_macros.specs.ReplacementLists.{is_close}
use Rattle.model_macros.specs.MacroDefinitions.{names_of}
use Rattle.model_macros.specs.MacroArguments.{Painted, Run, is_nil}
use Rattle.model_macros.specs.Pasting.{fresh, headed, or_placemarker, without_placemarkers, pasted_runs, string_of, file_token, line_token}

-- an argument as written, and fully replaced where that was asked for
pub record Argument : Type 0 where
  pub written : Run
  pub replaced : Option Run

abbrev pub unreplaced : Run → Argument
unreplaced run = record { written = run; replaced = None }

abbrev pub written_of : Option Argument → Run
written_of None = []
written_of (Some a) = a.written

abbrev pub run_of : Option Run → Run
run_of None = []
run_of (Some run) = run

abbrev pub replaced_of : Option Argument → Run
replaced_of None = []
replaced_of (Some a) = run_of a.replaced

abbrev pub written : List Argument → ℕ → Run
written args k = written_of (slice_get args k)

abbrev pub replaced : List Argument → ℕ → Run
replaced args k = replaced_of (slice_get args k)

abbrev pub with_run : Run → Option Argument → Argument
with_run run o = record { written = written_of o; replaced = Some run }

-- the arguments, of which one is replaced now
abbrev pub with_replaced : List Argument → ℕ → Run → List Argument
with_replaced args k run = slice_set args k (with_run run (slice_get args k))

-- the rank of the variable arguments
abbrev pub variable_rank : Macro → ℕ
variable_rank m = length (names_of m.params)

-- ---- which arguments are replaced, and in which order

-- an argument that a replacement list asks for; `optional` within the text of `__VA_OPT__`
pub record Use : Type 0 where
  pub rank : ℕ
  pub optional : Bool

abbrev pub use_at : ℕ → Bool → Role → List Use
use_at last optional (Replaced k) = record { rank = k; optional = optional } ∷ []
use_at last optional Optional = record { rank = last; optional = false } ∷ []
use_at last optional QuotedOptional = record { rank = last; optional = false } ∷ []
use_at last optional Plain = []
use_at last optional Paste = []
use_at last optional (Written k) = []
use_at last optional (Quoted k) = []
use_at last optional Operand = []
use_at last optional OptionalOperand = []
use_at last optional Open = []
use_at last optional Close = []
use_at last optional File = []
use_at last optional Line = []

abbrev pub optional_after : Bool → Role → Bool
optional_after optional Open = true
optional_after optional Close = false
optional_after optional Plain = optional
optional_after optional Paste = optional
optional_after optional (Replaced k) = optional
optional_after optional (Written k) = optional
optional_after optional (Quoted k) = optional
optional_after optional Operand = optional
optional_after optional Optional = optional
optional_after optional QuotedOptional = optional
optional_after optional OptionalOperand = optional
optional_after optional File = optional
optional_after optional Line = optional

-- the uses from the left; `__VA_OPT__` asks for the variable arguments, whose rank is `last`
abbrev pub uses_from : ℕ → Bool → List Piece → List Use
uses_from last optional [] = []
uses_from last optional (p ∷ ps) = use_at last optional p.role ++ uses_from last (optional_after optional p.role) ps

abbrev pub uses : Macro → List Use
uses m = uses_from (variable_rank m) false m.body

abbrev pub waits : Option Run → Bool
waits None = true
waits (Some run) = false

abbrev pub is_unreplaced : Option Argument → Bool
is_unreplaced None = false
is_unreplaced (Some a) = waits a.replaced

-- whether the variable arguments, fully replaced, hold a token
abbrev pub varies : List Argument → ℕ → Bool
varies args last = not (is_nil (replaced args last))

-- whether a use needs its argument replaced now
abbrev pub wanted : List Argument → ℕ → Use → Bool
wanted args last u = is_unreplaced (slice_get args u.rank) && (not u.optional || varies args last)

-- ---- putting the replacement list together

-- the text of `__VA_OPT__` that is read: what stands before it, whether a `##` joins them, the token
-- that it begins with, and whether it becomes a string
pub record Group : Type 0 where
  pub done : Run
  pub glued : Bool
  pub head : PpToken
  pub quoted : Bool

-- what is put together, and whether a `##` joins what comes next
pub record Filling : Type 0 where
  pub done : Run
  pub glued : Bool
  pub group : Option Group

abbrev pub empty_filling : Filling
empty_filling = record { done = []; glued = false; group = None }

abbrev pub joined : Bool → Run → Run → Option Run
joined true done run = pasted_runs done run
joined false done run = Some (done ++ run)

-- adds an operand, unless pasting makes no single token
abbrev pub added : Option Group → Bool → Run → Run → Option Filling
added group glued done run = option_map (λ all. record { done = all; glued = false; group = group }) (joined glued done run)

abbrev pub add : Filling → Run → Option Filling
add f run = added f.group f.glued f.done run

abbrev pub begin_group : Filling → PpToken → Bool → Filling
begin_group f head quoted = record { done = []; glued = false; group = Some (record { done = f.done; glued = f.glued; head = head; quoted = quoted }) }

abbrev pub group_value : Group → Run → Run
group_value g run = if g.quoted then string_of g.head run ∷ [] else or_placemarker g.head run

abbrev pub end_group : Run → Option Group → Option Filling
end_group done None = Some (record { done = done; glued = false; group = None })
end_group done (Some g) = added None g.glued g.done (group_value g done)

-- what a replacement list is filled from: the arguments, whether the variable ones hold a token, and
-- the name and the line for `__FILE__` and `__LINE__`
pub record Source : Type 0 where
  pub args : List Argument
  pub varies : Bool
  pub file : List ℕ
  pub line : ℕ

abbrev pub filled_by : Source → Filling → PpToken → Role → Option Filling
filled_by s f t Plain = add f (fresh t ∷ [])
filled_by s f t Paste = Some (record f { glued = true })
filled_by s f t (Replaced k) = add f (headed t (replaced s.args k))
filled_by s f t (Written k) = add f (or_placemarker t (headed t (written s.args k)))
filled_by s f t (Quoted k) = add f (string_of t (written s.args k) ∷ [])
filled_by s f t Operand = Some f
filled_by s f t Optional = Some (begin_group f t false)
filled_by s f t QuotedOptional = Some (begin_group f t true)
filled_by s f t OptionalOperand = Some f
filled_by s f t Open = Some f
filled_by s f t Close = end_group f.done f.group
filled_by s f t File = add f (file_token t s.file ∷ [])
filled_by s f t Line = add f (line_token t s.line ∷ [])

abbrev pub in_group : Option Group → Bool
in_group None = false
in_group (Some g) = true

-- The text of `__VA_OPT__` is left out where the variable arguments hold no token.
abbrev pub skips : Source → Filling → Role → Bool
skips s f role = not s.varies && in_group f.group && not (is_close role)

abbrev pub filled_piece : Source → Filling → Piece → Option Filling
filled_piece s f p = if skips s f p.role then Some f else filled_by s f p.tok p.role

abbrev pub filled : Source → Option Filling → List Piece → Option Run
filled s None ps = None
filled s (Some f) [] = Some f.done
filled s (Some f) (p ∷ ps) = filled s (filled_piece s f p) ps

-- a token of a replacement stands at the macro's name, and is in its hide set too
abbrev pub paint : Place → List ℕ → Painted → Painted
paint place hides p = record { tok = record p.tok { place = place }; hides = union p.hides hides }

-- the text that comes in the place of a name
abbrev pub text_for : PpToken → List ℕ → Run → Run
text_for name hides run = map (paint name.place hides) (headed name (without_placemarkers run))

-- the text that comes in the place of a call of m, unless pasting makes no single token
abbrev pub substituted : List (ℕ × List ℕ) → PpToken → List ℕ → Macro → List Argument → Option Run
substituted files name hides m args =
    option_map (text_for name hides)
    (filled (record { args = args; varies = varies args (variable_rank m); file = file_name name.place.file files; line = name.place.line }) (Some empty_filling) m.body)
