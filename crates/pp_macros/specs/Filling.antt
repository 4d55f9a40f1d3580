-- A replacement list, put together token by token.
use Rattle.std.specs.Prelude.{true, false, [], ◌∷◌, Option, Some, None}
use Rattle.model_macros.specs.declared.macros.Role.{Role}
use Rattle.model_macros.specs.declared.macros.Role.TheVariants.{Plain, Paste, Replaced, Written, Quoted, Operand, Optional, QuotedOptional, OptionalOperand, Open, Close, File, Line}
use Rattle.model_tokens.specs.PpTokens.{PpToken}
use Rattle.model_macros.specs.MacroArguments.{Run}
use Rattle.model_macros.specs.Pasting.{fresh, headed, or_placemarker, string_of, file_token, line_token}
use Rattle.model_macros.specs.Substitution as spec
use Rattle.pp_macros.specs.declared.substitution.Source.{Source}

-- what the code reads from, as the definition has it
abbrev pub source_of : Source → spec.Source
source_of s = record { args = s.args.now; varies = s.varies; file = s.file.now; line = s.line }

-- the tokens that a token stands for, if it does
abbrev pub operand_of : spec.Source → PpToken → Role → Option Run
operand_of s t Plain = Some (fresh t ∷ [])
operand_of s t (Replaced k) = Some (headed t (spec.replaced s.args k))
operand_of s t (Written k) = Some (or_placemarker t (headed t (spec.written s.args k)))
operand_of s t (Quoted k) = Some (string_of t (spec.written s.args k) ∷ [])
operand_of s t File = Some (file_token t s.file ∷ [])
operand_of s t Line = Some (line_token t s.line ∷ [])
operand_of s t Paste = None
operand_of s t Operand = None
operand_of s t Optional = None
operand_of s t QuotedOptional = None
operand_of s t OptionalOperand = None
operand_of s t Open = None
operand_of s t Close = None

-- what comes of a token that stands for no tokens
abbrev pub operator_taken : spec.Filling → PpToken → Role → Option spec.Filling
operator_taken f t Paste = Some (record f { glued = true })
operator_taken f t Optional = Some (spec.begin_group f t false)
operator_taken f t QuotedOptional = Some (spec.begin_group f t true)
operator_taken f t Close = spec.end_group f.done f.group
operator_taken f t Plain = Some f
operator_taken f t (Replaced k) = Some f
operator_taken f t (Written k) = Some f
operator_taken f t (Quoted k) = Some f
operator_taken f t Operand = Some f
operator_taken f t OptionalOperand = Some f
operator_taken f t Open = Some f
operator_taken f t File = Some f
operator_taken f t Line = Some f
