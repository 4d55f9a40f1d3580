-- What a line other than a conditional's or an include does in a group that is translated.
use Rattle.std.specs.Prelude.{ℕ, if◌then◌else◌, List, [], ◌∷◌, Option, Some, None}
use Rattle.model_preprocessing.specs.declared.directives.LineKind.{LineKind}
use Rattle.model_preprocessing.specs.declared.directives.LineKind.TheVariants as line
use Rattle.model_tokens.specs.PpTokens.{PpToken}
use Rattle.model_macros.specs.MacroDefinitions.{is_name}
use Rattle.model_preprocessing.specs.Directives.{Part}
use Rattle.model_preprocessing.specs.Processes.{Process, gives}
use Rattle.model_preprocessing.specs.Sources.{State, here, faults}
use Rattle.model_preprocessing.specs.ControlLines.{text_run, define_line, undef_line, noted, error_line, pragma_line}

-- the macro name that has to follow on a line, if it does
abbrev pub name_of : List PpToken → Option (List ℕ)
name_of [] = None
name_of (t ∷ ts) = if is_name t then Some t.spelling else None

-- the lines that conditionals and includes are do nothing here
abbrev pub control_of : (file : ℕ) → LineKind → Part → State → Process State
control_of file line.Text p s = text_run p s
control_of file line.Embed p s = faults s (here s p.at) 20
control_of file line.Define p s = define_line p s
control_of file line.Undef p s = undef_line p s
control_of file line.Error p s = error_line p s
control_of file line.Warning p s = gives (noted p s)
control_of file line.Pragma p s = pragma_line file p s
control_of file line.Unknown p s = faults s (here s p.at) 16
control_of file line.If p s = gives s
control_of file line.Ifdef p s = gives s
control_of file line.Ifndef p s = gives s
control_of file line.Elif p s = gives s
control_of file line.Elifdef p s = gives s
control_of file line.Elifndef p s = gives s
control_of file line.Else p s = gives s
control_of file line.Endif p s = gives s
control_of file line.Include p s = gives s
control_of file line.Line p s = gives s
control_of file line.Null p s = gives s
