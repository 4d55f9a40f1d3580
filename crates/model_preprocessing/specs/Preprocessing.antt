-- Preprocessing of the lines of a file in turn (ISO/IEC 9899:2024, 6.10).
use Rattle.std.specs.Prelude.{ℕ, if◌then◌else◌, List, [], ◌∷◌, Option, Some, None}
use Rattle.cake_base.specs.declared.places.Place.{Place}
use Rattle.model_preprocessing.specs.declared.directives.LineKind.{LineKind}
use Rattle.model_preprocessing.specs.declared.directives.LineKind.TheVariants as line
use Rattle.model_preprocessing.specs.Directives.{Part}
use Rattle.model_preprocessing.specs.Conditionals.{Conditionals, is_translated, outermost}
use Rattle.model_preprocessing.specs.Processes.{Process, gives, and_then}
use Rattle.model_preprocessing.specs.Sources.{State, here, faults}
use Rattle.model_preprocessing.specs.ControlLines.{text_run, define_line, undef_line, noted, error_line, pragma_line}
use Rattle.model_preprocessing.specs.ConditionalLines.{Lines, begins, goes_on, else_line, endif_line, expression_holds, name_is_defined, name_is_undefined}

-- What a line other than a conditional's does, in a group that is translated.
abbrev pub on : Conditionals → Process State → Process Lines
on opens process = and_then process (λ s. gives (opens, s))

abbrev pub translated_only : Conditionals → State → Process State → Process Lines
translated_only opens s process = if is_translated opens then on opens process else gives (opens, s)

-- the lines of the file of this number, where this is what an include does
abbrev pub line_of : (file : ℕ) → (Part → State → Process State) → LineKind → Part → Conditionals → State → Process Lines
line_of file include line.If p opens s = begins p (expression_holds p) opens s
line_of file include line.Ifdef p opens s = begins p (name_is_defined p) opens s
line_of file include line.Ifndef p opens s = begins p (name_is_undefined p) opens s
line_of file include line.Elif p opens s = goes_on p (expression_holds p) opens s
line_of file include line.Elifdef p opens s = goes_on p (name_is_defined p) opens s
line_of file include line.Elifndef p opens s = goes_on p (name_is_undefined p) opens s
line_of file include line.Else p opens s = else_line p opens s
line_of file include line.Endif p opens s = endif_line p opens s
line_of file include line.Text p opens s = translated_only opens s (text_run p s)
line_of file include line.Include p opens s = translated_only opens s (include p s)
line_of file include line.Embed p opens s = translated_only opens s (faults s (here s p.at) 20)
line_of file include line.Define p opens s = translated_only opens s (define_line p s)
line_of file include line.Undef p opens s = translated_only opens s (undef_line p s)
line_of file include line.Line p opens s = gives (opens, s)
line_of file include line.Error p opens s = translated_only opens s (error_line p s)
line_of file include line.Warning p opens s = translated_only opens s (gives (noted p s))
line_of file include line.Pragma p opens s = translated_only opens s (pragma_line file p s)
line_of file include line.Null p opens s = gives (opens, s)
line_of file include line.Unknown p opens s = translated_only opens s (faults s (here s p.at) 16)

-- at the end of a file
abbrev pub ended : State → Option Place → Process State
ended s None = gives s
ended s (Some at) = faults s at 13

-- the lines of a file in turn; then no conditional may be open
abbrev pub all_lines : (file : ℕ) → (Part → State → Process State) → List Part → Conditionals → State → Process State
all_lines file include [] opens s = ended s (outermost opens)
all_lines file include (p ∷ ps) opens s = and_then (line_of file include p.kind p opens s) (λ v. all_lines file include ps v.0 v.1)
