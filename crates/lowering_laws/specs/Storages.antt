-- Objects that the source can name: all but those of strings.
use Rattle.model_core.specs.Core.{Storage, Automatic, Parameter, Static, Declared, Text}

abbrev pub IsNoText : Storage → Type 0
IsNoText Automatic = Unit {0}
IsNoText Parameter = Unit {0}
IsNoText (Static values) = Unit {0}
IsNoText Declared = Unit {0}
IsNoText (Text bytes) = ⊥
