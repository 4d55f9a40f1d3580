-- What the steps of the reading of a definition tell.
use Rattle.std.specs.Prelude.{◌≡◌, ℕ, List, [], ◌∷◌, ◌++◌, if◌then◌else◌, Option, Some, None}
use Rattle.model_macros.specs.declared.macros.Expected.{Expected}
use Rattle.model_macros.specs.declared.macros.Expected.TheVariants.{Next}
use Rattle.model_tokens.specs.PpTokens.{PpToken}
use Rattle.model_macros.specs.MacroDefinitions.{Parameters, parameters, with_name, repeated}
use Rattle.pp_definitions.specs.declared.heading.Met.{Met}
use Rattle.pp_definitions.specs.declared.heading.Met.TheVariants.{Name, Onward, End, Wrong}

-- what a token means for the parameters that it belongs to
abbrev pub Meets : Expected → PpToken → Met → Type 0
Meets e t Name = (ts : List PpToken) → parameters e (t ∷ ts) ≡ with_name t.spelling (parameters Next ts)
Meets e t (Onward f) = (ts : List PpToken) → parameters e (t ∷ ts) ≡ parameters f ts
Meets e t (End variadic) = (ts : List PpToken) → parameters e (t ∷ ts) ≡ Some (record { names = []; variadic = variadic; rest = ts })
Meets e t Wrong = (ts : List PpToken) → parameters e (t ∷ ts) ≡ None

-- the parameters after those that were read, of which none stands twice
abbrev pub after_names : List (List ℕ) → Option Parameters → Option Parameters
after_names seen None = None
after_names seen (Some p) = if repeated seen p.names then None else Some (record p { names = seen ++ p.names })
