-- What a translation unit means (ISO/IEC 9899:2024, 6.9): its core, or the first constraint that it breaks in the order of
-- checking.
use Rattle.std.specs.Prelude.{List, [], ◌∷◌, Option, Some, None, Result, Ok, Err}
use Rattle.std.specs.Option.{option_map}
use Rattle.cake_base.specs.declared.places.Place.{Place}
use Rattle.cake_base.specs.declared.rules.Fault.{Fault}
use Rattle.cake_base.specs.declared.rules.LimitHit.{LimitHit}
use Rattle.model_scopes.specs.Scopes.{file_scope}
use Rattle.model_scopes.specs.NotedUses.{unresolved}
use Rattle.model_grammar.specs.SyntaxForms as syntax
use Rattle.c_tree.specs.SyntaxDepth.{unit_depth}
use Rattle.model_core.specs.Core as unit
use Rattle.model_checking.specs.State.{State, Reached, start}
use Rattle.model_checking.specs.Reading.{Ends}
use Rattle.model_checking.specs.Bodies.{literal_bodies}
use Rattle.model_checking.specs.ExternalDefinitions.{external}
use Rattle.model_checking.specs.MadeUnit.{core_of}

abbrev behind : Reached → (State → Reached) → Reached
behind (Ok s) go = go s
behind (Err fault) go = Err fault

abbrev externals : Ends → List syntax.External → State → Reached
externals r [] s = Ok s
externals r (first ∷ others) s = behind (external r s first) (λ s. externals r others s)

-- C08, which is looked for behind all others
abbrev resolved_by : Option Fault → State → Reached
resolved_by None s = Ok s
resolved_by (Some fault) s = Err fault

abbrev resolved : State → Reached
resolved s = resolved_by (unresolved s.scopes) s

-- the state behind a unit, or its first broken constraint
abbrev pub checked : List syntax.External → Reached
checked trees = behind (externals (literal_bodies (unit_depth trees)) trees (start file_scope)) resolved

abbrev core_if : Reached → Result unit.Core Fault
core_if (Ok s) = Ok (core_of s)
core_if (Err fault) = Err fault

abbrev pub elab_unit : List syntax.External → Result unit.Core Fault
elab_unit externals = core_if (checked externals)

abbrev too_many_values : Place → LimitHit
too_many_values place = record { place = place; limit = record { number = 7 } }

abbrev limit_in : Reached → Option LimitHit
limit_in (Ok s) = option_map too_many_values s.limit
limit_in (Err fault) = None

-- the first object whose initial values are too many, where no constraint is broken
abbrev pub limit_of : List syntax.External → Option LimitHit
limit_of externals = limit_in (checked externals)
