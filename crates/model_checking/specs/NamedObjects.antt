-- Names in expressions (ISO/IEC 9899:2024, 6.5.2): what they are declared as.
use Rattle.std.specs.Prelude.{ℕ, ℤ, true, false, ◌&&◌, not, Option, Some, None}
use Rattle.std.specs.Option.{option_map}
use Rattle.model_types.specs.declared.marks.Mark.{Mark}
use Rattle.model_scopes.specs.declared.declarations.Kind.{Kind}
use Rattle.model_scopes.specs.declared.declarations.Kind.TheVariants.{Object, Function, TypeName, Enumerator, Tag}
use Rattle.model_scopes.specs.Declarations.{Value, Declaration}
use Rattle.model_scopes.specs.Scopes.{Declared}
use Rattle.model_scopes.specs.Binding.{look, declared_as, is_surrounding}
use Rattle.model_scopes.specs.NotedUses.{note_use}
use Rattle.model_grammar.specs.declared.syntax.Name.{Name}
use Rattle.model_core.specs.Core as unit
use Rattle.model_checking.specs.State.{Use, Evaluated, Unevaluated, State, Answer, gives, breaks, unless, in_scopes}
use Rattle.model_checking.specs.Meanings.{Meaning, a_place, a_value, a_function}
use Rattle.model_checking.specs.Faults.{wants}
use Rattle.model_checking.specs.MadeCore.{constant}

abbrev pub value_part : Value → ℤ
value_part v = v.value

-- an object; C26: in a function literal an automatic one of its surroundings
abbrev pub named_object : (id : ℕ) → Declaration → Mark → State → Answer Meaning
named_object id d mark s =
    unless (wants (not (d.automatic && is_surrounding id s.scopes)) mark.at 26)
    (gives (a_place (unit.Object id d.ty mark) (option_map value_part d.value)) s)

-- a function; its use counts for C08 where it is evaluated
abbrev pub named_function : Use → (id : ℕ) → Declaration → Mark → State → Answer Meaning
named_function Evaluated id d mark s = gives (a_function id d.ty true mark) (in_scopes (note_use id mark.at s.scopes) s)
named_function Unevaluated id d mark s = gives (a_function id d.ty true mark) s

abbrev pub named_enumerator : Declaration → Mark → Option Value → State → Answer Meaning
named_enumerator d mark (Some v) s = gives (a_value (constant v.value d.ty mark)) s
named_enumerator d mark None s = breaks mark.at 5

-- by what it is declared as; the name of a type is no expression
abbrev pub named_as : Use → Kind → (id : ℕ) → Declaration → Mark → State → Answer Meaning
named_as usage Object id d mark s = named_object id d mark s
named_as usage Function id d mark s = named_function usage id d mark s
named_as usage Enumerator id d mark s = named_enumerator d mark d.value s
named_as usage TypeName id d mark s = breaks mark.at 5
named_as usage Tag id d mark s = breaks mark.at 5

abbrev pub named_by : Use → Option ℕ → Option Declared → Mark → State → Answer Meaning
named_by usage (Some id) (Some d) mark s = named_as usage d.latest.kind id d.latest mark s
named_by usage (Some id) None mark s = breaks mark.at 5
named_by usage None d mark s = breaks mark.at 5

-- the innermost declaration of the name; C05 where there is none
abbrev pub named : Use → Name → Mark → State → Answer Meaning
named usage name mark s =
    named_by usage (look false name.text s.scopes) (declared_as (look false name.text s.scopes) s.scopes) mark s
