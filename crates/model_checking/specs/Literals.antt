-- Constants and strings (ISO/IEC 9899:2024, 6.4.4, 6.4.5, 6.5.2).
use Rattle.std.specs.Prelude.{ℕ, ℤ, pos, ◌+◌, Bool, true, false, List, [], ◌∷◌, ◌++◌, length, Option, Some, None}
use Rattle.model_types.specs.declared.numbers.Basic.{Basic}
use Rattle.model_types.specs.declared.numbers.Basic.TheVariants.{Bool as bool, Char}
use Rattle.model_types.specs.declared.marks.Mark.{Mark}
use Rattle.model_types.specs.Operations.{truth}
use Rattle.model_types.specs.Types.{CType, Array}
use Rattle.model_core.specs.CoreTypes.{plain}
use Rattle.model_core.specs.BuiltinTypes.{void_pointer}
use Rattle.model_core.specs.Core as unit
use Rattle.model_scopes.specs.Scopes.{drawn}
use Rattle.model_checking.specs.State.{Use, Evaluated, Unevaluated, State, Made, Answer, gives}
use Rattle.model_checking.specs.Meanings.{Meaning, a_place, a_value}
use Rattle.model_checking.specs.MadeCore.{constant, integer_type}

-- an integer or character constant
abbrev pub number : ℤ → Basic → Mark → Meaning
number value basic mark = a_value (constant value (integer_type basic) mark)

-- `true` and `false`
abbrev pub truth_value : Bool → Mark → Meaning
truth_value value mark = number (truth value) bool mark

-- `nullptr`
abbrev pub null_pointer : Mark → Meaning
null_pointer mark = a_value (constant (pos 0) void_pointer mark)

-- ---- strings

abbrev pub is_evaluated : Use → Bool
is_evaluated Evaluated = true
is_evaluated Unevaluated = false

-- an array of char with a zero behind the bytes
abbrev pub text_type : (bytes : List ℕ) → CType
text_type bytes = plain (Array (integer_type Char) (Some (length bytes + 1)))

abbrev pub text_made : Use → (id : ℕ) → (bytes : List ℕ) → Mark → Made
text_made usage id bytes mark = record {
  id = id;
  type = text_type bytes;
  place = mark.at;
  text = Some bytes;
  values = None;
  is_evaluated = is_evaluated usage;
}

-- an object without a name that isn't that of a string
abbrev pub made_object : Use → (id : ℕ) → Mark → CType → (values : Option unit.Initials) → Made
made_object usage id mark type values =
    record { id = id; type = type; place = mark.at; text = None; values = values; is_evaluated = is_evaluated usage }

-- the state with one more object that was made
abbrev pub with_made : Made → State → State
with_made made s = record s { scopes = drawn s.scopes; made = s.made ++ made ∷ [] }

-- the automatic objects of a block are those that are evaluated in it
abbrev pub with_automatic : Use → (id : ℕ) → State → State
with_automatic Evaluated id s = record s { automatic = s.automatic ++ id ∷ [] }
with_automatic Unevaluated id s = s

-- a string literal is an object of its own
abbrev pub text : Use → (bytes : List ℕ) → Mark → State → Answer Meaning
text usage bytes mark s =
    gives (a_place (unit.Object s.scopes.ids (text_type bytes) mark) None) (with_made (text_made usage s.scopes.ids bytes mark) s)
