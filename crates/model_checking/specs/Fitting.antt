-- Each value of an initializer, converted to the type of its scalar or structure (ISO/IEC 9899:2024, 6.7.11, paragraphs 5
-- and 13): C16 and C17, and for objects of static storage C23 and C24. A string that is for a scalar is the address of its
-- object.
use Rattle.std.specs.Prelude.{ℕ, if◌then◌else◌, List, [], ◌∷◌, ◌++◌, Option, None, Result, Ok}
use Rattle.cake_base.specs.declared.places.Place.{Place}
use Rattle.cake_base.specs.declared.rules.Fault.{Fault}
use Rattle.model_types.specs.Types.{CType, form_of_type}
use Rattle.model_core.specs.TypedParts.{is_array}
use Rattle.model_core.specs.Core as unit
use Rattle.model_checking.specs.State.{unless}
use Rattle.model_checking.specs.Placing.{Content, Value, Text, Zeros, Placed, Placement, after}

-- how a value at a place is converted to a type, or what it breaks
abbrev pub Fit : Type 0
Fit = (first : Place) → CType → unit.Expr → Result unit.Expr Fault

-- a value that is fitted; what its function literals break comes behind
abbrev pub fitted_value : Placed → Option Fault → unit.Expr → Result Placed Fault
fitted_value p later value = unless later (Ok (record p { content = Value value None }))

abbrev pub fitted_content : Fit → Placed → Content → Result Placed Fault
fitted_content fit p (Value value later) = after (fit p.first p.type value) (fitted_value p later)
fitted_content fit p (Text id bytes value) =
    if is_array (form_of_type p.type) then Ok p else after (fit p.first p.type value) (fitted_value p None)
fitted_content fit p Zeros = Ok p

abbrev pub fitted_list : Fit → List Placed → Result (List Placed) Fault
fitted_list fit [] = Ok []
fitted_list fit (p ∷ ps) = after (fitted_content fit p p.content) (λ q. after (fitted_list fit ps) (λ qs. Ok (q ∷ qs)))

-- all that is placed, or the first fault: of a value, else the one that ended the placing
abbrev pub fitted : Fit → Placement → Result (List Placed) Fault
fitted fit placement = after (fitted_list fit placement.placed) (λ placed. unless placement.fault (Ok placed))

-- ---- the strings that fill arrays, of which there is no object

abbrev pub filled_by : Content → List ℕ
filled_by (Value value later) = []
filled_by (Text id bytes value) = id ∷ []
filled_by Zeros = []

-- of what is fitted
abbrev pub filling : List Placed → List ℕ
filling [] = []
filling (p ∷ ps) = filled_by p.content ++ filling ps
