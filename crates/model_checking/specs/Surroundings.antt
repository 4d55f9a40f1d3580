-- What a statement stands in: its function, and where jumps lead (ISO/IEC 9899:2024, 6.8.7), also out of deferred
-- statements (this profile's own).
use Rattle.std.specs.Prelude.{Bool, true, false, if◌then◌else◌, Option, Some, None}
use Rattle.cake_base.specs.declared.places.Place.{Place}
use Rattle.cake_base.specs.declared.rules.Fault.{Fault}
use Rattle.model_types.specs.Types.{CType}
use Rattle.model_core.specs.CoreTypes.{is_void}
use Rattle.model_scopes.specs.DeclarationRules.{constraint_at}
use Rattle.model_checking.specs.State.{Use}

-- where a jump leads: there is nothing round it that it could lead to; it would leave a deferred statement; or it stays
-- within that
pub data Way : Type 0 where
  Nowhere : Way
  Outside : Way
  Within : Way

-- whether the function is evaluated, what it gives, whether a deferred statement is round the statement, and where
-- `break` and `continue` lead
pub record Surroundings : Type 0 where
  pub evaluation : Use
  pub result : CType
  pub is_deferred : Bool
  pub breaks : Way
  pub continues : Way

abbrev pub in_function : Use → (result : CType) → Surroundings
in_function u result = record { evaluation = u; result = result; is_deferred = false; breaks = Nowhere; continues = Nowhere }

abbrev pub in_loop : Surroundings → Surroundings
in_loop a = record a { breaks = Within; continues = Within }

abbrev pub in_switch : Surroundings → Surroundings
in_switch a = record a { breaks = Within }

abbrev from_outside : Way → Way
from_outside Nowhere = Nowhere
from_outside Outside = Outside
from_outside Within = Outside

abbrev pub in_defer : Surroundings → Surroundings
in_defer a = record a { is_deferred = true; breaks = from_outside a.breaks; continues = from_outside a.continues }

-- C42, C44
abbrev pub jump_fault : Way → Place → Option Fault
jump_fault Nowhere place = Some (constraint_at place 42)
jump_fault Outside place = Some (constraint_at place 44)
jump_fault Within place = None

-- C45: a value where there is no result, or none where there is one
abbrev result_fault : (has_result has_value : Bool) → Place → Option Fault
result_fault true true place = None
result_fault true false place = Some (constraint_at place 45)
result_fault false true place = Some (constraint_at place 45)
result_fault false false place = None

-- C44 of `return`, then C45
abbrev pub return_fault : Surroundings → (has_value : Bool) → Place → Option Fault
return_fault a has_value place =
    if a.is_deferred then Some (constraint_at place 44) else result_fault (if is_void a.result then false else true) has_value place
