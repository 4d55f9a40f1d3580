-- When the arguments of a call are typed, and fit the parameters of what is called (ISO/IEC 9899:2024, 6.5.3.3).
use Rattle.std.specs.Prelude.{ℕ, suc, Bool, true, ◌&&◌, List}
use Rattle.model_types.specs.Types.{Types, no_types, more_types}
use Rattle.model_types.specs.Structures.{Structure}
use Rattle.model_core.specs.CoreTypes.{type_of}
use Rattle.model_core.specs.SameTypes.{same_value_type}
use Rattle.model_core.specs.TypedParts.{is_extra}
use Rattle.model_core.specs.TypedExpr.{form_of}
use Rattle.model_core.specs.Core as unit
use Rattle.model_checking.specs.CallRules.{behind}
use Rattle.typed_rule_laws.specs.TypedMeanings.{is_typed_value}

abbrev pub exprs_count : unit.Exprs → ℕ
exprs_count unit.no_exprs = 0
exprs_count (unit.more_exprs first others) = suc (exprs_count others)

abbrev pub are_typed_values : List Structure → unit.Exprs → Bool
are_typed_values structs unit.no_exprs = true
are_typed_values structs (unit.more_exprs first others) = is_typed_value structs first && are_typed_values structs others

-- an argument is of the type of its parameter; behind the parameters it is promoted
abbrev pub argument_fits : Types → unit.Expr → Bool
argument_fits no_types e = is_extra (form_of e)
argument_fits (more_types type types) e = same_value_type type (type_of e)

-- arguments for these parameters, as far as there are both
abbrev pub arguments_fit : Types → unit.Exprs → Bool
arguments_fit parameters unit.no_exprs = true
arguments_fit parameters (unit.more_exprs first others) = argument_fits parameters first && arguments_fit (behind parameters) others
