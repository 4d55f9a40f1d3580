-- When a core is typed (ISO/IEC 9899:2024, 6.2.2, 6.7 to 6.9): its types are possible, its objects and functions are
-- typed by themselves and where they stand, no two of them have one number, no two external ones have one name, and
-- its places tell apart what a run can fail at.
use Rattle.std.specs.Prelude.{ℕ, Bool, true, false, ◌&&◌, not, List, [], ◌∷◌, ◌++◌, Option, Some, None, IsTrue}
use Rattle.std.specs.List.{list_any, list_all}
use Rattle.std.specs.Str.{bytes_eq}
use Rattle.model_types.specs.Types.{CType, Form, Function, Types, more_types, form_of_type}
use Rattle.model_types.specs.Layout.{is_complete}
use Rattle.model_core.specs.CoreTypes.{type_of, is_void, result_of_form}
use Rattle.model_core.specs.SameTypes.{same_value_type}
use Rattle.model_core.specs.PossibleTypes.{is_possible, is_sized, are_structures}
use Rattle.model_core.specs.InitialParts.{parts_fit}
use Rattle.model_core.specs.TypedScope.{Scope, with_ids, object_is, is_automatic, declares, is_usable, are_complete, expr_stands, values_stand}
use Rattle.model_core.specs.TypedUnitParts.{is_typed_object, is_typed_function, are_distinct, name_of}
use Rattle.model_core.specs.PartsIn.{PlacesTell}
use Rattle.model_core.specs.Core as unit

-- where a statement stands: what the function gives, and whether a loop or switch, or a loop, is round it
pub record Around : Type 0 where
  pub scope : Scope
  pub result : CType
  pub can_return : Bool
  pub can_break : Bool
  pub can_continue : Bool

abbrev pub in_block : List ℕ → Around → Around
in_block ids around = record around { scope = with_ids ids around.scope }

abbrev pub in_loop : Around → Around
in_loop around = record around { can_break = true; can_continue = true }

abbrev pub in_switch : List ℕ → Around → Around
in_switch ids around = record (in_block ids around) { can_break = true }

-- control doesn't leave a deferred statement
abbrev pub in_defer : Around → Around
in_defer around = record around { can_return = false; can_break = false; can_continue = false }

abbrev pub maybe_expr_stands : Scope → unit.MaybeExpr → Bool
maybe_expr_stands scope unit.no_expr = true
maybe_expr_stands scope (unit.an_expr e) = expr_stands scope e

-- a value is returned exactly where there is a result, and has its type
abbrev pub return_fits : CType → unit.MaybeExpr → Bool
return_fits result unit.no_expr = is_void result
return_fits result (unit.an_expr e) = not (is_void result) && same_value_type result (type_of e)

abbrev mutual
  pub stands : Around → unit.Stat → Bool
  stands a (unit.Evaluate e span) = expr_stands a.scope e
  stands a (unit.Start id type values mark) =
      object_is a.scope id type (unit.object_of a.scope.core.objects id) && is_automatic (unit.object_of a.scope.core.objects id)
      && is_complete a.scope.core.structs type && values_stand a.scope values && parts_fit a.scope.core.structs type values
  stands a (unit.Block objects body span) = declares a.scope objects && all_stand (in_block objects a) body
  stands a (unit.If e first second span) = expr_stands a.scope e && stands a first && maybe_stands a second
  stands a (unit.Switch e objects body span) = expr_stands a.scope e && declares a.scope objects && cases_stand (in_switch objects a) body
  stands a (unit.While e body span) = expr_stands a.scope e && stands (in_loop a) body
  stands a (unit.DoWhile body e span) = expr_stands a.scope e && stands (in_loop a) body
  stands a (unit.For first e step body span) =
      maybe_expr_stands a.scope first && maybe_expr_stands a.scope e && maybe_expr_stands a.scope step && stands (in_loop a) body
  stands a (unit.Break place) = a.can_break
  stands a (unit.Continue place) = a.can_continue
  stands a (unit.Return value place) = a.can_return && maybe_expr_stands a.scope value && return_fits a.result value
  stands a (unit.Defer body place span) = stands (in_defer a) body

  pub maybe_stands : Around → unit.MaybeStat → Bool
  maybe_stands a unit.no_stat = true
  maybe_stands a (unit.a_stat stat) = stands a stat

  pub all_stand : Around → unit.Stats → Bool
  all_stand a unit.no_stats = true
  all_stand a (unit.more_stats stat stats) = stands a stat && all_stand a stats

  pub cases_stand : Around → unit.Cases → Bool
  cases_stand a unit.no_cases = true
  cases_stand a (unit.a_case value place others) = cases_stand a others
  cases_stand a (unit.a_default place others) = cases_stand a others
  cases_stand a (unit.a_stat_then stat others) = stands a stat && cases_stand a others

abbrev pub is_parameter_storage : unit.Storage → Bool
is_parameter_storage unit.Parameter = true
is_parameter_storage _ = false

abbrev pub is_parameter_of : CType → Option unit.DeclaredObject → Bool
is_parameter_of type None = false
is_parameter_of type (Some o) = is_parameter_storage o.storage && same_value_type o.type type

-- each parameter of a function is an object of the type that its form has there
abbrev pub parameters_fit : unit.Core → Types → List ℕ → Bool
parameters_fit core (more_types type types) (id ∷ ids) = is_parameter_of type (unit.object_of core.objects id) && parameters_fit core types ids
parameters_fit core types ids = true

-- what a defined function takes and gives is complete
abbrev pub parameters_stand : unit.Core → Form → List ℕ → Bool
parameters_stand core (Function result parameters is_variadic) ids =
    is_usable core.structs result && are_complete core.structs parameters && parameters_fit core parameters ids
parameters_stand core form ids = false

abbrev pub body_stands : unit.Core → unit.Function → unit.MaybeStat → Bool
body_stands core g unit.no_stat = true
body_stands core g (unit.a_stat body) =
    parameters_stand core (form_of_type g.type) g.parameters && stands (record {
      scope = with_ids g.parameters (record { core = core; ids = [] });
      result = result_of_form (form_of_type g.type);
      can_return = true;
      can_break = false;
      can_continue = false;
    }) body

abbrev pub function_fits : unit.Core → unit.Function → Bool
function_fits core g = is_typed_function g && is_possible core.structs g.type && body_stands core g g.body

-- what is defined is complete and not too large, and the values of static objects are for their parts
abbrev pub storage_stands : unit.Core → CType → unit.Storage → Bool
storage_stands core type (unit.Static values) =
    is_sized core.structs type && values_stand (record { core = core; ids = [] }) values && parts_fit core.structs type values
storage_stands core type unit.Declared = true
storage_stands core type _ = is_sized core.structs type

abbrev pub object_fits : unit.Core → unit.DeclaredObject → Bool
object_fits core o = is_typed_object o && is_possible core.structs o.type && storage_stands core o.type o.storage

abbrev pub object_ids : List unit.DeclaredObject → List ℕ
object_ids [] = []
object_ids (o ∷ os) = o.id ∷ object_ids os

abbrev pub function_ids : List unit.Function → List ℕ
function_ids [] = []
function_ids (g ∷ gs) = g.id ∷ function_ids gs

abbrev pub named_if : Bool → Option (List ℕ) → List (List ℕ)
named_if true (Some name) = name ∷ []
named_if _ _ = []

-- the external names of functions and of objects
abbrev pub external_functions : List unit.Function → List (List ℕ)
external_functions [] = []
external_functions (g ∷ gs) = named_if g.is_external (name_of g.name) ++ external_functions gs

abbrev pub external_objects : List unit.DeclaredObject → List (List ℕ)
external_objects [] = []
external_objects (o ∷ os) = named_if o.is_external o.name ++ external_objects os

-- no two are the same
abbrev pub are_distinct_names : List (List ℕ) → Bool
are_distinct_names [] = true
are_distinct_names (name ∷ names) = not (list_any (λ other. bytes_eq other name) names) && are_distinct_names names

abbrev pub is_typed_core : unit.Core → Bool
is_typed_core core =
    are_structures core.structs
    && list_all (λ named. is_possible core.structs named.1) core.named_types
    && list_all (function_fits core) core.functions
    && list_all (object_fits core) core.objects
    && are_distinct (object_ids core.objects ++ function_ids core.functions)
    && are_distinct_names (external_functions core.functions ++ external_objects core.objects)

-- a core is typed where its parts are, and its places tell apart what a run can fail at
pub record TypedCore (core : unit.Core) : Type 0 where
  pub parts : IsTrue (is_typed_core core)
  pub places : PlacesTell core
