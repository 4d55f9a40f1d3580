-- Expressions that no other holds (ISO/IEC 9899:2024, 6.8.1): the bodies of the function literals in them are elaborated
-- behind them. Conditions, values of `switch` and of `case`, and values that are dropped or returned (6.8.2 to 6.8.7).
use Rattle.std.specs.Prelude.{ℤ, pos, Bool, true, false, List, [], ◌∷◌, Option, Some, None}
use Rattle.std.specs.List.{list_any}
use Rattle.std.specs.Ordering.{int_eq}
use Rattle.cake_base.specs.declared.places.Place.{Place}
use Rattle.cake_base.specs.declared.rules.Fault.{Fault}
use Rattle.model_types.specs.declared.numbers.Basic.{Basic}
use Rattle.model_types.specs.Operations.{convert}
use Rattle.model_types.specs.Types.{CType}
use Rattle.model_scopes.specs.DeclarationRules.{constraint_at}
use Rattle.model_grammar.specs.SyntaxForms as syntax
use Rattle.c_tree.specs.SyntaxPlaces.{expr_first}
use Rattle.model_core.specs.CoreTypes.{basic_of}
use Rattle.model_core.specs.SameTypes.{is_integer}
use Rattle.model_core.specs.TypedParts.{is_scalar}
use Rattle.model_core.specs.TypedExpr.{form_of}
use Rattle.model_core.specs.Core as unit
use Rattle.model_checking.specs.State.{Use, State, Answer, gives, and_then, then_do, unless, with_state}
use Rattle.model_checking.specs.MadeCore.{used_fault, unread_fault, promoted_value}
use Rattle.model_checking.specs.Conversion.{passed}
use Rattle.model_checking.specs.Reading.{Ends, as_operand}
use Rattle.model_checking.specs.Elaborated.{expr, constant}

-- then what is done at its end
abbrev pub ended : {A : Type 0} → Ends → Answer A → Answer A
ended r answer = then_do answer (λ x s. and_then (r s) (λ s. gives x s))

-- a value that is not used
abbrev pub dropped : Ends → Use → State → syntax.Expr → Answer unit.Expr
dropped r u s e =
    ended r (then_do (as_operand e (expr u s e)) (λ o s. unless (unread_fault s.scopes.structs o) (gives o.value s)))

-- C46 where a form isn't the one that is wanted
abbrev form_fault : (is_wanted : Bool) → Place → Option Fault
form_fault true place = None
form_fault false place = Some (constraint_at place 46)

abbrev pub condition : Ends → Use → State → syntax.Expr → Answer unit.Expr
condition r u s e =
    ended r (then_do (as_operand e (expr u s e)) (λ o s.
    unless (used_fault s.scopes.structs o) (unless (form_fault (is_scalar (form_of o.value)) o.first) (gives o.value s))))

-- promoted
abbrev pub switch_value : Ends → Use → State → syntax.Expr → Answer unit.Expr
switch_value r u s e =
    ended r (then_do (as_operand e (expr u s e)) (λ o s.
    unless (used_fault s.scopes.structs o)
    (unless (form_fault (is_integer (form_of o.value)) o.first) (gives (promoted_value o.value) s))))

abbrev pub returned : Ends → Use → (result : CType) → State → syntax.Expr → Answer unit.Expr
returned r u result s e =
    ended r (then_do (as_operand e (expr u s e)) (λ o s. with_state (passed s.scopes.structs o.first result o.value) s))

-- ---- where an expression may be missing

abbrev pub maybe_dropped : Ends → Use → State → syntax.MaybeExpr → Answer unit.MaybeExpr
maybe_dropped r u s syntax.no_expr = gives unit.no_expr s
maybe_dropped r u s (syntax.an_expr e) = then_do (dropped r u s e) (λ value s. gives (unit.an_expr value) s)

abbrev pub maybe_condition : Ends → Use → State → syntax.MaybeExpr → Answer unit.MaybeExpr
maybe_condition r u s syntax.no_expr = gives unit.no_expr s
maybe_condition r u s (syntax.an_expr e) = then_do (condition r u s e) (λ value s. gives (unit.an_expr value) s)

-- ---- the labels of a switch

-- the promoted type of its value, and the labels so far
pub record Labels : Type 0 where
  pub basic : Basic
  pub values : List ℤ
  pub has_default : Bool

abbrev pub no_labels : (value : unit.Expr) → Labels
no_labels value = record { basic = basic_of (form_of value); values = []; has_default = false }

abbrev repeated_fault : Bool → Place → Option Fault
repeated_fault true place = Some (constraint_at place 41)
repeated_fault false place = None

abbrev value_fault : Labels → ℤ → Place → Option Fault
value_fault labels value = repeated_fault (list_any (λ other. int_eq other value) labels.values)

-- C41 of a second `default`
abbrev pub default_fault : Labels → Place → Option Fault
default_fault labels = repeated_fault labels.has_default

abbrev case_number : Option ℤ → Basic → ℤ
case_number (Some value) basic = convert basic value
case_number None basic = pos 0

-- a value, converted to the promoted type; C41
abbrev pub case_value : Ends → Use → Labels → State → syntax.Expr → Answer ℤ
case_value r u labels s e =
    ended r (then_do (constant u s (syntax.an_expr e)) (λ value s.
    unless (value_fault labels (case_number value labels.basic) (expr_first e)) (gives (case_number value labels.basic) s)))

abbrev pub with_case : ℤ → Labels → Labels
with_case value labels = record labels { values = value ∷ labels.values }

abbrev pub with_default : Labels → Labels
with_default labels = record labels { has_default = true }

-- C43: a statement of a switch's body is deferred
abbrev pub deferred_fault : syntax.Statement → Option Fault
deferred_fault (syntax.Defer body place span) = Some (constraint_at place 43)
deferred_fault _ = None
