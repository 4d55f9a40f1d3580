-- What expressions that no other holds break (ISO/IEC 9899:2024, 6.8.2 to 6.8.7): values that are dropped or returned,
-- conditions, and values of `switch` and of `case`; and what jumps, labels and `defer` break by where they stand.
use Rattle.std.specs.Ordering.{int_eq}
use Rattle.std.specs.Prelude.{ℤ, Bool, true, false, ◌&&◌, ◌||◌, not}
use Rattle.std.specs.List.{list_any}
use Rattle.cake_base.specs.declared.places.Place.{Place}
use Rattle.model_types.specs.Operations.{convert}
use Rattle.model_types.specs.Types.{CType}
use Rattle.model_core.specs.CoreTypes.{is_void}
use Rattle.model_core.specs.SameTypes.{is_integer}
use Rattle.model_core.specs.TypedExpr.{form_of}
use Rattle.model_core.specs.TypedParts.{is_scalar}
use Rattle.model_grammar.specs.SyntaxForms as syntax
use Rattle.c_tree.specs.SyntaxPlaces.{expr_first}
use Rattle.model_checking.specs.Elaborated.{expr}
use Rattle.model_checking.specs.FullExpressions.{Labels}
use Rattle.model_checking.specs.Reading.{as_operand, as_constant}
use Rattle.model_checking.specs.State.{Use, State}
use Rattle.model_checking.specs.Surroundings.{Way, Nowhere, Outside, Within, Surroundings}
use Rattle.model_constraints.specs.Pairs.{Pairs, At, Beside, Needs}
use Rattle.model_constraints.specs.BrokenValues.{broken_use, broken_reading, broken_giving}
use Rattle.model_constraints.specs.BrokenParts.{broken_expr, wanted_constant}

-- a value that isn't used
abbrev pub broken_dropped : Use → State → syntax.Expr → Pairs
broken_dropped u s e = Needs (as_operand e (expr u s e)) (broken_expr u s e) (λ o s. broken_reading s.scopes.structs o)

-- C46 at its first token: a condition is a scalar
abbrev pub broken_condition : Use → State → syntax.Expr → Pairs
broken_condition u s e =
    Needs (as_operand e (expr u s e)) (broken_expr u s e) (λ o s.
    Beside (broken_use s.scopes.structs o) (At o.first 46 (not (is_scalar (form_of o.value)))))

-- and a value of `switch` an integer
abbrev pub broken_switch_value : Use → State → syntax.Expr → Pairs
broken_switch_value u s e =
    Needs (as_operand e (expr u s e)) (broken_expr u s e) (λ o s.
    Beside (broken_use s.scopes.structs o) (At o.first 46 (not (is_integer (form_of o.value)))))

abbrev pub broken_returned : Use → (result : CType) → State → syntax.Expr → Pairs
broken_returned u result s e = Needs (as_operand e (expr u s e)) (broken_expr u s e) (λ o s. broken_giving s.scopes.structs result o)

-- ---- labels of a switch

-- a label has the value already, in the promoted type of the switch's value
abbrev is_repeated : Labels → ℤ → Bool
is_repeated labels value = list_any (λ other. int_eq other (convert labels.basic value)) labels.values

-- C41 at the first token
abbrev pub broken_case_value : Use → Labels → State → syntax.Expr → Pairs
broken_case_value u labels s e =
    Needs (as_constant e (expr u s e)) (wanted_constant (broken_expr u s e) (as_operand e (expr u s e))) (λ value s.
    At (expr_first e) 41 (is_repeated labels value))

-- C41 of a second `default`
abbrev pub broken_default : Labels → Place → Pairs
broken_default labels place = At place 41 labels.has_default

-- C40: a label that no switch's body holds
abbrev pub broken_label : Place → Pairs
broken_label place = At place 40 true

-- ---- jumps and `defer`

abbrev leads_nowhere : Way → Bool
leads_nowhere Nowhere = true
leads_nowhere Outside = false
leads_nowhere Within = false

abbrev leads_outside : Way → Bool
leads_outside Nowhere = false
leads_outside Outside = true
leads_outside Within = false

-- C42, where there is nothing that `break` or `continue` could lead to; C44, where it would leave a deferred statement
abbrev pub broken_jump : Way → Place → Pairs
broken_jump way place = Beside (At place 42 (leads_nowhere way)) (At place 44 (leads_outside way))

-- C44 of `return`; C45: a value where there is no result, or none where there is one
abbrev pub broken_return : Surroundings → (has_value : Bool) → Place → Pairs
broken_return a has_value place =
    Beside (At place 44 a.is_deferred)
    (At place 45 (has_value && is_void a.result || not has_value && not (is_void a.result)))

-- C43: a statement of a switch's body is deferred
abbrev pub broken_defer : Place → Pairs
broken_defer place = At place 43 true
