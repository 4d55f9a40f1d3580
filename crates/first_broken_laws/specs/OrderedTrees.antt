-- The trees that the laws of whole expressions are about: those whose tokens stand in the order of the source, as the grammar
-- (ISO/IEC 9899:2024, 6.5) reads them. Not among them are trees with type names, literals of functions and objects, calls,
-- assignments and `?:`.
use Rattle.std.specs.Prelude.{nat_lt, Bool, true, false, ◌&&◌}
use Rattle.cake_base.specs.declared.places.Place.{Place}
use Rattle.model_types.specs.declared.operators.StepSide.{StepSide}
use Rattle.model_types.specs.declared.operators.StepSide.TheVariants.{Prefix, Postfix}
use Rattle.model_grammar.specs.SyntaxForms as syntax
use Rattle.c_tree.specs.SyntaxPlaces.{expr_first}

abbrev pub stands_before : Place → Place → Bool
stands_before a b = nat_lt a.order b.order

-- `++` or `--` stands before its operand or behind it
abbrev pub is_step_in_order : StepSide → (operand at : Place) → Bool
is_step_in_order Prefix operand at = stands_before at operand
is_step_in_order Postfix operand at = stands_before operand at

-- an operator between two operands
abbrev pub is_between : (at left right : Place) → Bool
is_between at left right = stands_before left at && stands_before at right

abbrev pub is_in_order : syntax.Expr → Bool
is_in_order (syntax.Identifier name) = true
is_in_order (syntax.Constant value basic place) = true
is_in_order (syntax.Text bytes place) = true
is_in_order (syntax.Truth value place) = true
is_in_order (syntax.Nullptr place) = true
is_in_order (syntax.Parenthesized inner place) = stands_before place (expr_first inner) && is_in_order inner
is_in_order (syntax.Index array at place) = is_between place (expr_first array) (expr_first at) && (is_in_order array && is_in_order at)
is_in_order (syntax.Member structure name place) =
    stands_before (expr_first structure) place && (stands_before place name.place && is_in_order structure)
is_in_order (syntax.Arrow pointer name place) =
    stands_before (expr_first pointer) place && (stands_before place name.place && is_in_order pointer)
is_in_order (syntax.Step op side object place) = is_step_in_order side (expr_first object) place && is_in_order object
is_in_order (syntax.Unary op e place) = stands_before place (expr_first e) && is_in_order e
is_in_order (syntax.SizeofExpr e place) = stands_before place (expr_first e) && is_in_order e
is_in_order (syntax.Binary op left right place) = is_between place (expr_first left) (expr_first right) && (is_in_order left && is_in_order right)
is_in_order (syntax.Logic op left right place) = is_between place (expr_first left) (expr_first right) && (is_in_order left && is_in_order right)
is_in_order (syntax.Comma first second place) = is_between place (expr_first first) (expr_first second) && (is_in_order first && is_in_order second)
is_in_order _ = false
