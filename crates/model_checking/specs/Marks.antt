-- Where the expressions of a core stand: at their operator, name, constant, `(` or `[`, with their first tokens.
use Rattle.cake_base.specs.declared.places.Place.{Place}
use Rattle.model_types.specs.declared.marks.Mark.{Mark}
use Rattle.model_grammar.specs.SyntaxForms as syntax
use Rattle.c_tree.specs.SyntaxPlaces.{bare, expr_first}
use Rattle.model_core.specs.Core as unit
use Rattle.model_checking.specs.Meanings.{Meaning, a_place, a_value, a_function, a_target}

abbrev pub expr_at : syntax.Expr → Place
expr_at (syntax.Identifier name) = name.place
expr_at (syntax.Constant value basic place) = place
expr_at (syntax.Text bytes place) = place
expr_at (syntax.Truth value place) = place
expr_at (syntax.Nullptr place) = place
expr_at (syntax.Parenthesized inner place) = expr_at inner
expr_at (syntax.CompoundLiteral name values place) = place
expr_at (syntax.FunctionLiteral name body place) = place
expr_at (syntax.Index array index place) = place
expr_at (syntax.Call function arguments place) = place
expr_at (syntax.Member structure member place) = place
expr_at (syntax.Arrow pointer member place) = place
expr_at (syntax.Step op side operand place) = place
expr_at (syntax.Unary op operand place) = place
expr_at (syntax.SizeofExpr operand place) = place
expr_at (syntax.SizeofType name place) = place
expr_at (syntax.Alignof name place) = place
expr_at (syntax.Cast name operand place) = place
expr_at (syntax.Binary op left right place) = place
expr_at (syntax.Logic op left right place) = place
expr_at (syntax.Conditional condition first second place) = place
expr_at (syntax.Assign left right place) = place
expr_at (syntax.AssignBy op left right place) = place
expr_at (syntax.Comma first second place) = place

abbrev pub mark_of : syntax.Expr → Mark
mark_of e = record { at = expr_at e; first = expr_first (bare e); outer = expr_first e }

-- ---- an expression with parentheses round it

abbrev pub from_outside : (outer : Place) → Mark → Mark
from_outside outer mark = record mark { outer = outer }

abbrev pub expr_in_parentheses : (outer : Place) → unit.Expr → unit.Expr
expr_in_parentheses p (unit.Constant value type mark) = unit.Constant value type (from_outside p mark)
expr_in_parentheses p (unit.Load object mark) = unit.Load object (from_outside p mark)
expr_in_parentheses p (unit.Address origin object mark) = unit.Address origin object (from_outside p mark)
expr_in_parentheses p (unit.FunctionRef id type by_name mark) = unit.FunctionRef id type by_name (from_outside p mark)
expr_in_parentheses p (unit.Unary op e mark) = unit.Unary op e (from_outside p mark)
expr_in_parentheses p (unit.Binary op a b mark) = unit.Binary op a b (from_outside p mark)
expr_in_parentheses p (unit.Logic op a b mark) = unit.Logic op a b (from_outside p mark)
expr_in_parentheses p (unit.Choice c a b mark) = unit.Choice c a b (from_outside p mark)
expr_in_parentheses p (unit.Convert origin type e mark) = unit.Convert origin type e (from_outside p mark)
expr_in_parentheses p (unit.Call function arguments mark) = unit.Call function arguments (from_outside p mark)
expr_in_parentheses p (unit.Assign assignment object e mark) = unit.Assign assignment object e (from_outside p mark)
expr_in_parentheses p (unit.Step op side type object mark) = unit.Step op side type object (from_outside p mark)
expr_in_parentheses p (unit.MemberValue structure rank type name mark) = unit.MemberValue structure rank type name (from_outside p mark)
expr_in_parentheses p (unit.Comma a b mark) = unit.Comma a b (from_outside p mark)

abbrev pub lvalue_in_parentheses : (outer : Place) → unit.Lvalue → unit.Lvalue
lvalue_in_parentheses p (unit.Object id type mark) = unit.Object id type (from_outside p mark)
lvalue_in_parentheses p (unit.Deref pointer mark) = unit.Deref pointer (from_outside p mark)
lvalue_in_parentheses p (unit.Index is_second a b mark) = unit.Index is_second a b (from_outside p mark)
lvalue_in_parentheses p (unit.Field structure rank type name mark) = unit.Field structure rank type name (from_outside p mark)
lvalue_in_parentheses p (unit.Arrow pointer rank type name mark) = unit.Arrow pointer rank type name (from_outside p mark)
lvalue_in_parentheses p (unit.Literal origin id type values mark) = unit.Literal origin id type values (from_outside p mark)

-- the `*` that makes a function of a pointer leaves nothing that stands anywhere
abbrev pub in_parentheses : (outer : Place) → Meaning → Meaning
in_parentheses p (a_place object known) = a_place (lvalue_in_parentheses p object) known
in_parentheses p (a_value value) = a_value (expr_in_parentheses p value)
in_parentheses p (a_function id type by_name mark) = a_function id type by_name (from_outside p mark)
in_parentheses p (a_target pointer) = a_target pointer
