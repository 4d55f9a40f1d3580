-- The first tokens of the parts of a unit, at which rules stand.
use Rattle.std.specs.Prelude.{List, [], ◌∷◌, Option, Some, None}
use Rattle.cake_base.specs.declared.places.Place.{Place}
use Rattle.model_types.specs.declared.operators.StepSide.{StepSide}
use Rattle.model_types.specs.declared.operators.StepSide.TheVariants.{Prefix, Postfix}
use Rattle.model_grammar.specs.declared.syntax.Pointer.{Pointer}
use Rattle.model_grammar.specs.SyntaxForms as syntax

-- an expression without the parentheses round it
abbrev pub bare : syntax.Expr → syntax.Expr
bare (syntax.Parenthesized inner place) = bare inner
bare expr = expr

-- of `++` or `--` and its operand, what stands first
abbrev pub step_first : StepSide → (operand op : Place) → Place
step_first Prefix operand op = op
step_first Postfix operand op = operand

-- the first token of an expression, a parenthesis round it counted
abbrev pub expr_first : syntax.Expr → Place
expr_first (syntax.Identifier name) = name.place
expr_first (syntax.Constant value basic place) = place
expr_first (syntax.Text bytes place) = place
expr_first (syntax.Truth value place) = place
expr_first (syntax.Nullptr place) = place
expr_first (syntax.Parenthesized inner place) = place
expr_first (syntax.CompoundLiteral name values place) = place
expr_first (syntax.FunctionLiteral name body place) = place
expr_first (syntax.Index array index place) = expr_first array
expr_first (syntax.Call function arguments place) = expr_first function
expr_first (syntax.Member structure member place) = expr_first structure
expr_first (syntax.Arrow pointer member place) = expr_first pointer
expr_first (syntax.Step op side operand place) = step_first side (expr_first operand) place
expr_first (syntax.Unary op operand place) = place
expr_first (syntax.SizeofExpr operand place) = place
expr_first (syntax.SizeofType name place) = place
expr_first (syntax.Alignof name place) = place
expr_first (syntax.Cast name operand place) = place
expr_first (syntax.Binary op left right place) = expr_first left
expr_first (syntax.Logic op left right place) = expr_first left
expr_first (syntax.Conditional condition first second place) = expr_first condition
expr_first (syntax.Assign left right place) = expr_first left
expr_first (syntax.AssignBy op left right place) = expr_first left
expr_first (syntax.Comma first second place) = expr_first first

-- the first token of an initializer
abbrev pub initializer_first : syntax.Initializer → Place
initializer_first (syntax.Single value) = expr_first value
initializer_first (syntax.Braced (syntax.braces items place)) = place

-- the first token of a specifier
abbrev pub spec_first : syntax.Spec → Place
spec_first (syntax.StorageSpec word place) = place
spec_first (syntax.FunctionSpec word place) = place
spec_first (syntax.TypeSpec word place) = place
spec_first (syntax.QualifierSpec qualifier) = qualifier.place
spec_first (syntax.StructTag tag place) = place
spec_first (syntax.Struct tag _ place) = place
spec_first (syntax.EnumTag tag fixed place) = place
spec_first (syntax.Enum tag fixed _ place) = place
spec_first (syntax.TypedefName name) = name.place
spec_first (syntax.TypeofExpr word operand place) = place
spec_first (syntax.TypeofType word name place) = place

-- the first token of specifiers, and so of a type name
abbrev pub specs_first : syntax.Specs → Option Place
specs_first syntax.no_specs = None
specs_first (syntax.more_specs first others) = Some (spec_first first)

abbrev pub type_name_first : syntax.TypeName → Option Place
type_name_first (syntax.type_name specs declarator) = specs_first specs

-- the first `*`, and else what stands behind
abbrev pub star_or : List Pointer → Option Place → Option Place
star_or [] behind = behind
star_or (first ∷ others) behind = Some first.star

abbrev pub suffixes_first : syntax.Suffixes → Option Place
suffixes_first syntax.no_suffixes = None
suffixes_first (syntax.more_suffixes (syntax.ArraySuffix length place) others) = Some place
suffixes_first (syntax.more_suffixes (syntax.FunctionSuffix _ is_variadic place) others) = Some place

-- the first token of a declarator; none where it has no token
abbrev pub declarator_first : syntax.Declarator → Option Place
declarator_first (syntax.Named pointers name _) = star_or pointers (Some name.place)
declarator_first (syntax.Unnamed pointers suffixes) = star_or pointers (suffixes_first suffixes)
declarator_first (syntax.Grouped pointers inner _ place) = star_or pointers (Some place)
