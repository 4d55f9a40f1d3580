-- Each tree in a form is smaller than what the form makes.
use Rattle.std.specs.Prelude.{ℕ, ◌+◌, ◌≤◌, max, List, [], ◌∷◌, Option, Some, None}
use Rattle.std.proofs.Common.{arith}
use denote.Param.Weighed.{most, w_this}
use Rattle.model_grammar.specs.SyntaxForms as m
use Rattle.c_tree.specs.apparatus.SyntaxSizes as n
use Rattle.c_tree.specs.declared.syntax_expressions.ExprForm.{ExprForm}
use Rattle.c_tree.specs.declared.syntax_expressions.ExprForm.TheVariants as expr_form
use Rattle.c_tree.specs.declared.syntax_specifiers.TypeNameForm.{TypeNameForm}
use Rattle.c_tree.specs.declared.syntax_specifiers.Spec.{Spec}
use Rattle.c_tree.specs.declared.syntax_specifiers.Spec.TheVariants as spec
use Rattle.c_tree.specs.declared.syntax_specifiers.SpecsForm.{SpecsForm}
use Rattle.c_tree.specs.declared.syntax_specifiers.MemberDeclaration.{MemberDeclaration}
use Rattle.c_tree.specs.declared.syntax_specifiers.MemberDeclaration.TheVariants as member_declaration
use Rattle.c_tree.specs.declared.syntax_specifiers.Enumerator.{Enumerator}
use Rattle.c_tree.specs.declared.syntax_declarators.DeclaratorForm.{DeclaratorForm}
use Rattle.c_tree.specs.declared.syntax_declarators.DeclaratorForm.TheVariants as declarator_form
use Rattle.c_tree.specs.declared.syntax_declarators.Suffix.{Suffix}
use Rattle.c_tree.specs.declared.syntax_declarators.Suffix.TheVariants as suffix
use Rattle.c_tree.specs.declared.syntax_declarators.Parameter.{Parameter}
use Rattle.c_tree.specs.declared.syntax_initializers.InitializerForm.{InitializerForm}
use Rattle.c_tree.specs.declared.syntax_initializers.InitializerForm.TheVariants as initializer_form
use Rattle.c_tree.specs.declared.syntax_initializers.Braces.{Braces}
use Rattle.c_tree.specs.declared.syntax_initializers.InitializerItem.{InitializerItem}
use Rattle.c_tree.specs.declared.syntax_initializers.Designator.{Designator}
use Rattle.c_tree.specs.declared.syntax_initializers.Designator.TheVariants as designator
use Rattle.c_tree.specs.declared.syntax_declarations.DeclarationForm.{DeclarationForm}
use Rattle.c_tree.specs.declared.syntax_declarations.DeclarationForm.TheVariants as declaration_form
use Rattle.c_tree.specs.declared.syntax_declarations.InitDeclarator.{InitDeclarator}
use Rattle.c_tree.specs.declared.syntax_declarations.Assertion.{Assertion}
use Rattle.c_tree.specs.declared.syntax_statements.StatementForm.{StatementForm}
use Rattle.c_tree.specs.declared.syntax_statements.StatementForm.TheVariants as statement_form
use Rattle.c_tree.specs.declared.syntax_statements.BlockItem.{BlockItem}
use Rattle.c_tree.specs.declared.syntax_statements.BlockItem.TheVariants as block_item
use Rattle.c_tree.specs.declared.syntax_statements.Block.{Block}
use Rattle.model_grammar.specs.declared.syntax.Name.{Name}
use Rattle.c_tree.specs.declared.syntax_declarations.Declaration.TheDeep.{deep-ExprForm, deep-TypeNameForm, deep-Spec, deep-SpecsForm, deep-MemberDeclaration, deep-Enumerator, deep-DeclaratorForm, deep-Suffix, deep-Parameter, deep-InitializerForm, deep-Braces, deep-InitializerItem, deep-Designator, deep-DeclarationForm, deep-InitDeclarator, deep-Assertion, deep-StatementForm, deep-BlockItem, deep-Block}
use Rattle.c_tree.specs.SyntaxViews.{assertion_of, block_item_of, block_items_of, block_of, braces_of, declaration_of, declarator_of, designator_of, designators_of, enumerator_of, enumerators_of, expr_of, init_declarator_of, init_declarators_of, initializer_item_of, initializer_items_of, initializer_of, maybe_declaration_of, maybe_expr_of, maybe_initializer_of, maybe_specs_of, maybe_statement_of, member_declaration_of, member_declarations_of, parameter_of, parameters_of, spec_of, specs_of, statement_of, suffix_of, suffixes_of, type_name_of, specs_items}

most_exprs : (xs : List m.Expr) → most (λ x. n.expr_nodes x + 1) xs ≤ n.exprs_nodes (m.exprs xs)
most_exprs [] = omega arith
most_exprs (x ∷ xs) = omega (arith, most_exprs xs)

pub designator_falls : (x : Designator) → deep-Designator x ≤ n.designator_nodes (designator_of x)
designator_falls (designator.Element index place) = omega arith
designator_falls (designator.Member member place) = omega arith

most_designators : (xs : List Designator) → most (w_this.weight Designator deep-Designator) xs ≤ n.designators_nodes (designators_of xs)
most_designators [] = omega arith
most_designators (x ∷ xs) = omega (arith, designator_falls x, most_designators xs)

pub initializer_item_falls : (x : InitializerItem) → deep-InitializerItem x ≤ n.initializer_item_nodes (initializer_item_of x)
initializer_item_falls x = omega (arith, most_designators x.designators)

most_initializer_items : (xs : List InitializerItem) → most (w_this.weight InitializerItem deep-InitializerItem) xs ≤ n.initializer_items_nodes (initializer_items_of xs)
most_initializer_items [] = omega arith
most_initializer_items (x ∷ xs) = omega (arith, initializer_item_falls x, most_initializer_items xs)

pub braces_falls : (x : Braces) → deep-Braces x ≤ n.braces_nodes (braces_of x)
braces_falls x = omega (arith, most_initializer_items x.items)

pub block_item_falls : (x : BlockItem) → deep-BlockItem x ≤ n.block_item_nodes (block_item_of x)
block_item_falls (block_item.Declaration declaration) = omega arith
block_item_falls (block_item.Case value place) = omega arith
block_item_falls (block_item.Default place) = omega arith
block_item_falls (block_item.Statement statement) = omega arith

most_block_items : (xs : List BlockItem) → most (w_this.weight BlockItem deep-BlockItem) xs ≤ n.block_items_nodes (block_items_of xs)
most_block_items [] = omega arith
most_block_items (x ∷ xs) = omega (arith, block_item_falls x, most_block_items xs)

pub block_falls : (x : Block) → deep-Block x ≤ n.block_nodes (block_of x)
block_falls x = omega (arith, most_block_items x.items)

pub expr_falls : (x : ExprForm) → max (deep-ExprForm x) 0 ≤ n.expr_nodes (expr_of x)
expr_falls (expr_form.Identifier name) = omega arith
expr_falls (expr_form.Constant constant place) = omega arith
expr_falls (expr_form.Text bytes place) = omega arith
expr_falls (expr_form.Truth value place) = omega arith
expr_falls (expr_form.Nullptr place) = omega arith
expr_falls (expr_form.Parenthesized inner place) = omega arith
expr_falls (expr_form.CompoundLiteral name values place) = omega (arith, braces_falls values)
expr_falls (expr_form.FunctionLiteral name body place) = omega (arith, block_falls body)
expr_falls (expr_form.Index array index place) = omega arith
expr_falls (expr_form.Call function arguments place) = omega (arith, most_exprs arguments)
expr_falls (expr_form.Member structure member place) = omega arith
expr_falls (expr_form.Arrow pointer member place) = omega arith
expr_falls (expr_form.Step op side operand place) = omega arith
expr_falls (expr_form.Unary op operand place) = omega arith
expr_falls (expr_form.SizeofExpr operand place) = omega arith
expr_falls (expr_form.SizeofType name place) = omega arith
expr_falls (expr_form.Alignof name place) = omega arith
expr_falls (expr_form.Cast name operand place) = omega arith
expr_falls (expr_form.Binary op left right place) = omega arith
expr_falls (expr_form.Logic op left right place) = omega arith
expr_falls (expr_form.Conditional condition first second place) = omega arith
expr_falls (expr_form.Assign left right place) = omega arith
expr_falls (expr_form.AssignBy op left right place) = omega arith
expr_falls (expr_form.Comma first second place) = omega arith

pub type_name_falls : (x : TypeNameForm) → max (deep-TypeNameForm x) 0 ≤ n.type_name_nodes (type_name_of x)
type_name_falls x = omega arith

most_declarators : (xs : List m.Declarator) → most (λ x. n.declarator_nodes x + 1) xs ≤ n.declarators_nodes (m.declarators xs)
most_declarators [] = omega arith
most_declarators (x ∷ xs) = omega (arith, most_declarators xs)

pub assertion_falls : (x : Assertion) → deep-Assertion x ≤ n.assertion_nodes (assertion_of x)
assertion_falls x = omega arith

pub member_declaration_falls : (x : MemberDeclaration) → deep-MemberDeclaration x ≤ n.member_declaration_nodes (member_declaration_of x)
member_declaration_falls (member_declaration.Declarators specs declarators) = omega (arith, most_declarators declarators)
member_declaration_falls (member_declaration.Assertion assertion) = omega (arith, assertion_falls assertion)

most_member_declarations : (xs : List MemberDeclaration) → most (w_this.weight MemberDeclaration deep-MemberDeclaration) xs ≤ n.member_declarations_nodes (member_declarations_of xs)
most_member_declarations [] = omega arith
most_member_declarations (x ∷ xs) = omega (arith, member_declaration_falls x, most_member_declarations xs)

enumerator_parts : (name : Name) (value : Option m.Expr) → deep-Enumerator record { name = name; value = value } ≤ n.enumerator_nodes (enumerator_of record { name = name; value = value })
enumerator_parts name None = omega arith
enumerator_parts name (Some value) = omega arith

enumerator_falls : (x : Enumerator) → deep-Enumerator x ≤ n.enumerator_nodes (enumerator_of x)
enumerator_falls x = enumerator_parts x.name x.value

most_enumerators : (xs : List Enumerator) → most (w_this.weight Enumerator deep-Enumerator) xs ≤ n.enumerators_nodes (enumerators_of xs)
most_enumerators [] = omega arith
most_enumerators (x ∷ xs) = omega (arith, enumerator_falls x, most_enumerators xs)

pub spec_falls : (x : Spec) → deep-Spec x ≤ n.spec_nodes (spec_of x)
spec_falls (spec.Storage word place) = omega arith
spec_falls (spec.Function word place) = omega arith
spec_falls (spec.Keyword word place) = omega arith
spec_falls (spec.Qualifier qualifier) = omega arith
spec_falls (spec.StructTag tag place) = omega arith
spec_falls (spec.Struct tag members place) = omega (arith, most_member_declarations members)
spec_falls (spec.EnumTag tag None place) = omega arith
spec_falls (spec.EnumTag tag (Some fixed) place) = omega arith
spec_falls (spec.Enum tag None enumerators place) = omega (arith, most_enumerators enumerators)
spec_falls (spec.Enum tag (Some fixed) enumerators place) = omega (arith, most_enumerators enumerators)
spec_falls (spec.TypedefName name) = omega arith
spec_falls (spec.TypeofExpr word operand place) = omega arith
spec_falls (spec.TypeofType word name place) = omega arith

most_specs : (xs : List Spec) → most (w_this.weight Spec deep-Spec) xs ≤ n.specs_nodes (specs_items xs)
most_specs [] = omega arith
most_specs (x ∷ xs) = omega (arith, spec_falls x, most_specs xs)

pub specs_falls : (x : SpecsForm) → max (deep-SpecsForm x) 0 ≤ n.specs_nodes (specs_of x)
specs_falls x = omega (arith, most_specs x.specs)

pub parameter_falls : (x : Parameter) → deep-Parameter x ≤ n.parameter_nodes (parameter_of x)
parameter_falls x = omega arith

most_parameters : (xs : List Parameter) → most (w_this.weight Parameter deep-Parameter) xs ≤ n.parameters_nodes (parameters_of xs)
most_parameters [] = omega arith
most_parameters (x ∷ xs) = omega (arith, parameter_falls x, most_parameters xs)

pub suffix_falls : (x : Suffix) → deep-Suffix x ≤ n.suffix_nodes (suffix_of x)
suffix_falls (suffix.Array None place) = omega arith
suffix_falls (suffix.Array (Some length) place) = omega arith
suffix_falls (suffix.Function parameters is_variadic place) = omega (arith, most_parameters parameters)

most_suffixes : (xs : List Suffix) → most (w_this.weight Suffix deep-Suffix) xs ≤ n.suffixes_nodes (suffixes_of xs)
most_suffixes [] = omega arith
most_suffixes (x ∷ xs) = omega (arith, suffix_falls x, most_suffixes xs)

pub declarator_falls : (x : DeclaratorForm) → max (deep-DeclaratorForm x) 0 ≤ n.declarator_nodes (declarator_of x)
declarator_falls (declarator_form.Named pointers name suffixes) = omega (arith, most_suffixes suffixes)
declarator_falls (declarator_form.Unnamed pointers suffixes) = omega (arith, most_suffixes suffixes)
declarator_falls (declarator_form.Grouped pointers inner suffixes place) = omega (arith, most_suffixes suffixes)

pub initializer_falls : (x : InitializerForm) → max (deep-InitializerForm x) 0 ≤ n.initializer_nodes (initializer_of x)
initializer_falls (initializer_form.Expr value) = omega arith
initializer_falls (initializer_form.Braces values) = omega (arith, braces_falls values)

init_declarator_parts : (declarator : m.Declarator) (initializer : Option m.Initializer) → deep-InitDeclarator record { declarator = declarator; initializer = initializer } ≤ n.init_declarator_nodes (init_declarator_of record { declarator = declarator; initializer = initializer })
init_declarator_parts declarator None = omega arith
init_declarator_parts declarator (Some initializer) = omega arith

init_declarator_falls : (x : InitDeclarator) → deep-InitDeclarator x ≤ n.init_declarator_nodes (init_declarator_of x)
init_declarator_falls x = init_declarator_parts x.declarator x.initializer

most_init_declarators : (xs : List InitDeclarator) → most (w_this.weight InitDeclarator deep-InitDeclarator) xs ≤ n.init_declarators_nodes (init_declarators_of xs)
most_init_declarators [] = omega arith
most_init_declarators (x ∷ xs) = omega (arith, init_declarator_falls x, most_init_declarators xs)

pub declaration_falls : (x : DeclarationForm) → max (deep-DeclarationForm x) 0 ≤ n.declaration_nodes (declaration_of x)
declaration_falls (declaration_form.Simple specs declarators) = omega (arith, most_init_declarators declarators)
declaration_falls (declaration_form.Assertion assertion) = omega (arith, assertion_falls assertion)
declaration_falls declaration_form.Attributes = omega arith

pub statement_falls : (x : StatementForm) → max (deep-StatementForm x) 0 ≤ n.statement_nodes (statement_of x)
statement_falls (statement_form.Expression None span) = omega arith
statement_falls (statement_form.Expression (Some value) span) = omega arith
statement_falls (statement_form.Compound body span) = omega (arith, block_falls body)
statement_falls (statement_form.If None condition first None span) = omega arith
statement_falls (statement_form.If None condition first (Some second) span) = omega arith
statement_falls (statement_form.If (Some declaration) condition first None span) = omega arith
statement_falls (statement_form.If (Some declaration) condition first (Some second) span) = omega arith
statement_falls (statement_form.Switch value body span) = omega arith
statement_falls (statement_form.While condition body span) = omega arith
statement_falls (statement_form.DoWhile body condition span) = omega arith
statement_falls (statement_form.For None None None body span) = omega arith
statement_falls (statement_form.For None None (Some step) body span) = omega arith
statement_falls (statement_form.For None (Some condition) None body span) = omega arith
statement_falls (statement_form.For None (Some condition) (Some step) body span) = omega arith
statement_falls (statement_form.For (Some first) None None body span) = omega arith
statement_falls (statement_form.For (Some first) None (Some step) body span) = omega arith
statement_falls (statement_form.For (Some first) (Some condition) None body span) = omega arith
statement_falls (statement_form.For (Some first) (Some condition) (Some step) body span) = omega arith
statement_falls (statement_form.ForDeclaration declaration None None body span) = omega arith
statement_falls (statement_form.ForDeclaration declaration None (Some step) body span) = omega arith
statement_falls (statement_form.ForDeclaration declaration (Some condition) None body span) = omega arith
statement_falls (statement_form.ForDeclaration declaration (Some condition) (Some step) body span) = omega arith
statement_falls (statement_form.Break place span) = omega arith
statement_falls (statement_form.Continue place span) = omega arith
statement_falls (statement_form.Return None place span) = omega arith
statement_falls (statement_form.Return (Some value) place span) = omega arith
statement_falls (statement_form.Defer body place span) = omega arith
