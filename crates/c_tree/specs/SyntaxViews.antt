-- The tree that each form makes: one level, over the trees of its parts.
use Rattle.std.specs.Prelude.{List, [], ◌∷◌, Option, Some, None}
use Rattle.model_grammar.specs.SyntaxForms as m
use Rattle.c_tree.specs.declared.syntax_expressions.ExprForm.{ExprForm}
use Rattle.c_tree.specs.declared.syntax_expressions.ExprForm.TheVariants as expr_form
use Rattle.c_tree.specs.declared.syntax_specifiers.TypeNameForm.{TypeNameForm}
use Rattle.c_tree.specs.declared.syntax_specifiers.Spec.{Spec}
use Rattle.c_tree.specs.declared.syntax_specifiers.Spec.TheVariants as spec
use Rattle.c_tree.specs.declared.syntax_specifiers.SpecsForm.{SpecsForm}
use Rattle.c_tree.specs.declared.syntax_specifiers.MemberDeclaration.{MemberDeclaration}
use Rattle.c_tree.specs.declared.syntax_specifiers.MemberDeclaration.TheVariants as member_declaration
use Rattle.c_tree.specs.declared.syntax_specifiers.Enumerator.{Enumerator}
use Rattle.c_tree.specs.declared.syntax_declarators.DeclaratorForm.{DeclaratorForm}
use Rattle.c_tree.specs.declared.syntax_declarators.DeclaratorForm.TheVariants as declarator_form
use Rattle.c_tree.specs.declared.syntax_declarators.Suffix.{Suffix}
use Rattle.c_tree.specs.declared.syntax_declarators.Suffix.TheVariants as suffix
use Rattle.c_tree.specs.declared.syntax_declarators.Parameter.{Parameter}
use Rattle.c_tree.specs.declared.syntax_initializers.InitializerForm.{InitializerForm}
use Rattle.c_tree.specs.declared.syntax_initializers.InitializerForm.TheVariants as initializer_form
use Rattle.c_tree.specs.declared.syntax_initializers.Braces.{Braces}
use Rattle.c_tree.specs.declared.syntax_initializers.InitializerItem.{InitializerItem}
use Rattle.c_tree.specs.declared.syntax_initializers.Designator.{Designator}
use Rattle.c_tree.specs.declared.syntax_initializers.Designator.TheVariants as designator
use Rattle.c_tree.specs.declared.syntax_declarations.DeclarationForm.{DeclarationForm}
use Rattle.c_tree.specs.declared.syntax_declarations.DeclarationForm.TheVariants as declaration_form
use Rattle.c_tree.specs.declared.syntax_declarations.InitDeclarator.{InitDeclarator}
use Rattle.c_tree.specs.declared.syntax_declarations.Assertion.{Assertion}
use Rattle.c_tree.specs.declared.syntax_statements.StatementForm.{StatementForm}
use Rattle.c_tree.specs.declared.syntax_statements.StatementForm.TheVariants as statement_form
use Rattle.c_tree.specs.declared.syntax_statements.BlockItem.{BlockItem}
use Rattle.c_tree.specs.declared.syntax_statements.BlockItem.TheVariants as block_item
use Rattle.c_tree.specs.declared.syntax_statements.Block.{Block}
use Rattle.c_tree.specs.declared.syntax_unit.External.{External}
use Rattle.c_tree.specs.declared.syntax_unit.External.TheVariants as external
use Rattle.c_tree.specs.declared.syntax_unit.TreeForm.{TreeForm}

abbrev pub designator_of : Designator → m.Designator
designator_of (designator.Element index place) = m.ElementDesignator index place
designator_of (designator.Member member place) = m.MemberDesignator member place

abbrev pub designators_of : List Designator → m.Designators
designators_of [] = m.no_designators
designators_of (x ∷ xs) = m.more_designators (designator_of x) (designators_of xs)

abbrev pub initializer_item_of : InitializerItem → m.InitializerItem
initializer_item_of x = m.item (designators_of x.designators) x.value

abbrev pub initializer_items_of : List InitializerItem → m.InitializerItems
initializer_items_of [] = m.no_items
initializer_items_of (x ∷ xs) = m.more_items (initializer_item_of x) (initializer_items_of xs)

abbrev pub braces_of : Braces → m.Braces
braces_of x = m.braces (initializer_items_of x.items) x.place

abbrev pub block_item_of : BlockItem → m.BlockItem
block_item_of (block_item.Declaration declaration) = m.DeclarationItem declaration
block_item_of (block_item.Case value place) = m.CaseLabel value place
block_item_of (block_item.Default place) = m.DefaultLabel place
block_item_of (block_item.Statement statement) = m.StatementItem statement

abbrev pub block_items_of : List BlockItem → m.BlockItems
block_items_of [] = m.no_block_items
block_items_of (x ∷ xs) = m.more_block_items (block_item_of x) (block_items_of xs)

abbrev pub block_of : Block → m.Block
block_of x = m.block (block_items_of x.items) x.span

abbrev pub expr_of : ExprForm → m.Expr
expr_of (expr_form.Identifier name) = m.Identifier name
expr_of (expr_form.Constant constant place) = m.Constant constant.value constant.basic place
expr_of (expr_form.Text bytes place) = m.Text bytes place
expr_of (expr_form.Truth value place) = m.Truth value place
expr_of (expr_form.Nullptr place) = m.Nullptr place
expr_of (expr_form.Parenthesized inner place) = m.Parenthesized inner place
expr_of (expr_form.CompoundLiteral name values place) = m.CompoundLiteral name (braces_of values) place
expr_of (expr_form.FunctionLiteral name body place) = m.FunctionLiteral name (block_of body) place
expr_of (expr_form.Index array index place) = m.Index array index place
expr_of (expr_form.Call function arguments place) = m.Call function (m.exprs arguments) place
expr_of (expr_form.Member structure member place) = m.Member structure member place
expr_of (expr_form.Arrow pointer member place) = m.Arrow pointer member place
expr_of (expr_form.Step op side operand place) = m.Step op side operand place
expr_of (expr_form.Unary op operand place) = m.Unary op operand place
expr_of (expr_form.SizeofExpr operand place) = m.SizeofExpr operand place
expr_of (expr_form.SizeofType name place) = m.SizeofType name place
expr_of (expr_form.Alignof name place) = m.Alignof name place
expr_of (expr_form.Cast name operand place) = m.Cast name operand place
expr_of (expr_form.Binary op left right place) = m.Binary op left right place
expr_of (expr_form.Logic op left right place) = m.Logic op left right place
expr_of (expr_form.Conditional condition first second place) = m.Conditional condition first second place
expr_of (expr_form.Assign left right place) = m.Assign left right place
expr_of (expr_form.AssignBy op left right place) = m.AssignBy op left right place
expr_of (expr_form.Comma first second place) = m.Comma first second place

abbrev pub type_name_of : TypeNameForm → m.TypeName
type_name_of x = m.type_name x.specs x.declarator

abbrev pub maybe_specs_of : Option m.Specs → m.MaybeSpecs
maybe_specs_of None = m.none_of_specs
maybe_specs_of (Some x) = m.some_specs x

abbrev pub assertion_of : Assertion → m.Assertion
assertion_of x = m.asserted x.condition x.message x.place

abbrev pub member_declaration_of : MemberDeclaration → m.MemberDeclaration
member_declaration_of (member_declaration.Declarators specs declarators) = m.MemberDeclarators specs (m.declarators declarators)
member_declaration_of (member_declaration.Assertion assertion) = m.MemberAssertion (assertion_of assertion)

abbrev pub member_declarations_of : List MemberDeclaration → m.MemberDeclarations
member_declarations_of [] = m.no_members
member_declarations_of (x ∷ xs) = m.more_members (member_declaration_of x) (member_declarations_of xs)

abbrev pub maybe_expr_of : Option m.Expr → m.MaybeExpr
maybe_expr_of None = m.no_expr
maybe_expr_of (Some x) = m.an_expr x

abbrev pub enumerator_of : Enumerator → m.Enumerator
enumerator_of x = m.enumerator x.name (maybe_expr_of x.value)

abbrev pub enumerators_of : List Enumerator → m.Enumerators
enumerators_of [] = m.no_enumerators
enumerators_of (x ∷ xs) = m.more_enumerators (enumerator_of x) (enumerators_of xs)

abbrev pub spec_of : Spec → m.Spec
spec_of (spec.Storage word place) = m.StorageSpec word place
spec_of (spec.Function word place) = m.FunctionSpec word place
spec_of (spec.Keyword word place) = m.TypeSpec word place
spec_of (spec.Qualifier qualifier) = m.QualifierSpec qualifier
spec_of (spec.StructTag tag place) = m.StructTag tag place
spec_of (spec.Struct tag members place) = m.Struct tag (member_declarations_of members) place
spec_of (spec.EnumTag tag fixed place) = m.EnumTag tag (maybe_specs_of fixed) place
spec_of (spec.Enum tag fixed enumerators place) = m.Enum tag (maybe_specs_of fixed) (enumerators_of enumerators) place
spec_of (spec.TypedefName name) = m.TypedefName name
spec_of (spec.TypeofExpr word operand place) = m.TypeofExpr word operand place
spec_of (spec.TypeofType word name place) = m.TypeofType word name place

abbrev pub specs_items : List Spec → m.Specs
specs_items [] = m.no_specs
specs_items (x ∷ xs) = m.more_specs (spec_of x) (specs_items xs)

abbrev pub specs_of : SpecsForm → m.Specs
specs_of x = specs_items x.specs

abbrev pub parameter_of : Parameter → m.Parameter
parameter_of x = m.parameter x.specs x.declarator x.first

abbrev pub parameters_of : List Parameter → m.Parameters
parameters_of [] = m.no_parameters
parameters_of (x ∷ xs) = m.more_parameters (parameter_of x) (parameters_of xs)

abbrev pub suffix_of : Suffix → m.Suffix
suffix_of (suffix.Array length place) = m.ArraySuffix (maybe_expr_of length) place
suffix_of (suffix.Function parameters is_variadic place) = m.FunctionSuffix (parameters_of parameters) is_variadic place

abbrev pub suffixes_of : List Suffix → m.Suffixes
suffixes_of [] = m.no_suffixes
suffixes_of (x ∷ xs) = m.more_suffixes (suffix_of x) (suffixes_of xs)

abbrev pub declarator_of : DeclaratorForm → m.Declarator
declarator_of (declarator_form.Named pointers name suffixes) = m.Named pointers name (suffixes_of suffixes)
declarator_of (declarator_form.Unnamed pointers suffixes) = m.Unnamed pointers (suffixes_of suffixes)
declarator_of (declarator_form.Grouped pointers inner suffixes place) = m.Grouped pointers inner (suffixes_of suffixes) place

abbrev pub initializer_of : InitializerForm → m.Initializer
initializer_of (initializer_form.Expr value) = m.Single value
initializer_of (initializer_form.Braces values) = m.Braced (braces_of values)

abbrev pub maybe_initializer_of : Option m.Initializer → m.MaybeInitializer
maybe_initializer_of None = m.no_initializer
maybe_initializer_of (Some x) = m.an_initializer x

abbrev pub init_declarator_of : InitDeclarator → m.InitDeclarator
init_declarator_of x = m.init_declarator x.declarator (maybe_initializer_of x.initializer)

abbrev pub init_declarators_of : List InitDeclarator → m.InitDeclarators
init_declarators_of [] = m.no_init_declarators
init_declarators_of (x ∷ xs) = m.more_init_declarators (init_declarator_of x) (init_declarators_of xs)

abbrev pub declaration_of : DeclarationForm → m.Declaration
declaration_of (declaration_form.Simple specs declarators) = m.SimpleDeclaration specs (init_declarators_of declarators)
declaration_of (declaration_form.Assertion assertion) = m.AssertDeclaration (assertion_of assertion)
declaration_of declaration_form.Attributes = m.AttributeDeclaration

abbrev pub maybe_declaration_of : Option m.Declaration → m.MaybeDeclaration
maybe_declaration_of None = m.no_declaration
maybe_declaration_of (Some x) = m.a_declaration x

abbrev pub maybe_statement_of : Option m.Statement → m.MaybeStatement
maybe_statement_of None = m.no_statement
maybe_statement_of (Some x) = m.a_statement x

abbrev pub statement_of : StatementForm → m.Statement
statement_of (statement_form.Expression value span) = m.ExpressionStatement (maybe_expr_of value) span
statement_of (statement_form.Compound body span) = m.CompoundStatement (block_of body) span
statement_of (statement_form.If declaration condition first second span) = m.If (maybe_declaration_of declaration) condition first (maybe_statement_of second) span
statement_of (statement_form.Switch value body span) = m.Switch value body span
statement_of (statement_form.While condition body span) = m.While condition body span
statement_of (statement_form.DoWhile body condition span) = m.DoWhile body condition span
statement_of (statement_form.For first condition step body span) = m.For (maybe_expr_of first) (maybe_expr_of condition) (maybe_expr_of step) body span
statement_of (statement_form.ForDeclaration declaration condition step body span) = m.ForDeclaration declaration (maybe_expr_of condition) (maybe_expr_of step) body span
statement_of (statement_form.Break place span) = m.Break place span
statement_of (statement_form.Continue place span) = m.Continue place span
statement_of (statement_form.Return value place span) = m.Return (maybe_expr_of value) place span
statement_of (statement_form.Defer body place span) = m.Defer body place span

abbrev pub external_of : External → m.External
external_of (external.Function specs declarator body) = m.FunctionDefinition specs declarator (block_of body)
external_of (external.Declaration declaration) = m.ExternalDeclaration declaration

abbrev pub externals_of : List External → List m.External
externals_of [] = []
externals_of (x ∷ xs) = external_of x ∷ externals_of xs

abbrev pub tree_of_form : TreeForm → List m.External
tree_of_form x = externals_of x.externals
