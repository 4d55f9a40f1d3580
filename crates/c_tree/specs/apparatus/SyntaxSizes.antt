-- How many forms a tree of the grammar is made of, itself counted; a list counts one for each of its items more.
use Rattle.std.specs.Prelude.{ℕ, ◌+◌}
use Rattle.model_grammar.specs.SyntaxForms.{Expr, Identifier, Constant, Text, Truth, Nullptr, Parenthesized, CompoundLiteral, FunctionLiteral, Index, Call, Member, Arrow, Step, Unary, SizeofExpr, SizeofType, Alignof, Cast, Binary, Logic, Conditional, Assign, AssignBy, Comma, Exprs, no_exprs, more_exprs, MaybeExpr, no_expr, an_expr, TypeName, type_name, Spec, StorageSpec, FunctionSpec, TypeSpec, QualifierSpec, StructTag, Struct, EnumTag, Enum, TypedefName, TypeofExpr, TypeofType, Specs, no_specs, more_specs, MaybeSpecs, none_of_specs, some_specs, MemberDeclaration, MemberDeclarators, MemberAssertion, MemberDeclarations, no_members, more_members, Enumerator, enumerator, Enumerators, no_enumerators, more_enumerators, Declarator, Named, Unnamed, Grouped, Declarators, no_declarators, more_declarators, Suffix, ArraySuffix, FunctionSuffix, Suffixes, no_suffixes, more_suffixes, Parameter, parameter, Parameters, no_parameters, more_parameters, Initializer, Single, Braced, MaybeInitializer, no_initializer, an_initializer, Braces, braces, InitializerItem, item, InitializerItems, no_items, more_items, Designator, ElementDesignator, MemberDesignator, Designators, no_designators, more_designators, Declaration, SimpleDeclaration, AssertDeclaration, AttributeDeclaration, MaybeDeclaration, no_declaration, a_declaration, InitDeclarator, init_declarator, InitDeclarators, no_init_declarators, more_init_declarators, Assertion, asserted, Statement, ExpressionStatement, CompoundStatement, If, Switch, While, DoWhile, For, ForDeclaration, Break, Continue, Return, Defer, MaybeStatement, no_statement, a_statement, BlockItem, DeclarationItem, CaseLabel, DefaultLabel, StatementItem, BlockItems, no_block_items, more_block_items, Block, block}

abbrev mutual
  pub expr_nodes : Expr → ℕ
  expr_nodes (Identifier name) = 1
  expr_nodes (Constant value basic place) = 1
  expr_nodes (Text bytes place) = 1
  expr_nodes (Truth value place) = 1
  expr_nodes (Nullptr place) = 1
  expr_nodes (Parenthesized inner place) = 1 + expr_nodes inner
  expr_nodes (CompoundLiteral name values place) = 1 + type_name_nodes name + braces_nodes values
  expr_nodes (FunctionLiteral name body place) = 1 + type_name_nodes name + block_nodes body
  expr_nodes (Index array index place) = 1 + expr_nodes array + expr_nodes index
  expr_nodes (Call function arguments place) = 1 + expr_nodes function + exprs_nodes arguments
  expr_nodes (Member structure member place) = 1 + expr_nodes structure
  expr_nodes (Arrow pointer member place) = 1 + expr_nodes pointer
  expr_nodes (Step op side operand place) = 1 + expr_nodes operand
  expr_nodes (Unary op operand place) = 1 + expr_nodes operand
  expr_nodes (SizeofExpr operand place) = 1 + expr_nodes operand
  expr_nodes (SizeofType name place) = 1 + type_name_nodes name
  expr_nodes (Alignof name place) = 1 + type_name_nodes name
  expr_nodes (Cast name operand place) = 1 + type_name_nodes name + expr_nodes operand
  expr_nodes (Binary op left right place) = 1 + expr_nodes left + expr_nodes right
  expr_nodes (Logic op left right place) = 1 + expr_nodes left + expr_nodes right
  expr_nodes (Conditional condition first second place) = 1 + expr_nodes condition + expr_nodes first + expr_nodes second
  expr_nodes (Assign left right place) = 1 + expr_nodes left + expr_nodes right
  expr_nodes (AssignBy op left right place) = 1 + expr_nodes left + expr_nodes right
  expr_nodes (Comma first second place) = 1 + expr_nodes first + expr_nodes second

  pub exprs_nodes : Exprs → ℕ
  exprs_nodes no_exprs = 0
  exprs_nodes (more_exprs first others) = 1 + expr_nodes first + exprs_nodes others

  pub maybe_expr_nodes : MaybeExpr → ℕ
  maybe_expr_nodes no_expr = 0
  maybe_expr_nodes (an_expr expr) = expr_nodes expr

  pub type_name_nodes : TypeName → ℕ
  type_name_nodes (type_name specs declarator) = 1 + specs_nodes specs + declarator_nodes declarator

  pub spec_nodes : Spec → ℕ
  spec_nodes (StorageSpec word place) = 1
  spec_nodes (FunctionSpec word place) = 1
  spec_nodes (TypeSpec word place) = 1
  spec_nodes (QualifierSpec qualifier) = 1
  spec_nodes (StructTag tag place) = 1
  spec_nodes (Struct tag members place) = 1 + member_declarations_nodes members
  spec_nodes (EnumTag tag fixed place) = 1 + maybe_specs_nodes fixed
  spec_nodes (Enum tag fixed enumerators place) = 1 + maybe_specs_nodes fixed + enumerators_nodes enumerators
  spec_nodes (TypedefName name) = 1
  spec_nodes (TypeofExpr word operand place) = 1 + expr_nodes operand
  spec_nodes (TypeofType word name place) = 1 + type_name_nodes name

  pub specs_nodes : Specs → ℕ
  specs_nodes no_specs = 0
  specs_nodes (more_specs first others) = 1 + spec_nodes first + specs_nodes others

  pub maybe_specs_nodes : MaybeSpecs → ℕ
  maybe_specs_nodes none_of_specs = 0
  maybe_specs_nodes (some_specs specs) = specs_nodes specs

  pub member_declaration_nodes : MemberDeclaration → ℕ
  member_declaration_nodes (MemberDeclarators specs declarators) = 1 + specs_nodes specs + declarators_nodes declarators
  member_declaration_nodes (MemberAssertion assertion) = 1 + assertion_nodes assertion

  pub member_declarations_nodes : MemberDeclarations → ℕ
  member_declarations_nodes no_members = 0
  member_declarations_nodes (more_members first others) = 1 + member_declaration_nodes first + member_declarations_nodes others

  pub enumerator_nodes : Enumerator → ℕ
  enumerator_nodes (enumerator name value) = 1 + maybe_expr_nodes value

  pub enumerators_nodes : Enumerators → ℕ
  enumerators_nodes no_enumerators = 0
  enumerators_nodes (more_enumerators first others) = 1 + enumerator_nodes first + enumerators_nodes others

  pub declarator_nodes : Declarator → ℕ
  declarator_nodes (Named pointers name suffixes) = 1 + suffixes_nodes suffixes
  declarator_nodes (Unnamed pointers suffixes) = 1 + suffixes_nodes suffixes
  declarator_nodes (Grouped pointers inner suffixes place) = 1 + declarator_nodes inner + suffixes_nodes suffixes

  pub declarators_nodes : Declarators → ℕ
  declarators_nodes no_declarators = 0
  declarators_nodes (more_declarators first others) = 1 + declarator_nodes first + declarators_nodes others

  pub suffix_nodes : Suffix → ℕ
  suffix_nodes (ArraySuffix length place) = 1 + maybe_expr_nodes length
  suffix_nodes (FunctionSuffix parameters is_variadic place) = 1 + parameters_nodes parameters

  pub suffixes_nodes : Suffixes → ℕ
  suffixes_nodes no_suffixes = 0
  suffixes_nodes (more_suffixes first others) = 1 + suffix_nodes first + suffixes_nodes others

  pub parameter_nodes : Parameter → ℕ
  parameter_nodes (parameter specs declarator first) = 1 + specs_nodes specs + declarator_nodes declarator

  pub parameters_nodes : Parameters → ℕ
  parameters_nodes no_parameters = 0
  parameters_nodes (more_parameters first others) = 1 + parameter_nodes first + parameters_nodes others

  pub initializer_nodes : Initializer → ℕ
  initializer_nodes (Single value) = 1 + expr_nodes value
  initializer_nodes (Braced values) = 1 + braces_nodes values

  pub maybe_initializer_nodes : MaybeInitializer → ℕ
  maybe_initializer_nodes no_initializer = 0
  maybe_initializer_nodes (an_initializer initializer) = initializer_nodes initializer

  pub braces_nodes : Braces → ℕ
  braces_nodes (braces items place) = 1 + initializer_items_nodes items

  pub initializer_item_nodes : InitializerItem → ℕ
  initializer_item_nodes (item designators value) = 1 + designators_nodes designators + initializer_nodes value

  pub initializer_items_nodes : InitializerItems → ℕ
  initializer_items_nodes no_items = 0
  initializer_items_nodes (more_items first others) = 1 + initializer_item_nodes first + initializer_items_nodes others

  pub designator_nodes : Designator → ℕ
  designator_nodes (ElementDesignator index place) = 1 + expr_nodes index
  designator_nodes (MemberDesignator member place) = 1

  pub designators_nodes : Designators → ℕ
  designators_nodes no_designators = 0
  designators_nodes (more_designators first others) = 1 + designator_nodes first + designators_nodes others

  pub declaration_nodes : Declaration → ℕ
  declaration_nodes (SimpleDeclaration specs declarators) = 1 + specs_nodes specs + init_declarators_nodes declarators
  declaration_nodes (AssertDeclaration assertion) = 1 + assertion_nodes assertion
  declaration_nodes AttributeDeclaration = 1

  pub maybe_declaration_nodes : MaybeDeclaration → ℕ
  maybe_declaration_nodes no_declaration = 0
  maybe_declaration_nodes (a_declaration declaration) = declaration_nodes declaration

  pub init_declarator_nodes : InitDeclarator → ℕ
  init_declarator_nodes (init_declarator declarator initializer) = 1 + declarator_nodes declarator + maybe_initializer_nodes initializer

  pub init_declarators_nodes : InitDeclarators → ℕ
  init_declarators_nodes no_init_declarators = 0
  init_declarators_nodes (more_init_declarators first others) = 1 + init_declarator_nodes first + init_declarators_nodes others

  pub assertion_nodes : Assertion → ℕ
  assertion_nodes (asserted condition message place) = 1 + expr_nodes condition

  pub statement_nodes : Statement → ℕ
  statement_nodes (ExpressionStatement value span) = 1 + maybe_expr_nodes value
  statement_nodes (CompoundStatement body span) = 1 + block_nodes body
  statement_nodes (If declaration condition first second span) = 1 + maybe_declaration_nodes declaration + expr_nodes condition + statement_nodes first + maybe_statement_nodes second
  statement_nodes (Switch value body span) = 1 + expr_nodes value + statement_nodes body
  statement_nodes (While condition body span) = 1 + expr_nodes condition + statement_nodes body
  statement_nodes (DoWhile body condition span) = 1 + statement_nodes body + expr_nodes condition
  statement_nodes (For first condition step body span) = 1 + maybe_expr_nodes first + maybe_expr_nodes condition + maybe_expr_nodes step + statement_nodes body
  statement_nodes (ForDeclaration declaration condition step body span) = 1 + declaration_nodes declaration + maybe_expr_nodes condition + maybe_expr_nodes step + statement_nodes body
  statement_nodes (Break place span) = 1
  statement_nodes (Continue place span) = 1
  statement_nodes (Return value place span) = 1 + maybe_expr_nodes value
  statement_nodes (Defer body place span) = 1 + statement_nodes body

  pub maybe_statement_nodes : MaybeStatement → ℕ
  maybe_statement_nodes no_statement = 0
  maybe_statement_nodes (a_statement statement) = statement_nodes statement

  pub block_item_nodes : BlockItem → ℕ
  block_item_nodes (DeclarationItem declaration) = 1 + declaration_nodes declaration
  block_item_nodes (CaseLabel value place) = 1 + expr_nodes value
  block_item_nodes (DefaultLabel place) = 1
  block_item_nodes (StatementItem statement) = 1 + statement_nodes statement

  pub block_items_nodes : BlockItems → ℕ
  block_items_nodes no_block_items = 0
  block_items_nodes (more_block_items first others) = 1 + block_item_nodes first + block_items_nodes others

  pub block_nodes : Block → ℕ
  block_nodes (block items span) = 1 + block_items_nodes items
