-- The depth of the grammar's trees: a form is one deeper than the deepest of its parts; a list is as deep as the
-- deepest of its items, and what is missing has no depth.
use Rattle.std.specs.Prelude.{ℕ, ◌+◌, min, max, List, [], ◌∷◌}
use Rattle.model_grammar.specs.SyntaxForms.{Expr, Identifier, Constant, Text, Truth, Nullptr, Parenthesized, CompoundLiteral, FunctionLiteral, Index, Call, Member, Arrow, Step, Unary, SizeofExpr, SizeofType, Alignof, Cast, Binary, Logic, Conditional, Assign, AssignBy, Comma, Exprs, no_exprs, more_exprs, MaybeExpr, no_expr, an_expr, TypeName, type_name, Spec, StorageSpec, FunctionSpec, TypeSpec, QualifierSpec, StructTag, Struct, EnumTag, Enum, TypedefName, TypeofExpr, TypeofType, Specs, no_specs, more_specs, MaybeSpecs, none_of_specs, some_specs, MemberDeclaration, MemberDeclarators, MemberAssertion, MemberDeclarations, no_members, more_members, Enumerator, enumerator, Enumerators, no_enumerators, more_enumerators, Declarator, Named, Unnamed, Grouped, Declarators, no_declarators, more_declarators, Suffix, ArraySuffix, FunctionSuffix, Suffixes, no_suffixes, more_suffixes, Parameter, parameter, Parameters, no_parameters, more_parameters, Initializer, Single, Braced, MaybeInitializer, no_initializer, an_initializer, Braces, braces, InitializerItem, item, InitializerItems, no_items, more_items, Designator, ElementDesignator, MemberDesignator, Designators, no_designators, more_designators, Declaration, SimpleDeclaration, AssertDeclaration, AttributeDeclaration, MaybeDeclaration, no_declaration, a_declaration, InitDeclarator, init_declarator, InitDeclarators, no_init_declarators, more_init_declarators, Assertion, asserted, Statement, ExpressionStatement, CompoundStatement, If, Switch, While, DoWhile, For, ForDeclaration, Break, Continue, Return, Defer, MaybeStatement, no_statement, a_statement, BlockItem, DeclarationItem, CaseLabel, DefaultLabel, StatementItem, BlockItems, no_block_items, more_block_items, Block, block, External, FunctionDefinition, ExternalDeclaration}

abbrev mutual
  pub expr_depth : Expr → ℕ
  expr_depth (Identifier name) = 1
  expr_depth (Constant value basic place) = 1
  expr_depth (Text bytes place) = 1
  expr_depth (Truth value place) = 1
  expr_depth (Nullptr place) = 1
  expr_depth (Parenthesized inner place) = 1 + expr_depth inner
  expr_depth (CompoundLiteral name values place) = 1 + max (type_name_depth name) (braces_depth values)
  expr_depth (FunctionLiteral name body place) = 1 + max (type_name_depth name) (block_depth body)
  expr_depth (Index array index place) = 1 + max (expr_depth array) (expr_depth index)
  expr_depth (Call function arguments place) = 1 + max (expr_depth function) (exprs_depth arguments)
  expr_depth (Member structure member place) = 1 + expr_depth structure
  expr_depth (Arrow pointer member place) = 1 + expr_depth pointer
  expr_depth (Step op side operand place) = 1 + expr_depth operand
  expr_depth (Unary op operand place) = 1 + expr_depth operand
  expr_depth (SizeofExpr operand place) = 1 + expr_depth operand
  expr_depth (SizeofType name place) = 1 + type_name_depth name
  expr_depth (Alignof name place) = 1 + type_name_depth name
  expr_depth (Cast name operand place) = 1 + max (type_name_depth name) (expr_depth operand)
  expr_depth (Binary op left right place) = 1 + max (expr_depth left) (expr_depth right)
  expr_depth (Logic op left right place) = 1 + max (expr_depth left) (expr_depth right)
  expr_depth (Conditional condition first second place) = 1 + max (expr_depth condition) (max (expr_depth first) (expr_depth second))
  expr_depth (Assign left right place) = 1 + max (expr_depth left) (expr_depth right)
  expr_depth (AssignBy op left right place) = 1 + max (expr_depth left) (expr_depth right)
  expr_depth (Comma first second place) = 1 + max (expr_depth first) (expr_depth second)

  pub exprs_depth : Exprs → ℕ
  exprs_depth no_exprs = 0
  exprs_depth (more_exprs first others) = max (expr_depth first) (exprs_depth others)

  pub maybe_expr_depth : MaybeExpr → ℕ
  maybe_expr_depth no_expr = 0
  maybe_expr_depth (an_expr expr) = expr_depth expr

  pub type_name_depth : TypeName → ℕ
  type_name_depth (type_name specs declarator) = 1 + max (specs_depth specs) (declarator_depth declarator)

  pub spec_depth : Spec → ℕ
  spec_depth (StorageSpec word place) = 1
  spec_depth (FunctionSpec word place) = 1
  spec_depth (TypeSpec word place) = 1
  spec_depth (QualifierSpec qualifier) = 1
  spec_depth (StructTag tag place) = 1
  spec_depth (Struct tag members place) = 1 + member_declarations_depth members
  spec_depth (EnumTag tag fixed place) = 1 + maybe_specs_depth fixed
  spec_depth (Enum tag fixed enumerators place) = 1 + max (maybe_specs_depth fixed) (enumerators_depth enumerators)
  spec_depth (TypedefName name) = 1
  spec_depth (TypeofExpr word operand place) = 1 + expr_depth operand
  spec_depth (TypeofType word name place) = 1 + type_name_depth name

  pub specs_depth : Specs → ℕ
  specs_depth no_specs = 0
  specs_depth (more_specs first others) = max (spec_depth first) (specs_depth others)

  pub maybe_specs_depth : MaybeSpecs → ℕ
  maybe_specs_depth none_of_specs = 0
  maybe_specs_depth (some_specs specs) = specs_depth specs

  pub member_declaration_depth : MemberDeclaration → ℕ
  member_declaration_depth (MemberDeclarators specs declarators) = 1 + max (specs_depth specs) (declarators_depth declarators)
  member_declaration_depth (MemberAssertion assertion) = 1 + assertion_depth assertion

  pub member_declarations_depth : MemberDeclarations → ℕ
  member_declarations_depth no_members = 0
  member_declarations_depth (more_members first others) = max (member_declaration_depth first) (member_declarations_depth others)

  pub enumerator_depth : Enumerator → ℕ
  enumerator_depth (enumerator name value) = 1 + maybe_expr_depth value

  pub enumerators_depth : Enumerators → ℕ
  enumerators_depth no_enumerators = 0
  enumerators_depth (more_enumerators first others) = max (enumerator_depth first) (enumerators_depth others)

  pub declarator_depth : Declarator → ℕ
  declarator_depth (Named pointers name suffixes) = 1 + suffixes_depth suffixes
  declarator_depth (Unnamed pointers suffixes) = 1 + suffixes_depth suffixes
  declarator_depth (Grouped pointers inner suffixes place) = 1 + max (declarator_depth inner) (suffixes_depth suffixes)

  pub declarators_depth : Declarators → ℕ
  declarators_depth no_declarators = 0
  declarators_depth (more_declarators first others) = max (declarator_depth first) (declarators_depth others)

  pub suffix_depth : Suffix → ℕ
  suffix_depth (ArraySuffix length place) = 1 + maybe_expr_depth length
  suffix_depth (FunctionSuffix parameters is_variadic place) = 1 + parameters_depth parameters

  pub suffixes_depth : Suffixes → ℕ
  suffixes_depth no_suffixes = 0
  suffixes_depth (more_suffixes first others) = max (suffix_depth first) (suffixes_depth others)

  pub parameter_depth : Parameter → ℕ
  parameter_depth (parameter specs declarator first) = 1 + max (specs_depth specs) (declarator_depth declarator)

  pub parameters_depth : Parameters → ℕ
  parameters_depth no_parameters = 0
  parameters_depth (more_parameters first others) = max (parameter_depth first) (parameters_depth others)

  pub initializer_depth : Initializer → ℕ
  initializer_depth (Single value) = 1 + expr_depth value
  initializer_depth (Braced values) = 1 + braces_depth values

  pub maybe_initializer_depth : MaybeInitializer → ℕ
  maybe_initializer_depth no_initializer = 0
  maybe_initializer_depth (an_initializer initializer) = initializer_depth initializer

  pub braces_depth : Braces → ℕ
  braces_depth (braces items place) = 1 + initializer_items_depth items

  pub initializer_item_depth : InitializerItem → ℕ
  initializer_item_depth (item designators value) = 1 + max (designators_depth designators) (initializer_depth value)

  pub initializer_items_depth : InitializerItems → ℕ
  initializer_items_depth no_items = 0
  initializer_items_depth (more_items first others) = max (initializer_item_depth first) (initializer_items_depth others)

  pub designator_depth : Designator → ℕ
  designator_depth (ElementDesignator index place) = 1 + expr_depth index
  designator_depth (MemberDesignator member place) = 1

  pub designators_depth : Designators → ℕ
  designators_depth no_designators = 0
  designators_depth (more_designators first others) = max (designator_depth first) (designators_depth others)

  pub declaration_depth : Declaration → ℕ
  declaration_depth (SimpleDeclaration specs declarators) = 1 + max (specs_depth specs) (init_declarators_depth declarators)
  declaration_depth (AssertDeclaration assertion) = 1 + assertion_depth assertion
  declaration_depth AttributeDeclaration = 1

  pub maybe_declaration_depth : MaybeDeclaration → ℕ
  maybe_declaration_depth no_declaration = 0
  maybe_declaration_depth (a_declaration declaration) = declaration_depth declaration

  pub init_declarator_depth : InitDeclarator → ℕ
  init_declarator_depth (init_declarator declarator initializer) = 1 + max (declarator_depth declarator) (maybe_initializer_depth initializer)

  pub init_declarators_depth : InitDeclarators → ℕ
  init_declarators_depth no_init_declarators = 0
  init_declarators_depth (more_init_declarators first others) = max (init_declarator_depth first) (init_declarators_depth others)

  pub assertion_depth : Assertion → ℕ
  assertion_depth (asserted condition message place) = 1 + expr_depth condition

  pub statement_depth : Statement → ℕ
  statement_depth (ExpressionStatement value span) = 1 + maybe_expr_depth value
  statement_depth (CompoundStatement body span) = 1 + block_depth body
  statement_depth (If declaration condition first second span) = 1 + max (maybe_declaration_depth declaration) (max (expr_depth condition) (max (statement_depth first) (maybe_statement_depth second)))
  statement_depth (Switch value body span) = 1 + max (expr_depth value) (statement_depth body)
  statement_depth (While condition body span) = 1 + max (expr_depth condition) (statement_depth body)
  statement_depth (DoWhile body condition span) = 1 + max (statement_depth body) (expr_depth condition)
  statement_depth (For first condition step body span) = 1 + max (maybe_expr_depth first) (max (maybe_expr_depth condition) (max (maybe_expr_depth step) (statement_depth body)))
  statement_depth (ForDeclaration declaration condition step body span) = 1 + max (declaration_depth declaration) (max (maybe_expr_depth condition) (max (maybe_expr_depth step) (statement_depth body)))
  statement_depth (Break place span) = 1
  statement_depth (Continue place span) = 1
  statement_depth (Return value place span) = 1 + maybe_expr_depth value
  statement_depth (Defer body place span) = 1 + statement_depth body

  pub maybe_statement_depth : MaybeStatement → ℕ
  maybe_statement_depth no_statement = 0
  maybe_statement_depth (a_statement statement) = statement_depth statement

  pub block_item_depth : BlockItem → ℕ
  block_item_depth (DeclarationItem declaration) = 1 + declaration_depth declaration
  block_item_depth (CaseLabel value place) = 1 + expr_depth value
  block_item_depth (DefaultLabel place) = 1
  block_item_depth (StatementItem statement) = 1 + statement_depth statement

  pub block_items_depth : BlockItems → ℕ
  block_items_depth no_block_items = 0
  block_items_depth (more_block_items first others) = max (block_item_depth first) (block_items_depth others)

  pub block_depth : Block → ℕ
  block_depth (block items span) = 1 + block_items_depth items

abbrev pub external_depth : External → ℕ
external_depth (FunctionDefinition specs declarator body) = 1 + max (specs_depth specs) (max (declarator_depth declarator) (block_depth body))
external_depth (ExternalDeclaration declaration) = 1 + declaration_depth declaration

abbrev pub externals_depth : List External → ℕ
externals_depth [] = 0
externals_depth (first ∷ others) = max (external_depth first) (externals_depth others)

-- of a translation unit
abbrev pub unit_depth : List External → ℕ
unit_depth externals = 1 + externals_depth externals

-- a depth, or the greatest number of 32 bits where it is greater
abbrev pub capped : ℕ → ℕ
capped depth = min depth 4294967295
