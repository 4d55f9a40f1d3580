-- The forms that are built last, and the first token of the first of them in a unit: `defer`, `if` with a declaration,
-- function literals, `typeof` and `typeof_unqual`, `auto`, `constexpr` and `nullptr`. One function for each kind of tree.
use Rattle.std.specs.Prelude.{List, [], ◌∷◌, Option, Some, None}
use Rattle.cake_base.specs.declared.places.Place.{Place}
use Rattle.model_types.specs.declared.marks.Span.{Span}
use Rattle.model_grammar.specs.declared.syntax.StorageWord.{StorageWord}
use Rattle.model_grammar.specs.declared.syntax.StorageWord.TheVariants as storage
use Rattle.model_scopes.specs.Declaring.{or_place}
use Rattle.model_grammar.specs.SyntaxForms.{Expr, Identifier, Constant, Text, Truth, Nullptr, Parenthesized, CompoundLiteral, FunctionLiteral, Index, Call, Member, Arrow, Step, Unary, SizeofExpr, SizeofType, Alignof, Cast, Binary, Logic, Conditional, Assign, AssignBy, Comma, Exprs, no_exprs, more_exprs, MaybeExpr, no_expr, an_expr, TypeName, type_name, Spec, StorageSpec, FunctionSpec, TypeSpec, QualifierSpec, StructTag, Struct, EnumTag, Enum, TypedefName, TypeofExpr, TypeofType, Specs, no_specs, more_specs, MaybeSpecs, none_of_specs, some_specs, MemberDeclaration, MemberDeclarators, MemberAssertion, MemberDeclarations, no_members, more_members, Enumerator, enumerator, Enumerators, no_enumerators, more_enumerators, Declarator, Named, Unnamed, Grouped, Declarators, no_declarators, more_declarators, Suffix, ArraySuffix, FunctionSuffix, Suffixes, no_suffixes, more_suffixes, Parameter, parameter, Parameters, no_parameters, more_parameters, Initializer, Single, Braced, MaybeInitializer, no_initializer, an_initializer, Braces, braces, InitializerItem, item, InitializerItems, no_items, more_items, Designator, ElementDesignator, MemberDesignator, Designators, no_designators, more_designators, Declaration, SimpleDeclaration, AssertDeclaration, AttributeDeclaration, MaybeDeclaration, no_declaration, a_declaration, InitDeclarator, init_declarator, InitDeclarators, no_init_declarators, more_init_declarators, Assertion, asserted, Statement, ExpressionStatement, CompoundStatement, If, Switch, While, DoWhile, For, ForDeclaration, Break, Continue, Return, Defer, MaybeStatement, no_statement, a_statement, BlockItem, DeclarationItem, CaseLabel, DefaultLabel, StatementItem, BlockItems, no_block_items, more_block_items, Block, block, External, FunctionDefinition, ExternalDeclaration}

abbrev pub later_word : StorageWord → Place → Option Place
later_word storage.Typedef place = None
later_word storage.Extern place = None
later_word storage.Static place = None
later_word storage.Auto place = Some place
later_word storage.Register place = None
later_word storage.Constexpr place = Some place

-- an `if` with a declaration, whose word is the statement's first token
abbrev pub later_if : MaybeDeclaration → Span → Option Place → Option Place
later_if no_declaration span behind = behind
later_if (a_declaration declaration) span behind = Some span.first

abbrev mutual
  pub in_expr : Expr → Option Place
  in_expr (Identifier name) = None
  in_expr (Constant value basic place) = None
  in_expr (Text bytes place) = None
  in_expr (Truth value place) = None
  in_expr (Nullptr place) = Some place
  in_expr (Parenthesized inner place) = in_expr inner
  in_expr (CompoundLiteral name values place) = or_place (in_type_name name) (in_braces values)
  in_expr (FunctionLiteral name body place) = Some place
  in_expr (Index array index place) = or_place (in_expr array) (in_expr index)
  in_expr (Call function arguments place) = or_place (in_expr function) (in_exprs arguments)
  in_expr (Member structure member place) = in_expr structure
  in_expr (Arrow pointer member place) = in_expr pointer
  in_expr (Step op side operand place) = in_expr operand
  in_expr (Unary op operand place) = in_expr operand
  in_expr (SizeofExpr operand place) = in_expr operand
  in_expr (SizeofType name place) = in_type_name name
  in_expr (Alignof name place) = in_type_name name
  in_expr (Cast name operand place) = or_place (in_type_name name) (in_expr operand)
  in_expr (Binary op left right place) = or_place (in_expr left) (in_expr right)
  in_expr (Logic op left right place) = or_place (in_expr left) (in_expr right)
  in_expr (Conditional condition first second place) = or_place (in_expr condition) (or_place (in_expr first) (in_expr second))
  in_expr (Assign left right place) = or_place (in_expr left) (in_expr right)
  in_expr (AssignBy op left right place) = or_place (in_expr left) (in_expr right)
  in_expr (Comma first second place) = or_place (in_expr first) (in_expr second)

  pub in_exprs : Exprs → Option Place
  in_exprs no_exprs = None
  in_exprs (more_exprs first others) = or_place (in_expr first) (in_exprs others)

  pub in_maybe_expr : MaybeExpr → Option Place
  in_maybe_expr no_expr = None
  in_maybe_expr (an_expr expr) = in_expr expr

  pub in_type_name : TypeName → Option Place
  in_type_name (type_name specs declarator) = or_place (in_specs specs) (in_declarator declarator)

  pub in_spec : Spec → Option Place
  in_spec (StorageSpec word place) = later_word word place
  in_spec (FunctionSpec word place) = None
  in_spec (TypeSpec word place) = None
  in_spec (QualifierSpec qualifier) = None
  in_spec (StructTag tag place) = None
  in_spec (Struct tag members place) = in_member_declarations members
  in_spec (EnumTag tag fixed place) = in_maybe_specs fixed
  in_spec (Enum tag fixed enumerators place) = or_place (in_maybe_specs fixed) (in_enumerators enumerators)
  in_spec (TypedefName name) = None
  in_spec (TypeofExpr word operand place) = Some place
  in_spec (TypeofType word name place) = Some place

  pub in_specs : Specs → Option Place
  in_specs no_specs = None
  in_specs (more_specs first others) = or_place (in_spec first) (in_specs others)

  pub in_maybe_specs : MaybeSpecs → Option Place
  in_maybe_specs none_of_specs = None
  in_maybe_specs (some_specs specs) = in_specs specs

  pub in_member_declaration : MemberDeclaration → Option Place
  in_member_declaration (MemberDeclarators specs declarators) = or_place (in_specs specs) (in_declarators declarators)
  in_member_declaration (MemberAssertion assertion) = in_assertion assertion

  pub in_member_declarations : MemberDeclarations → Option Place
  in_member_declarations no_members = None
  in_member_declarations (more_members first others) = or_place (in_member_declaration first) (in_member_declarations others)

  pub in_enumerator : Enumerator → Option Place
  in_enumerator (enumerator name value) = in_maybe_expr value

  pub in_enumerators : Enumerators → Option Place
  in_enumerators no_enumerators = None
  in_enumerators (more_enumerators first others) = or_place (in_enumerator first) (in_enumerators others)

  pub in_declarator : Declarator → Option Place
  in_declarator (Named pointers name suffixes) = in_suffixes suffixes
  in_declarator (Unnamed pointers suffixes) = in_suffixes suffixes
  in_declarator (Grouped pointers inner suffixes place) = or_place (in_declarator inner) (in_suffixes suffixes)

  pub in_declarators : Declarators → Option Place
  in_declarators no_declarators = None
  in_declarators (more_declarators first others) = or_place (in_declarator first) (in_declarators others)

  pub in_suffix : Suffix → Option Place
  in_suffix (ArraySuffix length place) = in_maybe_expr length
  in_suffix (FunctionSuffix parameters is_variadic place) = in_parameters parameters

  pub in_suffixes : Suffixes → Option Place
  in_suffixes no_suffixes = None
  in_suffixes (more_suffixes first others) = or_place (in_suffix first) (in_suffixes others)

  pub in_parameter : Parameter → Option Place
  in_parameter (parameter specs declarator first) = or_place (in_specs specs) (in_declarator declarator)

  pub in_parameters : Parameters → Option Place
  in_parameters no_parameters = None
  in_parameters (more_parameters first others) = or_place (in_parameter first) (in_parameters others)

  pub in_initializer : Initializer → Option Place
  in_initializer (Single value) = in_expr value
  in_initializer (Braced values) = in_braces values

  pub in_maybe_initializer : MaybeInitializer → Option Place
  in_maybe_initializer no_initializer = None
  in_maybe_initializer (an_initializer initializer) = in_initializer initializer

  pub in_braces : Braces → Option Place
  in_braces (braces items place) = in_initializer_items items

  pub in_initializer_item : InitializerItem → Option Place
  in_initializer_item (item designators value) = or_place (in_designators designators) (in_initializer value)

  pub in_initializer_items : InitializerItems → Option Place
  in_initializer_items no_items = None
  in_initializer_items (more_items first others) = or_place (in_initializer_item first) (in_initializer_items others)

  pub in_designator : Designator → Option Place
  in_designator (ElementDesignator index place) = in_expr index
  in_designator (MemberDesignator member place) = None

  pub in_designators : Designators → Option Place
  in_designators no_designators = None
  in_designators (more_designators first others) = or_place (in_designator first) (in_designators others)

  pub in_declaration : Declaration → Option Place
  in_declaration (SimpleDeclaration specs declarators) = or_place (in_specs specs) (in_init_declarators declarators)
  in_declaration (AssertDeclaration assertion) = in_assertion assertion
  in_declaration AttributeDeclaration = None

  pub in_maybe_declaration : MaybeDeclaration → Option Place
  in_maybe_declaration no_declaration = None
  in_maybe_declaration (a_declaration declaration) = in_declaration declaration

  pub in_init_declarator : InitDeclarator → Option Place
  in_init_declarator (init_declarator declarator initializer) = or_place (in_declarator declarator) (in_maybe_initializer initializer)

  pub in_init_declarators : InitDeclarators → Option Place
  in_init_declarators no_init_declarators = None
  in_init_declarators (more_init_declarators first others) = or_place (in_init_declarator first) (in_init_declarators others)

  pub in_assertion : Assertion → Option Place
  in_assertion (asserted condition message place) = in_expr condition

  pub in_statement : Statement → Option Place
  in_statement (ExpressionStatement value span) = in_maybe_expr value
  in_statement (CompoundStatement body span) = in_block body
  in_statement (If declaration condition first second span) = later_if declaration span (or_place (in_expr condition) (or_place (in_statement first) (in_maybe_statement second)))
  in_statement (Switch value body span) = or_place (in_expr value) (in_statement body)
  in_statement (While condition body span) = or_place (in_expr condition) (in_statement body)
  in_statement (DoWhile body condition span) = or_place (in_statement body) (in_expr condition)
  in_statement (For first condition step body span) = or_place (in_maybe_expr first) (or_place (in_maybe_expr condition) (or_place (in_maybe_expr step) (in_statement body)))
  in_statement (ForDeclaration declaration condition step body span) = or_place (in_declaration declaration) (or_place (in_maybe_expr condition) (or_place (in_maybe_expr step) (in_statement body)))
  in_statement (Break place span) = None
  in_statement (Continue place span) = None
  in_statement (Return value place span) = in_maybe_expr value
  in_statement (Defer body place span) = Some place

  pub in_maybe_statement : MaybeStatement → Option Place
  in_maybe_statement no_statement = None
  in_maybe_statement (a_statement statement) = in_statement statement

  pub in_block_item : BlockItem → Option Place
  in_block_item (DeclarationItem declaration) = in_declaration declaration
  in_block_item (CaseLabel value place) = in_expr value
  in_block_item (DefaultLabel place) = None
  in_block_item (StatementItem statement) = in_statement statement

  pub in_block_items : BlockItems → Option Place
  in_block_items no_block_items = None
  in_block_items (more_block_items first others) = or_place (in_block_item first) (in_block_items others)

  pub in_block : Block → Option Place
  in_block (block items span) = in_block_items items

abbrev pub in_external : External → Option Place
in_external (FunctionDefinition specs declarator body) = or_place (in_specs specs) (or_place (in_declarator declarator) (in_block body))
in_external (ExternalDeclaration declaration) = in_declaration declaration

abbrev pub in_externals : List External → Option Place
in_externals [] = None
in_externals (first ∷ others) = or_place (in_external first) (in_externals others)

-- the first token of the first of them, where there is one
abbrev pub first_later : List External → Option Place
first_later externals = in_externals externals
