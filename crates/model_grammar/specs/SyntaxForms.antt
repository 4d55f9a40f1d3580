-- The grammar's trees by their forms (ISO/IEC 9899:2024, 6.5 to 6.9): one form for each production, with the places of
-- the tokens at which rules and runs stand. Names stand as they are written, a typedef name among them; attributes
-- leave nothing. In a form the last place is that of its operator or word, or of its `(` or `[`, unless told otherwise.
use Rattle.std.specs.Prelude.{ℕ, ℤ, Bool, List, [], ◌∷◌, Option}
use Rattle.cake_base.specs.declared.places.Place.{Place}
use Rattle.model_types.specs.declared.numbers.Basic.{Basic}
use Rattle.model_types.specs.declared.numbers.BinOp.{BinOp}
use Rattle.model_types.specs.declared.operators.LogicOp.{LogicOp}
use Rattle.model_types.specs.declared.operators.StepOp.{StepOp}
use Rattle.model_types.specs.declared.operators.StepSide.{StepSide}
use Rattle.model_types.specs.declared.marks.Span.{Span}
use Rattle.model_grammar.specs.declared.syntax.Name.{Name}
use Rattle.model_grammar.specs.declared.syntax.StorageWord.{StorageWord}
use Rattle.model_grammar.specs.declared.syntax.FunctionWord.{FunctionWord}
use Rattle.model_grammar.specs.declared.syntax.TypeWord.{TypeWord}
use Rattle.model_grammar.specs.declared.syntax.Qualifier.{Qualifier}
use Rattle.model_grammar.specs.declared.syntax.Pointer.{Pointer}
use Rattle.model_grammar.specs.declared.syntax.TypeofWord.{TypeofWord}
use Rattle.model_grammar.specs.declared.syntax.PrefixOp.{PrefixOp}

mutual
  -- an expression (6.5); a character constant is an integer constant
  pub data Expr : Type 0 where
    Identifier : (name : Name) → Expr
    Constant : (value : ℤ) (basic : Basic) (place : Place) → Expr
    Text : (bytes : List ℕ) (place : Place) → Expr
    Truth : (value : Bool) (place : Place) → Expr
    Nullptr : (place : Place) → Expr
    Parenthesized : (inner : Expr) (place : Place) → Expr
    CompoundLiteral : (name : TypeName) (values : Braces) (place : Place) → Expr
    FunctionLiteral : (name : TypeName) (body : Block) (place : Place) → Expr
    Index : (array index : Expr) (place : Place) → Expr
    Call : (function : Expr) (arguments : Exprs) (place : Place) → Expr
    Member : (structure : Expr) (member : Name) (place : Place) → Expr
    Arrow : (pointer : Expr) (member : Name) (place : Place) → Expr
    Step : (op : StepOp) (side : StepSide) (operand : Expr) (place : Place) → Expr
    Unary : (op : PrefixOp) (operand : Expr) (place : Place) → Expr
    SizeofExpr : (operand : Expr) (place : Place) → Expr
    SizeofType : (name : TypeName) (place : Place) → Expr
    Alignof : (name : TypeName) (place : Place) → Expr
    Cast : (name : TypeName) (operand : Expr) (place : Place) → Expr
    Binary : (op : BinOp) (left right : Expr) (place : Place) → Expr
    Logic : (op : LogicOp) (left right : Expr) (place : Place) → Expr
    Conditional : (condition first second : Expr) (place : Place) → Expr
    Assign : (left right : Expr) (place : Place) → Expr
    AssignBy : (op : BinOp) (left right : Expr) (place : Place) → Expr
    Comma : (first second : Expr) (place : Place) → Expr

  pub data Exprs : Type 0 where
    no_exprs : Exprs
    more_exprs : (first : Expr) (others : Exprs) → Exprs

  pub data MaybeExpr : Type 0 where
    no_expr : MaybeExpr
    an_expr : (expr : Expr) → MaybeExpr

  -- a type name (6.7.8), whose declarator has no name
  pub data TypeName : Type 0 where
    type_name : (specs : Specs) (declarator : Declarator) → TypeName

  -- a specifier (6.7.1 to 6.7.5); of a structure or enumeration, `fixed` is the specifiers of its type, and the place
  -- that of its word
  pub data Spec : Type 0 where
    StorageSpec : (word : StorageWord) (place : Place) → Spec
    FunctionSpec : (word : FunctionWord) (place : Place) → Spec
    TypeSpec : (word : TypeWord) (place : Place) → Spec
    QualifierSpec : (qualifier : Qualifier) → Spec
    StructTag : (tag : Name) (place : Place) → Spec
    Struct : (tag : Option Name) (members : MemberDeclarations) (place : Place) → Spec
    EnumTag : (tag : Name) (fixed : MaybeSpecs) (place : Place) → Spec
    Enum : (tag : Option Name) (fixed : MaybeSpecs) (enumerators : Enumerators) (place : Place) → Spec
    TypedefName : (name : Name) → Spec
    TypeofExpr : (word : TypeofWord) (operand : Expr) (place : Place) → Spec
    TypeofType : (word : TypeofWord) (name : TypeName) (place : Place) → Spec

  pub data Specs : Type 0 where
    no_specs : Specs
    more_specs : (first : Spec) (others : Specs) → Specs

  pub data MaybeSpecs : Type 0 where
    none_of_specs : MaybeSpecs
    some_specs : (specs : Specs) → MaybeSpecs

  -- the members that one declaration of a structure declares (6.7.3.2)
  pub data MemberDeclaration : Type 0 where
    MemberDeclarators : (specs : Specs) (declarators : Declarators) → MemberDeclaration
    MemberAssertion : (assertion : Assertion) → MemberDeclaration

  pub data MemberDeclarations : Type 0 where
    no_members : MemberDeclarations
    more_members : (first : MemberDeclaration) (others : MemberDeclarations) → MemberDeclarations

  -- an enumerator (6.7.3.3)
  pub data Enumerator : Type 0 where
    enumerator : (name : Name) (value : MaybeExpr) → Enumerator

  pub data Enumerators : Type 0 where
    no_enumerators : Enumerators
    more_enumerators : (first : Enumerator) (others : Enumerators) → Enumerators

  -- a declarator (6.7.7), or an abstract one, whose name is missing (6.7.8); the suffixes stand behind its name, or
  -- behind the `)` of the declarator inside; the place is that of the `(`
  pub data Declarator : Type 0 where
    Named : (pointers : List Pointer) (name : Name) (suffixes : Suffixes) → Declarator
    Unnamed : (pointers : List Pointer) (suffixes : Suffixes) → Declarator
    Grouped : (pointers : List Pointer) (inner : Declarator) (suffixes : Suffixes) (place : Place) → Declarator

  pub data Declarators : Type 0 where
    no_declarators : Declarators
    more_declarators : (first : Declarator) (others : Declarators) → Declarators

  -- what makes an array or a function of a declarator (6.7.7.3, 6.7.7.4)
  pub data Suffix : Type 0 where
    ArraySuffix : (length : MaybeExpr) (place : Place) → Suffix
    FunctionSuffix : (parameters : Parameters) (is_variadic : Bool) (place : Place) → Suffix

  pub data Suffixes : Type 0 where
    no_suffixes : Suffixes
    more_suffixes : (first : Suffix) (others : Suffixes) → Suffixes

  -- a parameter, with the place of its first token
  pub data Parameter : Type 0 where
    parameter : (specs : Specs) (declarator : Declarator) (first : Place) → Parameter

  pub data Parameters : Type 0 where
    no_parameters : Parameters
    more_parameters : (first : Parameter) (others : Parameters) → Parameters

  -- an initializer (6.7.11); braces have the place of their `{`
  pub data Initializer : Type 0 where
    Single : (value : Expr) → Initializer
    Braced : (values : Braces) → Initializer

  pub data MaybeInitializer : Type 0 where
    no_initializer : MaybeInitializer
    an_initializer : (initializer : Initializer) → MaybeInitializer

  pub data Braces : Type 0 where
    braces : (items : InitializerItems) (place : Place) → Braces

  pub data InitializerItem : Type 0 where
    item : (designators : Designators) (value : Initializer) → InitializerItem

  pub data InitializerItems : Type 0 where
    no_items : InitializerItems
    more_items : (first : InitializerItem) (others : InitializerItems) → InitializerItems

  -- a designator, with the place of its `[` or `.`
  pub data Designator : Type 0 where
    ElementDesignator : (index : Expr) (place : Place) → Designator
    MemberDesignator : (member : Name) (place : Place) → Designator

  pub data Designators : Type 0 where
    no_designators : Designators
    more_designators : (first : Designator) (others : Designators) → Designators

  -- a declaration (6.7); one of attributes alone declares nothing
  pub data Declaration : Type 0 where
    SimpleDeclaration : (specs : Specs) (declarators : InitDeclarators) → Declaration
    AssertDeclaration : (assertion : Assertion) → Declaration
    AttributeDeclaration : Declaration

  pub data MaybeDeclaration : Type 0 where
    no_declaration : MaybeDeclaration
    a_declaration : (declaration : Declaration) → MaybeDeclaration

  pub data InitDeclarator : Type 0 where
    init_declarator : (declarator : Declarator) (initializer : MaybeInitializer) → InitDeclarator

  pub data InitDeclarators : Type 0 where
    no_init_declarators : InitDeclarators
    more_init_declarators : (first : InitDeclarator) (others : InitDeclarators) → InitDeclarators

  -- `static_assert` with its message (6.7.12)
  pub data Assertion : Type 0 where
    asserted : (condition : Expr) (message : Option (List ℕ)) (place : Place) → Assertion

  -- a statement (6.8), with its first token behind its attributes, and its last
  pub data Statement : Type 0 where
    ExpressionStatement : (value : MaybeExpr) (span : Span) → Statement
    CompoundStatement : (body : Block) (span : Span) → Statement
    If : (declaration : MaybeDeclaration) (condition : Expr) (first : Statement) (second : MaybeStatement) (span : Span) → Statement
    Switch : (value : Expr) (body : Statement) (span : Span) → Statement
    While : (condition : Expr) (body : Statement) (span : Span) → Statement
    DoWhile : (body : Statement) (condition : Expr) (span : Span) → Statement
    For : (first condition step : MaybeExpr) (body : Statement) (span : Span) → Statement
    ForDeclaration : (declaration : Declaration) (condition step : MaybeExpr) (body : Statement) (span : Span) → Statement
    Break : (place : Place) (span : Span) → Statement
    Continue : (place : Place) (span : Span) → Statement
    Return : (value : MaybeExpr) (place : Place) (span : Span) → Statement
    Defer : (body : Statement) (place : Place) (span : Span) → Statement

  pub data MaybeStatement : Type 0 where
    no_statement : MaybeStatement
    a_statement : (statement : Statement) → MaybeStatement

  -- what a block holds (6.8.3): labels stand between statements
  pub data BlockItem : Type 0 where
    DeclarationItem : (declaration : Declaration) → BlockItem
    CaseLabel : (value : Expr) (place : Place) → BlockItem
    DefaultLabel : (place : Place) → BlockItem
    StatementItem : (statement : Statement) → BlockItem

  pub data BlockItems : Type 0 where
    no_block_items : BlockItems
    more_block_items : (first : BlockItem) (others : BlockItems) → BlockItems

  -- a block, with the places of its braces
  pub data Block : Type 0 where
    block : (items : BlockItems) (span : Span) → Block

-- what a unit consists of (6.9)
pub data External : Type 0 where
  FunctionDefinition : (specs : Specs) (declarator : Declarator) (body : Block) → External
  ExternalDeclaration : (declaration : Declaration) → External

-- the expressions of a list
abbrev pub exprs : List Expr → Exprs
exprs [] = no_exprs
exprs (first ∷ others) = more_exprs first (exprs others)

-- the declarators of a list
abbrev pub declarators : List Declarator → Declarators
declarators [] = no_declarators
declarators (first ∷ others) = more_declarators first (declarators others)
