-- Of which sort the form is that each nonterminal stands for.
use Rattle.std.specs.Prelude.{◌≡◌, List, [], ◌∷◌, Some, slice_get}
use Rattle.cake_base.specs.declared.places.Place.{Place}
use Rattle.model_grammar.specs.declared.grammar.Rule.{Rule}
use Rattle.model_grammar.specs.declared.grammar.Rule.TheVariants as r
use Rattle.model_grammar.specs.declared.grammar.Terminal.{Terminal}
use Rattle.model_grammar.specs.declared.syntax.Qualifier.{Qualifier}
use Rattle.model_tokens.specs.declared.tokens.CTok.{CTok}
use Rattle.model_grammar.specs.SyntaxForms as syntax
use Rattle.model_grammar.specs.SyntaxValues.{Meaning, nothing, an_expr, a_type_name, a_spec, a_qualifier, some_specs, some_members, a_member, an_enumerator, a_declarator, a_suffix, some_parameters, a_parameter, an_initializer, some_braces, an_item, a_designator, a_declaration, an_init_declarator, an_assertion, a_statement, a_block_item, a_block, an_external, a_unit}

pub data Sort : Type 0 where
  -- attributes, which stand for nothing
  NoSort : Sort
  ExprSort : Sort
  TypeNameSort : Sort
  SpecSort : Sort
  QualifierSort : Sort
  SpecsSort : Sort
  MembersSort : Sort
  MemberSort : Sort
  EnumeratorSort : Sort
  DeclaratorSort : Sort
  SuffixSort : Sort
  ParametersSort : Sort
  ParameterSort : Sort
  InitializerSort : Sort
  BracesSort : Sort
  ItemSort : Sort
  DesignatorSort : Sort
  DeclarationSort : Sort
  InitDeclaratorSort : Sort
  AssertionSort : Sort
  StatementSort : Sort
  BlockItemSort : Sort
  BlockSort : Sort
  ExternalSort : Sort
  UnitSort : Sort

abbrev pub sort_of : Rule → Sort
sort_of r.Unit = UnitSort
sort_of r.External = ExternalSort
sort_of r.Function = ExternalSort
sort_of r.Declaration = DeclarationSort
sort_of r.Sassert = AssertionSort
sort_of r.Attrs = NoSort
sort_of r.Attr = NoSort
sort_of r.Specs = SpecsSort
sort_of r.Spec = SpecSort
sort_of r.Storage = SpecSort
sort_of r.Typespec = SpecSort
sort_of r.Qual = QualifierSort
sort_of r.Squals = SpecsSort
sort_of r.Struct = SpecSort
sort_of r.Members = MembersSort
sort_of r.Member = MemberSort
sort_of r.Enum = SpecSort
sort_of r.Enumr = EnumeratorSort
sort_of r.Declarator = DeclaratorSort
sort_of r.Direct = DeclaratorSort
sort_of r.Suffix = SuffixSort
sort_of r.Params = ParametersSort
sort_of r.Param = ParameterSort
sort_of r.Typename = TypeNameSort
sort_of r.Abstract = DeclaratorSort
sort_of r.Adirect = DeclaratorSort
sort_of r.Initdecl = InitDeclaratorSort
sort_of r.Init = InitializerSort
sort_of r.Braces = BracesSort
sort_of r.Item = ItemSort
sort_of r.Desig = DesignatorSort
sort_of r.Block = BlockSort
sort_of r.Label = BlockItemSort
sort_of r.Statement = StatementSort
sort_of r.Expr = ExprSort
sort_of r.Assign = ExprSort
sort_of r.Cond = ExprSort
sort_of r.Oror = ExprSort
sort_of r.Andand = ExprSort
sort_of r.Bor = ExprSort
sort_of r.Bxor = ExprSort
sort_of r.Band = ExprSort
sort_of r.Equal = ExprSort
sort_of r.Rel = ExprSort
sort_of r.Shift = ExprSort
sort_of r.Sum = ExprSort
sort_of r.Product = ExprSort
sort_of r.Cast = ExprSort
sort_of r.Unary = ExprSort
sort_of r.Postfix = ExprSort
sort_of r.Primary = ExprSort
sort_of r.Literal = ExprSort
sort_of r.Balanced = NoSort
sort_of r.Declared = DeclaratorSort
sort_of r.ParamSpecs = SpecsSort
sort_of r.Body = BlockSort
sort_of r.Typeof = SpecSort
sort_of r.If = StatementSort
sort_of r.For = StatementSort

-- a meaning of a sort
pub data Sorted : Sort → Meaning → Type 0 where
  sorted_nothing : Sorted NoSort nothing
  sorted_expr : (x : syntax.Expr) → Sorted ExprSort (an_expr x)
  sorted_typename : (x : syntax.TypeName) → Sorted TypeNameSort (a_type_name x)
  sorted_spec : (x : syntax.Spec) → Sorted SpecSort (a_spec x)
  sorted_qualifier : (x : Qualifier) → Sorted QualifierSort (a_qualifier x)
  sorted_specs : (x : syntax.Specs) → Sorted SpecsSort (some_specs x)
  sorted_members : (x : syntax.MemberDeclarations) → Sorted MembersSort (some_members x)
  sorted_member : (x : syntax.MemberDeclaration) → Sorted MemberSort (a_member x)
  sorted_enumerator : (x : syntax.Enumerator) → Sorted EnumeratorSort (an_enumerator x)
  sorted_declarator : (x : syntax.Declarator) → Sorted DeclaratorSort (a_declarator x)
  sorted_suffix : (x : syntax.Suffix) → Sorted SuffixSort (a_suffix x)
  sorted_parameters : (x : Place → syntax.Suffix) → Sorted ParametersSort (some_parameters x)
  sorted_parameter : (x : syntax.Parameter) → Sorted ParameterSort (a_parameter x)
  sorted_initializer : (x : syntax.Initializer) → Sorted InitializerSort (an_initializer x)
  sorted_braces : (x : syntax.Braces) → Sorted BracesSort (some_braces x)
  sorted_item : (x : syntax.InitializerItem) → Sorted ItemSort (an_item x)
  sorted_designator : (x : syntax.Designator) → Sorted DesignatorSort (a_designator x)
  sorted_declaration : (x : syntax.Declaration) → Sorted DeclarationSort (a_declaration x)
  sorted_initdeclarator : (x : syntax.InitDeclarator) → Sorted InitDeclaratorSort (an_init_declarator x)
  sorted_assertion : (x : syntax.Assertion) → Sorted AssertionSort (an_assertion x)
  sorted_statement : (x : syntax.Statement) → Sorted StatementSort (a_statement x)
  sorted_blockitem : (x : syntax.BlockItem) → Sorted BlockItemSort (a_block_item x)
  sorted_block : (x : syntax.Block) → Sorted BlockSort (a_block x)
  sorted_external : (x : syntax.External) → Sorted ExternalSort (an_external x)
  sorted_unit : (x : List syntax.External) → Sorted UnitSort (a_unit x)

-- each terminal is a token of the list
abbrev pub AreTokens : List CTok → List Terminal → Type 0
AreTokens tokens [] = Unit {0}
AreTokens tokens (t ∷ ts) = ((c : CTok) × (slice_get tokens t.rank ≡ Some c)) × AreTokens tokens ts
