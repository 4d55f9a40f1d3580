-- The trees that the laws of whole expressions are about. Of what the grammar gives (ISO/IEC 9899:2024, 6.4 to 6.7): a
-- constant is one of its type, and an array can have a string's length. Not among them are trees with function
-- literals, with parameters, or with the braces of structures.
use Rattle.std.specs.Prelude.{nat_lt, Bool, true, false, ◌&&◌, length}
use Rattle.model_types.specs.Operations.{fits}
use Rattle.model_types.specs.Layout.{size_limit}
use Rattle.model_grammar.specs.SyntaxForms as syntax

abbrev mutual
  pub is_covered : syntax.Expr → Bool
  is_covered (syntax.Identifier name) = true
  is_covered (syntax.Constant value basic place) = fits basic value
  is_covered (syntax.Text bytes place) = nat_lt (length bytes) size_limit
  is_covered (syntax.Truth value place) = true
  is_covered (syntax.Nullptr place) = true
  is_covered (syntax.Parenthesized inner place) = is_covered inner
  is_covered (syntax.CompoundLiteral name values place) = is_covered_name name && are_covered_braces values
  is_covered (syntax.FunctionLiteral name body place) = false
  is_covered (syntax.Index array at place) = is_covered array && is_covered at
  is_covered (syntax.Call function arguments place) = is_covered function && are_covered arguments
  is_covered (syntax.Member structure name place) = is_covered structure
  is_covered (syntax.Arrow pointer name place) = is_covered pointer
  is_covered (syntax.Step op side object place) = is_covered object
  is_covered (syntax.Unary op e place) = is_covered e
  is_covered (syntax.SizeofExpr e place) = is_covered e
  is_covered (syntax.SizeofType name place) = is_covered_name name
  is_covered (syntax.Alignof name place) = is_covered_name name
  is_covered (syntax.Cast name e place) = is_covered_name name && is_covered e
  is_covered (syntax.Binary op left right place) = is_covered left && is_covered right
  is_covered (syntax.Logic op left right place) = is_covered left && is_covered right
  is_covered (syntax.Conditional condition first second place) = is_covered condition && (is_covered first && is_covered second)
  is_covered (syntax.Assign left right place) = is_covered left && is_covered right
  is_covered (syntax.AssignBy op left right place) = is_covered left && is_covered right
  is_covered (syntax.Comma first second place) = is_covered first && is_covered second

  pub are_covered : syntax.Exprs → Bool
  are_covered syntax.no_exprs = true
  are_covered (syntax.more_exprs first others) = is_covered first && are_covered others

  pub is_covered_if_any : syntax.MaybeExpr → Bool
  is_covered_if_any syntax.no_expr = true
  is_covered_if_any (syntax.an_expr e) = is_covered e

  pub is_covered_name : syntax.TypeName → Bool
  is_covered_name (syntax.type_name specs d) = are_covered_specs specs && is_covered_declarator d

  pub are_covered_specs : syntax.Specs → Bool
  are_covered_specs syntax.no_specs = true
  are_covered_specs (syntax.more_specs first others) = is_covered_spec first && are_covered_specs others

  pub is_covered_spec : syntax.Spec → Bool
  is_covered_spec (syntax.StorageSpec word place) = true
  is_covered_spec (syntax.FunctionSpec word place) = true
  is_covered_spec (syntax.TypeSpec word place) = true
  is_covered_spec (syntax.QualifierSpec qualifier) = true
  is_covered_spec (syntax.StructTag tag place) = true
  is_covered_spec (syntax.Struct tag _ place) = false
  is_covered_spec (syntax.EnumTag tag fixed place) = is_covered_fixed fixed
  is_covered_spec (syntax.Enum tag fixed enumerators place) = is_covered_fixed fixed && are_covered_enumerators enumerators
  is_covered_spec (syntax.TypedefName name) = true
  is_covered_spec (syntax.TypeofExpr word e place) = is_covered e
  is_covered_spec (syntax.TypeofType word name place) = is_covered_name name

  pub is_covered_fixed : syntax.MaybeSpecs → Bool
  is_covered_fixed syntax.none_of_specs = true
  is_covered_fixed (syntax.some_specs specs) = are_covered_specs specs

  pub are_covered_enumerators : syntax.Enumerators → Bool
  are_covered_enumerators syntax.no_enumerators = true
  are_covered_enumerators (syntax.more_enumerators (syntax.enumerator name value) others) = is_covered_if_any value && are_covered_enumerators others

  pub is_covered_declarator : syntax.Declarator → Bool
  is_covered_declarator (syntax.Named pointers name suffixes) = are_covered_suffixes suffixes
  is_covered_declarator (syntax.Unnamed pointers suffixes) = are_covered_suffixes suffixes
  is_covered_declarator (syntax.Grouped pointers inner suffixes place) = is_covered_declarator inner && are_covered_suffixes suffixes

  pub are_covered_suffixes : syntax.Suffixes → Bool
  are_covered_suffixes syntax.no_suffixes = true
  are_covered_suffixes (syntax.more_suffixes first others) = is_covered_suffix first && are_covered_suffixes others

  pub is_covered_suffix : syntax.Suffix → Bool
  is_covered_suffix (syntax.ArraySuffix length place) = is_covered_if_any length
  is_covered_suffix (syntax.FunctionSuffix _ is_variadic place) = false

  pub are_covered_braces : syntax.Braces → Bool
  are_covered_braces (syntax.braces items place) = are_covered_items items

  pub are_covered_items : syntax.InitializerItems → Bool
  are_covered_items syntax.no_items = true
  are_covered_items (syntax.more_items (syntax.item designators value) others) =
      are_covered_designators designators && (is_covered_initializer value && are_covered_items others)

  pub is_covered_initializer : syntax.Initializer → Bool
  is_covered_initializer (syntax.Single value) = is_covered value
  is_covered_initializer (syntax.Braced values) = are_covered_braces values

  pub are_covered_designators : syntax.Designators → Bool
  are_covered_designators syntax.no_designators = true
  are_covered_designators (syntax.more_designators first others) = is_covered_designator first && are_covered_designators others

  pub is_covered_designator : syntax.Designator → Bool
  is_covered_designator (syntax.ElementDesignator at place) = is_covered at
  is_covered_designator (syntax.MemberDesignator name place) = true
