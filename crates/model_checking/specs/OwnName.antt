-- Whether an initializer names the object that it is for (ISO/IEC 9899:2024, 6.2.1): a name inside is bound to that
-- object where no enumerator or parameter inside has hidden it. The bodies of function literals don't count. An
-- enumerator that isn't inside a list of parameters has the object's scope, and declares its name there again.
use Rattle.std.specs.Prelude.{ℕ, Bool, true, false, if◌then◌else◌, List, Option, Some, None}
use Rattle.cake_base.specs.declared.places.Place.{Place}
use Rattle.model_types.specs.Texts.{same_text}
use Rattle.model_grammar.specs.declared.syntax.Name.{Name}
use Rattle.model_grammar.specs.SyntaxForms.{Expr, Identifier, Constant, Text, Truth, Nullptr, Parenthesized, CompoundLiteral, FunctionLiteral, Index, Call, Member, Arrow, Step, Unary, SizeofExpr, SizeofType, Alignof, Cast, Binary, Logic, Conditional, Assign, AssignBy, Comma, Exprs, no_exprs, more_exprs, MaybeExpr, no_expr, an_expr, TypeName, type_name, Spec, StorageSpec, FunctionSpec, TypeSpec, QualifierSpec, StructTag, Struct, EnumTag, Enum, TypedefName, TypeofExpr, TypeofType, Specs, no_specs, more_specs, MaybeSpecs, none_of_specs, some_specs, MemberDeclaration, MemberDeclarators, MemberAssertion, MemberDeclarations, no_members, more_members, enumerator, Enumerators, no_enumerators, more_enumerators, Declarator, Named, Unnamed, Grouped, Declarators, no_declarators, more_declarators, Suffix, ArraySuffix, FunctionSuffix, Suffixes, no_suffixes, more_suffixes, parameter, Parameters, no_parameters, more_parameters, Initializer, Single, Braced, Braces, braces, item, InitializerItems, no_items, more_items, ElementDesignator, MemberDesignator, Designators, no_designators, more_designators, Assertion, asserted}

-- of the object's name at a point: it is bound to the object; a declaration at a place has hidden it; or it was used
-- while bound
pub data Sight : Type 0 where
  Bound : Sight
  Hidden : (place : Place) → Sight
  Used : Sight

abbrev used : Sight → Sight
used Bound = Used
used (Hidden place) = Hidden place
used Used = Used

abbrev hidden : Place → Sight → Sight
hidden place Bound = Hidden place
hidden place (Hidden former) = Hidden former
hidden place Used = Used

-- behind a scope: what was hidden in it is so no longer
abbrev behind : (before after : Sight) → Sight
behind before Bound = before
behind before (Hidden place) = before
behind before Used = Used

abbrev at_use : (object : List ℕ) → Name → Sight → Sight
at_use object name sight = if same_text name.text object then used sight else sight

abbrev at_declaration : (object : List ℕ) → Name → Sight → Sight
at_declaration object name sight = if same_text name.text object then hidden name.place sight else sight

-- the parts of a form, from the left
abbrev mutual
  in_expr : List ℕ → Sight → Expr → Sight
  in_expr o s (Identifier name) = at_use o name s
  in_expr o s (Constant value basic place) = s
  in_expr o s (Text bytes place) = s
  in_expr o s (Truth value place) = s
  in_expr o s (Nullptr place) = s
  in_expr o s (Parenthesized inner place) = in_expr o s inner
  in_expr o s (CompoundLiteral name values place) = in_braces o (in_type_name o s name) values
  in_expr o s (FunctionLiteral name body place) = in_type_name o s name
  in_expr o s (Index array index place) = in_expr o (in_expr o s array) index
  in_expr o s (Call function arguments place) = in_exprs o (in_expr o s function) arguments
  in_expr o s (Member structure member place) = in_expr o s structure
  in_expr o s (Arrow pointer member place) = in_expr o s pointer
  in_expr o s (Step op side operand place) = in_expr o s operand
  in_expr o s (Unary op operand place) = in_expr o s operand
  in_expr o s (SizeofExpr operand place) = in_expr o s operand
  in_expr o s (SizeofType name place) = in_type_name o s name
  in_expr o s (Alignof name place) = in_type_name o s name
  in_expr o s (Cast name operand place) = in_expr o (in_type_name o s name) operand
  in_expr o s (Binary op left right place) = in_expr o (in_expr o s left) right
  in_expr o s (Logic op left right place) = in_expr o (in_expr o s left) right
  in_expr o s (Conditional condition first second place) = in_expr o (in_expr o (in_expr o s condition) first) second
  in_expr o s (Assign left right place) = in_expr o (in_expr o s left) right
  in_expr o s (AssignBy op left right place) = in_expr o (in_expr o s left) right
  in_expr o s (Comma first second place) = in_expr o (in_expr o s first) second

  in_exprs : List ℕ → Sight → Exprs → Sight
  in_exprs o s no_exprs = s
  in_exprs o s (more_exprs first others) = in_exprs o (in_expr o s first) others

  in_maybe : List ℕ → Sight → MaybeExpr → Sight
  in_maybe o s no_expr = s
  in_maybe o s (an_expr e) = in_expr o s e

  in_type_name : List ℕ → Sight → TypeName → Sight
  in_type_name o s (type_name specs declarator) = in_declarator o (in_specs o s specs) declarator

  in_spec : List ℕ → Sight → Spec → Sight
  in_spec o s (StorageSpec word place) = s
  in_spec o s (FunctionSpec word place) = s
  in_spec o s (TypeSpec word place) = s
  in_spec o s (QualifierSpec qualifier) = s
  in_spec o s (StructTag tag place) = s
  in_spec o s (Struct tag members place) = in_members o s members
  in_spec o s (EnumTag tag fixed place) = in_maybe_specs o s fixed
  in_spec o s (Enum tag fixed enumerators place) = in_enumerators o (in_maybe_specs o s fixed) enumerators
  in_spec o s (TypedefName name) = s
  in_spec o s (TypeofExpr word operand place) = in_expr o s operand
  in_spec o s (TypeofType word name place) = in_type_name o s name

  in_specs : List ℕ → Sight → Specs → Sight
  in_specs o s no_specs = s
  in_specs o s (more_specs first others) = in_specs o (in_spec o s first) others

  in_maybe_specs : List ℕ → Sight → MaybeSpecs → Sight
  in_maybe_specs o s none_of_specs = s
  in_maybe_specs o s (some_specs specs) = in_specs o s specs

  in_member : List ℕ → Sight → MemberDeclaration → Sight
  in_member o s (MemberDeclarators specs declarators) = in_declarators o (in_specs o s specs) declarators
  in_member o s (MemberAssertion assertion) = in_assertion o s assertion

  in_members : List ℕ → Sight → MemberDeclarations → Sight
  in_members o s no_members = s
  in_members o s (more_members first others) = in_members o (in_member o s first) others

  in_assertion : List ℕ → Sight → Assertion → Sight
  in_assertion o s (asserted condition message place) = in_expr o s condition

  -- an enumerator's scope begins behind its value
  in_enumerators : List ℕ → Sight → Enumerators → Sight
  in_enumerators o s no_enumerators = s
  in_enumerators o s (more_enumerators (enumerator name value) others) = in_enumerators o (at_declaration o name (in_maybe o s value)) others

  in_declarator : List ℕ → Sight → Declarator → Sight
  in_declarator o s (Named pointers name suffixes) = in_suffixes o s suffixes
  in_declarator o s (Unnamed pointers suffixes) = in_suffixes o s suffixes
  in_declarator o s (Grouped pointers inner suffixes place) = in_suffixes o (in_declarator o s inner) suffixes

  in_declarators : List ℕ → Sight → Declarators → Sight
  in_declarators o s no_declarators = s
  in_declarators o s (more_declarators first others) = in_declarators o (in_declarator o s first) others

  in_suffix : List ℕ → Sight → Suffix → Sight
  in_suffix o s (ArraySuffix length place) = in_maybe o s length
  in_suffix o s (FunctionSuffix parameters is_variadic place) = behind s (in_parameters o s parameters)

  in_suffixes : List ℕ → Sight → Suffixes → Sight
  in_suffixes o s no_suffixes = s
  in_suffixes o s (more_suffixes first others) = in_suffixes o (in_suffix o s first) others

  -- a parameter's scope begins behind its declarator
  in_parameters : List ℕ → Sight → Parameters → Sight
  in_parameters o s no_parameters = s
  in_parameters o s (more_parameters (parameter specs declarator first) others) =
      in_parameters o (declares o (in_declarator o (in_specs o s specs) declarator) declarator) others

  -- the name of a declarator
  declares : List ℕ → Sight → Declarator → Sight
  declares o s (Named pointers name _) = at_declaration o name s
  declares o s (Unnamed pointers _) = s
  declares o s (Grouped pointers inner _ place) = declares o s inner

  in_initializer : List ℕ → Sight → Initializer → Sight
  in_initializer o s (Single value) = in_expr o s value
  in_initializer o s (Braced values) = in_braces o s values

  in_braces : List ℕ → Sight → Braces → Sight
  in_braces o s (braces items place) = in_items o s items

  in_items : List ℕ → Sight → InitializerItems → Sight
  in_items o s no_items = s
  in_items o s (more_items (item designators value) others) = in_items o (in_initializer o (in_designators o s designators) value) others

  in_designators : List ℕ → Sight → Designators → Sight
  in_designators o s no_designators = s
  in_designators o s (more_designators (ElementDesignator index place) others) = in_designators o (in_expr o s index) others
  in_designators o s (more_designators (MemberDesignator member place) others) = in_designators o s others

abbrev is_used : Sight → Bool
is_used Bound = false
is_used (Hidden place) = false
is_used Used = true

-- the initializer names the object of this name
abbrev pub names_itself : (object : List ℕ) → Initializer → Bool
names_itself object initializer = is_used (in_initializer object Bound initializer)

abbrev hidden_at : Sight → Option Place
hidden_at Bound = None
hidden_at (Hidden place) = Some place
hidden_at Used = None

-- where the initializer declares this name again, as an enumerator in the object's scope
abbrev pub declares_again : (object : List ℕ) → Initializer → Option Place
declares_again object initializer = hidden_at (in_initializer object Bound initializer)
