-- What the expressions, type names, specifiers, declarators and initializers of a tree mean at a point of a unit
-- (ISO/IEC 9899:2024, 6.5, 6.7): one function for each kind of tree, from the left to the right. The rules of a form are
-- functions of its parts; those that name its left part alone stand before its right part.
use Rattle.std.specs.Prelude.{ℤ, Bool, false, List, [], Option, Some, None}
use Rattle.cake_base.specs.declared.places.Place.{Place}
use Rattle.model_types.specs.declared.numbers.Basic.{Basic}
use Rattle.model_types.specs.Structures.{Member}
use Rattle.model_types.specs.Types.{CType, Types}
use Rattle.model_grammar.specs.SyntaxForms as syntax
use Rattle.model_core.specs.Core as unit
use Rattle.c_tree.specs.SyntaxPlaces.{expr_first}
use Rattle.model_checking.specs.State.{Use, Unevaluated, State, Both, both, with_both, Answer, gives, then_do, unless, beside, with_state}
use Rattle.model_checking.specs.FaultsBeside.{first_of_faults, with_fault}
use Rattle.model_checking.specs.Meanings.{Meaning}
use Rattle.model_checking.specs.Parts.{Specified, Declared, Given, in_braces, GivenStep, to_member, GivenItems, no_given}
use Rattle.model_checking.specs.Marks.{mark_of, in_parentheses}
use Rattle.model_checking.specs.MadeCore.{meaning_type}
use Rattle.model_checking.specs.NamedObjects.{named}
use Rattle.model_checking.specs.Literals.{number, truth_value, null_pointer, text}
use Rattle.model_checking.specs.UnaryRules.{unary, note_taken, step}
use Rattle.model_checking.specs.BinaryRules.{left_fault, binary, logic}
use Rattle.model_checking.specs.PointerRules.{index}
use Rattle.model_checking.specs.MemberRules.{member, arrow}
use Rattle.model_checking.specs.CallRules.{call_fault, parameters_of, argument, behind, call}
use Rattle.model_checking.specs.AssignRules.{assign_left, assign, assign_by}
use Rattle.model_checking.specs.ChoiceRules.{condition_fault, branch_fault, choice, comma_left, comma}
use Rattle.model_checking.specs.CastRules.{cast}
use Rattle.model_checking.specs.SizeRules.{size_of_operand, size_of_name, alignment_of_name}
use Rattle.model_checking.specs.CompoundLiterals.{literal_fault, compound_literal}
use Rattle.model_checking.specs.DeclarationContexts.{of_parameter, of_member, of_type_name}
use Rattle.model_checking.specs.SpecifierTypes.{specifiers, typeof_type, typedef_type}
use Rattle.model_checking.specs.Structures.{struct_tag, struct_begun, member as next_member, struct_completed}
use Rattle.model_checking.specs.Enumerations.{fixed_type, enum_tag, enum_begun, Enumeration, enumerator}
use Rattle.model_checking.specs.Derivations.{Steps, no_steps, and_steps, behind_pointers, array_step, outline_of_suffixes, count_of_parameters}
use Rattle.model_checking.specs.DeclaratorTypes.{declarator, own_parameters_fault}
use Rattle.model_checking.specs.ParameterDeclarations.{begin_parameters, parameter, Parameters, no_parameters_behind, and_parameters, function_step}
use Rattle.model_checking.specs.Reading.{Ends, waits, as_operand, as_constant, asserted_of, count_of, type_name_place, first_or, named_first, declared_type, note_declared, or_type, given_type, target_fault, an_array_of, is_alone, function_literal, braces_place}
use Rattle.model_checking.specs.ReadInitializers.{single_given, element_step, steps_behind, item_given}

abbrev mutual
  pub expr : Use → State → syntax.Expr → Answer Meaning
  expr u s (syntax.Identifier name) = named u name (mark_of (syntax.Identifier name)) s
  expr u s (syntax.Constant value basic place) = gives (number value basic (mark_of (syntax.Constant value basic place))) s
  expr u s (syntax.Text bytes place) = text u bytes (mark_of (syntax.Text bytes place)) s
  expr u s (syntax.Truth value place) = gives (truth_value value (mark_of (syntax.Truth value place))) s
  expr u s (syntax.Nullptr place) = gives (null_pointer (mark_of (syntax.Nullptr place))) s
  expr u s (syntax.Parenthesized inner place) = then_do (expr u s inner) (λ m s. gives (in_parentheses place m) s)
  expr u s (syntax.CompoundLiteral name values place) =
      then_do (type_name u s name) (λ d s.
      unless (first_of_faults (literal_fault s.scopes.structs d.first (declared_type d)) d.fault)
      (with_both (braces waits u s values) (λ items s.
      compound_literal u d.first (mark_of (syntax.CompoundLiteral name values place)) (declared_type d) items (braces_place values) s)))
  expr u s (syntax.FunctionLiteral name body place) =
      then_do (type_name u s name) (λ d s. function_literal u (syntax.FunctionLiteral name body place) place d s)
  expr u s (syntax.Index array at place) =
      then_do (as_operand array (expr u s array)) (λ a s.
      beside (left_fault s.scopes.structs a) (as_operand at (expr u s at)) (λ b s.
      with_state (index s.scopes.structs (mark_of (syntax.Index array at place)) a b) s))
  expr u s (syntax.Call function arguments place) =
      then_do (as_operand function (expr u s function)) (λ f s.
      unless (call_fault s.scopes.structs place f (count_of arguments))
      (then_do (arguments_for u (parameters_of f) s arguments) (λ es s. gives (call (mark_of (syntax.Call function arguments place)) f es) s)))
  expr u s (syntax.Member structure name place) =
      then_do (expr u s structure) (λ m s. member u m name (mark_of (syntax.Member structure name place)) s)
  expr u s (syntax.Arrow pointer name place) =
      then_do (as_operand pointer (expr u s pointer)) (λ p s.
      with_state (arrow s.scopes.structs p name (mark_of (syntax.Arrow pointer name place))) s)
  expr u s (syntax.Step op side object place) =
      then_do (expr u s object) (λ m s.
      with_state (step s.scopes.structs op side (mark_of (syntax.Step op side object place)) (expr_first object) m) s)
  expr u s (syntax.Unary op e place) =
      then_do (expr u s e) (λ m s.
      with_state (unary s.scopes.structs op (mark_of (syntax.Unary op e place)) (expr_first e) m) (note_taken u op m s))
  expr u s (syntax.SizeofExpr e place) =
      then_do (expr Unevaluated s e) (λ m s.
      with_state (size_of_operand s.scopes.structs (mark_of (syntax.SizeofExpr e place)) (expr_first e) m) s)
  expr u s (syntax.SizeofType name place) =
      then_do (type_name Unevaluated s name) (λ d s.
      with_fault d.fault (with_state (size_of_name s.scopes.structs (mark_of (syntax.SizeofType name place)) d.first (declared_type d)) s))
  expr u s (syntax.Alignof name place) =
      then_do (type_name Unevaluated s name) (λ d s.
      with_fault d.fault (with_state (alignment_of_name s.scopes.structs (mark_of (syntax.Alignof name place)) d.first (declared_type d)) s))
  expr u s (syntax.Cast name e place) =
      then_do (type_name u s name) (λ d s.
      unless (target_fault place d)
      (with_fault d.fault (then_do (as_operand e (expr u s e)) (λ a s.
      with_state (cast s.scopes.structs (mark_of (syntax.Cast name e place)) (declared_type d) a) s))))
  expr u s (syntax.Binary op left right place) =
      then_do (as_operand left (expr u s left)) (λ a s.
      beside (left_fault s.scopes.structs a) (as_operand right (expr u s right)) (λ b s.
      with_state (binary s.scopes.structs op (mark_of (syntax.Binary op left right place)) a b) s))
  expr u s (syntax.Logic op left right place) =
      then_do (as_operand left (expr u s left)) (λ a s.
      beside (left_fault s.scopes.structs a) (as_operand right (expr u s right)) (λ b s.
      with_state (logic s.scopes.structs op (mark_of (syntax.Logic op left right place)) a b) s))
  expr u s (syntax.Conditional condition first second place) =
      then_do (as_operand condition (expr u s condition)) (λ c s.
      unless (condition_fault s.scopes.structs place c)
      (then_do (as_operand first (expr u s first)) (λ a s.
      beside (branch_fault s.scopes.structs a) (as_operand second (expr u s second)) (λ b s.
      with_state (choice s.scopes.structs (mark_of (syntax.Conditional condition first second place)) c a b) s))))
  expr u s (syntax.Assign left right place) =
      then_do (expr u s left) (λ m s.
      beside (assign_left s.scopes.structs (mark_of (syntax.Assign left right place)) m) (as_operand right (expr u s right)) (λ b s.
      with_state (assign s.scopes.structs (mark_of (syntax.Assign left right place)) m b) s))
  expr u s (syntax.AssignBy op left right place) =
      then_do (expr u s left) (λ m s.
      beside (assign_left s.scopes.structs (mark_of (syntax.AssignBy op left right place)) m) (as_operand right (expr u s right)) (λ b s.
      with_state (assign_by s.scopes.structs op (mark_of (syntax.AssignBy op left right place)) (expr_first left) m b) s))
  expr u s (syntax.Comma first second place) =
      then_do (as_operand first (expr u s first)) (λ a s.
      beside (comma_left s.scopes.structs a) (as_operand second (expr u s second)) (λ b s.
      with_state (comma s.scopes.structs (mark_of (syntax.Comma first second place)) a b) s))

  -- the arguments for these parameters; the rules of each stand before the next
  pub arguments_for : Use → Types → State → syntax.Exprs → Answer unit.Exprs
  arguments_for u parameters s syntax.no_exprs = gives unit.no_exprs s
  arguments_for u parameters s (syntax.more_exprs first others) =
      then_do (as_operand first (expr u s first)) (λ a s.
      then_do (with_state (argument s.scopes.structs parameters a) s) (λ e s.
      then_do (arguments_for u (behind parameters) s others) (λ es s. gives (unit.more_exprs e es) s)))

  -- the value of an integer constant expression, where there is one
  pub constant : Use → State → syntax.MaybeExpr → Answer (Option ℤ)
  constant u s syntax.no_expr = gives None s
  constant u s (syntax.an_expr e) = then_do (as_constant e (expr u s e)) (λ value s. gives (Some value) s)

  pub assertion : Use → State → syntax.Assertion → Answer ℤ
  assertion u s (syntax.asserted condition message place) = asserted_of place (as_constant condition (expr u s condition))

  -- ---- type names and specifiers

  -- with its own fault, if any, so that what stands round it can ask its form; its type is noted where it is evaluated
  pub type_name : Use → State → syntax.TypeName → Answer Declared
  type_name u s (syntax.type_name specs d) =
      then_do (specifiers of_type_name specs (types_in u false s specs)) (λ given s.
      note_declared u (declarator given (type_name_place (syntax.type_name specs d)) d s (derivations u s d)))

  -- the type that the structure, enumeration, tag, typedef name or `typeof` among specifiers gives
  pub types_in : Use → (is_lone : Bool) → State → syntax.Specs → Answer (Option CType)
  types_in u lone s syntax.no_specs = gives None s
  types_in u lone s (syntax.more_specs first others) =
      then_do (type_in u lone s first) (λ t s. then_do (types_in u lone s others) (λ ts s. gives (or_type t ts) s))

  pub type_in : Use → (is_lone : Bool) → State → syntax.Spec → Answer (Option CType)
  type_in u lone s (syntax.StorageSpec word place) = gives None s
  type_in u lone s (syntax.FunctionSpec word place) = gives None s
  type_in u lone s (syntax.TypeSpec word place) = gives None s
  type_in u lone s (syntax.QualifierSpec qualifier) = gives None s
  type_in u lone s (syntax.StructTag tag place) = given_type (struct_tag lone tag place s)
  type_in u lone s (syntax.Struct tag members place) =
      then_do (struct_begun tag members place s) (λ id s.
      then_do (members_in u [] s members) (λ ms s. given_type (struct_completed id place ms s)))
  type_in u lone s (syntax.EnumTag tag fixed place) = given_type (enum_tag lone tag place s (fixed_in u s place fixed))
  type_in u lone s (syntax.Enum tag fixed enumerators place) =
      then_do (enum_begun tag place s (fixed_in u s place fixed)) (λ e s. enumerators_in u e None s enumerators)
  type_in u lone s (syntax.TypedefName name) = given_type (typedef_type name s)
  type_in u lone s (syntax.TypeofExpr word e place) =
      then_do (expr Unevaluated s e) (λ m s. gives (Some (typeof_type word (meaning_type m))) s)
  type_in u lone s (syntax.TypeofType word name place) =
      then_do (type_name Unevaluated s name) (λ d s. unless (first_of_faults (own_parameters_fault d) d.fault) (gives (Some (typeof_type word (declared_type d))) s))

  -- the type behind the `:` of an enumeration
  pub fixed_in : Use → State → (place : Place) → syntax.MaybeSpecs → Answer (Option Basic)
  fixed_in u s place syntax.none_of_specs = gives None s
  fixed_in u s place (syntax.some_specs specs) =
      then_do (fixed_type place specs (specifiers of_type_name specs (types_in u false s specs))) (λ basic s. gives (Some basic) s)

  -- ---- structures and enumerations

  -- the members of a structure behind these
  pub members_in : Use → List Member → State → syntax.MemberDeclarations → Answer (List Member)
  members_in u ms s syntax.no_members = gives ms s
  members_in u ms s (syntax.more_members first others) =
      then_do (members_of u ms s first) (λ ms s. members_in u ms s others)

  pub members_of : Use → List Member → State → syntax.MemberDeclaration → Answer (List Member)
  members_of u ms s (syntax.MemberDeclarators specs declarators) =
      then_do (specifiers of_member specs (types_in u false s specs)) (λ given s. members_declared u given ms s declarators)
  members_of u ms s (syntax.MemberAssertion a) = then_do (assertion u s a) (λ value s. gives ms s)

  pub members_declared : Use → Specified → List Member → State → syntax.Declarators → Answer (List Member)
  members_declared u given ms s syntax.no_declarators = gives ms s
  members_declared u given ms s (syntax.more_declarators first others) =
      with_both (declarator given (named_first first) first s (derivations u s first)) (λ d s.
      then_do (next_member u ms first d s) (λ ms s. members_declared u given ms s others))

  -- the enumerators of an enumeration behind one of a value; its type
  pub enumerators_in : Use → Enumeration → (previous : Option ℤ) → State → syntax.Enumerators → Answer (Option CType)
  enumerators_in u e previous s syntax.no_enumerators = gives (Some e.type) s
  enumerators_in u e previous s (syntax.more_enumerators (syntax.enumerator name value) others) =
      then_do (enumerator e previous name s (constant u s value)) (λ next s. enumerators_in u e (Some next) s others)

  -- ---- declarators

  -- what a declarator derives from a type, from its name outwards
  pub derivations : Use → State → syntax.Declarator → Both Steps
  derivations u s (syntax.Named pointers name suffixes) = behind_pointers pointers (suffixes_in u s suffixes)
  derivations u s (syntax.Unnamed pointers suffixes) = behind_pointers pointers (suffixes_in u s suffixes)
  derivations u s (syntax.Grouped pointers inner suffixes place) =
      behind_pointers pointers (and_steps (derivations u s inner) (outline_of_suffixes suffixes) (λ s. suffixes_in u s suffixes))

  pub suffixes_in : Use → State → syntax.Suffixes → Both Steps
  suffixes_in u s syntax.no_suffixes = both no_steps s
  suffixes_in u s (syntax.more_suffixes first others) =
      and_steps (suffix_in u s first) (outline_of_suffixes others) (λ s. suffixes_in u s others)

  pub suffix_in : Use → State → syntax.Suffix → Both Steps
  suffix_in u s (syntax.ArraySuffix length place) = array_step s (an_array_of length (constant u s length))
  suffix_in u s (syntax.FunctionSuffix parameters is_variadic place) =
      function_step (count_of_parameters parameters) is_variadic s
      (parameters_in u (is_alone parameters is_variadic) (begin_parameters s) parameters)

  -- the types of parameters, which are declared
  pub parameters_in : Use → (is_alone : Bool) → State → syntax.Parameters → Both Parameters
  parameters_in u alone s syntax.no_parameters = both no_parameters_behind s
  parameters_in u alone s (syntax.more_parameters (syntax.parameter specs d first) others) =
      and_parameters s
      (then_do (specifiers of_parameter specs (types_in u false s specs)) (λ given s.
      with_both (declarator given (first_or first d) d s (derivations u s d)) (λ x t. parameter alone d s x t)))
      (λ s. parameters_in u false s others)

  -- ---- initializers; what is done at the end of each full expression is given

  pub initializer : Ends → Use → State → syntax.Initializer → Both Given
  initializer r u s (syntax.Single value) = single_given r s value (expr u s value)
  initializer r u s (syntax.Braced values) = with_both (braces r u s values) (λ items s. both (in_braces items (braces_place values)) s)

  pub braces : Ends → Use → State → syntax.Braces → Both GivenItems
  braces r u s (syntax.braces items place) = items_in r u s items

  pub items_in : Ends → Use → State → syntax.InitializerItems → Both GivenItems
  items_in r u s syntax.no_items = both no_given s
  items_in r u s (syntax.more_items (syntax.item designators value) others) =
      with_both (steps_in r u s designators) (λ steps s.
      item_given steps s (λ s. initializer r u s value) (λ s. items_in r u s others))

  pub steps_in : Ends → Use → State → syntax.Designators → Both (List GivenStep)
  steps_in r u s syntax.no_designators = both [] s
  steps_in r u s (syntax.more_designators first others) =
      with_both (step_in r u s first) (λ step s. steps_behind step s (λ s. steps_in r u s others))

  pub step_in : Ends → Use → State → syntax.Designator → Both GivenStep
  step_in r u s (syntax.ElementDesignator at place) = element_step r s place (as_constant at (expr u s at))
  step_in r u s (syntax.MemberDesignator name place) = both (to_member name.text place) s
