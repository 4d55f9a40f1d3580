-- What the expressions, type names, specifiers, declarators and initializers of a tree break at a point of a unit
-- (ISO/IEC 9899:2024, 6.5, 6.7): one function for each kind of tree, with one clause a form. What parts are comes from
-- their elaboration; a form's own rules are broken where the parts that they name are known, whatever the others are.
use Rattle.std.specs.Prelude.{ℤ, Bool, true, false, List, [], Option, Some, None, not}
use Rattle.cake_base.specs.declared.places.Place.{Place}
use Rattle.model_types.specs.Structures.{Member}
use Rattle.model_types.specs.Types.{CType, Types, form_of_type}
use Rattle.model_core.specs.SameTypes.{is_zero}
use Rattle.model_scopes.specs.Declaring.{place_or}
use Rattle.model_scopes.specs.Scopes.{with_members}
use Rattle.model_grammar.specs.SyntaxForms as syntax
use Rattle.c_tree.specs.SyntaxPlaces.{expr_first, specs_first}
use Rattle.model_checking.specs.CallRules.{parameters_of, behind}
use Rattle.model_checking.specs.CompoundLiterals.{is_at_file_scope}
use Rattle.model_checking.specs.DeclarationContexts.{of_parameter, of_member, of_type_name}
use Rattle.model_checking.specs.DeclaratorNames.{declarator_name}
use Rattle.model_checking.specs.DeclaratorTypes.{declarator}
use Rattle.model_checking.specs.Derivations.{Steps}
use Rattle.model_checking.specs.Elaborated.{expr, constant, type_name, types_in, type_in, fixed_in, members_in, members_of, derivations, suffix_in, initializer, braces, steps_in, step_in}
use Rattle.model_checking.specs.Enumerations.{enum_begun, Enumeration, enumerator, value_behind}
use Rattle.model_checking.specs.MadeCore.{operand, meaning_type}
use Rattle.model_checking.specs.Meanings.{Operand}
use Rattle.model_checking.specs.ParameterDeclarations.{begin_parameters, parameter}
use Rattle.model_checking.specs.Parts.{Specified, Declared, in_braces}
use Rattle.model_checking.specs.ReadInitializers.{stops}
use Rattle.model_checking.specs.Reading.{Ends, waits, as_operand, as_constant, count_of, type_name_place, first_or, named_first, declared_type, is_alone, braces_place}
use Rattle.model_checking.specs.Settling.{step_fault, steps_fault}
use Rattle.model_checking.specs.SpecifierTypes.{specifiers}
use Rattle.model_checking.specs.State.{Use, Unevaluated, State, Both, with_both, Answer, then_do}
use Rattle.model_checking.specs.Structures.{struct_begun, struct_type, member as next_member}
use Rattle.model_constraints.specs.Pairs.{Pairs, Nothing, At, Beside, Behind, Needs, Without, In, If, IfAny, Unless}
use Rattle.model_constraints.specs.BrokenValues.{broken_use, broken_reading, broken_constant}
use Rattle.model_constraints.specs.BrokenNames.{broken_name}
use Rattle.model_constraints.specs.BrokenOperators.{broken_binary, broken_logic, broken_unary, broken_step}
use Rattle.model_constraints.specs.BrokenPointers.{broken_element}
use Rattle.model_constraints.specs.BrokenCalls.{broken_called, broken_argument}
use Rattle.model_constraints.specs.BrokenMembers.{broken_member, broken_arrow}
use Rattle.model_constraints.specs.BrokenAssignments.{broken_left_side, broken_assigned, broken_assigned_by}
use Rattle.model_constraints.specs.BrokenChoices.{broken_chosen_by, broken_branches}
use Rattle.model_constraints.specs.BrokenCasts.{broken_target, broken_cast, broken_measure, broken_literal_type, broken_definition_form}
use Rattle.model_constraints.specs.BrokenSpecifiers.{broken_specifiers, broken_typedef_name}
use Rattle.model_constraints.specs.BrokenDeclarators.{broken_declarator, broken_void, broken_length}
use Rattle.model_constraints.specs.BrokenTags.{broken_struct_tag, broken_enum_tag, broken_fixed_tag, broken_braces_tag, broken_memberless, broken_member_name, broken_member_type, broken_structure_size, broken_fixed_type, broken_enumerator_name, broken_enumerator_value}
use Rattle.model_constraints.specs.BrokenParameters.{broken_parameter_name, broken_parameter}
use Rattle.model_constraints.specs.BrokenInitializers.{broken_initialization}

-- a value that is wanted constant, with what it breaks by itself
abbrev pub wanted_constant : Pairs → Answer Operand → Pairs
wanted_constant own value = Needs value own (λ o s. broken_constant s.scopes.structs o)

-- what comes behind a part of a declarator that isn't faulty
abbrev behind_steps : Both Steps → (State → Pairs) → Pairs
behind_steps x Q = Unless x.made.fault (Q x.state)

-- a parameter, with the state before it
abbrev parameter_in : Use → (is_alone : Bool) → State → syntax.Specs → syntax.Declarator → (first : Place) → Answer (Option CType)
parameter_in u alone s specs d first =
    then_do (specifiers of_parameter specs (types_in u false s specs)) (λ given s.
    with_both (declarator given (first_or first d) d s (derivations u s d)) (λ x t. parameter alone d s x t))

-- a function literal, by its type
abbrev broken_literal : (place : Place) → Declared → State → Pairs
broken_literal place d s = IfAny d.type (λ type. broken_definition_form s.scopes.structs place d.first (form_of_type type))

abbrev mutual
  pub broken_expr : Use → State → syntax.Expr → Pairs
  broken_expr u s (syntax.Identifier name) = broken_name name s
  broken_expr u s (syntax.Constant value basic place) = Nothing
  broken_expr u s (syntax.Text bytes place) = Nothing
  broken_expr u s (syntax.Truth value place) = Nothing
  broken_expr u s (syntax.Nullptr place) = Nothing
  broken_expr u s (syntax.Parenthesized inner place) = broken_expr u s inner
  broken_expr u s (syntax.CompoundLiteral name values place) =
      Needs (type_name u s name) (broken_type_name u s name) (λ d s.
      Beside (broken_literal_type s.scopes.structs d.first (declared_type d))
      (Beside (broken_braces waits u s values)
      (Unless d.fault (In (braces waits u s values) (λ items s.
      broken_initialization (is_at_file_scope s) d.first (declared_type d) (in_braces items (braces_place values)) s)))))
  broken_expr u s (syntax.FunctionLiteral name body place) =
      Needs (type_name u s name) (broken_type_name u s name) (λ d s. broken_literal place d s)
  broken_expr u s (syntax.Index array at place) =
      Needs (as_operand array (expr u s array)) (broken_expr u s array) (λ a s.
      Beside (broken_use s.scopes.structs a)
      (Needs (as_operand at (expr u s at)) (broken_expr u s at) (λ b s. broken_element s.scopes.structs place a b)))
  broken_expr u s (syntax.Call function arguments place) =
      Needs (as_operand function (expr u s function)) (broken_expr u s function) (λ f s.
      Beside (broken_called s.scopes.structs place f (count_of arguments)) (broken_arguments u (parameters_of f) s arguments))
  broken_expr u s (syntax.Member structure name place) =
      Needs (expr u s structure) (broken_expr u s structure) (λ m s. broken_member s.scopes.structs place m name)
  broken_expr u s (syntax.Arrow pointer name place) =
      Needs (as_operand pointer (expr u s pointer)) (broken_expr u s pointer) (λ p s. broken_arrow s.scopes.structs p name)
  broken_expr u s (syntax.Step op side object place) =
      Needs (expr u s object) (broken_expr u s object) (λ m s. broken_step s.scopes.structs place (expr_first object) m)
  broken_expr u s (syntax.Unary op e place) =
      Needs (expr u s e) (broken_expr u s e) (λ m s. broken_unary s.scopes.structs op place (expr_first e) m)
  broken_expr u s (syntax.SizeofExpr e place) =
      Needs (expr Unevaluated s e) (broken_expr Unevaluated s e) (λ m s. broken_measure s.scopes.structs (expr_first e) (meaning_type m))
  broken_expr u s (syntax.SizeofType name place) =
      Needs (type_name Unevaluated s name) (broken_type_name Unevaluated s name) (λ d s. broken_measure s.scopes.structs d.first (declared_type d))
  broken_expr u s (syntax.Alignof name place) =
      Needs (type_name Unevaluated s name) (broken_type_name Unevaluated s name) (λ d s. broken_measure s.scopes.structs d.first (declared_type d))
  broken_expr u s (syntax.Cast name e place) =
      Needs (type_name u s name) (broken_type_name u s name) (λ d s.
      Beside (IfAny d.type (λ type. broken_target place type))
      (Needs (as_operand e (expr u s e)) (broken_expr u s e) (λ o s.
      IfAny d.type (λ type. broken_cast s.scopes.structs place type o))))
  broken_expr u s (syntax.Binary op left right place) =
      Needs (as_operand left (expr u s left)) (broken_expr u s left) (λ a s.
      Beside (broken_use s.scopes.structs a)
      (Needs (as_operand right (expr u s right)) (broken_expr u s right) (λ b s. broken_binary s.scopes.structs op place a b)))
  broken_expr u s (syntax.Logic op left right place) =
      Needs (as_operand left (expr u s left)) (broken_expr u s left) (λ a s.
      Beside (broken_use s.scopes.structs a)
      (Needs (as_operand right (expr u s right)) (broken_expr u s right) (λ b s. broken_logic s.scopes.structs place a b)))
  broken_expr u s (syntax.Conditional condition first second place) =
      Needs (as_operand condition (expr u s condition)) (broken_expr u s condition) (λ c s.
      Beside (broken_chosen_by s.scopes.structs place c)
      (Needs (as_operand first (expr u s first)) (broken_expr u s first) (λ a s.
      Beside (broken_reading s.scopes.structs a)
      (Needs (as_operand second (expr u s second)) (broken_expr u s second) (λ b s. broken_branches s.scopes.structs place a b)))))
  broken_expr u s (syntax.Assign left right place) =
      Needs (expr u s left) (broken_expr u s left) (λ m s.
      Beside (broken_left_side s.scopes.structs place m)
      (Needs (as_operand right (expr u s right)) (broken_expr u s right) (λ b s. broken_assigned s.scopes.structs m b)))
  broken_expr u s (syntax.AssignBy op left right place) =
      Needs (expr u s left) (broken_expr u s left) (λ m s.
      Beside (broken_left_side s.scopes.structs place m)
      (Needs (as_operand right (expr u s right)) (broken_expr u s right) (λ b s.
      broken_assigned_by s.scopes.structs op place (operand (expr_first left) m) b)))
  broken_expr u s (syntax.Comma first second place) =
      Needs (as_operand first (expr u s first)) (broken_expr u s first) (λ a s.
      Beside (broken_reading s.scopes.structs a)
      (Needs (as_operand second (expr u s second)) (broken_expr u s second) (λ b s. broken_reading s.scopes.structs b)))

  -- arguments for these parameters
  pub broken_arguments : Use → Types → State → syntax.Exprs → Pairs
  broken_arguments u parameters s syntax.no_exprs = Nothing
  broken_arguments u parameters s (syntax.more_exprs first others) =
      Needs (as_operand first (expr u s first)) (broken_expr u s first) (λ a s.
      Beside (broken_argument s.scopes.structs parameters a) (broken_arguments u (behind parameters) s others))

  pub broken_constant_if_any : Use → State → syntax.MaybeExpr → Pairs
  broken_constant_if_any u s syntax.no_expr = Nothing
  broken_constant_if_any u s (syntax.an_expr e) = wanted_constant (broken_expr u s e) (as_operand e (expr u s e))

  -- C36 at the word
  pub broken_assertion : Use → State → syntax.Assertion → Pairs
  broken_assertion u s (syntax.asserted condition message place) =
      Needs (as_constant condition (expr u s condition)) (wanted_constant (broken_expr u s condition) (as_operand condition (expr u s condition)))
      (λ value s. At place 36 (is_zero value))

  -- ---- type names and specifiers

  pub broken_type_name : Use → State → syntax.TypeName → Pairs
  broken_type_name u s (syntax.type_name specs d) =
      Needs (specifiers of_type_name specs (types_in u false s specs)) (broken_specifiers of_type_name specs (types_in u false s specs) (broken_types u false s specs)) (λ given s.
      broken_declarator s.scopes.structs (type_name_place (syntax.type_name specs d)) given.type (broken_derivations u s d) (derivations u s d).made)

  -- what stands in a list, one behind another
  pub broken_types : Use → (is_lone : Bool) → State → syntax.Specs → Pairs
  broken_types u lone s syntax.no_specs = Nothing
  broken_types u lone s (syntax.more_specs first others) =
      Needs (type_in u lone s first) (broken_spec u lone s first) (λ type s. broken_types u lone s others)

  pub broken_spec : Use → (is_lone : Bool) → State → syntax.Spec → Pairs
  broken_spec u lone s (syntax.StorageSpec word place) = Nothing
  broken_spec u lone s (syntax.FunctionSpec word place) = Nothing
  broken_spec u lone s (syntax.TypeSpec word place) = Nothing
  broken_spec u lone s (syntax.QualifierSpec qualifier) = Nothing
  broken_spec u lone s (syntax.StructTag tag place) = broken_struct_tag lone tag s
  broken_spec u lone s (syntax.Struct tag members place) =
      Beside (broken_memberless members place)
      (Beside (broken_braces_tag true tag s)
      (Behind (struct_begun tag members place s) (λ id s.
      Needs (members_in u [] s members) (broken_members u [] s members) (λ ms s.
      broken_structure_size (with_members id.0 ms s.scopes).structs place (struct_type id)))))
  broken_spec u lone s (syntax.EnumTag tag fixed place) =
      Beside (Without (fixed_in u s place fixed) (broken_fixed_tag lone tag s))
      (Needs (fixed_in u s place fixed) (broken_fixed u s place fixed) (λ basic s. broken_enum_tag lone tag basic s))
  broken_spec u lone s (syntax.Enum tag fixed enumerators place) =
      Beside (broken_braces_tag false tag s)
      (Beside (Needs (fixed_in u s place fixed) (broken_fixed u s place fixed) (λ basic s. broken_braces_tag false tag s))
      (Behind (enum_begun tag place s (fixed_in u s place fixed)) (λ e s. broken_enumerators u e None s enumerators)))
  broken_spec u lone s (syntax.TypedefName name) = broken_typedef_name name s
  broken_spec u lone s (syntax.TypeofExpr word e place) = broken_expr Unevaluated s e
  broken_spec u lone s (syntax.TypeofType word name place) =
      Needs (type_name Unevaluated s name) (broken_type_name Unevaluated s name) (λ d s. broken_void d.parameters)

  -- the type behind the `:` of an enumeration
  pub broken_fixed : Use → State → (place : Place) → syntax.MaybeSpecs → Pairs
  broken_fixed u s place syntax.none_of_specs = Nothing
  broken_fixed u s place (syntax.some_specs specs) =
      Needs (specifiers of_type_name specs (types_in u false s specs)) (broken_specifiers of_type_name specs (types_in u false s specs) (broken_types u false s specs)) (λ given s.
      broken_fixed_type (place_or (specs_first specs) place) given.type)

  -- ---- structures and enumerations

  -- members behind these
  pub broken_members : Use → List Member → State → syntax.MemberDeclarations → Pairs
  broken_members u ms s syntax.no_members = Nothing
  broken_members u ms s (syntax.more_members first others) =
      Needs (members_of u ms s first) (broken_member_declaration u ms s first) (λ ms s. broken_members u ms s others)

  pub broken_member_declaration : Use → List Member → State → syntax.MemberDeclaration → Pairs
  broken_member_declaration u ms s (syntax.MemberDeclarators specs ds) =
      Needs (specifiers of_member specs (types_in u false s specs)) (broken_specifiers of_member specs (types_in u false s specs) (broken_types u false s specs)) (λ given s.
      broken_member_declarators u given ms s ds)
  broken_member_declaration u ms s (syntax.MemberAssertion a) = broken_assertion u s a

  pub broken_member_declarators : Use → Specified → List Member → State → syntax.Declarators → Pairs
  broken_member_declarators u given ms s syntax.no_declarators = Nothing
  broken_member_declarators u given ms s (syntax.more_declarators first others) =
      Beside (broken_member_name ms (declarator_name first))
      (Beside (broken_declarator s.scopes.structs (named_first first) given.type (broken_derivations u s first) (derivations u s first).made)
      (In (declarator given (named_first first) first s (derivations u s first)) (λ d s.
      Beside (broken_member_type s.scopes.structs d.first d.type)
      (Behind (next_member u ms first d s) (λ ms s. broken_member_declarators u given ms s others)))))

  -- enumerators behind one of a value; the rules at a name are asked before and behind its value
  pub broken_enumerators : Use → Enumeration → (previous : Option ℤ) → State → syntax.Enumerators → Pairs
  broken_enumerators u e previous s syntax.no_enumerators = Nothing
  broken_enumerators u e previous s (syntax.more_enumerators (syntax.enumerator name value) others) =
      Beside (broken_enumerator_name e name s)
      (Beside (Needs (constant u s value) (broken_constant_if_any u s value) (λ given s.
      Beside (broken_enumerator_name e name s) (broken_enumerator_value e name (value_behind previous given))))
      (Behind (enumerator e previous name s (constant u s value)) (λ next s. broken_enumerators u e (Some next) s others)))

  -- ---- declarators: what their lengths and parameters break

  pub broken_derivations : Use → State → syntax.Declarator → Pairs
  broken_derivations u s (syntax.Named pointers name suffixes) = broken_suffixes u s suffixes
  broken_derivations u s (syntax.Unnamed pointers suffixes) = broken_suffixes u s suffixes
  broken_derivations u s (syntax.Grouped pointers inner suffixes place) =
      Beside (broken_derivations u s inner) (behind_steps (derivations u s inner) (λ s. broken_suffixes u s suffixes))

  pub broken_suffixes : Use → State → syntax.Suffixes → Pairs
  broken_suffixes u s syntax.no_suffixes = Nothing
  broken_suffixes u s (syntax.more_suffixes first others) =
      Beside (broken_suffix u s first) (behind_steps (suffix_in u s first) (λ s. broken_suffixes u s others))

  pub broken_suffix : Use → State → syntax.Suffix → Pairs
  broken_suffix u s (syntax.ArraySuffix length place) =
      Needs (constant u s length) (broken_constant_if_any u s length) (λ value s. broken_length length value)
  broken_suffix u s (syntax.FunctionSuffix parameters is_variadic place) =
      broken_parameters u (is_alone parameters is_variadic) (begin_parameters s) parameters

  -- the rules at a parameter's name are asked before and behind its declarator
  pub broken_parameters : Use → (is_alone : Bool) → State → syntax.Parameters → Pairs
  broken_parameters u alone s syntax.no_parameters = Nothing
  broken_parameters u alone s (syntax.more_parameters (syntax.parameter specs d first) others) =
      Beside (Needs (specifiers of_parameter specs (types_in u false s specs)) (broken_specifiers of_parameter specs (types_in u false s specs) (broken_types u false s specs)) (λ given s.
      Beside (broken_parameter_name (declarator_name d) s)
      (Beside (broken_declarator s.scopes.structs (first_or first d) given.type (broken_derivations u s d) (derivations u s d).made)
      (In (declarator given (first_or first d) d s (derivations u s d)) (λ x s. broken_parameter d x s)))))
      (Behind (parameter_in u alone s specs d first) (λ type s. broken_parameters u false s others))

  -- ---- initializers: what their values and indices break by themselves; nothing is read behind what is faulty

  pub broken_initializer : Ends → Use → State → syntax.Initializer → Pairs
  broken_initializer r u s (syntax.Single value) = broken_expr u s value
  broken_initializer r u s (syntax.Braced values) = broken_braces r u s values

  pub broken_braces : Ends → Use → State → syntax.Braces → Pairs
  broken_braces r u s (syntax.braces items place) = broken_items r u s items

  pub broken_items : Ends → Use → State → syntax.InitializerItems → Pairs
  broken_items r u s syntax.no_items = Nothing
  broken_items r u s (syntax.more_items (syntax.item designators value) others) =
      Beside (broken_indices r u s designators)
      (In (steps_in r u s designators) (λ steps s.
      Unless (steps_fault steps)
      (Beside (broken_initializer r u s value)
      (In (initializer r u s value) (λ given s. If (not (stops given)) (broken_items r u s others))))))

  pub broken_indices : Ends → Use → State → syntax.Designators → Pairs
  broken_indices r u s syntax.no_designators = Nothing
  broken_indices r u s (syntax.more_designators first others) =
      Beside (broken_index u s first)
      (In (step_in r u s first) (λ step s. Unless (step_fault step) (broken_indices r u s others)))

  pub broken_index : Use → State → syntax.Designator → Pairs
  broken_index u s (syntax.ElementDesignator at place) = wanted_constant (broken_expr u s at) (as_operand at (expr u s at))
  broken_index u s (syntax.MemberDesignator name place) = Nothing
