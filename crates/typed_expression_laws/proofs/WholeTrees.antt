-- What each tree gives, where what is declared is sound.
use Rattle.std.proofs.Common.{◌≡◌, refl, ℤ, Bool, true, false, ◌&&◌, Option}
use Rattle.std.proofs.lemmas.Bool.{and_parts}
use Rattle.cake_base.specs.declared.places.Place.{Place}
use Rattle.model_types.specs.Types.{Types}
use Rattle.model_grammar.specs.SyntaxForms as syntax
use Rattle.c_tree.specs.SyntaxPlaces.{expr_first}
use Rattle.model_core.specs.PossibleTypes.{are_possible}
use Rattle.model_checking.specs.State.{Use, Unevaluated, State}
use Rattle.model_checking.specs.Marks.{mark_of}
use Rattle.model_checking.specs.CallRules.{behind}
use Rattle.model_checking.specs.Enumerations.{Enumeration}
use Rattle.model_checking.specs.Derivations.{outline_of_suffixes}
use Rattle.model_checking.specs.Reading.{Ends, waits, count_of, type_name_place, braces_place}
use Rattle.model_checking.specs.ReadInitializers.{steps_behind, item_given}
use Rattle.model_checking.specs.Elaborated.{expr, arguments_for, constant, type_name, types_in, type_in, fixed_in, enumerators_in, derivations, suffixes_in, suffix_in, initializer, braces, items_in, steps_in, step_in}
use Rattle.typed_walk_laws.specs.SoundScopes.{are_sound}
use Rattle.typed_walk_laws.specs.Behind.{SoundBoth, GivesSound}
use Rattle.typed_walk_laws.proofs.Walks.{TypedMeaning, Anything, behind_here}
use Rattle.typed_walk_laws.proofs.NameForms.{named_sound}
use Rattle.typed_walk_laws.proofs.SpecifiedTypes.{PossibleIfAny, typedef_sound}
use Rattle.typed_walk_laws.proofs.TagForms.{struct_tag_sound, enum_tag_sound}
use Rattle.typed_walk_laws.proofs.Declarators.{PlainSteps, PossibleDeclared, behind_pointers_sound, and_steps_sound, array_step_sound}
use Rattle.typed_expression_laws.specs.CoveredTrees.{is_covered, are_covered, is_covered_if_any, is_covered_name, are_covered_specs, is_covered_spec, is_covered_fixed, are_covered_enumerators, is_covered_declarator, are_covered_suffixes, is_covered_suffix, are_covered_braces, are_covered_items, is_covered_initializer, are_covered_designators, is_covered_designator}
use Rattle.typed_expression_laws.proofs.ExpressionForms.{number_form, truth_form, null_form, text_form, parentheses_form, member_form, arrow_form, step_form, unary_form, size_form, size_of_type_form, alignment_form, cast_form, index_form, binary_form, logic_form, comma_form, assign_form, assign_by_form, choice_form}
use Rattle.typed_expression_laws.proofs.ArgumentForms.{TypedArguments, no_arguments_form, more_arguments_form, call_form}
use Rattle.typed_expression_laws.proofs.GivenForms.{TypedGiven, TypedItems, EndsSound, waits_sound, both_after, single_sound, element_sound, steps_behind_sound, item_sound}
use Rattle.typed_expression_laws.proofs.LiteralForms.{literal_form}
use Rattle.typed_expression_laws.proofs.EnumerationForms.{SoundEnumeration, no_enumerators_form, more_enumerators_form, enumeration_form}
use Rattle.typed_expression_laws.proofs.SpecifierForms.{no_constant_form, a_constant_form, no_type_form, given_type_form, typeof_form, typeof_name_form, more_specs_form, no_fixed_form, fixed_form, type_name_form}

mutual
  pub expr_sound : (e : syntax.Expr) (u : Use) (s : State) → is_covered e ≡ true → are_sound s.scopes ≡ true → GivesSound s TypedMeaning (expr u s e)
  expr_sound (syntax.Identifier name) u s c h = named_sound u name (mark_of (syntax.Identifier name)) s h
  expr_sound (syntax.Constant value basic place) u s c h = number_form value basic (mark_of (syntax.Constant value basic place)) s c h
  expr_sound (syntax.Text bytes place) u s c h = text_form u bytes (mark_of (syntax.Text bytes place)) s c h
  expr_sound (syntax.Truth value place) u s c h = truth_form value (mark_of (syntax.Truth value place)) s h
  expr_sound (syntax.Nullptr place) u s c h = null_form (mark_of (syntax.Nullptr place)) s h
  expr_sound (syntax.Parenthesized inner place) u s c h = parentheses_form place s (expr u s inner) (expr_sound inner u s c h)
  expr_sound (syntax.CompoundLiteral name values place) u s c h =
      let cs = and_parts (is_covered_name name) (are_covered_braces values) c in
      literal_form u (mark_of (syntax.CompoundLiteral name values place)) (braces_place values) s (type_name u s name) (λ t. braces waits u t values)
      (type_name_sound name u s cs.0 h) (λ t k. braces_sound values waits waits_sound u t cs.1 k)
  expr_sound (syntax.FunctionLiteral name body place) u s c h = cc
  expr_sound (syntax.Index array at place) u s c h =
      let cs = and_parts (is_covered array) (is_covered at) c in
      index_form array at (mark_of (syntax.Index array at place)) s (expr u s array) (λ t. expr u t at) (expr_sound array u s cs.0 h) (λ t k. expr_sound at u t cs.1 k)
  expr_sound (syntax.Call function arguments place) u s c h =
      let cs = and_parts (is_covered function) (are_covered arguments) c in
      call_form function place (count_of arguments) (mark_of (syntax.Call function arguments place)) s (expr u s function) (λ parameters t. arguments_for u parameters t arguments)
      (expr_sound function u s cs.0 h) (λ parameters t k p. arguments_sound arguments u parameters t cs.1 k p)
  expr_sound (syntax.Member structure name place) u s c h = member_form u name (mark_of (syntax.Member structure name place)) s (expr u s structure) (expr_sound structure u s c h)
  expr_sound (syntax.Arrow pointer name place) u s c h = arrow_form pointer name (mark_of (syntax.Arrow pointer name place)) s (expr u s pointer) (expr_sound pointer u s c h)
  expr_sound (syntax.Step op side object place) u s c h =
      step_form op side (mark_of (syntax.Step op side object place)) (expr_first object) s (expr u s object) (expr_sound object u s c h)
  expr_sound (syntax.Unary op e place) u s c h = unary_form u op (mark_of (syntax.Unary op e place)) (expr_first e) s (expr u s e) (expr_sound e u s c h)
  expr_sound (syntax.SizeofExpr e place) u s c h = size_form (mark_of (syntax.SizeofExpr e place)) (expr_first e) s (expr Unevaluated s e) (expr_sound e Unevaluated s c h)
  expr_sound (syntax.SizeofType name place) u s c h =
      size_of_type_form (mark_of (syntax.SizeofType name place)) s (type_name Unevaluated s name) (type_name_sound name Unevaluated s c h)
  expr_sound (syntax.Alignof name place) u s c h = alignment_form (mark_of (syntax.Alignof name place)) s (type_name Unevaluated s name) (type_name_sound name Unevaluated s c h)
  expr_sound (syntax.Cast name e place) u s c h =
      let cs = and_parts (is_covered_name name) (is_covered e) c in
      cast_form place e (mark_of (syntax.Cast name e place)) s (type_name u s name) (λ t. expr u t e) (type_name_sound name u s cs.0 h) (λ t k. expr_sound e u t cs.1 k)
  expr_sound (syntax.Binary op left right place) u s c h =
      let cs = and_parts (is_covered left) (is_covered right) c in
      binary_form left right op (mark_of (syntax.Binary op left right place)) s (expr u s left) (λ t. expr u t right) (expr_sound left u s cs.0 h) (λ t k. expr_sound right u t cs.1 k)
  expr_sound (syntax.Logic op left right place) u s c h =
      let cs = and_parts (is_covered left) (is_covered right) c in
      logic_form left right op (mark_of (syntax.Logic op left right place)) s (expr u s left) (λ t. expr u t right) (expr_sound left u s cs.0 h) (λ t k. expr_sound right u t cs.1 k)
  expr_sound (syntax.Conditional condition first second place) u s c h =
      let cs = and_parts (is_covered condition) (is_covered first && is_covered second) c in
      let bs = and_parts (is_covered first) (is_covered second) cs.1 in
      choice_form condition first second place (mark_of (syntax.Conditional condition first second place)) s (expr u s condition) (λ t. expr u t first) (λ t. expr u t second)
      (expr_sound condition u s cs.0 h) (λ t k. expr_sound first u t bs.0 k) (λ t k. expr_sound second u t bs.1 k)
  expr_sound (syntax.Assign left right place) u s c h =
      let cs = and_parts (is_covered left) (is_covered right) c in
      assign_form right (mark_of (syntax.Assign left right place)) s (expr u s left) (λ t. expr u t right) (expr_sound left u s cs.0 h) (λ t k. expr_sound right u t cs.1 k)
  expr_sound (syntax.AssignBy op left right place) u s c h =
      let cs = and_parts (is_covered left) (is_covered right) c in
      assign_by_form right op (mark_of (syntax.AssignBy op left right place)) (expr_first left) s (expr u s left) (λ t. expr u t right) (expr_sound left u s cs.0 h)
      (λ t k. expr_sound right u t cs.1 k)
  expr_sound (syntax.Comma first second place) u s c h =
      let cs = and_parts (is_covered first) (is_covered second) c in
      comma_form first second (mark_of (syntax.Comma first second place)) s (expr u s first) (λ t. expr u t second) (expr_sound first u s cs.0 h) (λ t k. expr_sound second u t cs.1 k)

  pub arguments_sound : (es : syntax.Exprs) (u : Use) (parameters : Types) (s : State) → are_covered es ≡ true → are_sound s.scopes ≡ true →
      are_possible s.scopes.structs parameters ≡ true → GivesSound s (TypedArguments parameters (count_of es)) (arguments_for u parameters s es)
  arguments_sound syntax.no_exprs u parameters s c h p = no_arguments_form parameters s h
  arguments_sound (syntax.more_exprs first others) u parameters s c h p =
      let cs = and_parts (is_covered first) (are_covered others) c in
      more_arguments_form parameters (count_of others) first s (expr u s first) (λ t. arguments_for u (behind parameters) t others) p (expr_sound first u s cs.0 h)
      (λ t k q. arguments_sound others u (behind parameters) t cs.1 k q)

  pub constant_sound : (e : syntax.MaybeExpr) (u : Use) (s : State) → is_covered_if_any e ≡ true → are_sound s.scopes ≡ true → GivesSound s Anything (constant u s e)
  constant_sound syntax.no_expr u s c h = no_constant_form s h
  constant_sound (syntax.an_expr e) u s c h = a_constant_form e s (expr u s e) (expr_sound e u s c h)

  pub type_name_sound : (name : syntax.TypeName) (u : Use) (s : State) → is_covered_name name ≡ true → are_sound s.scopes ≡ true →
      GivesSound s PossibleDeclared (type_name u s name)
  type_name_sound (syntax.type_name specs d) u s c h =
      let cs = and_parts (are_covered_specs specs) (is_covered_declarator d) c in
      type_name_form u specs (type_name_place (syntax.type_name specs d)) d s (types_in u false s specs) (λ t. derivations u t d) (types_sound specs u false s cs.0 h)
      (λ t k. derivations_sound d u t cs.1 k)

  pub types_sound : (specs : syntax.Specs) (u : Use) (lone : Bool) (s : State) → are_covered_specs specs ≡ true → are_sound s.scopes ≡ true →
      GivesSound s PossibleIfAny (types_in u lone s specs)
  types_sound syntax.no_specs u lone s c h = no_type_form s h
  types_sound (syntax.more_specs first others) u lone s c h =
      let cs = and_parts (is_covered_spec first) (are_covered_specs others) c in
      more_specs_form s (type_in u lone s first) (λ t. types_in u lone t others) (type_sound first u lone s cs.0 h) (λ t k. types_sound others u lone t cs.1 k)

  pub type_sound : (spec : syntax.Spec) (u : Use) (lone : Bool) (s : State) → is_covered_spec spec ≡ true → are_sound s.scopes ≡ true →
      GivesSound s PossibleIfAny (type_in u lone s spec)
  type_sound (syntax.StorageSpec word place) u lone s c h = no_type_form s h
  type_sound (syntax.FunctionSpec word place) u lone s c h = no_type_form s h
  type_sound (syntax.TypeSpec word place) u lone s c h = no_type_form s h
  type_sound (syntax.QualifierSpec qualifier) u lone s c h = no_type_form s h
  type_sound (syntax.StructTag tag place) u lone s c h = given_type_form s _ (struct_tag_sound lone tag place s h)
  type_sound (syntax.Struct tag members place) u lone s c h = cc
  type_sound (syntax.EnumTag tag fixed place) u lone s c h =
      given_type_form s _ (enum_tag_sound lone tag place s (fixed_in u s place fixed) (fixed_sound fixed u s place c h))
  type_sound (syntax.Enum tag fixed enumerators place) u lone s c h =
      let cs = and_parts (is_covered_fixed fixed) (are_covered_enumerators enumerators) c in
      enumeration_form tag place s (fixed_in u s place fixed) (λ e previous t. enumerators_in u e previous t enumerators) (fixed_sound fixed u s place cs.0 h)
      (λ e previous t k p. enumerators_sound enumerators u e previous t cs.1 k p)
  type_sound (syntax.TypedefName name) u lone s c h = given_type_form s _ (typedef_sound name s h)
  type_sound (syntax.TypeofExpr word e place) u lone s c h = typeof_form word s (expr Unevaluated s e) (expr_sound e Unevaluated s c h)
  type_sound (syntax.TypeofType word name place) u lone s c h = typeof_name_form word s (type_name Unevaluated s name) (type_name_sound name Unevaluated s c h)

  pub fixed_sound : (fixed : syntax.MaybeSpecs) (u : Use) (s : State) (place : Place) → is_covered_fixed fixed ≡ true → are_sound s.scopes ≡ true →
      GivesSound s Anything (fixed_in u s place fixed)
  fixed_sound syntax.none_of_specs u s place c h = no_fixed_form s h
  fixed_sound (syntax.some_specs specs) u s place c h = fixed_form place specs s (types_in u false s specs) (types_sound specs u false s c h)

  pub enumerators_sound : (es : syntax.Enumerators) (u : Use) (e : Enumeration) (previous : Option ℤ) (s : State) → are_covered_enumerators es ≡ true →
      are_sound s.scopes ≡ true → SoundEnumeration s.scopes.structs e → GivesSound s PossibleIfAny (enumerators_in u e previous s es)
  enumerators_sound syntax.no_enumerators u e previous s c h p = no_enumerators_form e s h p
  enumerators_sound (syntax.more_enumerators (syntax.enumerator name value) others) u e previous s c h p =
      let cs = and_parts (is_covered_if_any value) (are_covered_enumerators others) c in
      more_enumerators_form e previous name s (constant u s value) (λ next t. enumerators_in u e next t others) p (constant_sound value u s cs.0 h)
      (λ next t k q. enumerators_sound others u e next t cs.1 k q)

  pub derivations_sound : (d : syntax.Declarator) (u : Use) (s : State) → is_covered_declarator d ≡ true → are_sound s.scopes ≡ true →
      SoundBoth s PlainSteps (derivations u s d)
  derivations_sound (syntax.Named pointers name suffixes) u s c h = behind_pointers_sound s pointers (suffixes_in u s suffixes) (suffixes_sound suffixes u s c h)
  derivations_sound (syntax.Unnamed pointers suffixes) u s c h = behind_pointers_sound s pointers (suffixes_in u s suffixes) (suffixes_sound suffixes u s c h)
  derivations_sound (syntax.Grouped pointers inner suffixes place) u s c h =
      let cs = and_parts (is_covered_declarator inner) (are_covered_suffixes suffixes) c in
      let first = derivations_sound inner u s cs.0 h in
      behind_pointers_sound s pointers _
      (and_steps_sound s (derivations u s inner) (outline_of_suffixes suffixes) (λ t. suffixes_in u t suffixes) first
      (suffixes_sound suffixes u (derivations u s inner).state cs.1 first.0.sound))

  pub suffixes_sound : (xs : syntax.Suffixes) (u : Use) (s : State) → are_covered_suffixes xs ≡ true → are_sound s.scopes ≡ true → SoundBoth s PlainSteps (suffixes_in u s xs)
  suffixes_sound syntax.no_suffixes u s c h = (behind_here s h, λ n. refl)
  suffixes_sound (syntax.more_suffixes first others) u s c h =
      let cs = and_parts (is_covered_suffix first) (are_covered_suffixes others) c in
      let one = suffix_sound first u s cs.0 h in
      and_steps_sound s (suffix_in u s first) (outline_of_suffixes others) (λ t. suffixes_in u t others) one
      (suffixes_sound others u (suffix_in u s first).state cs.1 one.0.sound)

  pub suffix_sound : (x : syntax.Suffix) (u : Use) (s : State) → is_covered_suffix x ≡ true → are_sound s.scopes ≡ true → SoundBoth s PlainSteps (suffix_in u s x)
  suffix_sound (syntax.ArraySuffix length place) u s c h = array_step_sound s length (constant u s length) h (constant_sound length u s c h)
  suffix_sound (syntax.FunctionSuffix parameters is_variadic place) u s c h = cc

  pub braces_sound : (b : syntax.Braces) (r : Ends) → EndsSound r → (u : Use) (s : State) → are_covered_braces b ≡ true → are_sound s.scopes ≡ true →
      SoundBoth s TypedItems (braces r u s b)
  braces_sound (syntax.braces items place) r e u s c h = items_sound items r e u s c h

  pub items_sound : (items : syntax.InitializerItems) (r : Ends) → EndsSound r → (u : Use) (s : State) → are_covered_items items ≡ true → are_sound s.scopes ≡ true →
      SoundBoth s TypedItems (items_in r u s items)
  items_sound syntax.no_items r e u s c h = (behind_here s h, refl)
  items_sound (syntax.more_items (syntax.item designators value) others) r e u s c h =
      let cs = and_parts (are_covered_designators designators) (is_covered_initializer value && are_covered_items others) c in
      let ds = and_parts (is_covered_initializer value) (are_covered_items others) cs.1 in
      both_after Anything TypedItems s (steps_in r u s designators) (λ steps t. item_given steps t (λ v. initializer r u v value) (λ v. items_in r u v others))
      (steps_sound designators r e u s cs.0 h) (λ t later p.
      let first = initializer_sound value r e u t ds.0 later.sound in
      item_sound (steps_in r u s designators).made t (λ v. initializer r u v value) (λ v. items_in r u v others) later.sound first
      (items_sound others r e u (initializer r u t value).state ds.1 first.0.sound))

  pub initializer_sound : (i : syntax.Initializer) (r : Ends) → EndsSound r → (u : Use) (s : State) → is_covered_initializer i ≡ true → are_sound s.scopes ≡ true →
      SoundBoth s TypedGiven (initializer r u s i)
  initializer_sound (syntax.Single value) r e u s c h = single_sound value r s (expr u s value) e h (expr_sound value u s c h)
  initializer_sound (syntax.Braced values) r e u s c h = braces_sound values r e u s c h

  pub steps_sound : (ds : syntax.Designators) (r : Ends) → EndsSound r → (u : Use) (s : State) → are_covered_designators ds ≡ true → are_sound s.scopes ≡ true →
      SoundBoth s Anything (steps_in r u s ds)
  steps_sound syntax.no_designators r e u s c h = (behind_here s h, refl)
  steps_sound (syntax.more_designators first others) r e u s c h =
      let cs = and_parts (is_covered_designator first) (are_covered_designators others) c in
      both_after Anything Anything s (step_in r u s first) (λ step t. steps_behind step t (λ v. steps_in r u v others)) (step_sound first r e u s cs.0 h) (λ t later p.
      steps_behind_sound (step_in r u s first).made t (λ v. steps_in r u v others) later.sound (steps_sound others r e u t cs.1 later.sound))

  pub step_sound : (d : syntax.Designator) (r : Ends) → EndsSound r → (u : Use) (s : State) → is_covered_designator d ≡ true → are_sound s.scopes ≡ true →
      SoundBoth s Anything (step_in r u s d)
  step_sound (syntax.ElementDesignator at place) r e u s c h = element_sound at r s place (expr u s at) e h (expr_sound at u s c h)
  step_sound (syntax.MemberDesignator name place) r e u s c h = (behind_here s h, refl)
