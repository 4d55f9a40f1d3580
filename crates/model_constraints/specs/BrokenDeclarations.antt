-- What declarations break (ISO/IEC 9899:2024, 6.7, 6.7.10, 6.9.2, 6.9.3): at their specifiers, at the name and the first
-- token of each declarator, and by its initializer.
use Rattle.std.specs.Prelude.{Bool, true, false, ◌&&◌, ◌||◌, not, List, Option, Some, None, is_some, unwrap_or}
use Rattle.cake_base.specs.declared.places.Place.{Place}
use Rattle.cake_base.specs.declared.rules.Fault.{Fault}
use Rattle.model_types.specs.Structures.{Structure}
use Rattle.model_types.specs.Types.{CType, form_of_type}
use Rattle.model_core.specs.CoreTypes.{type_of, unqualified}
use Rattle.model_scopes.specs.declared.declarations.Kind.{Kind}
use Rattle.model_scopes.specs.declared.declarations.Kind.TheVariants.{Object, Function, TypeName, Enumerator, Tag}
use Rattle.model_scopes.specs.Declarations.{Declaration}
use Rattle.model_scopes.specs.DeclarationRules.{earlier, standing, has_prefix, clashes_with, links_otherwise}
use Rattle.model_scopes.specs.Scopes.{Scopes}
use Rattle.model_grammar.specs.declared.syntax.Name.{Name}
use Rattle.model_grammar.specs.SyntaxForms as syntax
use Rattle.c_tree.specs.SyntaxPlaces.{declarator_first}
use Rattle.model_checking.specs.DeclarationContexts.{Context}
use Rattle.model_checking.specs.DeclarationSpecifiers.{type_given}
use Rattle.model_checking.specs.DeclaratorNames.{declarator_name}
use Rattle.model_checking.specs.DeclaratorTypes.{declarator}
use Rattle.model_checking.specs.DeclaredNameRules.{follows_no_function, has_bad_parameter, defines_variadic, initializes_again, is_bad_main, is_built_otherwise, declares_main, may_be_main, gives_incomplete}
use Rattle.model_checking.specs.DeclaredNames.{an_initializer as with_initializer, Setting, is_body, declaration, untyped_declaration}
use Rattle.model_checking.specs.Declaring.{Bound, wants_complete, lacks_constant, is_initialized_function, untyped_kind}
use Rattle.model_checking.specs.Derivations.{own_parameter_count}
use Rattle.model_checking.specs.Elaborated.{expr, types_in, derivations, initializer}
use Rattle.model_checking.specs.Inference.{may_infer, setting_in, inferred, inferred_type, bind_inferred}
use Rattle.model_checking.specs.OwnName.{names_itself, declares_again}
use Rattle.model_checking.specs.Parts.{Specified, Declared, Given, a_value}
use Rattle.model_checking.specs.Reading.{Ends, as_operand, named_first, specs_place}
use Rattle.model_checking.specs.State.{Use, State}
use Rattle.model_checking.specs.Tags.{is_lone}
use Rattle.model_checking.specs.Words.{words_of, qualifiers_of}
use Rattle.model_constraints.specs.Pairs.{Pairs, Nothing, At, At_if_any, Beside, Behind, Needs, In, If, IfAny, Unless}
use Rattle.model_constraints.specs.BrokenSpecifiers.{broken_specifiers, broken_qualifiers, broken_block_function, broken_empty_inference}
use Rattle.model_constraints.specs.BrokenDeclarators.{broken_declarator, broken_void}
use Rattle.model_constraints.specs.BrokenTags.{broken_declaration}
use Rattle.model_constraints.specs.BrokenInitializers.{broken_initialization, broken_known_value}
use Rattle.model_constraints.specs.BrokenParts.{broken_expr, broken_types, broken_derivations, broken_initializer}

-- ---- the specifiers of a declaration

abbrev pub broken_declaration_specifiers : Context → Use → State → syntax.Specs → syntax.InitDeclarators → Pairs
broken_declaration_specifiers c u s specs ds =
    Beside (broken_empty_inference (words_of specs) ds)
    (Beside (broken_block_function c (words_of specs) (type_given (types_in u (is_lone specs ds) s specs)) ds)
    (broken_specifiers c specs (types_in u (is_lone specs ds) s specs) (broken_types u (is_lone specs ds) s specs)))

-- ---- at the name

-- what needs no type: C01, C02, C04, C07, C37, C38 and C39
abbrev broken_untyped : Setting → syntax.Declarator → Declaration → Scopes → Pairs
broken_untyped g d x s =
    Beside (At x.place 1 (has_prefix x.name))
    (Beside (At x.place 2 (clashes_with x (standing x s)))
    (Beside (At x.place 4 (links_otherwise x (earlier x s)))
    (Beside (At x.place 7 (is_built_otherwise x))
    (Beside (At x.place 37 (follows_no_function g d))
    (Beside (At x.place 38 (defines_variadic g d)) (At x.place 39 (initializes_again g x s)))))))

abbrev pub broken_untyped_name : Setting → (given : Option CType) → syntax.Declarator → Scopes → Pairs
broken_untyped_name g given d s = IfAny (declarator_name d) (λ name. broken_untyped g d (untyped_declaration g given d name s) s)

-- what needs the type: C03 and C06 besides, C37 of a parameter, C47
abbrev broken_typed : List Structure → Setting → syntax.Declarator → Declaration → Scopes → Pairs
broken_typed structs g d x s =
    Beside (broken_declaration x s)
    (Beside (At x.place 37 (follows_no_function g d || is_body g.ending && has_bad_parameter structs (form_of_type x.ty)))
    (Beside (At x.place 38 (defines_variadic g d))
    (Beside (At x.place 39 (initializes_again g x s)) (At x.place 47 (is_bad_main x)))))

-- and of a faulty declarator, of whose type the form is known
abbrev broken_form : List Structure → Setting → syntax.Declarator → Declaration → Pairs
broken_form structs g d x =
    Beside (At x.place 37 (is_body g.ending && has_bad_parameter structs (form_of_type x.ty)))
    (At x.place 47 (declares_main x && not (may_be_main (own_parameter_count d) x.ty)))

abbrev broken_name : Option Fault → Setting → syntax.Declarator → Declaration → Scopes → Pairs
broken_name None g d x s = broken_typed s.structs g d x s
broken_name (Some fault) g d x s = broken_form s.structs g d x

-- ---- at the first token of the declarator

-- what needs no type: C22 of a function with an initializer, C31 where the type is to be inferred, C32
abbrev broken_untyped_object : (first : Place) → (infers : Bool) → Kind → Setting → (uses_itself : Bool) → Pairs
broken_untyped_object first infers kind g uses_itself =
    Beside (At first 22 (is_initialized_function kind g.ending))
    (Beside (At first 31 infers) (At first 32 (lacks_constant kind g uses_itself)))

-- what needs it: C22 of an object that is defined, and of the result of a function that is; C32; and C28 of the parameters
-- of a function that isn't
abbrev broken_object : List Structure → Setting → Declared → (uses_itself : Bool) → Declaration → Pairs
broken_object structs g x uses_itself d =
    Beside (At x.first 22 (wants_complete structs d.kind g d))
    (Beside (At x.first 22 (is_body g.ending && gives_incomplete structs (form_of_type d.ty)))
    (Beside (At x.first 32 (lacks_constant d.kind g uses_itself)) (If (not (is_body g.ending)) (broken_void x.parameters))))

-- ---- what a declarator declares

abbrev broken_with_type : Setting → (uses_itself : Bool) → syntax.Declarator → Declared → Name → CType → State → Pairs
broken_with_type g uses_itself d x name type s =
    Beside (broken_name x.fault g d (declaration g name type s.scopes) s.scopes)
    (broken_object s.scopes.structs g x uses_itself (declaration g name type s.scopes))

abbrev broken_if_typed : Setting → (uses_itself : Bool) → syntax.Declarator → Declared → Option Name → Option CType → State → Pairs
broken_if_typed g uses_itself d x (Some name) (Some type) s = broken_with_type g uses_itself d x name type s
broken_if_typed g uses_itself d x name type s = Unless x.fault (At x.first 31 true)

-- in a state that is the one before the declarator
abbrev pub broken_bound : Use → Setting → (uses_itself : Bool) → Specified → syntax.Declarator → State → Pairs
broken_bound u g uses_itself given d s =
    Beside (broken_declarator s.scopes.structs (named_first d) given.type (broken_derivations u s d) (derivations u s d).made)
    (Beside (broken_untyped_name g given.type d s.scopes)
    (Beside (broken_untyped_object (named_first d) (not (is_some given.type)) (untyped_kind g given d) g uses_itself)
    (In (declarator given (named_first d) d s (derivations u s d)) (λ x s.
    broken_if_typed g uses_itself d x (declarator_name d) x.type s))))

-- ---- the initializer of what is declared

abbrev broken_kind : Kind → Bound → Given → State → Pairs
broken_kind Object b given s =
    Beside (broken_known_value b.is_constexpr b.declared.ty given) (broken_initialization (not b.declared.automatic) b.first b.declared.ty given s)
broken_kind Function b given s = Nothing
broken_kind TypeName b given s = Nothing
broken_kind Enumerator b given s = Nothing
broken_kind Tag b given s = Nothing

abbrev broken_start : Bound → Given → State → Pairs
broken_start b given s = broken_kind b.declared.kind b given s

abbrev pub broken_initialized : Ends → Use → Bound → State → syntax.Initializer → Pairs
broken_initialized r u b s i = Beside (broken_initializer r u s i) (In (initializer r u s i) (λ given s. broken_start b given s))

-- an initializer names the object that it is for
abbrev named_in : Option Name → syntax.Initializer → Bool
named_in None i = false
named_in (Some name) i = names_itself name.text i

abbrev pub uses_itself : syntax.Declarator → syntax.MaybeInitializer → Bool
uses_itself d syntax.no_initializer = false
uses_itself d (syntax.an_initializer i) = named_in (declarator_name d) i

-- ---- a type that is inferred

-- C02 at an enumerator of the object's name in its value
abbrev broken_again : Option Name → syntax.Expr → Pairs
broken_again None e = Nothing
broken_again (Some name) e = At_if_any (declares_again name.text (syntax.Single e)) 2 true

-- with the type of the value: C29 of the qualifiers; and what the declaration breaks with the type
abbrev broken_by_value : Context → syntax.Specs → Specified → syntax.Declarator → CType → State → Pairs
broken_by_value c specs given d type s =
    Beside (broken_qualifiers (qualifiers_of (words_of specs)) (unqualified type))
    (broken_if_typed (record { context = c; storage = given.storage; ending = with_initializer }) false d
    (inferred given (named_first d) d (inferred_type specs type)) (declarator_name d) (Some (inferred_type specs type)) s)

abbrev broken_value_of : Context → Use → syntax.Specs → Specified → State → syntax.Declarator → syntax.MaybeInitializer → Pairs
broken_value_of c u specs given s d (syntax.an_initializer (syntax.Single e)) =
    Beside (broken_again (declarator_name d) e)
    (Needs (as_operand e (expr u s e)) (broken_expr u s e) (λ o s.
    Beside (broken_by_value c specs given d (type_of o.value) s)
    (Behind (bind_inferred u c specs given (named_first d) d (type_of o.value) s) (λ b s.
    broken_start b (a_value o.value o.first None) s))))
broken_value_of c u specs given s d i = Nothing

-- C31 at the first token of the first declarator: not one plain name with a value that doesn't name it
abbrev pub broken_inference : Context → Use → syntax.Specs → Specified → State → syntax.InitDeclarators → Pairs
broken_inference c u specs given s syntax.no_init_declarators = Nothing
broken_inference c u specs given s (syntax.more_init_declarators (syntax.init_declarator d i) others) =
    Beside (At (unwrap_or (declarator_first d) (specs_place specs)) 31 (uses_itself d i || not (may_infer d i others)))
    (Beside (broken_untyped_name (setting_in c given i) None d s.scopes)
    (If (may_infer d i others && not (uses_itself d i)) (broken_value_of c u specs given s d i)))
