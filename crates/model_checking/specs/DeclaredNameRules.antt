-- The constraints at the name that a declarator declares (ISO/IEC 9899:2024, 6.2.2, 6.7, 6.9.1, 6.9.2, 5.1.2.3.2): the
-- smallest broken rule. Those that need no type are asked whether or not the declarator is faulty.
use Rattle.std.specs.Prelude.{ℕ, nat_eq, Bool, false, ◌&&◌, ◌||◌, not, List, Option, Some, None, is_some, option_map, codes, if◌then◌else◌}
use Rattle.cake_base.specs.declared.places.Place.{Place}
use Rattle.cake_base.specs.declared.rules.Fault.{Fault}
use Rattle.model_types.specs.declared.numbers.Basic.TheVariants.{Char}
use Rattle.model_types.specs.Texts.{same_text}
use Rattle.model_types.specs.Types.{CType, Integer, Function, Form, Types, no_types, more_types, form_of_type}
use Rattle.model_types.specs.Structures.{Structure}
use Rattle.model_types.specs.Layout.{is_complete}
use Rattle.model_core.specs.CoreTypes.{plain, pointer_to, int_type, is_void}
use Rattle.model_scopes.specs.Declarations.{Declaration, has_linkage}
use Rattle.model_scopes.specs.Scopes.{Declared, Scopes}
use Rattle.model_scopes.specs.SameTypedefs.{same_typedef}
use Rattle.model_scopes.specs.DeclarationRules.{broken_rule, earlier, standing, has_prefix, clashes_with, links_otherwise, is_otherwise, built_in_type}
use Rattle.model_grammar.specs.declared.syntax.Name.{Name}
use Rattle.model_grammar.specs.SyntaxForms as syntax
use Rattle.model_checking.specs.FaultsBeside.{first_of_faults, fault_if}
use Rattle.model_checking.specs.Derivations.{is_function_declarator, is_variadic_declarator, own_parameter_count}
use Rattle.model_checking.specs.DeclaredNames.{Setting, gives_value, is_body, declaration, untyped_declaration}

-- ---- C37: a body follows no function declarator; a parameter of a definition is void or incomplete

abbrev pub follows_no_function : Setting → syntax.Declarator → Bool
follows_no_function g d = is_body g.ending && (g.storage.has_typedef || not (is_function_declarator d))

abbrev pub are_incomplete : List Structure → Types → Bool
are_incomplete structs no_types = false
are_incomplete structs (more_types type types) = not (is_complete structs type) || are_incomplete structs types

abbrev pub has_bad_parameter : List Structure → Form → Bool
has_bad_parameter structs (Function result parameters is_variadic) = are_incomplete structs parameters
has_bad_parameter structs form = false

-- ---- C38: a variadic function is defined

abbrev pub defines_variadic : Setting → syntax.Declarator → Bool
defines_variadic g d = is_body g.ending && is_variadic_declarator d

-- ---- C39: an object has an initializer twice, or a function a body

abbrev pub is_initialized : Option Declared → Bool
is_initialized None = false
is_initialized (Some d) = is_some d.initialized

abbrev pub initializes_again : Setting → Declaration → Scopes → Bool
initializes_again g d s = gives_value g.ending && has_linkage d && is_initialized (earlier d s)

-- ---- C47: `main` is `int (void)` or `int (int, char **)`, in every part; an enumeration isn't int

abbrev pub main_type : Types → CType
main_type parameters = plain (Function int_type parameters false)

abbrev pub is_type_of_main : CType → Bool
is_type_of_main type =
    same_typedef type (main_type no_types)
    || same_typedef type (main_type (more_types int_type (more_types (pointer_to (pointer_to (plain (Integer Char)))) no_types)))

abbrev pub declares_main : Declaration → Bool
declares_main d = same_text d.name (codes "main") && has_linkage d

abbrev pub is_bad_main : Declaration → Bool
is_bad_main d = declares_main d && not (is_type_of_main d.ty)

-- where a parameter is faulty, of so many of which the type has those before it
abbrev pub may_be_main : (count : ℕ) → CType → Bool
may_be_main count type =
    nat_eq count 2 && (same_typedef type (main_type no_types) || same_typedef type (main_type (more_types int_type no_types)))

-- ---- the smallest

abbrev pub or_rule : Option ℕ → Option ℕ → Option ℕ
or_rule (Some rule) others = Some rule
or_rule None others = others

abbrev pub rule_if : Bool → ℕ → Option ℕ
rule_if broken rule = if broken then Some rule else None

-- of a declaration whose type is known
abbrev pub typed_rule : List Structure → Setting → syntax.Declarator → Declaration → Scopes → Option ℕ
typed_rule structs g d x s =
    or_rule (broken_rule x s)
    (or_rule (rule_if (follows_no_function g d || is_body g.ending && has_bad_parameter structs (form_of_type x.ty)) 37)
    (or_rule (rule_if (defines_variadic g d) 38) (or_rule (rule_if (initializes_again g x s) 39) (rule_if (is_bad_main x) 47))))

-- C07 as far as it needs no type
abbrev pub is_built_otherwise : Declaration → Bool
is_built_otherwise x = is_otherwise x (option_map (λ type. x.ty) (built_in_type x.name))

-- of one whose type isn't
abbrev pub untyped_rule : Setting → syntax.Declarator → Declaration → Scopes → Option ℕ
untyped_rule g d x s =
    or_rule (rule_if (has_prefix x.name) 1)
    (or_rule (rule_if (clashes_with x (standing x s)) 2)
    (or_rule (rule_if (links_otherwise x (earlier x s)) 4)
    (or_rule (rule_if (is_built_otherwise x) 7)
    (or_rule (rule_if (follows_no_function g d) 37)
    (or_rule (rule_if (defines_variadic g d) 38) (rule_if (initializes_again g x s) 39))))))

abbrev pub typed_name_rule : Setting → syntax.Declarator → CType → Scopes → Name → Option ℕ
typed_name_rule g d type s name = typed_rule s.structs g d (declaration g name type s) s

-- C37 and C47 of a faulty declarator, as far as its type is known
abbrev pub form_rule : List Structure → Setting → syntax.Declarator → Declaration → Option ℕ
form_rule structs g d x =
    or_rule (rule_if (is_body g.ending && has_bad_parameter structs (form_of_type x.ty)) 37)
    (rule_if (declares_main x && not (may_be_main (own_parameter_count d) x.ty)) 47)

-- of a declarator that is faulty or not
abbrev pub known_name_rule : Option Fault → Setting → syntax.Declarator → CType → Scopes → Name → Option ℕ
known_name_rule None g d type s name = typed_name_rule g d type s name
known_name_rule (Some fault) g d type s name = form_rule s.structs g d (declaration g name type s)

abbrev pub untyped_name_rule : Setting → (given : Option CType) → syntax.Declarator → Scopes → Name → Option ℕ
untyped_name_rule g given d s name = untyped_rule g d (untyped_declaration g given d name s) s

-- ---- the same of what is defined by a body, at a place; C22 at another where its result is incomplete

abbrev pub gives_incomplete : List Structure → Form → Bool
gives_incomplete structs (Function result parameters is_variadic) = not (is_void result) && not (is_complete structs result)
gives_incomplete structs form = false

abbrev pub is_variadic_form : Form → Bool
is_variadic_form (Function result parameters is_variadic) = is_variadic
is_variadic_form form = false

abbrev pub result_fault : List Structure → (first : Place) → CType → Option Fault
result_fault structs first type = fault_if (gives_incomplete structs (form_of_type type)) first 22

abbrev pub body_faults : List Structure → (at first : Place) → CType → Option Fault
body_faults structs at first type =
    first_of_faults (fault_if (has_bad_parameter structs (form_of_type type)) at 37)
    (first_of_faults (fault_if (is_variadic_form (form_of_type type)) at 38) (result_fault structs first type))
