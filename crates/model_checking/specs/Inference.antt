-- A declaration whose type is to be inferred (ISO/IEC 9899:2024, 6.7.10): one plain name with an initializer without
-- braces, from whose value it has its type.
use Rattle.std.specs.Prelude.{Bool, true, false, not, [], Option, Some, None, if◌then◌else◌}
use Rattle.std.specs.Option.{unwrap_or}
use Rattle.cake_base.specs.declared.places.Place.{Place}
use Rattle.cake_base.specs.declared.rules.Fault.{Fault}
use Rattle.model_types.specs.Types.{CType}
use Rattle.model_core.specs.CoreTypes.{unqualified}
use Rattle.model_grammar.specs.SyntaxForms as syntax
use Rattle.c_tree.specs.SyntaxPlaces.{declarator_first}
use Rattle.model_checking.specs.State.{Use, State, Answer, unless}
use Rattle.model_checking.specs.Parts.{Specified, Declared}
use Rattle.model_checking.specs.FaultsBeside.{first_of_faults, fault_if}
use Rattle.model_checking.specs.DeclarationContexts.{Context}
use Rattle.model_checking.specs.Words.{words_of, qualifiers_of}
use Rattle.model_checking.specs.Qualified.{qualified, qualifier_fault}
use Rattle.model_checking.specs.DeclaratorNames.{declarator_name, rule_at}
use Rattle.model_checking.specs.DeclaratorTypes.{typing, declared_by}
use Rattle.model_checking.specs.DeclaredNames.{Setting, an_initializer}
use Rattle.model_checking.specs.DeclaredNameRules.{untyped_name_rule}
use Rattle.model_checking.specs.Declaring.{Bound, bound_if, ending_of}

-- ---- C31: not exactly one declarator, that is a name with an initializer without braces

abbrev pub is_plain_name : syntax.Declarator → Bool
is_plain_name (syntax.Named [] name syntax.no_suffixes) = true
is_plain_name _ = false

abbrev pub is_plain_value : syntax.MaybeInitializer → Bool
is_plain_value (syntax.an_initializer (syntax.Single value)) = true
is_plain_value _ = false

abbrev pub is_single : syntax.InitDeclarators → Bool
is_single syntax.no_init_declarators = true
is_single (syntax.more_init_declarators first others) = false

abbrev pub may_infer : syntax.Declarator → syntax.MaybeInitializer → (others : syntax.InitDeclarators) → Bool
may_infer d initializer others = if is_plain_name d then (if is_plain_value initializer then is_single others else false) else false

abbrev pub setting_in : Context → Specified → syntax.MaybeInitializer → Setting
setting_in context given initializer = record { context = context; storage = given.storage; ending = ending_of initializer }

-- the rules at the name that need no type
abbrev pub name_fault_of : Context → Specified → State → syntax.Declarator → syntax.MaybeInitializer → Option Fault
name_fault_of context given s d initializer =
    rule_at (untyped_name_rule (setting_in context given initializer) None d s.scopes) (declarator_name d)

abbrev pub name_fault : Context → Specified → syntax.InitDeclarators → State → Option Fault
name_fault context given syntax.no_init_declarators s = None
name_fault context given (syntax.more_init_declarators (syntax.init_declarator d initializer) others) s = name_fault_of context given s d initializer

-- C31 at the first token of the declarator, also where its initializer names what it declares
abbrev pub plain_fault : (uses_itself : Bool) → (first : Place) → syntax.Declarator → syntax.MaybeInitializer → (others : syntax.InitDeclarators) → Option Fault
plain_fault uses_itself first d initializer others = fault_if (if uses_itself then true else not (may_infer d initializer others)) first 31

abbrev beside_if_any : Option Fault → Option Fault → Option Fault
beside_if_any None other = None
beside_if_any (Some fault) other = first_of_faults other (Some fault)

-- before the initializer is read: C31, and then no type is known, so the rules at the name beside it; `specs_place` is the
-- first token of the specifiers. That nothing is declared is asked beside the specifiers
abbrev pub inference_fault : Context → Specified → (uses_itself : Bool) → (specs_place : Place) → syntax.InitDeclarators → State → Option Fault
inference_fault context given uses_itself specs_place syntax.no_init_declarators s = None
inference_fault context given uses_itself specs_place (syntax.more_init_declarators (syntax.init_declarator d initializer) others) s =
    beside_if_any (plain_fault uses_itself (unwrap_or (declarator_first d) specs_place) d initializer others)
    (name_fault_of context given s d initializer)

-- ---- the type: that of the value, unqualified, with the qualifiers of the specifiers

abbrev pub inferred_type : syntax.Specs → (value : CType) → CType
inferred_type specs value = qualified (qualifiers_of (words_of specs)) (unqualified value)

-- C29 of those qualifiers
abbrev pub inferred_fault : syntax.Specs → (value : CType) → Option Fault
inferred_fault specs value = qualifier_fault (qualifiers_of (words_of specs)) (unqualified value)

abbrev pub inferred : Specified → (first : Place) → syntax.Declarator → CType → Declared
inferred given first d type = declared_by given first (declarator_name d) [] (typing (Some type) None)

abbrev pub bound_inferred : Use → Context → Specified → (first : Place) → syntax.Declarator → CType → State → Answer Bound
bound_inferred u context given first d type s =
    bound_if u (record { context = context; storage = given.storage; ending = an_initializer }) false d (inferred given first d type)
    (declarator_name d) (Some type) s

-- behind the value of its initializer, which has this type; C22 where it is void or incomplete
abbrev pub bind_inferred : Use → Context → syntax.Specs → Specified → (first : Place) → syntax.Declarator → (value : CType) → State → Answer Bound
bind_inferred u context specs given first d value s =
    unless (inferred_fault specs value) (bound_inferred u context given first d (inferred_type specs value) s)
