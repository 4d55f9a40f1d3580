-- One declarator of a declaration, or of the definition of a function, bound to what it declares (ISO/IEC 9899:2024, 6.7,
-- 6.9.2, 6.9.3): before its initializer is read.
use Rattle.std.specs.Prelude.{ℕ, Bool, true, false, ◌&&◌, ◌||◌, not, List, [], ◌∷◌, ◌++◌, Option, Some, None, is_some}
use Rattle.cake_base.specs.declared.places.Place.{Place}
use Rattle.cake_base.specs.declared.rules.Fault.{Fault}
use Rattle.model_types.specs.Types as t
use Rattle.model_types.specs.Types.{CType, form_of_type}
use Rattle.model_types.specs.Structures.{Structure}
use Rattle.model_types.specs.Layout.{is_complete}
use Rattle.model_scopes.specs.declared.declarations.Kind.{Kind}
use Rattle.model_scopes.specs.declared.declarations.Kind.TheVariants.{Object, Function, TypeName, Enumerator, Tag}
use Rattle.model_scopes.specs.Declarations.{Declaration}
use Rattle.model_scopes.specs.Scopes.{Scopes}
use Rattle.model_scopes.specs.Declaring.{id_of, declare, note_initialized}
use Rattle.model_grammar.specs.declared.syntax.Name.{Name}
use Rattle.model_grammar.specs.SyntaxForms as syntax
use Rattle.model_checking.specs.State.{Use, State, Both, Answer, gives, breaks, unless, in_scopes, note_type}
use Rattle.model_checking.specs.Parts.{Specified, Declared}
use Rattle.model_checking.specs.FaultsBeside.{first_of_faults, fault_if, with_fault}
use Rattle.model_checking.specs.DeclarationContexts.{Context, of_definition}
use Rattle.model_checking.specs.DeclaratorNames.{declarator_name, rule_at}
use Rattle.model_checking.specs.DeclaratorTypes.{own_parameters_fault}
use Rattle.model_checking.specs.DeclaredNames.{Setting, Ending, no_value, an_initializer, a_body, gives_value, is_body, kind_of, declaration, declares_function}
use Rattle.model_checking.specs.DeclaredNameRules.{known_name_rule, untyped_name_rule, body_faults, result_fault}

-- what a declarator has bound: its declaration with its id, its first token, whether it has `constexpr`, and what is
-- declared in the scope of its own parameters
pub record Bound : Type 0 where
  pub declared : Declaration
  pub id : ℕ
  pub first : Place
  pub is_constexpr : Bool
  pub parameters : List Declaration

-- ---- the constraints at the first token of the declarator

-- the braces or the string behind an array without length give it one
abbrev pub awaits_length : t.Form → Ending → Bool
awaits_length (t.Array element None) ending = gives_value ending
awaits_length form ending = false

-- a function has no initializer
abbrev pub is_initialized_function : Kind → Ending → Bool
is_initialized_function Function ending = gives_value ending && not (is_body ending)
is_initialized_function _ ending = false

-- C22: an object that is defined is complete; a function has no initializer
abbrev pub wants_complete : List Structure → Kind → Setting → Declaration → Bool
wants_complete structs Object g d = d.defines && not (is_complete structs d.ty) && not (awaits_length (form_of_type d.ty) g.ending)
wants_complete structs Function g d = is_initialized_function Function g.ending
wants_complete structs TypeName g d = false
wants_complete structs Enumerator g d = false
wants_complete structs Tag g d = false

-- C32: a `constexpr` object has an initializer, in which it isn't used
abbrev pub lacks_constant : Kind → Setting → (uses_itself : Bool) → Bool
lacks_constant Object g uses_itself = g.storage.has_constexpr && (not (gives_value g.ending) || uses_itself)
lacks_constant Function g uses_itself = false
lacks_constant TypeName g uses_itself = false
lacks_constant Enumerator g uses_itself = false
lacks_constant Tag g uses_itself = false

-- C22 of the result of a function that is defined
abbrev pub result_fault_if : (is_body : Bool) → List Structure → (first : Place) → CType → Option Fault
result_fault_if true structs first type = result_fault structs first type
result_fault_if false structs first type = None

-- C28 of parameters, which are asked otherwise where there is a body
abbrev pub parameters_fault : (is_body : Bool) → Declared → Option Fault
parameters_fault true x = None
parameters_fault false x = own_parameters_fault x

abbrev pub declarator_faults : List Structure → Setting → Declared → (uses_itself : Bool) → Declaration → Option Fault
declarator_faults structs g x uses_itself d =
    first_of_faults (fault_if (wants_complete structs d.kind g d) x.first 22)
    (first_of_faults (fault_if (lacks_constant d.kind g uses_itself) x.first 32)
    (first_of_faults (result_fault_if (is_body g.ending) structs x.first d.ty) (parameters_fault (is_body g.ending) x)))

-- ---- what is bound

-- a definition with its initializer or body is noted
abbrev pub noted_value : Ending → (id : ℕ) → Place → Scopes → Scopes
noted_value no_value id place s = s
noted_value an_initializer id place s = note_initialized id place s
noted_value a_body id place s = note_initialized id place s

abbrev pub declared_in : Setting → Declaration → (id : ℕ) → Scopes → Scopes
declared_in g d id s = noted_value g.ending id d.place (declare d s)

-- an automatic object is one of its block
abbrev pub in_block_if : (is_automatic : Bool) → (id : ℕ) → State → State
in_block_if true id s = record s { automatic = s.automatic ++ id ∷ [] }
in_block_if false id s = s

-- the type of an object or a function is named
abbrev pub note_kind : Use → Kind → Place → CType → State → State
note_kind u Object place type s = note_type u place type s
note_kind u Function place type s = note_type u place type s
note_kind u TypeName place type s = s
note_kind u Enumerator place type s = s
note_kind u Tag place type s = s

abbrev pub state_with : Use → Setting → Declaration → (id : ℕ) → State → State
state_with u g d id s = note_kind u d.kind d.place d.ty (in_block_if d.automatic id (in_scopes (declared_in g d id s.scopes) s))

abbrev pub bound_as : Setting → Declared → Declaration → (id : ℕ) → Bound
bound_as g x d id = record { declared = d; id = id; first = x.first; is_constexpr = g.storage.has_constexpr; parameters = x.parameters }

abbrev pub bound_with : Use → Setting → Declared → Declaration → State → Answer Bound
bound_with u g x d s = gives (bound_as g x d (id_of d s.scopes)) (state_with u g d (id_of d s.scopes) s)

abbrev pub bound : Use → Setting → (uses_itself : Bool) → syntax.Declarator → Declared → Name → CType → State → Answer Bound
bound u g uses_itself d x name type s =
    with_fault (rule_at (known_name_rule x.fault g d type s.scopes) (Some name))
    (with_fault x.fault
    (unless (declarator_faults s.scopes.structs g x uses_itself (declaration g name type s.scopes))
    (bound_with u g x (declaration g name type s.scopes) s)))

-- of a faulty declarator no type is known; a function whose type is to be inferred is none (C31)
abbrev pub bound_if : Use → Setting → (uses_itself : Bool) → syntax.Declarator → Declared → Option Name → Option CType → State → Answer Bound
bound_if u g uses_itself d x (Some name) (Some type) s = bound u g uses_itself d x name type s
bound_if u g uses_itself d x name type s = unless x.fault (breaks x.first 31)

-- ---- a declarator, with what it gives; the state is the one before it

-- C22 of a function with an initializer, C31 of one whose type is to be inferred, and C32, as far as they need no type
abbrev pub untyped_faults : (first : Place) → (infers : Bool) → Kind → Setting → (uses_itself : Bool) → Option Fault
untyped_faults first infers kind g uses_itself =
    first_of_faults (fault_if (is_initialized_function kind g.ending) first 22)
    (first_of_faults (fault_if infers first 31) (fault_if (lacks_constant kind g uses_itself) first 32))

abbrev pub untyped_kind : Setting → Specified → syntax.Declarator → Kind
untyped_kind g given d = kind_of g.storage (declares_function given.type d)

abbrev pub bind_in : Use → Setting → (uses_itself : Bool) → Specified → (first : Place) → syntax.Declarator → (before : State) → Both Declared → Answer Bound
bind_in u g uses_itself given first d before x =
    with_fault (rule_at (untyped_name_rule g given.type d before.scopes) (declarator_name d))
    (with_fault (untyped_faults first (not (is_some given.type)) (untyped_kind g given d) g uses_itself)
    (bound_if u g uses_itself d x.made (declarator_name d) x.made.type x.state))

abbrev pub ending_of : syntax.MaybeInitializer → Ending
ending_of syntax.no_initializer = no_value
ending_of (syntax.an_initializer initializer) = an_initializer

-- of a declaration; `uses_itself` says that the initializer names what is declared
abbrev pub bind : Use → Context → (uses_itself : Bool) → Specified → (first : Place) → syntax.Declarator → syntax.MaybeInitializer → (before : State) → Both Declared → Answer Bound
bind u context uses_itself given first d initializer before x =
    bind_in u (record { context = context; storage = given.storage; ending = ending_of initializer }) uses_itself given first d before x

-- of the definition of a function
abbrev pub bind_function : Use → Specified → (first : Place) → syntax.Declarator → (before : State) → Both Declared → Answer Bound
bind_function u given first d before x =
    bind_in u (record { context = of_definition; storage = given.storage; ending = a_body }) false given first d before x

-- ---- a function literal

abbrev pub type_faults : List Structure → (at first : Place) → Option CType → Option Fault
type_faults structs at first None = None
type_faults structs at first (Some type) = body_faults structs at first type

-- C37 and C38 at its `(`, and C22 at the first token of its type name
abbrev pub definition_fault : List Structure → (at first : Place) → Declared → Option Fault
definition_fault structs at first d = type_faults structs at first d.type
