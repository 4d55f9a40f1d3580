-- The type of a declarator (ISO/IEC 9899:2024, 6.7.7.2 to 6.7.7.4): its steps, the last one first, from the type of the
-- specifiers. Each constraint is asked where the type that it is about is known, whether or not other parts are faulty.
use Rattle.std.specs.Prelude.{ℕ, not, List, [], ◌∷◌, Option, Some, None, option_map, if◌then◌else◌}
use Rattle.cake_base.specs.declared.places.Place.{Place}
use Rattle.cake_base.specs.declared.rules.Fault.{Fault}
use Rattle.model_types.specs.Types.{CType, Array, Function, types, form_of_type}
use Rattle.model_types.specs.Structures.{Structure}
use Rattle.model_types.specs.Layout.{is_complete}
use Rattle.model_core.specs.CoreTypes.{plain, pointer_to, is_void}
use Rattle.model_core.specs.TypedParts.{is_function}
use Rattle.model_core.specs.PossibleTypes.{length_fits, is_value_form}
use Rattle.model_scopes.specs.DeclarationRules.{constraint_at}
use Rattle.model_grammar.specs.declared.syntax.Name.{Name}
use Rattle.model_grammar.specs.declared.syntax.Qualifier.{Qualifier}
use Rattle.model_scopes.specs.Declarations.{Declaration}
use Rattle.model_grammar.specs.SyntaxForms as syntax
use Rattle.model_checking.specs.State.{State, Both, both}
use Rattle.model_checking.specs.Parts.{Specified, Declared}
use Rattle.model_checking.specs.Faults.{or_fault}
use Rattle.model_checking.specs.FaultsBeside.{first_of_faults, fault_if, fault_at}
use Rattle.model_checking.specs.Qualified.{qualified, qualifier_fault, meeting_fault}
use Rattle.model_checking.specs.Derivations.{Derivation, a_pointer, an_array, a_function, a_faulty_array, a_faulty_function, Steps, entries_of}
use Rattle.model_checking.specs.DeclaratorNames.{declarator_name}

-- the type that steps give, where it is known, and the first fault among them
pub record Typing : Type 0 where
  pub type : Option CType
  pub fault : Option Fault

abbrev pub typing : Option CType → Option Fault → Typing
typing type fault = record { type = type; fault = fault }

abbrev pub typed_unless : Option Fault → CType → Typing
typed_unless None type = typing (Some type) None
typed_unless (Some fault) type = typing None (Some fault)

-- ---- the steps; `first` is the first token of the declarator

-- C28 and C22: an element is no function, and complete
abbrev pub element_fault : List Structure → (first : Place) → (element : CType) → Option Fault
element_fault structs first element =
    if is_function (form_of_type element) then Some (constraint_at first 28) else fault_if (not (is_complete structs element)) first 22

-- C25 besides: an array of what may be an element isn't too large
abbrev pub array_fault : List Structure → (first : Place) → (element : CType) → (length : Option ℕ) → Option Fault
array_fault structs first element length =
    or_fault (element_fault structs first element) (fault_if (not (length_fits structs element length)) first 25)

-- C28: a function gives no array and no function
abbrev pub result_fault : (first : Place) → (result : CType) → Option Fault
result_fault first result = fault_if (not (is_value_form (form_of_type result))) first 28

-- C29 at a qualifier behind `*`, which leaves the type known
abbrev pub pointed : List Qualifier → CType → Typing
pointed qualifiers type = typing (Some (qualified qualifiers (pointer_to type))) (qualifier_fault qualifiers (pointer_to type))

-- an array whose length is faulty counts as one of no elements, by which nothing is too large, and a function with a
-- faulty parameter as one of those before it
abbrev pub step : List Structure → (first : Place) → Derivation → CType → Typing
step structs first (a_pointer qualifiers) type = pointed qualifiers type
step structs first (an_array length) type = typed_unless (array_fault structs first type length) (plain (Array type length))
step structs first (a_function parameters is_variadic entries) type =
    typed_unless (result_fault first type) (plain (Function type (types parameters) is_variadic))
step structs first a_faulty_array type = typed_unless (element_fault structs first type) (plain (Array type (Some 0)))
step structs first (a_faulty_function count parameters is_variadic entries) type =
    typed_unless (result_fault first type) (plain (Function type (types parameters) is_variadic))

-- of a type that isn't known, or is to be inferred
abbrev pub step_from_unknown : Derivation → Typing
step_from_unknown (a_pointer qualifiers) = typing None (meeting_fault qualifiers)
step_from_unknown _ = typing None None

abbrev pub step_from : List Structure → (first : Place) → Derivation → Option CType → Typing
step_from structs first d (Some type) = step structs first d type
step_from structs first d None = step_from_unknown d

abbrev pub beside : (earlier : Option Fault) → Typing → Typing
beside earlier t = typing t.type (first_of_faults earlier t.fault)

abbrev pub derived : List Structure → (first : Place) → Option CType → List Derivation → Typing
derived structs first base [] = typing base None
derived structs first base (d ∷ ds) =
    beside (derived structs first base ds).fault (step_from structs first d (derived structs first base ds).type)

-- ---- C28: no parameter has type void; at the parameter

abbrev pub first_void : List Declaration → Option Place
first_void [] = None
first_void (d ∷ ds) = if is_void d.ty then Some d.place else first_void ds

abbrev pub void_fault : List Declaration → Option Fault
void_fault entries = fault_at (first_void entries) 28

abbrev pub void_faults : List Derivation → Option Fault
void_faults [] = None
void_faults (d ∷ ds) = first_of_faults (void_fault (entries_of (d ∷ []))) (void_faults ds)

-- a declarator's own parameters are asked where it is known whether it is that of a definition
abbrev pub inner_void_faults : List Derivation → Option Fault
inner_void_faults [] = None
inner_void_faults (d ∷ ds) = void_faults ds

-- of one that is that of no definition
abbrev pub own_parameters_fault : Declared → Option Fault
own_parameters_fault d = void_fault d.parameters

-- ---- a declarator

abbrev pub place_of : Option Name → (first : Place) → Place
place_of (Some name) first = name.place
place_of None first = first

abbrev pub declared_by : Specified → (first : Place) → Option Name → List Derivation → Typing → Declared
declared_by given first name ds t = record {
  name = option_map (λ n. n.text) name;
  place = place_of name first;
  type = t.type;
  storage = given.storage;
  first = first;
  parameters = entries_of ds;
  fault = t.fault;
}

-- the type that the steps give, and the first fault of them all
abbrev pub steps_typing : List Structure → (first : Place) → Option CType → Steps → Typing
steps_typing structs first base ds =
    beside (first_of_faults ds.fault (inner_void_faults ds.steps)) (derived structs first base ds.steps)

-- the state is the one before the steps: what is complete there counts
abbrev pub declarator : Specified → (first : Place) → syntax.Declarator → (before : State) → Both Steps → Both Declared
declarator given first d before x =
    both (declared_by given first (declarator_name d) x.made.steps (steps_typing before.scopes.structs first given.type x.made)) x.state
