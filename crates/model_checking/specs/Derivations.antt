-- What a declarator derives from the type of its specifiers, step by step from its name outwards (ISO/IEC 9899:2024,
-- 6.7.7): of `*a[3]`, an array, then a pointer.
use Rattle.std.specs.Prelude.{ℕ, ◌+◌, ℤ, pos, int_lt, nat_abs, Bool, true, false, List, [], ◌∷◌, ◌++◌, Option, Some, None, Result, Ok, Err, if◌then◌else◌}
use Rattle.cake_base.specs.declared.places.Place.{Place}
use Rattle.cake_base.specs.declared.rules.Fault.{Fault}
use Rattle.model_types.specs.Types.{CType}
use Rattle.model_scopes.specs.Declarations.{Declaration}
use Rattle.model_grammar.specs.declared.syntax.Qualifier.{Qualifier}
use Rattle.model_grammar.specs.declared.syntax.Pointer.{Pointer}
use Rattle.model_grammar.specs.SyntaxForms as syntax
use Rattle.model_checking.specs.State.{State, Both, Answer, both, with_both, breaks}

-- a pointer with its qualifiers; an array with its length, if it has one; a function with the types of its parameters,
-- whether more may follow, and what is declared in their scope; an array whose length is faulty; and a function of so many
-- parameters of which one is faulty, with the same of those before it
pub data Derivation : Type 0 where
  a_pointer : (qualifiers : List Qualifier) → Derivation
  an_array : (length : Option ℕ) → Derivation
  a_function : (parameters : List CType) (is_variadic : Bool) (entries : List Declaration) → Derivation
  a_faulty_array : Derivation
  a_faulty_function : (count : ℕ) (parameters : List CType) (is_variadic : Bool) (entries : List Declaration) → Derivation

-- the steps of a declarator, and its first fault, behind which is only what the tree shows
pub record Steps : Type 0 where
  pub steps : List Derivation
  pub fault : Option Fault

-- C25 at the first token of a length that isn't positive
abbrev pub array_length : (first : Place) → ℤ → Result (Option ℕ) Fault
array_length first value = if int_lt (pos 0) value then Ok (Some (nat_abs value)) else breaks first 25

-- the first `*` is the last step
abbrev pub with_pointers : List Pointer → List Derivation → List Derivation
with_pointers [] ds = ds
with_pointers (p ∷ ps) ds = with_pointers ps ds ++ a_pointer p.qualifiers ∷ []

-- ---- the same, as far as the grammar's tree shows it without its parts

abbrev pub count_of_parameters : syntax.Parameters → ℕ
count_of_parameters syntax.no_parameters = 0
count_of_parameters (syntax.more_parameters first others) = 1 + count_of_parameters others

abbrev pub outline_of_suffix : syntax.Suffix → Derivation
outline_of_suffix (syntax.ArraySuffix syntax.no_expr place) = an_array None
outline_of_suffix (syntax.ArraySuffix (syntax.an_expr length) place) = a_faulty_array
outline_of_suffix (syntax.FunctionSuffix parameters is_variadic place) = a_faulty_function (count_of_parameters parameters) [] is_variadic []

abbrev pub outline_of_suffixes : syntax.Suffixes → List Derivation
outline_of_suffixes syntax.no_suffixes = []
outline_of_suffixes (syntax.more_suffixes first others) = outline_of_suffix first ∷ outline_of_suffixes others

abbrev pub outline : syntax.Declarator → List Derivation
outline (syntax.Named pointers name suffixes) = with_pointers pointers (outline_of_suffixes suffixes)
outline (syntax.Unnamed pointers suffixes) = with_pointers pointers (outline_of_suffixes suffixes)
outline (syntax.Grouped pointers inner suffixes place) = with_pointers pointers (outline inner ++ outline_of_suffixes suffixes)

-- ---- the step next to the name

abbrev pub is_function_step : List Derivation → Bool
is_function_step (a_function parameters is_variadic entries ∷ others) = true
is_function_step (a_faulty_function count parameters is_variadic entries ∷ others) = true
is_function_step _ = false

abbrev pub is_variadic_step : List Derivation → Bool
is_variadic_step (a_function parameters is_variadic entries ∷ others) = is_variadic
is_variadic_step (a_faulty_function count parameters is_variadic entries ∷ others) = is_variadic
is_variadic_step _ = false

-- what is declared in the scope of the declarator's own parameters
abbrev pub entries_of : List Derivation → List Declaration
entries_of (a_function parameters is_variadic entries ∷ others) = entries
entries_of (a_faulty_function count parameters is_variadic entries ∷ others) = entries
entries_of _ = []

-- how many parameters the tree shows
abbrev pub parameter_count : List Derivation → ℕ
parameter_count (a_faulty_function count parameters is_variadic entries ∷ others) = count
parameter_count _ = 0

-- the declarator is that of a function (6.7.7.4)
abbrev pub is_function_declarator : syntax.Declarator → Bool
is_function_declarator d = is_function_step (outline d)

abbrev pub is_variadic_declarator : syntax.Declarator → Bool
is_variadic_declarator d = is_variadic_step (outline d)

abbrev pub own_parameter_count : syntax.Declarator → ℕ
own_parameter_count d = parameter_count (outline d)

-- ---- steps and those behind them, in the order of the source

abbrev pub no_steps : Steps
no_steps = record { steps = []; fault = None }

abbrev and_steps_unless : Option Fault → Steps → State → (outline : List Derivation) → (State → Both Steps) → Both Steps
and_steps_unless None first s outline others =
    with_both (others s) (λ behind s. both (record { steps = first.steps ++ behind.steps; fault = behind.fault }) s)
and_steps_unless (Some fault) first s outline others = both (record first { steps = first.steps ++ outline }) s

-- what the tree shows of those behind stands in their place where the former are faulty
abbrev pub and_steps : Both Steps → (outline : List Derivation) → (State → Both Steps) → Both Steps
and_steps first outline others = and_steps_unless first.made.fault first.made first.state outline others

abbrev pub behind_pointers : List Pointer → Both Steps → Both Steps
behind_pointers pointers x = both (record x.made { steps = with_pointers pointers x.made.steps }) x.state

-- an array; the state is the one before it
abbrev pub array_step : (before : State) → Answer Derivation → Both Steps
array_step before (Ok x) = both (record { steps = x.made ∷ []; fault = None }) x.state
array_step before (Err fault) = both (record { steps = a_faulty_array ∷ []; fault = Some fault }) before
