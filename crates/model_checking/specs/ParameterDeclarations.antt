-- Parameters (ISO/IEC 9899:2024, 6.7.7.4): each is declared in the scope of their list, an array or a function as a
-- pointer. One without a name is declared without one, so that a list has as many entries of objects as parameters.
use Rattle.std.specs.Prelude.{ℕ, ◌+◌, nat_eq, Bool, true, false, ◌&&◌, List, [], ◌∷◌, ◌++◌, Option, Some, None, Ok, Err, if◌then◌else◌}
use Rattle.std.specs.Option.{unwrap_or}
use Rattle.cake_base.specs.declared.places.Place.{Place}
use Rattle.cake_base.specs.declared.rules.Fault.{Fault}
use Rattle.model_types.specs.Types as t
use Rattle.model_types.specs.Types.{CType, typed}
use Rattle.model_types.specs.Compatible.{same_quals}
use Rattle.model_core.specs.CoreTypes.{no_quals, pointer_to, int_type}
use Rattle.model_scopes.specs.declared.declarations.Kind.{Kind}
use Rattle.model_scopes.specs.declared.declarations.Kind.TheVariants.{Object, Function, TypeName, Enumerator, Tag}
use Rattle.model_scopes.specs.declared.declarations.Linkage.TheVariants.{Absent}
use Rattle.model_scopes.specs.Declarations.{Declaration}
use Rattle.model_scopes.specs.Scopes.{Declared, Scopes, enter, leave}
use Rattle.model_scopes.specs.DeclarationRules.{broken_rule}
use Rattle.model_scopes.specs.Declaring.{first_declared, declare}
use Rattle.model_grammar.specs.declared.syntax.Name.{Name}
use Rattle.model_grammar.specs.SyntaxForms as syntax
use Rattle.model_checking.specs.State.{State, Both, both, with_both, Answer, gives, unless, in_scopes}
use Rattle.model_checking.specs.Parts as part
use Rattle.model_checking.specs.FaultsBeside.{with_fault}
use Rattle.model_checking.specs.DeclaratorNames.{declarator_name, rule_at}
use Rattle.model_checking.specs.Derivations.{Derivation, a_function, a_faulty_function, Steps}
use Rattle.model_checking.specs.DeclaratorTypes.{own_parameters_fault}

-- in the scope of a list
abbrev pub begin_parameters : State → State
begin_parameters s = in_scopes (enter false s.scopes) s

-- an array becomes a pointer to its element, a function one to itself
abbrev pub adjusted : CType → CType
adjusted (typed (t.Array element count) quals) = pointer_to element
adjusted (typed (t.Function result parameters is_variadic) quals) = pointer_to (typed (t.Function result parameters is_variadic) quals)
adjusted (typed form quals) = typed form quals

-- ---- one parameter

abbrev pub parameter_declaration : List ℕ → Place → CType → Declaration
parameter_declaration name place type = record {
  name = name;
  kind = Object;
  linkage = Absent;
  ty = type;
  value = None;
  defines = true;
  automatic = true;
  place = place;
}

-- C01 and C02 at the name, whatever its type
abbrev pub parameter_rule : State → Name → Option ℕ
parameter_rule s name = broken_rule (parameter_declaration name.text name.place int_type) s.scopes

-- an id of its own, under which it is declared without a name
abbrev pub declare_unnamed : Declaration → Scopes → Scopes
declare_unnamed d s = record s {
  declared = s.declared ++ (s.ids, first_declared d s.innermost.number) ∷ [];
  ids = s.ids + 1;
}

-- what a list of parameters declares, here or again in a body; the empty name is none
abbrev pub declare_by_name : List ℕ → Declaration → Scopes → Scopes
declare_by_name [] d s = declare_unnamed d s
declare_by_name (c ∷ cs) d s = declare d s

abbrev pub declare_entry : Declaration → Scopes → Scopes
declare_entry d s = declare_by_name d.name d s

abbrev pub with_parameter : Declaration → State → Answer (Option CType)
with_parameter d s = gives (Some d.ty) (in_scopes (declare_entry d s.scopes) s)

abbrev pub is_plain_void : CType → Bool
is_plain_void (typed t.Void quals) = same_quals quals no_quals
is_plain_void _ = false

abbrev pub has_no_name : Option Name → Bool
has_no_name None = true
has_no_name (Some name) = false

-- a list that is `void` alone declares no parameter; else one has type void for now: its list is refused behind (C28, C37)
abbrev pub parameter_of : (is_alone : Bool) → Option Name → part.Declared → CType → State → Answer (Option CType)
parameter_of is_alone name d type s =
    if is_alone && has_no_name name && is_plain_void type then gives None s
    else unless (own_parameters_fault d) (with_parameter (parameter_declaration (unwrap_or d.name []) d.place (adjusted type)) s)

abbrev pub parameter_if : (is_alone : Bool) → Option Name → part.Declared → Option CType → State → Answer (Option CType)
parameter_if is_alone name d None s = gives None s
parameter_if is_alone name d (Some type) s = parameter_of is_alone name d type s

-- the type of a parameter, where it is one; the states are those before and behind its declarator
abbrev pub parameter : (is_alone : Bool) → syntax.Declarator → (before : State) → part.Declared → State → Answer (Option CType)
parameter is_alone declarator before d s =
    with_fault (rule_at (parameter_rule before) (declarator_name declarator))
    (with_fault (rule_at (parameter_rule s) (declarator_name declarator))
    (with_fault d.fault (parameter_if is_alone (declarator_name declarator) d d.type s)))

-- ---- a list of parameters

-- the types of parameters, up to the first that is faulty, and its fault
pub record Parameters : Type 0 where
  pub types : List CType
  pub fault : Option Fault

abbrev pub no_parameters_behind : Parameters
no_parameters_behind = record { types = []; fault = None }

abbrev with_type : Option CType → List CType → List CType
with_type (Some type) types = type ∷ types
with_type None types = types

-- a parameter, and those behind it; the state is the one before it
abbrev pub and_parameters : (before : State) → Answer (Option CType) → (State → Both Parameters) → Both Parameters
and_parameters before (Ok x) others =
    with_both (others x.state) (λ behind s. both (record behind { types = with_type x.made behind.types }) s)
and_parameters before (Err fault) others = both (record { types = []; fault = Some fault }) before

-- ---- behind the list

-- what is declared in a scope, in order
abbrev pub entries_in : (scope : ℕ) → List (ℕ × Declared) → List Declaration
entries_in scope [] = []
entries_in scope (e ∷ es) = if nat_eq e.1.scope scope then e.1.latest ∷ entries_in scope es else entries_in scope es

-- what was drawn since a state is in no block
abbrev pub leaves_out_since : (before : State) → State → State
leaves_out_since before s = record s { left_out = s.left_out ++ (before.scopes.ids, s.scopes.ids) ∷ [] }

abbrev function_derivation : Option Fault → (count : ℕ) → (is_variadic : Bool) → List CType → List Declaration → Derivation
function_derivation None count is_variadic types entries = a_function types is_variadic entries
function_derivation (Some fault) count is_variadic types entries = a_faulty_function count types is_variadic entries

-- a function of so many parameters as the tree shows; the state is the one before their scope
abbrev pub function_step : (count : ℕ) → (is_variadic : Bool) → (before : State) → Both Parameters → Both Steps
function_step count is_variadic before x =
    both (record { steps = function_derivation x.made.fault count is_variadic x.made.types (entries_in x.state.scopes.innermost.number x.state.scopes.declared) ∷ []; fault = x.made.fault })
    (leaves_out_since before (in_scopes (leave x.state.scopes) x.state))

-- an entry is a parameter, and no tag or enumerator
abbrev pub is_object : Kind → Bool
is_object Object = true
is_object Function = false
is_object TypeName = false
is_object Enumerator = false
is_object Tag = false

abbrev pub is_parameter : Declaration → Bool
is_parameter d = is_object d.kind
