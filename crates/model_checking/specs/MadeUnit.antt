-- The core of a unit, from what is known at its end: objects and functions in the order of their ids, named types in the
-- order of their places (ISO/IEC 9899:2024, 6.2.2, 6.2.4, 6.9).
use Rattle.std.specs.Prelude.{ℕ, ◌==◌, nat_lt, Bool, true, false, ◌&&◌, ◌||◌, not, if◌then◌else◌, List, [], ◌∷◌, Option, Some, None}
use Rattle.std.specs.List.{list_any}
use Rattle.cake_base.specs.declared.places.Place.{Place}
use Rattle.model_types.specs.Types.{CType}
use Rattle.model_scopes.specs.declared.declarations.Kind.{Kind}
use Rattle.model_scopes.specs.declared.declarations.Kind.TheVariants.{Object, Function, TypeName, Enumerator, Tag}
use Rattle.model_scopes.specs.Declarations.{linkage_of, has_linkage}
use Rattle.model_scopes.specs.DeclarationRules.{is_external}
use Rattle.model_scopes.specs.Declaring.{joint_place, place_or}
use Rattle.model_scopes.specs.NotedUses.{is_function_kind}
use Rattle.model_scopes.specs.Scopes.{Declared, is_defined}
use Rattle.model_core.specs.TypedScope.{is_among}
use Rattle.model_core.specs.Core as unit
use Rattle.model_checking.specs.State.{State, Made, Body, Valued}

-- ---- in order

abbrev object_inserted : unit.DeclaredObject → List unit.DeclaredObject → List unit.DeclaredObject
object_inserted o [] = o ∷ []
object_inserted o (p ∷ ps) = if nat_lt o.id p.id then o ∷ p ∷ ps else p ∷ object_inserted o ps

abbrev function_inserted : unit.Function → List unit.Function → List unit.Function
function_inserted f [] = f ∷ []
function_inserted f (g ∷ gs) = if nat_lt f.id g.id then f ∷ g ∷ gs else g ∷ function_inserted f gs

abbrev type_inserted : (Place × CType) → List (Place × CType) → List (Place × CType)
type_inserted t [] = t ∷ []
type_inserted t (u ∷ us) = if nat_lt t.0.order u.0.order then t ∷ u ∷ us else u ∷ type_inserted t us

abbrev types_in_order : List (Place × CType) → List (Place × CType)
types_in_order [] = []
types_in_order (t ∷ ts) = type_inserted t (types_in_order ts)

-- ---- objects

abbrev is_object_kind : Kind → Bool
is_object_kind Object = true
is_object_kind Function = false
is_object_kind TypeName = false
is_object_kind Enumerator = false
is_object_kind Tag = false

abbrev is_left_out : (id : ℕ) → List (ℕ × ℕ) → Bool
is_left_out id = list_any (λ range. not (nat_lt id range.0) && nat_lt id range.1)

-- an object of the unit: one with linkage, or one that is declared where it is evaluated and not in a list of parameters
abbrev is_unit_object : State → (id : ℕ) → Declared → Bool
is_unit_object s id d = is_object_kind d.latest.kind && (has_linkage d.latest || not (is_left_out id s.left_out))

abbrev is_parameter : (id : ℕ) → List Body → Bool
is_parameter id = list_any (λ body. is_among body.parameters id)

-- the values of an object and its type where it is initialised
abbrev valued : (id : ℕ) → List Valued → Option Valued
valued id [] = None
valued id (v ∷ vs) = if v.id == id then Some v else valued id vs

abbrev values_or_none : Option Valued → unit.Initials
values_or_none (Some v) = v.values
values_or_none None = unit.no_initials

abbrev type_or : CType → Option Valued → CType
type_or type (Some v) = v.type
type_or type None = type

abbrev automatic_storage : (is_parameter : Bool) → unit.Storage
automatic_storage true = unit.Parameter
automatic_storage false = unit.Automatic

abbrev static_storage : (is_defined : Bool) → Option Valued → unit.Storage
static_storage true v = unit.Static (values_or_none v)
static_storage false v = unit.Declared

abbrev storage_of : State → (id : ℕ) → Declared → unit.Storage
storage_of s id d =
    if d.latest.automatic then automatic_storage (is_parameter id s.bodies) else static_storage (is_defined d) (valued id s.values)

abbrev name_if_any : List ℕ → Option (List ℕ)
name_if_any [] = None
name_if_any (letter ∷ letters) = Some (letter ∷ letters)

abbrev object_of : State → (id : ℕ) → Declared → unit.DeclaredObject
object_of s id d = record {
  id = id;
  name = name_if_any d.latest.name;
  type = type_or d.latest.ty (valued id s.values);
  is_external = is_external (linkage_of d.latest);
  storage = storage_of s id d;
  is_address_taken = is_among s.taken id;
  place = d.first;
  joint_place = joint_place d;
}

abbrev object_before : Bool → unit.DeclaredObject → List unit.DeclaredObject → List unit.DeclaredObject
object_before true o os = object_inserted o os
object_before false o os = os

abbrev declared_objects : State → List (ℕ × Declared) → List unit.DeclaredObject
declared_objects s [] = []
declared_objects s (e ∷ es) = object_before (is_unit_object s e.0 e.1) (object_of s e.0 e.1) (declared_objects s es)

-- that of a string; of a compound literal at file scope; or of another compound literal
abbrev made_storage : (text : Option (List ℕ)) → (values : Option unit.Initials) → unit.Storage
made_storage (Some bytes) values = unit.Text bytes
made_storage None (Some values) = unit.Static values
made_storage None None = unit.Automatic

abbrev made_object : State → Made → unit.DeclaredObject
made_object s m = record {
  id = m.id;
  name = None;
  type = m.type;
  is_external = false;
  storage = made_storage m.text m.values;
  is_address_taken = is_among s.taken m.id;
  place = m.place;
  joint_place = m.place;
}

abbrev with_made : State → List Made → List unit.DeclaredObject → List unit.DeclaredObject
with_made s [] objects = objects
with_made s (m ∷ ms) objects =
    with_made s ms (if m.is_evaluated then object_inserted (made_object s m) objects else objects)

-- ---- functions

abbrev body_with : (id : ℕ) → List Body → Option Body
body_with id [] = None
body_with id (b ∷ bs) = if b.id == id then Some b else body_with id bs

abbrev type_of_body : CType → Option Body → CType
type_of_body type (Some b) = b.type
type_of_body type None = type

abbrev parameters_of : Option Body → List ℕ
parameters_of (Some b) = b.parameters
parameters_of None = []

abbrev body_of : Option Body → unit.MaybeStat
body_of (Some b) = unit.a_stat b.body
body_of None = unit.no_stat

-- a defined function has the type of its definition
abbrev function_by : Option Body → (id : ℕ) → Declared → unit.Function
function_by body id d = record {
  id = id;
  name = unit.Named d.latest.name;
  type = type_of_body d.latest.ty body;
  is_external = is_external (linkage_of d.latest);
  parameters = parameters_of body;
  body = body_of body;
  place = place_or d.defining d.first;
  joint_place = joint_place d;
}

abbrev function_before : Bool → unit.Function → List unit.Function → List unit.Function
function_before true f fs = function_inserted f fs
function_before false f fs = fs

abbrev declared_functions : State → List (ℕ × Declared) → List unit.Function
declared_functions s [] = []
declared_functions s (e ∷ es) =
    function_before (is_function_kind e.1.latest.kind) (function_by (body_with e.0 s.bodies) e.0 e.1) (declared_functions s es)

abbrev literal_function : Place → Body → unit.Function
literal_function place b = record {
  id = b.id;
  name = unit.Lambda place;
  type = b.type;
  is_external = false;
  parameters = b.parameters;
  body = unit.a_stat b.body;
  place = place;
  joint_place = place;
}

abbrev literal_inserted : Option Place → Body → List unit.Function → List unit.Function
literal_inserted (Some place) b functions = function_inserted (literal_function place b) functions
literal_inserted None b functions = functions

abbrev with_literals : List Body → List unit.Function → List unit.Function
with_literals [] functions = functions
with_literals (b ∷ bs) functions = with_literals bs (literal_inserted b.literal b functions)

-- ---- the unit

abbrev pub core_of : State → unit.Core
core_of s = record {
  objects = with_made s s.made (declared_objects s s.scopes.declared);
  functions = with_literals s.bodies (declared_functions s s.scopes.declared);
  structs = s.scopes.structs;
  named_types = types_in_order s.named;
}
