-- The program of a unit (ISO/IEC 9899:1990, 6.7): structures in an order in which each is complete where it has to be;
-- strings, prototypes, what is declared elsewhere, objects with their values; and the functions in their order.
use Rattle.std.specs.Prelude.{ℕ, zero, suc, Bool, true, false, not, ◌&&◌, if◌then◌else◌, List, [], ◌∷◌, ◌++◌, Option, Some, None}
use Rattle.model_types.specs.declared.types.StructId.{StructId}
use Rattle.model_types.specs.Types.{CType, typed, Form, Void, Function, Types, more_types, form_of_type}
use Rattle.model_types.specs.Structures.{Member, Structure}
use Rattle.model_types.specs.Layout.{complete_count}
use Rattle.model_core.specs.PossibleTypes.{has_order}
use Rattle.model_core.specs.TypedScope.{is_among}
use Rattle.model_core.specs.Types89 as written
use Rattle.model_core.specs.Types89.{Type89}
use Rattle.model_core.specs.Core as source
use Rattle.model_core.specs.Program89 as text
use Rattle.c_model.specs.WrittenType.{written_type, written_value}
use Rattle.c_model.specs.Flattened.{written_members}
use Rattle.c_model.specs.Renamed.{Naming}
use Rattle.model_lowering.specs.Steps.{Setting, stats_of}
use Rattle.model_lowering.specs.LowStatements.{Braces, braces}
use Rattle.model_lowering.specs.StaticInits.{static_init, text_init}
use Rattle.model_lowering.specs.UsedNames.{used_in, in_storage}

-- ---- structures: first their tags

abbrev pub tags : Naming → (rank : ℕ) → List Structure → List text.Structure89
tags n rank [] = []
tags n rank (s ∷ ss) = text.Tag (n.structure (record { 0 = rank })) ∷ tags n (suc rank) ss

-- then those that are complete, by how deep others lie in them
abbrev pub with_members : Naming → StructId → List text.Declaration → List text.Structure89
with_members n id [] = []
with_members n id (m ∷ ms) = text.Members (n.structure id) m ms ∷ []

abbrev pub members_written : Naming → StructId → Option (List Member) → List text.Structure89
members_written n id None = []
members_written n id (Some members) = with_members n id (written_members n id 0 members)

-- others lie in a structure just so deep
abbrev pub is_of_depth : (depth : ℕ) → List Structure → StructId → Bool
is_of_depth depth structs id = has_order (suc depth) structs id && not (has_order depth structs id)

abbrev pub of_depth : Naming → (depth : ℕ) → (structs : List Structure) → (rank : ℕ) → List Structure → List text.Structure89
of_depth n depth structs rank [] = []
of_depth n depth structs rank (s ∷ ss) =
    (if is_of_depth depth structs (record { 0 = rank }) then members_written n (record { 0 = rank }) s.members else [])
    ++ of_depth n depth structs (suc rank) ss

abbrev pub from_depth : Naming → (depth left : ℕ) → List Structure → List text.Structure89
from_depth n depth zero structs = []
from_depth n depth (suc left) structs = of_depth n depth structs 0 structs ++ from_depth n (suc depth) left structs

abbrev pub structures_of : Naming → List Structure → List text.Structure89
structures_of n structs = tags n 0 structs ++ from_depth n 0 (complete_count structs) structs

-- ---- declarations outside of functions

abbrev pub outer : text.Storage → Type89 → List ℕ → Option text.Init → text.Outer
outer storage type name init = record { storage = storage; type = type; name = name; init = init }

abbrev pub storage_if : (is_external : Bool) → text.Storage
storage_if true = text.Plainly
storage_if false = text.Static

-- an object of type void, which is declared elsewhere, is declared as one of type char
abbrev pub outer_type : Setting → CType → Type89
outer_type s (typed Void quals) = written.Based false written.Char
outer_type s type = written_type s.naming.structure type

abbrev pub string_of : Setting → source.DeclaredObject → source.Storage → List text.Outer
string_of s o (source.Text bytes) = outer text.Static (written_type s.naming.structure o.type) (s.naming.declared o.id) (Some (text_init bytes)) ∷ []
string_of s o storage = []

abbrev pub strings : Setting → List source.DeclaredObject → List text.Outer
strings s [] = []
strings s (o ∷ os) = string_of s o o.storage ++ strings s os

abbrev pub has_body : source.MaybeStat → Bool
has_body source.no_stat = false
has_body (source.a_stat body) = true

abbrev pub prototype : Setting → text.Storage → source.Function → text.Outer
prototype s storage g = outer storage (written_type s.naming.structure g.type) (s.naming.declared g.id) None

-- of each function that is defined, and of others that are used
abbrev pub defined_prototypes : Setting → List source.Function → List text.Outer
defined_prototypes s [] = []
defined_prototypes s (g ∷ gs) = (if has_body g.body then prototype s (storage_if g.is_external) g ∷ [] else []) ++ defined_prototypes s gs

abbrev pub used_prototypes : Setting → (used : List ℕ) → List source.Function → List text.Outer
used_prototypes s used [] = []
used_prototypes s used (g ∷ gs) =
    (if not (has_body g.body) && is_among used g.id then prototype s text.Extern g ∷ [] else []) ++ used_prototypes s used gs

abbrev pub declared_elsewhere : Setting → (is_used : Bool) → source.DeclaredObject → source.Storage → List text.Outer
declared_elsewhere s true o source.Declared = outer text.Extern (outer_type s o.type) (s.naming.declared o.id) None ∷ []
declared_elsewhere s is_used o storage = []

abbrev pub used_objects : Setting → (used : List ℕ) → List source.DeclaredObject → List text.Outer
used_objects s used [] = []
used_objects s used (o ∷ os) = declared_elsewhere s (is_among used o.id) o o.storage ++ used_objects s used os

-- an object that the values of one before it name is declared before that
abbrev pub declared_early : Setting → (is_named : Bool) → source.DeclaredObject → source.Storage → List text.Outer
declared_early s true o (source.Static values) =
    outer (if o.is_external then text.Extern else text.Static) (written_type s.naming.structure o.type) (s.naming.declared o.id) None ∷ []
declared_early s is_named o storage = []

abbrev pub early_objects : Setting → (named_before : List ℕ) → List source.DeclaredObject → List text.Outer
early_objects s named_before [] = []
early_objects s named_before (o ∷ os) =
    declared_early s (is_among named_before o.id) o o.storage ++ early_objects s (named_before ++ in_storage o.storage) os

abbrev pub with_values : Setting → source.DeclaredObject → source.Storage → List text.Outer
with_values s o (source.Static values) =
    outer (storage_if o.is_external) (written_type s.naming.structure o.type) (s.naming.declared o.id) (static_init s o.type values) ∷ []
with_values s o storage = []

abbrev pub static_objects : Setting → List source.DeclaredObject → List text.Outer
static_objects s [] = []
static_objects s (o ∷ os) = with_values s o o.storage ++ static_objects s os

abbrev pub outers_of : Setting → source.Core → List text.Outer
outers_of s core =
    let used = used_in core in
    strings s core.objects
    ++ (defined_prototypes s core.functions
    ++ (used_prototypes s used core.functions
    ++ (used_objects s used core.objects ++ (early_objects s [] core.objects ++ static_objects s core.objects))))

-- ---- functions

abbrev pub parameters_of : Setting → Types → (ids : List ℕ) → List text.Declaration
parameters_of s (more_types type types) (id ∷ ids) =
    record { type = written_value s.naming.structure type; name = s.naming.declared id } ∷ parameters_of s types ids
parameters_of s types ids = []

-- temporaries from a number on
abbrev pub temporaries_of : Naming → (i : ℕ) → List Type89 → List text.Declaration
temporaries_of n i [] = []
temporaries_of n i (type ∷ types) = record { type = type; name = n.temporary i } ∷ temporaries_of n (suc i) types

abbrev pub function_with : Setting → source.Function → Form → Braces → List text.Function
function_with s g (Function result parameters is_variadic) b = record {
  is_static = not g.is_external;
  result = written_value s.naming.structure result;
  name = s.naming.declared g.id;
  parameters = parameters_of s parameters g.parameters;
  is_variadic = is_variadic;
  objects = temporaries_of s.naming 0 b.temporaries ++ b.objects;
  body = stats_of b.steps;
} ∷ []
function_with s g form b = []

-- the braces of a body are the function's
abbrev pub defined_function : Setting → List source.DeclaredObject → source.Function → source.MaybeStat → List text.Function
defined_function s objects g source.no_stat = []
defined_function s objects g (source.a_stat body) = function_with s g (form_of_type g.type) (braces s objects 0 body)

abbrev pub functions_of : Setting → List source.DeclaredObject → List source.Function → List text.Function
functions_of s objects [] = []
functions_of s objects (g ∷ gs) = defined_function s objects g g.body ++ functions_of s objects gs

-- ---- the program

abbrev pub lowered_in : Setting → source.Core → text.Program
lowered_in s core = record {
  structures = structures_of s.naming core.structs;
  outers = outers_of s core;
  functions = functions_of s core.objects core.functions;
}

abbrev pub lowered_with : Naming → source.Core → text.Program
lowered_with n core = lowered_in (record { naming = n; structs = core.structs }) core
