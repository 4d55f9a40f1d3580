-- When a C89 program is typed (ISO/IEC 9899:1990, 6.1.2, 6.5, 6.7): each name is declared before its use, the
-- objects of a function have names of their own, declarations of one name agree in linkage, and what is
-- defined is complete and defined once.
use Rattle.std.specs.Prelude.{◌≡◌, ℕ, ◌+◌, Bool, true, false, ◌&&◌, ◌||◌, not, List, [], ◌∷◌, Option, Some, None, if◌then◌else◌, nat_le, nat_lt, length}
use Rattle.std.specs.List.{list_all}
use Rattle.std.specs.Str.{bytes_eq}
use Rattle.model_core.specs.Types89.{Base, Struct, Type89, Based, Pointer, Array, Function as FunctionType, Types89, no_types, more_types}
use Rattle.model_core.specs.Types89 as type
use Rattle.model_types.specs.Compatible.{same_bool}
use Rattle.model_c89.specs.Compatible89.{compatible}
use Rattle.model_c89.specs.TargetTypes.{Names, find_name}
use Rattle.model_c89.specs.TargetFrame.{locals, is_declared, file_names, outer_names, defines}
use Rattle.model_c89.specs.TargetLayout.{members_of, members_or_none}
use Rattle.model_c89.specs.StaticValues89.{is_constant}
use Rattle.model_c89.specs.TargetStart.{part_type}
use Rattle.model_c89.specs.TargetValues.{is_void, is_function}
use Rattle.model_c89.specs.TypedParts89.{is_array, is_complete}
use Rattle.model_c89.specs.TypedStat89.{assignment_fits, all_stand, objects_fit, with_names}
use Rattle.model_c89.specs.Written89.{Written}
use Rattle.model_core.specs.Program89 as text

abbrev pub has_tag : List text.Structure89 → (name : List ℕ) → Bool
has_tag [] name = false
has_tag (text.Tag other ∷ structures) name = bytes_eq other name || has_tag structures name
has_tag (text.Members other first others ∷ structures) name = bytes_eq other name || has_tag structures name

abbrev pub base_fits : List text.Structure89 → Base → Bool
base_fits structures (Struct name) = has_tag structures name
base_fits structures base = true

abbrev pub is_const_pointer : Type89 → Bool
is_const_pointer (Pointer is_const to) = is_const
is_const_pointer _ = false

-- a parameter is no array, function or void
abbrev pub is_parameter : Type89 → Bool
is_parameter type = not (is_array type) && not (is_function type) && not (is_void type) && not (is_const_pointer type)

abbrev mutual
  -- a type has structures that are declared, complete elements, results that are values, and const
  -- of a pointer only behind a pointer
  pub type_fits : List text.Structure89 → Type89 → Bool
  type_fits structures (Based is_const base) = base_fits structures base
  type_fits structures (Pointer is_const to) = type_fits structures to
  type_fits structures (Array count of) = type_fits structures of && is_complete structures of
  type_fits structures (FunctionType result parameters is_variadic) =
      type_fits structures result && not (is_array result) && not (is_function result) && not (is_const_pointer result) && types_fit structures parameters

  pub types_fit : List text.Structure89 → Types89 → Bool
  types_fit structures no_types = true
  types_fit structures (more_types first others) = type_fits structures first && is_parameter first && types_fit structures others

-- variadic functions have a parameter at least
abbrev pub is_named_variadic : Type89 → Bool
is_named_variadic (FunctionType result no_types true) = false
is_named_variadic type = true

abbrev pub declared_fits : List text.Structure89 → Type89 → Bool
declared_fits structures type = type_fits structures type && not (is_const_pointer type) && is_named_variadic type

-- structures: a tag may stand more than once, members once; these are complete before
abbrev pub members_fit : List text.Structure89 → List text.Declaration → Bool
members_fit structures [] = true
members_fit structures (m ∷ ms) =
    declared_fits structures m.type && is_complete structures m.type && not (is_declared ms m.name) && members_fit structures ms

abbrev pub has_members : List text.Structure89 → (name : List ℕ) → Bool
has_members [] name = false
has_members (text.Tag other ∷ structures) name = has_members structures name
has_members (text.Members other first others ∷ structures) name = bytes_eq other name || has_members structures name

-- with those that stand before
abbrev pub structures_fit : (before : List text.Structure89) → List text.Structure89 → Bool
structures_fit before [] = true
structures_fit before (text.Tag name ∷ structures) = structures_fit (text.Tag name ∷ before) structures
structures_fit before (text.Members name first others ∷ structures) =
    not (has_members before name) && members_fit (text.Tag name ∷ before) (first ∷ others)
    && structures_fit (text.Members name first others ∷ before) structures

-- a string is for an array of char that has room for its bytes; the zero behind them needs none
abbrev pub is_room_for : Type89 → List ℕ → Bool
is_room_for (Array (Some count) (Based is_const type.Char)) bytes = nat_le (length bytes) count
is_room_for _ bytes = false

-- an element or member of a rank is there
abbrev pub has_part : List text.Structure89 → Type89 → (rank : ℕ) → Bool
has_part structures (Array (Some count) of) rank = nat_lt rank count
has_part structures type rank = nat_lt rank (length (members_or_none (members_of structures type)))

abbrev mutual
  -- an initial value, which is constant: braces for each array and structure, or a string for an array of
  -- char
  pub init_fits : Names → Type89 → text.Init → Bool
  init_fits names type (text.Value e) = not (is_array type) && assignment_fits names type e && is_constant names e
  init_fits names type (text.Text bytes) = is_room_for type bytes
  init_fits names type (text.Braces first others) =
      has_part names.structures type 0 && init_fits names (part_type names.structures type 0) first && inits_fit names type 1 others

  pub inits_fit : Names → Type89 → (rank : ℕ) → text.Inits → Bool
  inits_fit names type rank text.no_inits = true
  inits_fit names type rank (text.more_inits first others) =
      has_part names.structures type rank && init_fits names (part_type names.structures type rank) first && inits_fit names type (rank + 1) others

abbrev pub value_fits : Names → Type89 → Option text.Init → Bool
value_fits names type None = true
value_fits names type (Some init) = not (is_function type) && init_fits names type init

abbrev pub agrees : Type89 → Option Type89 → Bool
agrees type None = true
agrees type (Some other) = compatible type other

abbrev pub outer_fits : Names → text.Outer → Bool
outer_fits names o =
    declared_fits names.structures o.type && not (is_void o.type) && agrees o.type (find_name names.declared o.name)
    && (if defines o && not (is_function o.type) then is_complete names.structures o.type else true)
    && value_fits (record names { declared = record { type = o.type; name = o.name } ∷ names.declared }) o.type o.init

-- each of the outers, with the names before it
abbrev pub outers_fit : Names → List text.Outer → Bool
outers_fit names [] = true
outers_fit names (o ∷ os) = outer_fits names o && outers_fit (record names { declared = record { type = o.type; name = o.name } ∷ names.declared }) os

-- no two have one name, and none has one of these
abbrev pub are_distinct : (others : List text.Declaration) → List text.Declaration → Bool
are_distinct others [] = true
are_distinct others (d ∷ ds) = not (is_declared others d.name) && not (is_declared ds d.name) && are_distinct others ds

abbrev pub function_fits : text.Program → Names → text.Function → Bool
function_fits program names g =
    declared_fits names.structures (text.function_type g)
    && agrees (text.function_type g) (find_name names.declared g.name)
    && list_all (λ d. not (is_declared (file_names program) d.name)) (locals g)
    && list_all (λ d. declared_fits names.structures d.type) (locals g)
    && (is_void g.result || is_complete names.structures g.result)
    && objects_fit names g.parameters
    && objects_fit (with_names names g.parameters) g.objects
    && all_stand (record {
      names = with_names (with_names names g.parameters) g.objects;
      result = g.result;
      can_break = false;
      can_continue = false;
    }) g.body

abbrev pub is_function_of : List text.Function → (name : List ℕ) → Bool
is_function_of [] name = false
is_function_of (g ∷ gs) name = bytes_eq g.name name || is_function_of gs name

-- each function, with the names before it and its own
abbrev pub functions_fit : text.Program → Names → List text.Function → Bool
functions_fit program names [] = true
functions_fit program names (g ∷ gs) =
    not (is_function_of gs g.name)
    && function_fits program (record names { declared = record { type = text.function_type g; name = g.name } ∷ names.declared }) g
    && functions_fit program (record names { declared = record { type = text.function_type g; name = g.name } ∷ names.declared }) gs

abbrev pub is_static : text.Storage → Bool
is_static text.Static = true
is_static storage = false

-- the declarations of a name are static, or none of them is (6.1.2.2)
abbrev pub has_linkage : (static : Bool) → (name : List ℕ) → List text.Outer → Bool
has_linkage static name [] = true
has_linkage static name (o ∷ os) = (if bytes_eq o.name name then same_bool (is_static o.storage) static else true) && has_linkage static name os

abbrev pub has_value : Option text.Init → Bool
has_value None = false
has_value (Some init) = true

abbrev pub is_valued : (name : List ℕ) → List text.Outer → Bool
is_valued name [] = false
is_valued name (o ∷ os) = bytes_eq o.name name && has_value o.init || is_valued name os

-- declarations of one name agree in linkage, and one of them has a value at most; a static function is
-- defined (6.7)
abbrev pub linkage_fits : List text.Function → List text.Outer → Bool
linkage_fits functions [] = true
linkage_fits functions (o ∷ os) =
    has_linkage (is_static o.storage) o.name os && not (has_value o.init && is_valued o.name os)
    && (if is_static o.storage && is_function o.type then is_function_of functions o.name else true)
    && linkage_fits functions os

abbrev pub is_typed : text.Program → Bool
is_typed program =
    linkage_fits program.functions program.outers
    && list_all (λ g. has_linkage g.is_static g.name program.outers) program.functions
    && structures_fit [] program.structures
    && outers_fit (record { structures = program.structures; declared = [] }) program.outers
    && functions_fit program (record { structures = program.structures; declared = outer_names program.outers }) program.functions

-- words and numbers are what they have to be, and everything has its type
pub record Typed (program : text.Program) : Type 0 where
  pub written : Written program
  pub types : is_typed program ≡ true
