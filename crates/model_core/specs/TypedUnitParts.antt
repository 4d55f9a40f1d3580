-- What a typed core asks of an object or a function by itself, whatever stands around it (ISO/IEC 9899:2024, 6.2.2,
-- 6.7, 6.9).
use Rattle.std.specs.Prelude.{ℕ, suc, nat_eq, nat_lt, Bool, true, false, ◌&&◌, not, if◌then◌else◌, List, [], ◌∷◌, length, codes, take, Option, Some, None, is_some}
use Rattle.std.specs.List.{list_all}
use Rattle.std.specs.Str.{bytes_eq}
use Rattle.model_types.specs.declared.numbers.Basic.TheVariants.{Char}
use Rattle.model_types.specs.Types.{CType, typed, Form, Integer, Array, Function, Types, no_types, more_types, form_of_type}
use Rattle.model_core.specs.SourceWords.{is_name}
use Rattle.model_core.specs.TypedParts.{is_function}
use Rattle.model_core.specs.TypedExpr.{are_typed_values}
use Rattle.model_core.specs.TypedStat.{is_typed_stat}
use Rattle.model_core.specs.BuiltinTypes.{is_undefined, function_spares_builtins, object_spares_builtins}
use Rattle.model_core.specs.TypedScope.{is_among}
use Rattle.model_core.specs.StaticValues.{are_constant}
use Rattle.model_core.specs.Core as unit

-- no two are the same
abbrev pub are_distinct : List ℕ → Bool
are_distinct [] = true
are_distinct (id ∷ ids) = not (is_among ids id) && are_distinct ids

abbrev pub name_of : unit.FunctionName → Option (List ℕ)
name_of (unit.Named name) = Some name
name_of (unit.Lambda place) = None

-- what is external and has a name has one that isn't kept for made ones
abbrev pub external_name_fits : (is_external : Bool) → Option (List ℕ) → Bool
external_name_fits true (Some name) = is_name name && not (bytes_eq (take 5 name) (codes "cake_"))
external_name_fits is_external name = true

-- an array of char with these bytes and a zero behind them (6.4.5)
abbrev pub is_text_type : Form → List ℕ → Bool
is_text_type (Array (typed (Integer Char) quals) (Some count)) bytes = nat_eq count (suc (length bytes)) && list_all (λ byte. nat_lt byte 256) bytes
is_text_type form bytes = false

-- static objects have constant values
abbrev pub is_typed_storage : CType → unit.Storage → Bool
is_typed_storage type (unit.Static values) = are_typed_values values && are_constant values
is_typed_storage type (unit.Text bytes) = is_text_type (form_of_type type) bytes
is_typed_storage type storage = true

-- external objects have a name, and are of static storage or nowhere defined, which no other object is
abbrev pub linkage_fits : unit.DeclaredObject → unit.Storage → Bool
linkage_fits o (unit.Static values) = if o.is_external then is_some o.name else true
linkage_fits o unit.Declared = o.is_external && is_some o.name
linkage_fits o _ = not o.is_external

abbrev pub is_typed_object : unit.DeclaredObject → Bool
is_typed_object o =
    not (is_function (form_of_type o.type)) && linkage_fits o o.storage && object_spares_builtins o.is_external o.name
    && external_name_fits o.is_external o.name && is_typed_storage o.type o.storage

-- as many parameters as types
abbrev pub are_as_many : Types → List ℕ → Bool
are_as_many no_types [] = true
are_as_many (more_types type types) (id ∷ ids) = are_as_many types ids
are_as_many types ids = false

-- a defined function isn't variadic, and has a parameter for each type, none of them twice
abbrev pub has_parameters : Form → List ℕ → Bool
has_parameters (Function result parameters false) ids = are_as_many parameters ids && are_distinct ids
has_parameters form ids = false

abbrev pub has_none : List ℕ → Bool
has_none [] = true
has_none (id ∷ ids) = false

abbrev pub is_typed_body : CType → List ℕ → unit.MaybeStat → Bool
is_typed_body type ids unit.no_stat = has_none ids
is_typed_body type ids (unit.a_stat body) = is_typed_stat body && has_parameters (form_of_type type) ids

-- a function literal is internal and has its body
abbrev pub literal_fits : unit.Function → unit.FunctionName → Bool
literal_fits g (unit.Named name) = true
literal_fits g (unit.Lambda place) = not g.is_external && not (is_undefined g.body)

abbrev pub is_typed_function : unit.Function → Bool
is_typed_function g =
    is_function (form_of_type g.type) && literal_fits g g.name && function_spares_builtins g g.name
    && external_name_fits g.is_external (name_of g.name) && is_typed_body g.type g.parameters g.body
